-- Demand 3 for the steps of a slave and any cadence of n packets: a hunting slave that is handed call after call follows the book.
-- That counted places rise is not needed: u is signed.
use mathlib.Core.Path.{◌≡◌, refl, subst}
use mathlib.Core.Bool.{false}
use mathlib.Core.List.{List, [], ◌∷◌, ◌++◌}
use Prim.Native.Nat.{ℕ, ◌<◌}
use lib.Dec.{eqb}
use Rattle.wire.proofs.Tests.{pick}
use Rattle.state.specs.Slave.{hunting}
use Rattle.state.specs.declared.Board.{Board}
use Rattle.state.specs.declared.Slave.{Slave}
use Rattle.judging.specs.Judgement.{Judgement}
use Rattle.judging.proofs.Taking.{Alike, lost_alike, refused_alike, counted_alike, taken_alike, packet_alike, numbers_alike}
use Rattle.slave.specs.Answer.{Report, Result}
use Rattle.slave.specs.Step.{counted, passed, unheard, took}
use Rattle.slave.specs.Gap.{gapped}
use Rattle.slave.specs.Calls.{step_of}
use Rattle.slave.proofs.Sound.{step_board, gap_board}
use Rattle.run.specs.Adapter.{Adapter}
use Rattle.run.specs.Book.{Arrival, packet, numbers, tick_of, Call, at, gap, judged, Book, closed, opened, od_of, verdict_at, count_place, tell_gap, enter, enter_call, book_after}
use Rattle.run.specs.Run.{GenuineCall, AllGenuine}
use Rattle.run.specs.Claim.{RightReply}
use Rattle.run.proofs.Follow.{Follows, step_follows, gap_follows}

-- ---- what a call does to a slave, with nothing asked of the slave

abbrev pub stepped : Slave → Arrival → Result Report
stepped s a = step_of s (judged s.board s.settings a) (tick_of a)

abbrev pub moved : Slave → Call → Slave
moved s (at t a) = (stepped s a).slave
moved s (gap k) = gapped s k

abbrev pub moves : Slave → List Call → Slave
moves s [] = s
moves s (c ∷ cs) = moves (moved s c) cs

-- ---- the OD in force is the book's

abbrev InForce : Book → Slave → Type 0
InForce b s = s.settings.od ≡ od_of b

place_od : (b : Book) (t : ℕ) → od_of (count_place b t) ≡ od_of b
unfolding count_place
place_od closed t = refl
place_od (opened last u told od) t = refl

gap_od : (s : Slave) (b : Book) (k : ℕ) → InForce b s → InForce (tell_gap b k) (gapped s k)
unfolding gapped tell_gap
gap_od s closed k e = pick (InForce closed) (eqb s.count.phase 2) _ _ e e
gap_od s (opened last u told od) k e = pick (InForce (opened last u told od)) (eqb s.count.phase 2) _ _ e e

step_od : (s : Slave) (b : Book) {j v : Judgement} → Alike j v → (t tick : ℕ) → InForce b s → InForce (enter b t v) (step_of s j tick).slave
unfolding step_of took enter counted passed unheard
step_od s b lost_alike t tick e = gap_od s b 1 e
step_od s b refused_alike t tick e = e
step_od s b counted_alike t tick e = rw place_od (pick (λ (r : Result Report). r.slave.settings.od ≡ od_of b) (eqb s.count.phase 2) _ _ e e)
step_od s b (taken_alike x y z o) t tick e = o

-- so the slave's judgement is the book's verdict
verdict_own : (s : Slave) (b : Book) (a : Arrival) → InForce b s → Alike (judged s.board s.settings a) (verdict_at s.board b a)
unfolding verdict_at judged
verdict_own s b (packet form p tick limit) e = packet_alike s.board s.settings _ e p tick limit
verdict_own s b (numbers p tick x) e = numbers_alike s.board s.settings _ e p tick x

-- ---- one call

record Holds (g : Board) (A : Adapter) (b : Book) (s : Slave) : Type 0 where
  board : s.board ≡ g
  od : InForce b s
  follows : Follows A b s

abbrev pub RightStep : Board → Adapter → Book → Slave → Call → Type 0
RightStep g A b s (at t a) = RightReply g A b t (verdict_at g b a) (stepped s a).reply
RightStep g A b s (gap k) = Unit {0}

own_step : (A : Adapter) (b : Book) (s : Slave) → 0 < s.board.n → InForce b s → Follows A b s → (c : Call) → GenuineCall s.board A b c
    → RightStep s.board A b s c × Holds s.board A (enter_call s.board b c) (moved s c)
unfolding enter_call
own_step A b s some od f (at t a) w =
    let v = verdict_own s b a od in
    let core = step_follows A s some b f v t (tick_of a) w in
    (core.0, record { board = step_board s _ (tick_of a); od = step_od s b v t (tick_of a) od; follows = core.1 })
own_step A b s some od f (gap k) w =
    (tt, record { board = gap_board s k; od = gap_od s b k od; follows = gap_follows A s some b f k })

-- ---- a list of calls

module _ (g : Board) (A : Adapter) (some : 0 < g.n) where
  step_holds : (b : Book) (s : Slave) → Holds g A b s → (c : Call) → GenuineCall g A b c → RightStep g A b s c × Holds g A (enter_call g b c) (moved s c)
  step_holds b s h c w =
      subst (λ (x : Board). 0 < x.n → GenuineCall x A b c → RightStep x A b s c × Holds x A (enter_call x b c) (moved s c)) h.board
      (λ m. own_step A b s m h.od h.follows c) some w

  reach : (b : Book) (s : Slave) → Holds g A b s → (before after : List Call) → AllGenuine g A b (before ++ after)
      → Holds g A (book_after g b before) (moves s before) × AllGenuine g A (book_after g b before) after
  unfolding book_after
  reach b s h [] after w = (h, w)
  reach b s h (c ∷ before) after w = reach (enter_call g b c) (moved s c) (step_holds b s h c w.0).1 before after w.1

  reached : (before after : List Call) → AllGenuine g A closed (before ++ after)
      → Holds g A (book_after g closed before) (moves (hunting g) before) × AllGenuine g A (book_after g closed before) after
  reached before after w = reach closed (hunting g) (record { board = refl; od = refl; follows = refl }) before after w

  -- the start's settings stay
  pub board_stays : (before after : List Call) → AllGenuine g A closed (before ++ after) → (moves (hunting g) before).board ≡ g
  board_stays before after w = (reached before after w).0.board

  -- every call, made on the slave that the calls before it left, is answered rightly by the book that they left
  pub any_cadence : (before after : List Call) (c : Call) → AllGenuine g A closed (before ++ c ∷ after)
      → RightStep g A (book_after g closed before) (moves (hunting g) before) c
  any_cadence before after c w =
      let r = reached before (c ∷ after) w in
      (step_holds (book_after g closed before) _ r.0 c r.1.0).0

  -- and while the book is closed the slave hunts
  pub hunts_before : (before after : List Call) → AllGenuine g A closed (before ++ after) → book_after g closed before ≡ closed
      → eqb (moves (hunting g) before).count.phase 2 ≡ false
  hunts_before before after w e = subst (λ (b : Book). Follows A b (moves (hunting g) before)) e (reached before after w).0.follows
