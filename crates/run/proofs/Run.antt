-- Demand 3: every run of a slave on an adapter's stream follows the book, and two of them give one reference time to each mark.
use mathlib.Core.Path.{◌≡◌, refl, sym, ap, ◌∙◌, subst}
use mathlib.Core.Bool.{true, false}
use mathlib.Core.List.{List, [], ◌∷◌, ◌++◌}
use mathlib.Core.Option.{Option}
use Prim.Native.Nat.{ℕ}
use native.Mathlib.Omega.{arith}
use lib.Dec.{eqb}
use Rattle.wire.specs.Reply.{Reply, given}
use Rattle.wire.proofs.Tests.{yes}
use Rattle.times.specs.Release.{Times, Due, released}
use Rattle.state.specs.Profile.{second, settings_kept}
use Rattle.state.specs.Slave.{hunting}
use Rattle.state.specs.Sound.{sound}
use Rattle.state.specs.declared.Board.{Board}
use Rattle.state.specs.declared.Slave.{Slave}
use Rattle.state.proofs.Sound.{some_packets, hunting_sound}
use Rattle.judging.specs.Judgement.{Judgement, Lost, Refuse, Counts, Takes}
use Rattle.slave.specs.Answer.{Notice, due, Report, mark_in, Result}
use Rattle.slave.specs.Calls.{start_of}
use Rattle.slave.proofs.Due.{unmarked_apart, OwnDue, packet_due, numbers_due}
use Rattle.slave.proofs.Sound.{packet_is_step, numbers_is_step, gap_is_step, packet_sound, numbers_sound, gap_sound}
use Rattle.run.specs.Adapter.{Adapter}
use Rattle.run.specs.Book.{Arrival, packet, numbers, tick_of, Call, at, gap, judged, Book, closed, verdict_at, book_after}
use Rattle.run.specs.Run.{hear, leave, slave_after, begun, AllGenuine, Run}
use Rattle.run.specs.Claim.{Timed, Right, RightReply, RightCall, told_exactly, Followed, ReleasedAt, ReleasedTold, OneTimeOf, Demand3}
use Rattle.run.proofs.Steps.{stepped, moved, moves, RightStep, board_stays, hunts_before, any_cadence}

-- ---- on a sound slave a call is its step, and leaves a sound slave
module _ (s : Slave) (ok : sound s ≡ true) where
  pub heard : (a : Arrival) → hear s a ≡ stepped s a
  unfolding hear judged
  heard (packet form p tick limit) = packet_is_step s ok p tick limit
  heard (numbers p tick x) = numbers_is_step s ok p tick x

  pub left_by : (c : Call) → leave s c ≡ moved s c
  unfolding leave
  left_by (at t a) = ap (λ (r : Result Report). r.slave) (heard a)
  left_by (gap k) = ap (λ (r : Result (Unit {0})). r.slave) (gap_is_step s ok k)

  pub leave_sound : (c : Call) → sound (leave s c) ≡ true
  unfolding leave hear
  leave_sound (at t (packet form p tick limit)) = packet_sound s ok p tick limit
  leave_sound (at t (numbers p tick x)) = numbers_sound s ok p tick x
  leave_sound (gap k) = gap_sound s ok k

  right_call : (g : Board) (A : Adapter) (b : Book) (c : Call) → RightStep g A b s c → RightCall g A b s c
  right_call g A b (at t a) r = subst (λ (x : Result Report). RightReply g A b t (verdict_at g b a) x.reply) (sym (heard a)) r
  right_call g A b (gap k) r = ap (λ (x : Result (Unit {0})). x.reply) (gap_is_step s ok k)

all_left : (s : Slave) → sound s ≡ true → (cs : List Call) → (slave_after s cs ≡ moves s cs) × (sound (slave_after s cs) ≡ true)
unfolding slave_after
all_left s ok [] = (refl, ok)
all_left s ok (c ∷ cs) =
    let rest = all_left (leave s c) (leave_sound s ok c) cs in
    (rest.0 ∙ ap (λ (x : Slave). moves x cs) (left_by s ok c), rest.1)

-- a mark that is due is due by the slave's own notice, whatever comes
pub heard_due : (s : Slave) (a : Arrival) (profile : ℕ) (d : Due) → mark_in (hear s a).reply ≡ due profile d → OwnDue s (tick_of a) profile d
unfolding hear
heard_due s (packet form p tick limit) profile d e = (packet_due s tick profile d p limit e).own
heard_due s (numbers p tick x) profile d e = (numbers_due s tick profile d p x e).own

-- ---- a run
module _ (g : Board) (A : Adapter) (calls : List Call) (run : Run g A calls) where
  begins : begun g ≡ hunting g
  unfolding start_of
  begins = ap (λ (r : Result (Unit {0})). r.slave) (yes (settings_kept g) _ _ run.accepted)

  along : (before : List Call) → (slave_after (begun g) before ≡ moves (hunting g) before) × (sound (slave_after (begun g) before) ≡ true)
  along before = rw begins (all_left (hunting g) (hunting_sound g run.accepted) before)

  pub followed : Followed g A calls
  followed =
      record {
        sound_after = λ before after e. (along before).1;
        board_after = λ before after e.
            ap (λ (s : Slave). s.board) (along before).0
            ∙ board_stays g A (some_packets g run.accepted) before after (subst (AllGenuine g A closed) e run.genuine);
        answers = λ before after c e.
            right_call (slave_after (begun g) before) (along before).1 g A (book_after g closed before) c
            (subst (λ (s : Slave). RightStep g A (book_after g closed before) s c) (sym (along before).0)
            (any_cadence g A (some_packets g run.accepted) before after c (subst (AllGenuine g A closed) e run.genuine)));
      }

  -- while the book is closed the slave hunts
  pub hunts : (before after : List Call) → calls ≡ before ++ after → book_after g closed before ≡ closed
      → eqb (slave_after (begun g) before).count.phase 2 ≡ false
  hunts before after e c =
      ap (λ (s : Slave). eqb s.count.phase 2) (along before).0
      ∙ hunts_before g A (some_packets g run.accepted) before after (subst (AllGenuine g A closed) e run.genuine) c

-- ---- two runs

-- a reply by the book, read for its mark
pub timed_by : (g : Board) (A : Adapter) (b : Book) (t : ℕ) (v : Judgement) (c : Report) (p : ℕ) (x : Times) → RightReply g A b t v (given c)
    → c.mark ≡ due p (released x) → told_exactly b t ≡ true → (p ≡ g.profile) × Timed g.n (second g.profile) A t x.reference
timed_by g A b t v c p x h m e = go v h
  where
    by : (label : Option ℕ) (notice : Notice) → Right g A b t label notice (given c)
        → (p ≡ g.profile) × Timed g.n (second g.profile) A t x.reference
    by label notice k =
        let same : k.report ≡ c = cc k.counted in
        let own = k.unit p (released x) (ap (λ (y : Report). y.mark) same ∙ m) in
        (own, k.timed x (ap (λ (y : Report). y.mark) same ∙ m ∙ ap (λ (q : ℕ). due q (released x)) own) e)

    go : (v : Judgement) → RightReply g A b t v (given c) → (p ≡ g.profile) × Timed g.n (second g.profile) A t x.reference
    go Lost h = absurd (unmarked_apart p (released x) (sym (ap (λ (r : Reply Report). mark_in r) h) ∙ m))
    go (Refuse k) h = let z : ◌≡◌ {A = ℕ} 0 1 = cc in absurd (omega arith)
    go (Counts k) h = by _ _ h
    go (Takes y) h = by _ _ h

-- a mark's own call, read so
pub at_release : (g : Board) (A : Adapter) (calls : List Call) (t p : ℕ) (x : Times) → Run g A calls → (m : ReleasedAt g calls t p x)
    → told_exactly (book_after g closed m.before) t ≡ true → (p ≡ g.profile) × Timed g.n (second g.profile) A t x.reference
at_release g A calls t p x run m e =
    let b = book_after g closed m.before in
    timed_by g A b t (verdict_at g b m.arrival) m.report p x
    (subst (RightReply g A b t (verdict_at g b m.arrival)) m.counted ((followed g A calls run).answers m.before m.after (at t m.arrival) m.call))
    m.mark e

-- the adapter has one notice for a mark
one_reference : (n U : ℕ) (A : Adapter) (t q r : ℕ) → Timed n U A t q → Timed n U A t r → q ≡ r
one_reference n U A t q r a b =
    let c : a.cadence ≡ b.cadence = omega (arith, a.next, b.next) in
    cc (a.written, b.written, a.time, b.time)

-- so marks that have the adapter's times, in the unit of the slave's own profile, have one
pub one_time_of : (A : Adapter) (Marked : (g : Board) (calls : List Call) (t profile : ℕ) → Times → Type 0)
    → ((g : Board) (calls : List Call) (t p : ℕ) (x : Times) → Marked g calls t p x → (p ≡ g.profile) × Timed g.n (second g.profile) A t x.reference)
    → OneTimeOf Marked
one_time_of A Marked f g h calls others same-profile same-n t p q x y a b =
    let k = f g calls t p x a in
    let l = f h others t q y b in
    let times = one_reference g.n (second g.profile) A t x.reference y.reference k.1 (rw (same-profile, same-n) l.1) in
    (k.0 ∙ same-profile ∙ sym l.0, times)

-- DEMAND 3
pub demand_3 : (A : Adapter) → Demand3 A
demand_3 A =
    record {
      followed = λ g calls run. followed g A calls run;
      one_time = one_time_of A (ReleasedTold A) (λ g calls t p x m. at_release g A calls t p x m.run m.release m.exact);
    }
