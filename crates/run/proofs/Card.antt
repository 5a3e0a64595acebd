-- Behind a radio link card: an empty packet is a gap of one, and where all that is lost is told in its place, the book has nothing untold.
use mathlib.Core.Path.{◌≡◌, refl, sym, ap, ◌∙◌, subst}
use mathlib.Core.Bool.{Bool, true, false, cond, false≢true}
use mathlib.Core.List.{List, [], ◌∷◌, ◌++◌, map}
use mathlib.Core.Option.{some}
use Prim.Native.Nat.{ℕ, zero, suc, ◌+◌, ◌%◌, ◌<◌}
use native.Mathlib.Omega.{arith}
use lib.IntN.{ℤ, pos, negsuc}
use borrow.Author.Tests.{eqb-false}
use Rattle.wire.specs.Reply.{Reply, number_of}
use Rattle.wire.proofs.Tests.{join}
use Rattle.times.specs.Release.{Times, released}
use Rattle.times.proofs.Whole.{Diff, natural, sum, difference, residue_only}
use Rattle.state.specs.Profile.{second}
use Rattle.state.specs.Sound.{is_zero, sound}
use Rattle.state.specs.declared.Board.{Board}
use Rattle.state.specs.declared.Slave.{Slave}
use Rattle.state.proofs.Sound.{some_packets}
use Rattle.judging.specs.Judgement.{Judgement, Lost, Refuse, Counts, Takes}
use Rattle.slave.specs.Answer.{Notice, absent, taken, slip, ignored, Report, notice_in, mark_in, Result}
use Rattle.slave.specs.Step.{notice_by}
use Rattle.slave.specs.Calls.{step_of, packet_of, gap_of}
use Rattle.slave.proofs.Due.{unmarked_apart}
use Rattle.run.specs.Adapter.{Adapter}
use Rattle.run.specs.Book.{Form, Arrival, packet, numbers, Call, at, gap, judged, Book, closed, opened, verdict_at, untold, count_place, tell_gap, enter, enter_call, book_after}
use Rattle.run.specs.Run.{hear, leave, slave_after, begun, counting, places, GenuineCall, AllGenuine}
use Rattle.run.specs.Card.{by_gap, by_gaps, OneByGaps, InPlace, place_behind, AllTold, ToldRun, LabelWhereTold, NoSlip, TimeWhereReleased, AllToldAgree}
use Rattle.run.specs.Claim.{slip_by, told_exactly, Timed, ReleasedAt, RightReply}
use Rattle.run.proofs.Congruence.{label_behind}
use Rattle.run.proofs.Run.{heard_due, hunts, one_time_of, demand_3}
use Rattle.run.proofs.Sentences.{has_notice, sentences}

-- ---- an empty packet and a gap of one

unread : (s : Slave) (tick other limit m : ℕ) → packet_of s [] tick limit ≡ packet_of s [] other m
unfolding packet_of step_of
unread s tick other limit m = refl

-- what two answers have in common on either side of a choice, they have in common behind it
choice : {X Y Z : Type 0} (f : X → Z) (g : Y → Z) (b : Bool) (x y : X) (x' y' : Y) → f x ≡ g x' → f y ≡ g y' → f (cond b x y) ≡ g (cond b x' y')
choice f g true x y x' y' e d = e
choice f g false x y x' y' e d = d

module _ (s : Slave) (tick limit : ℕ) where
  one_slave : (packet_of s [] tick limit).slave ≡ (gap_of s 1).slave
  unfolding packet_of step_of gap_of
  one_slave = choice (λ (r : Result Report). r.slave) (λ (r : Result (Unit {0})). r.slave) (sound s) _ _ _ _ refl refl

  one_number : number_of (packet_of s [] tick limit).reply ≡ number_of (gap_of s 1).reply
  unfolding packet_of step_of gap_of
  one_number = choice (λ (r : Result Report). number_of r.reply) (λ (r : Result (Unit {0})). number_of r.reply) (sound s) _ _ _ _ refl refl

-- what holds of an empty packet with a gap of one, and of any call with itself, holds of each call with what takes its place
by_kind : (P : Call → Call → Type 0) → ((t : ℕ) (form : Form) (tick limit : ℕ) → P (at t (packet form [] tick limit)) (gap 1)) → ((c : Call) → P c c)
    → (c : Call) → P c (by_gap c)
by_kind P e r (at t (packet form [] tick limit)) = e t form tick limit
by_kind P e r (at t (packet form (x ∷ p) tick limit)) = r (at t (packet form (x ∷ p) tick limit))
by_kind P e r (at t (numbers p tick x)) = r (at t (numbers p tick x))
by_kind P e r (gap k) = r (gap k)

left_alike : (s : Slave) (c : Call) → leave s (by_gap c) ≡ leave s c
unfolding leave hear
left_alike s = by_kind (λ c d. leave s d ≡ leave s c) (λ t form tick limit. sym (one_slave s tick limit)) (λ c. refl)

-- where each call leaves what the one in its place leaves, so does a list of them
pub all_alike : (f : Call → Call) → ((s : Slave) (c : Call) → leave s (f c) ≡ leave s c) → (s : Slave) (cs : List Call) → slave_after s (map f cs) ≡ slave_after s cs
unfolding slave_after
all_alike f e s [] = refl
all_alike f e s (c ∷ cs) = ap (λ (x : Slave). slave_after x (map f cs)) (e s c) ∙ all_alike f e (leave s c) cs

slaves : (s : Slave) (cs : List Call) → slave_after s (by_gaps cs) ≡ slave_after s cs
slaves = all_alike by_gap left_alike

module _ (g : Board) where
  entered_alike : (b : Book) (c : Call) → enter_call g b (by_gap c) ≡ enter_call g b c
  unfolding enter_call verdict_at judged enter
  entered_alike b = by_kind (λ c d. enter_call g b d ≡ enter_call g b c) (λ t form tick limit. refl) (λ c. refl)

  books : (b : Book) (cs : List Call) → book_after g b (by_gaps cs) ≡ book_after g b cs
  unfolding book_after
  books b [] = refl
  books b (c ∷ cs) = ap (λ (x : Book). book_after g x (by_gaps cs)) (entered_alike b c) ∙ books (enter_call g b c) cs

  -- the places counted, and what is asked of the notices
  places_alike : (b : Book) (c : Call) (cs ds : List Call) → places g (enter_call g b c) ds ≡ places g (enter_call g b c) cs
      → places g b (by_gap c ∷ ds) ≡ places g b (c ∷ cs)
  unfolding places enter_call verdict_at judged enter
  places_alike b =
      by_kind
      (λ c d. (cs ds : List Call) → places g (enter_call g b c) ds ≡ places g (enter_call g b c) cs → places g b (d ∷ ds) ≡ places g b (c ∷ cs))
      (λ t form tick limit cs ds e. e)
      own
    where
      own : (c : Call) (cs ds : List Call) → places g (enter_call g b c) ds ≡ places g (enter_call g b c) cs → places g b (c ∷ ds) ≡ places g b (c ∷ cs)
      own (at t a) cs ds e = ap (counting (verdict_at g b a) t) e
      own (gap k) cs ds e = e

  all_places : (b : Book) (cs : List Call) → places g b (by_gaps cs) ≡ places g b cs
  all_places b [] = refl
  all_places b (c ∷ cs) = places_alike b c cs (by_gaps cs) (all_places (enter_call g b c) cs)

  module _ (A : Adapter) where
    abbrev Same : Book → Call → Call → Type 0
    Same b c d = (GenuineCall g A b c → GenuineCall g A b d) × (GenuineCall g A b d → GenuineCall g A b c)

    genuine_alike : (b : Book) (c : Call) → Same b c (by_gap c)
    unfolding verdict_at judged
    genuine_alike b = by_kind (Same b) (λ t form tick limit. (λ w. tt, λ w. tt)) (λ c. (λ w. w, λ w. w))

    all_genuine : (b : Book) (cs : List Call) → AllGenuine g A b cs → AllGenuine g A b (by_gaps cs)
    all_genuine b [] w = tt
    all_genuine b (c ∷ cs) w =
        ((genuine_alike b c).0 w.0, rw entered_alike (all_genuine (enter_call g b c) cs w.1))

    genuine_back : (b : Book) (cs : List Call) → AllGenuine g A b (by_gaps cs) → AllGenuine g A b cs
    genuine_back b [] w = tt
    genuine_back b (c ∷ cs) w =
        ((genuine_alike b c).1 w.0, genuine_back (enter_call g b c) cs (rw entered_alike at w.1))

pub one_by_gaps : OneByGaps
one_by_gaps =
    record {
      unread = unread;
      one_slave = one_slave;
      one_number = one_number;
      slaves = slaves;
      replies = λ s before a. ap (λ (x : Slave). hear x a) (slaves s before);
      gaps = λ s before k. ap (λ (x : Slave). gap_of x k) (slaves s before);
      books = books;
      runs = λ g A calls run.
          record { accepted = run.accepted; rising = rw all_places run.rising; genuine = all_genuine g A closed calls run.genuine };
      runs_back = λ g A calls run.
          record { accepted = run.accepted; rising = (rw all_places at run.rising); genuine = genuine_back g A closed calls run.genuine };
    }

-- ---- all that is lost is told in its place

none : (z : ℤ) {a : ℕ} → Diff z a a → is_zero z ≡ true
unfolding is_zero
none (pos k) d = let e : k ≡ 0 = omega (arith, d.is) in rw e refl
none (negsuc k) d = absurd (omega (arith, d.is))

-- the book takes what comes next for the packet of place t, and all was told exactly till now
abbrev Even : Book → ℕ → Type 0
Even closed t = Unit {0}
Even (opened s u told od) t = (told ≡ true) × Diff u (suc s) t

none_untold : (s : ℕ) (u : ℤ) (t : ℕ) → Diff u (suc s) t → Diff (untold s u t) t t
unfolding untold
none_untold s u t e = let d = sum e (difference (natural t) (natural (suc s))) in record { is = omega arith }

even_gap : (b : Book) (t k : ℕ) → Even b t → Even (tell_gap b k) (t + k)
unfolding tell_gap
even_gap closed t k e = tt
even_gap (opened s u told od) t k e = let d = difference e.1 (natural k) in (e.0, record { is = omega arith })

even_on : (b : Book) (t own : ℕ) (v : Judgement) → Even b t → InPlace v own t → Even (enter b own v) (place_behind v t)
unfolding enter count_place
even_on b t own Lost e w = subst (Even (tell_gap b 1)) (omega arith) (even_gap b t 1 e)
even_on b t own (Refuse k) e w = e
even_on closed t own (Counts k) e w = tt
even_on (opened s u told od) t own (Counts k) e w =
    rw w (let d = none_untold s u t e.1 in (join e.0 (none (untold s u t) d), record { is = omega arith }))
even_on b t own (Takes x) e w = (refl, record { is = omega arith })

-- before the first notice taken nothing is asked
even_first : (own : ℕ) (v : Judgement) → Even (enter closed own v) (suc own)
unfolding enter count_place tell_gap
even_first own Lost = tt
even_first own (Refuse k) = tt
even_first own (Counts k) = tt
even_first own (Takes x) = (refl, record { is = omega arith })

-- what comes at a place of such a list while the book is open
record Next (g : Board) (b : Book) (a : Arrival) (own : ℕ) : Type 0 where
  place : ℕ
  even : Even b place
  here : InPlace (verdict_at g b a) own place

abbrev IfOpen : Board → Book → Arrival → ℕ → Type 0
IfOpen g closed a own = Unit {0}
IfOpen g (opened s u told od) a own = Next g (opened s u told od) a own

stands : (g : Board) (b : Book) (place : ℕ) → Even b place → (before after : List Call) (own : ℕ) (a : Arrival)
    → AllTold g b place (before ++ at own a ∷ after) → IfOpen g (book_after g b before) a own
unfolding book_after enter_call
stands g closed place e [] after own a w = tt
stands g (opened s u told od) place e [] after own a w = record { place = place; even = e; here = w.0 }
stands g closed place e (at p x ∷ before) after own a w =
    stands g (enter closed p (verdict_at g closed x)) (suc p) (even_first p (verdict_at g closed x)) before after own a w
stands g (opened s u told od) place e (at p x ∷ before) after own a w =
    let v = verdict_at g (opened s u told od) x in
    stands g (enter (opened s u told od) p v) (place_behind v place) (even_on (opened s u told od) place p v e w.0) before after own a w.1
stands g b place e (gap k ∷ before) after own a w = stands g (tell_gap b k) (place + k) (even_gap b place k e) before after own a w

abbrev slips : Notice → Bool
slips absent = false
slips taken = false
slips slip = true
slips (ignored k) = false

none_taken : (k : ℕ) → slips (notice_by k) ≡ false
none_taken zero = refl
none_taken (suc k) = refl

module _ (A : Adapter) (g : Board) (calls : List Call) (r : ToldRun A g calls) (before after : List Call) (t : ℕ) (a : Arrival)
    (e : calls ≡ before ++ at t a ∷ after) where
  abbrev b : Book
  b = book_after g closed before

  abbrev v : Judgement
  v = verdict_at g b a

  abbrev answer : Reply Report
  answer = (hear (slave_after (begun g) before) a).reply

  some_n : 0 < g.n
  some_n = some_packets g r.run.accepted

  module _ (s : ℕ) (u : ℤ) (told : Bool) (od : ℤ) (o : b ≡ opened s u told od) where
    next : Next g (opened s u told od) a t
    next = subst (λ (c : Book). IfOpen g c a t) o (stands g closed 0 tt before after t a (subst (AllTold g closed 0) e r.told))

    stands_here : (w : Judgement) → v ≡ w → InPlace w t next.place
    stands_here w q = subst (λ (x : Judgement). InPlace x t next.place) (sym (ap (λ (c : Book). verdict_at g c a) o) ∙ q) next.here

    -- a packet that counts finds nothing untold, and all told exactly
    none_here : t ≡ next.place → Diff (untold s u t) t t
    none_here p = none_untold s u t (rw (← p) at next.even.1)

    exact_here : t ≡ next.place → told_exactly b t ≡ true
    exact_here p = ap (λ (c : Book). told_exactly c t) o ∙ join next.even.0 (none (untold s u t) (none_here p))

  label_where_told : LabelWhereTold g b t v answer
  label_where_told k q s u told od o =
      (sentences A).elsewhere g calls r.run before after t a e k q s u told od o
      ∙ ap some (sym (label_behind g.n some_n (untold s u t) (none_here s u told od o (stands_here s u told od o (Counts k) q))))

  -- the reply by the verdict
  right : (w : Judgement) → v ≡ w → RightReply g A b t w answer
  right w q = subst (λ (x : Judgement). RightReply g A b t x answer) q (((demand_3 A).followed g calls r.run).answers before after (at t a) e)

  no_slip : NoSlip g b t v answer
  no_slip m = by_verdict v refl
    where
      other : (n : Notice) → slips n ≡ false → notice_in answer ≡ n → ⊥
      other n z h = false≢true (sym z ∙ ap slips (sym h ∙ m))

      by_verdict : (w : Judgement) → v ≡ w → ⊥
      by_verdict Lost q = other absent refl (ap notice_in (right Lost q))
      by_verdict (Refuse k) q = other absent refl (ap notice_in (right (Refuse k) q))
      by_verdict (Counts k) q = other (notice_by k) (none_taken k) (has_notice g A b t answer (right (Counts k) q))
      by_verdict (Takes x) q = by_book b refl
        where
          by_book : (c : Book) → b ≡ c → ⊥
          by_book closed o = other taken refl (has_notice g A b t answer (right (Takes x) q) ∙ ap (λ (c : Book). slip_by g.n c t) o)
          by_book (opened s u told od) o =
              let d = none_here s u told od o (stands_here s u told od o (Takes x) q) in
              ((sentences A).slips g calls r.run before after t a e x q s u told od o).0 m
              (residue_only some_n d 0 some_n (ap (λ (i : ℕ). i % g.n) (omega arith)))

  time_where_released : TimeWhereReleased A g b t v answer
  time_where_released p x m = by_book b refl
    where
      by_book : (c : Book) → b ≡ c → (p ≡ g.profile) × Timed g.n (second p) A t x.reference
      by_book closed o =
          absurd (eqb-false _ _ (hunts g A calls r.run before (at t a ∷ after) e o) (heard_due (slave_after (begun g) before) a p (released x) m).locked)
      by_book (opened s u told od) o = by_verdict v refl
        where
          by_verdict : (w : Judgement) → v ≡ w → (p ≡ g.profile) × Timed g.n (second p) A t x.reference
          by_verdict Lost q = absurd (unmarked_apart p (released x) (sym (ap mark_in (right Lost q)) ∙ m))
          by_verdict (Refuse k) q = absurd (unmarked_apart p (released x) (sym (ap mark_in (right (Refuse k) q)) ∙ m))
          by_verdict (Counts k) q = (sentences A).times g calls r.run before after t a e p x m (exact_here s u told od o (stands_here s u told od o (Counts k) q))
          by_verdict (Takes y) q = (sentences A).times g calls r.run before after t a e p x m (exact_here s u told od o (stands_here s u told od o (Takes y) q))

released_behind : (A : Adapter) (g : Board) (calls : List Call) (t p : ℕ) (x : Times) → ToldRun A g calls → ReleasedAt g calls t p x
    → (p ≡ g.profile) × Timed g.n (second g.profile) A t x.reference
released_behind A g calls t p x r m =
    let k = time_where_released A g calls r m.before m.after t m.arrival m.call p x (ap mark_in m.counted ∙ m.mark) in
    (k.0, subst (λ (q : ℕ). Timed g.n (second q) A t x.reference) k.0 k.1)

pub all_told_agree : (A : Adapter) → AllToldAgree A
all_told_agree A =
    record {
      labels = label_where_told A;
      slips = no_slip A;
      times = time_where_released A;
      two_slaves = one_time_of A _ (λ g calls t p x m. released_behind A g calls t p x m.0 m.1);
    }
