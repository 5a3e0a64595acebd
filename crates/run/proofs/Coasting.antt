-- How long a board has coasted: its slave's number is the least of 255 and the marks passed since the last notice taken (document 02, Paper 12).
use mathlib.Core.Path.{◌≡◌, refl, sym, ap, ◌∙◌, subst}
use mathlib.Core.Bool.{Bool, true, false, cond, not, ◌&&◌, false≢true}
use mathlib.Core.List.{List, [], ◌∷◌}
use Prim.Native.Nat.{ℕ, zero, suc, ◌+◌, ◌*◌, ◌-◌, ◌/◌, ◌%◌, ◌≤◌, ◌<◌}
use native.Mathlib.Nat.{div-add-mod', mod-lt, mod_self, mod-eq_of_lt}
use native.Mathlib.Omega.{arith}
use lib.Dec.{eqb, leb}
use Rattle.std.proofs.lemmas.Bool.{eqb-true, eqb-false, leb-true, leb-false, ne_eqb}
use Rattle.std.proofs.lemmas.Bool.Decides.{nat_tests}
use Rattle.std.proofs.lemmas.Nat.{div-mul-add}
use Rattle.wire.proofs.Tests.{pick, split, no}
use Rattle.cadence.specs.Label.{label_of, next_label}
use Rattle.cadence.proofs.Labels.{next_of_last, next_of_other}
use Rattle.state.specs.Slave.{most_coasted}
use Rattle.state.specs.Sound.{is_uncounted, hunting_fits, parts_fit, sound}
use Rattle.state.specs.declared.Count.{Count}
use Rattle.state.specs.declared.Slave.{Slave}
use Rattle.state.proofs.Sound.{fitting}
use Rattle.judging.specs.Judgement.{Judgement, Lost, Refuse, Counts, Takes}
use Rattle.judging.proofs.Arrived.{Arrived, packet_arrived, numbers_arrived}
use Rattle.slave.specs.Answer.{Notice, label_in, notice_in, Report, Result}
use Rattle.slave.specs.Step.{coasted_on, labelled, past, moved_to, notice_by, notice_taken, passed, unheard, counted, took}
use Rattle.slave.specs.Gap.{to_mark, marks_in, kept_over, gapped}
use Rattle.slave.specs.Calls.{unless15, step_of, packet_of, numbers_of}
use Rattle.run.specs.Book.{Arrival, packet, numbers, tick_of, Call, at, gap, judged}
use Rattle.run.specs.Run.{hear, leave, slave_after}
use Rattle.run.specs.Coasting.{is_taken, says_taken, labels_from, listed, labels, marks_among, marks_over, NoneSaysTaken, Coasting}
use Rattle.run.proofs.Run.{heard, left_by, leave_sound}

-- ---- the marks among k packets, counted one by one, are a gap's
module _ (n : ℕ) (some : 0 < n) where
  small_div : (k : ℕ) → k < n → k / n ≡ 0
  small_div k h =
      let e : k ≡ 0 * n + k = omega arith in
      ap (λ (x : ℕ). x / n) e ∙ div-mul-add 0 n k h

  one_more : (k : ℕ) → (k + n) / n ≡ suc (k / n)
  one_more k =
      let e : k + n ≡ suc (k / n) * n + k % n = omega (arith, div-add-mod' k n) in
      ap (λ (x : ℕ). x / n) e ∙ div-mul-add (suc (k / n)) n (k % n) (mod-lt k some)

  next_is : (x : ℕ) → suc x < n → next_label n x ≡ suc x
  next_is x h = next_of_other n x (omega arith) ∙ omega arith

  next_last : (x : ℕ) → suc x ≡ n → next_label n x ≡ 0
  next_last x h =
      let e : x ≡ n - 1 = omega (arith, h) in
      ap (next_label n) e ∙ next_of_last n some

  -- of the k labels after x
  abbrev Among : ℕ → Type 0
  Among k = (x : ℕ) → x < n → marks_among (labels_from n (next_label n x) k) ≡ (k + x) / n

  among : (k : ℕ) → Among k
  among zero x h = sym (small_div (0 + x) (omega arith))
  among (suc k) x h = by (among k) (eqb (suc x) n) refl
    where
      by : Among k → (b : Bool) → eqb (suc x) n ≡ b → marks_among (labels_from n (next_label n x) (suc k)) ≡ (suc k + x) / n
      by fewer true e =
          let all : k + n ≡ suc k + x = omega (arith, eqb-true _ _ e) in
          let none : (k + 0) / n ≡ k / n = ap (λ (y : ℕ). y / n) (omega arith) in
          rw (next_last x (eqb-true _ _ e)) (ap suc (fewer 0 some ∙ none) ∙ sym (one_more k) ∙ ap (λ (y : ℕ). y / n) all)
      by fewer false e =
          let below : suc x < n = omega (arith, eqb-false _ _ e) in
          let all : k + suc x ≡ suc k + x = omega arith in
          rw (next_is x below) (no (eqb (suc x) 0) _ _ (ne_eqb (suc x) 0 (λ z. omega arith)) ∙ fewer (suc x) below ∙ ap (λ (y : ℕ). y / n) all)

  -- by the gap's own formula, where `left` pass before the next mark
  module _ (k x left : ℕ) (q : left + suc x ≡ n) where
    beyond : leb k left ≡ false → suc ((k - 1 - left) / n) ≡ (k + x) / n
    beyond b =
        let all : k - 1 - left + n ≡ k + x = omega (arith, leb-false _ _ b) in
        sym (one_more (k - 1 - left)) ∙ ap (λ (y : ℕ). y / n) all

    reckoned : to_mark n (next_label n x) ≡ left → marks_in n (next_label n x) k ≡ (k + x) / n
    reckoned e =
        rw e
        (split (λ (y : ℕ). y ≡ (k + x) / n) (leb k left) 0 (suc ((k - 1 - left) / n))
        (λ b. sym (small_div (k + x) (omega (arith, leb-true _ _ b))))
        beyond)

  in_gap : (k x : ℕ) → x < n → marks_in n (next_label n x) k ≡ (k + x) / n
  in_gap k x h = by (eqb (suc x) n) refl
    where
      by : (b : Bool) → eqb (suc x) n ≡ b → marks_in n (next_label n x) k ≡ (k + x) / n
      by true e =
          let last : suc x ≡ n = eqb-true _ _ e in
          let full : n - 0 ≡ n = omega arith in
          reckoned k x 0 (omega (arith, last)) (ap (to_mark n) (next_last x last) ∙ ap (λ (y : ℕ). y % n) full ∙ mod_self n)
      by false e =
          let below : suc x < n = omega (arith, eqb-false _ _ e) in
          reckoned k x (n - suc x) (omega arith) (ap (to_mark n) (next_is x below) ∙ mod-eq_of_lt (omega arith))

  -- every label comes after one
  abbrev Counted : ℕ → ℕ → Type 0
  Counted k l = marks_in n l k ≡ marks_among (labels_from n l k)

  counted_after : (k x : ℕ) → x < n → Counted k (next_label n x)
  counted_after k x h = in_gap k x h ∙ sym (among k x h)

  pub marks_counted : (next k : ℕ) → next < n → Counted k next
  marks_counted zero k h = subst (Counted k) (next_last (n - 1) (omega arith)) (counted_after k (n - 1) (omega arith))
  marks_counted (suc x) k h = subst (Counted k) (next_is x h) (counted_after k x (omega arith))

-- ---- one step, of what is judged and not lost

-- no mark more leaves the number
kept : (c : ℕ) → c ≤ most_coasted → c ≡ coasted_on c 0
kept c h = omega arith

untaken : (k : ℕ) → is_taken (notice_by k) ≡ false
untaken zero = refl
untaken (suc k) = refl

taken_is : (c : Count) (label : ℕ) → is_taken (notice_taken c label) ≡ true
unfolding notice_taken
taken_is c label = pick (λ (n : Notice). is_taken n ≡ true) (eqb c.phase 2 && not (eqb label c.next)) _ _ refl refl

module _ (s : Slave) (tick : ℕ) where
  -- r takes a notice, and has 0; or it takes none, and has the marks more that it tells
  abbrev Zero : Result Report → Type 0
  Zero r = is_taken (notice_in r.reply) ≡ true → r.slave.count.coasted ≡ 0

  abbrev More : Result Report → Type 0
  More r = is_taken (notice_in r.reply) ≡ false → r.slave.count.coasted ≡ coasted_on s.count.coasted (marks_among (listed (label_in r.reply)))

  step_zero : (j : Judgement) → Zero (step_of s j tick)
  unfolding step_of counted passed unheard took
  step_zero Lost = λ e. absurd (false≢true e)
  step_zero (Refuse k) = λ e. absurd (false≢true e)
  step_zero (Counts k) =
      pick Zero (eqb s.count.phase 2) (passed s (notice_by k) tick) (unheard s (notice_by k)) (λ e. absurd (false≢true (sym (untaken k) ∙ e))) (λ e. absurd (false≢true (sym (untaken k) ∙ e)))
  step_zero (Takes x) = λ e. refl

  module _ (small : s.count.coasted ≤ most_coasted) where
    step_more : (j : Judgement) → Arrived j → More (step_of s j tick)
    unfolding step_of counted passed unheard took
    step_more Lost h = absurd h
    step_more (Refuse k) h = λ e. kept s.count.coasted small
    step_more (Counts k) h =
        pick More (eqb s.count.phase 2) (passed s (notice_by k) tick) (unheard s (notice_by k))
        (λ e. counts (eqb s.count.next 0))
        (λ e. kept s.count.coasted small)
      where
        counts : (b : Bool) → (cond b (past s.count 1) s.count).coasted ≡ coasted_on s.count.coasted (cond b 1 0)
        counts true = refl
        counts false = kept s.count.coasted small
    step_more (Takes x) h = λ e. absurd (false≢true (sym e ∙ taken_is s.count (label_of s.board.n x.pointer)))

    gap_more : (k : ℕ) → s.count.next < s.board.n
        → (gapped s k).count.coasted ≡ coasted_on s.count.coasted (marks_among (cond (eqb s.count.phase 2) (labels_from s.board.n s.count.next k) []))
    unfolding gapped
    gap_more k h = by (eqb s.count.phase 2)
      where
        by : (b : Bool)
            → (cond b (moved_to s s.settings (labelled (past s.count (marks_in s.board.n s.count.next k)) ((s.count.next + k) % s.board.n)) (kept_over s k)) s).count.coasted
            ≡ coasted_on s.count.coasted (marks_among (cond b (labels_from s.board.n s.count.next k) []))
        by true = ap (coasted_on s.count.coasted) (marks_counted s.board.n (omega (arith, h)) s.count.next k h)
        by false = kept s.count.coasted small

-- ---- the calls

-- a call that takes a notice has a sound slave: any other gets 15
unless_sound : (s : Slave) (r : Result Report) → is_taken (notice_in (unless15 (sound s) r).reply) ≡ true → sound s ≡ true
unless_sound s r =
    split (λ (x : Result Report). is_taken (notice_in x.reply) ≡ true → sound s ≡ true) (sound s) r _ (λ ok e. ok) (λ ill e. absurd (false≢true e))

taken_sound : (s : Slave) (t : ℕ) (a : Arrival) → says_taken s (at t a) ≡ true → sound s ≡ true
unfolding hear packet_of numbers_of
taken_sound s t (packet form p tick limit) = unless_sound s _
taken_sound s t (numbers p tick x) = unless_sound s _

module _ (s : Slave) (ok : sound s ≡ true) where
  heard_zero : (t : ℕ) (a : Arrival) → says_taken s (at t a) ≡ true → (leave s (at t a)).count.coasted ≡ 0
  unfolding leave
  heard_zero t a = subst (Zero s (tick_of a)) (sym (heard s ok a)) (step_zero s (tick_of a) (judged s.board s.settings a))

  module _ (small : s.count.coasted ≤ most_coasted) where
    more_left : (c : Call) → says_taken s c ≡ false → (leave s c).count.coasted ≡ coasted_on s.count.coasted (marks_among (labels s c))
    unfolding leave judged step_of
    more_left (at t (packet form [] tick limit)) e =
        ap (λ (x : Slave). x.count.coasted) (left_by s ok (at t (packet form [] tick limit))) ∙ gap_more s 0 small 1 (fitting s ok).below
    more_left (at t (packet form (b ∷ p) tick limit)) e =
        subst (More s tick) (sym (heard s ok (packet form (b ∷ p) tick limit)))
        (step_more s tick small _ (packet_arrived s.board s.settings b p tick limit)) e
    more_left (at t (numbers p tick x)) e =
        subst (More s tick) (sym (heard s ok (numbers p tick x)))
        (step_more s tick small _ (numbers_arrived s.board s.settings p tick x)) e
    more_left (gap k) e = ap (λ (x : Slave). x.count.coasted) (left_by s ok (gap k)) ∙ gap_more s 0 small k (fitting s ok).below

-- one that hunts
hunting_most : (s : Slave) → sound s ≡ true → s.count.phase ≡ 1 → s.count.coasted ≡ most_coasted
unfolding sound parts_fit hunting_fits is_uncounted
hunting_most s ok e = grind (arith, nat_tests)

-- ---- lists of calls

-- marks after marks
both_on : (m a b : ℕ) → coasted_on (coasted_on m a) b ≡ coasted_on m (a + b)
both_on m a b = omega arith

over_calls : (s : Slave) → sound s ≡ true → s.count.coasted ≤ most_coasted → (cs : List Call) → NoneSaysTaken s cs
    → (slave_after s cs).count.coasted ≡ coasted_on s.count.coasted (marks_over s cs)
unfolding slave_after
over_calls s ok small [] e = kept s.count.coasted small
over_calls s ok small (c ∷ cs) e =
    let one = more_left s ok small c e.0 in
    over_calls (leave s c) (leave_sound s ok c) (omega (arith, one)) cs e.1
    ∙ ap (λ (x : ℕ). coasted_on x (marks_over (leave s c) cs)) one
    ∙ both_on s.count.coasted (marks_among (labels s c)) (marks_over (leave s c) cs)

-- WHAT THE NUMBER MEANS
pub coasting : Coasting
coasting =
    record {
      since = λ s t a after e none.
          let zero = heard_zero s (taken_sound s t a e) t a e in
          over_calls (leave s (at t a)) (leave_sound s (taken_sound s t a e) (at t a)) (omega (arith, zero)) after none
          ∙ ap (λ (x : ℕ). coasted_on x (marks_over (leave s (at t a)) after)) zero
          ∙ omega arith;
      passing = λ s c ok small e. more_left s ok small c e;
      hunting = hunting_most;
    }
