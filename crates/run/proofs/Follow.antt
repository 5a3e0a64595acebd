-- A slave follows the book, for any cadence of n packets: its own count is the place that it takes the next packet for, the number untold
-- is how far that is behind, and a pending notice is the adapter's for the next mark of that count.
use mathlib.Core.Path.{◌≡◌, refl, sym, ap, ◌∙◌, subst}
use mathlib.Core.Bool.{Bool, true, false, cond, not, false≢true}
use mathlib.Core.Option.{some}
use Prim.Native.Nat.{ℕ, suc, ◌+◌, ◌*◌, ◌/◌, ◌%◌, ◌≤◌, ◌<◌}
use native.Mathlib.Nat.{mod-lt, mod-add-mod, div-add-mod'}
use native.Mathlib.Omega.{arith}
use lib.IntN.{ℤ, pos, ◌-ℤ◌}
use lib.Dec.{eqb, leb}
use borrow.Author.Tests.{eqb-false, leb-true}
use Rattle.wire.proofs.Tests.{both, pick, split}
use Rattle.times.specs.Whole.{residue}
use Rattle.times.specs.Release.{Times, released}
use Rattle.times.proofs.Whole.{Diff, natural, sum, difference}
use Rattle.times.proofs.Laws.{released_reference}
use Rattle.cadence.specs.Label.{label_of, label_at, next_label}
use Rattle.state.specs.Profile.{second}
use Rattle.state.specs.Slave.{nothing}
use Rattle.state.specs.declared.Count.{Count}
use Rattle.state.specs.declared.Waiting.{Waiting}
use Rattle.state.specs.declared.Slave.{Slave}
use Rattle.judging.specs.declared.Taken.{Taken}
use Rattle.judging.specs.Judgement.{Judgement}
use Rattle.judging.proofs.Taking.{set_to, Alike, lost_alike, refused_alike, counted_alike, taken_alike}
use Rattle.slave.specs.Answer.{Notice, taken, slip}
use Rattle.slave.specs.Step.{passed, unheard, notice_by, counted, notice_taken, took}
use Rattle.slave.specs.Gap.{to_mark, gapped}
use Rattle.slave.specs.Calls.{step_of}
use Rattle.slave.proofs.Due.{OwnDue, unmarked_apart, own_due, taken_due}
use Rattle.run.specs.Adapter.{Announced, Adapter, Wrote}
use Rattle.run.specs.Book.{Book, closed, opened, untold, count_place, tell_gap, enter}
use Rattle.run.specs.Run.{Genuine}
use Rattle.run.specs.Claim.{label_by, slip_by, told_exactly, Timed, Right, RightReply}
use Rattle.run.proofs.Congruence.{equal_of_zero, one_label, label_behind, ends, short, stays}

-- ---- the invariant

-- the pending notice is the adapter's, of the cadence that ends at the next mark from `place` on
pub record Held (n : ℕ) (A : Adapter) (place : ℕ) (w : Waiting) : Type 0 where
  pub cadence : ℕ
  pub notice : Announced
  pub written : A cadence ≡ some notice
  pub sts : w.sts ≡ notice.sts
  pub md : w.md ≡ notice.md
  pub after : cadence * n < place
  pub till : place ≤ suc cadence * n

abbrev pub IfPending : ℕ → Adapter → ℕ → Waiting → Type 0
IfPending n A place w = eqb w.pending 1 ≡ true → Held n A place w

-- the slave takes the next packet for the one at `place`, while the book expects the one after `last`; they are u apart
pub record Tracks (A : Adapter) (last : ℕ) (u : ℤ) (s : Slave) : Type 0 where
  pub locked : eqb s.count.phase 2 ≡ true
  pub place : ℕ
  pub apart : Diff u (suc last) place
  pub next : s.count.next ≡ label_at s.board.n place
  pub held : IfPending s.board.n A place s.waiting

-- a slave that hunts has no notice taken
abbrev pub Follows : Adapter → Book → Slave → Type 0
Follows A closed s = eqb s.count.phase 2 ≡ false
Follows A (opened last u told od) s = Tracks A last u s

-- ---- the pending notice, over the packets that pass

nothing_held : (n : ℕ) (A : Adapter) (place : ℕ) → IfPending n A place nothing
nothing_held n A place e = absurd (false≢true e)

-- k packets on, before the next mark
held_on : (n : ℕ) (A : Adapter) (place k : ℕ) (w : Waiting)
    → ((cadence : ℕ) → cadence * n < place → place ≤ suc cadence * n → place + k ≤ suc cadence * n)
    → IfPending n A place w → IfPending n A (place + k) w
held_on n A place k w on f e =
    let h = f e in
    record {
      cadence = h.cadence;
      notice = h.notice;
      written = h.written;
      sts = h.sts;
      md = h.md;
      after = omega (arith, h.after);
      till = on h.cadence h.after h.till;
    }

module _ (A : Adapter) (s : Slave) (some-n : 0 < s.board.n) where
  abbrev n : ℕ
  n = s.board.n

  -- ---- the book's place and the slave's
  module _ (last : ℕ) (u : ℤ) (f : Tracks A last u s) (t : ℕ) where
    apart_at : Diff (untold last u t) t f.place
    unfolding untold
    apart_at = let d = sum f.apart (difference (natural t) (natural (suc last))) in record { is = omega arith }

    -- a mark that the slave releases at t, all told exactly
    time_at : (told : Bool) (od : ℤ) (tick : ℕ) (x : Times) → OwnDue s tick s.board.profile (released x)
        → told_exactly (opened last u told od) t ≡ true → Timed n (second s.board.profile) A t x.reference
    time_at told od tick x r e =
        let same : t ≡ f.place = equal_of_zero (untold last u t) apart_at (both told _ e).1 in
        let h : Held n A f.place s.waiting = f.held r.pending in
        let m : f.place % n ≡ 0 = sym f.next ∙ r.label in
        record {
          mark = ap (label_at n) same ∙ m;
          cadence = h.cadence;
          next = ap (λ (p : ℕ). p / n) same ∙ ends n f.place h.cadence some-n h.after h.till m;
          notice = h.notice;
          written = h.written;
          time = released_reference _ _ _ _ _ _ x r.due_is ∙ cc (h.sts, h.md);
        }

    -- a packet counted at t, with no notice taken
    passed_follows : (told : Bool) (od : ℤ) (notice : Notice) (tick : ℕ)
        → Right s.board A (opened last u told od) t (label_by n (opened last u told od) t) notice (passed s notice tick).reply
        × Tracks A t (untold last u t) (passed s notice tick).slave
    unfolding passed
    passed_follows told od notice tick = (
      record {
        report = _;
        counted = refl;
        labelled = ap some (f.next ∙ label_behind n some-n (untold last u t) apart_at);
        noticed = refl;
        unit = λ p d m. (own_due p d s tick m).unit;
        timed = λ x m. time_at told od tick x (own_due _ _ s tick m);
      },
      record {
        locked = pick (λ (c : Count). eqb c.phase 2 ≡ true) (eqb s.count.next 0) _ _ f.locked f.locked;
        place = f.place + 1;
        apart = let d = apart_at in record { is = omega arith };
        next = ap (next_label n) f.next ∙ mod-add-mod f.place n 1;
        held =
            split (IfPending n A (f.place + 1)) (eqb s.count.next 0) nothing s.waiting
            (λ z. nothing_held n A (f.place + 1))
            (λ z. held_on n A f.place 1 s.waiting (λ c a b. short n f.place c some-n a b (λ m. eqb-false _ _ z (f.next ∙ m))) f.held);
      },
    )

  -- a gap of k
  gap_tracks : (last : ℕ) (u : ℤ) → Tracks A last u s → (k : ℕ) → Tracks A last (u -ℤ pos k) (gapped s k)
  unfolding gapped
  gap_tracks last u f k =
      rw f.locked
      (record {
        locked = f.locked;
        place = f.place + k;
        apart = let d = difference f.apart (natural k) in record { is = omega arith };
        next = ap (λ (l : ℕ). (l + k) % n) f.next ∙ mod-add-mod f.place n k;
        held =
            split (IfPending n A (f.place + k)) (leb k (to_mark n s.count.next)) s.waiting nothing
            (λ z.
            let room : k ≤ to_mark n (f.place % n) = subst (λ (l : ℕ). k ≤ to_mark n l) f.next (leb-true _ _ z) in
            held_on n A f.place k s.waiting (λ c a b. stays n f.place c some-n a b k room) f.held)
            (λ z. nothing_held n A (f.place + k));
      })

  -- ---- a notice taken at the place t
  module _ (x : Taken) (t : ℕ) (w : Wrote n A t x.pointer x.sts x.md) where
    label_taken : label_of n x.pointer ≡ label_at n t
    label_taken = omega (arith, w.points, mod-lt t some-n)

    took_tracks : (tick : ℕ) → Tracks A t (pos 0) (took s x tick).slave
    unfolding took
    took_tracks tick =
        record {
          locked = refl;
          place = t + 1;
          apart = record { is = omega arith };
          next = ap (next_label n) label_taken ∙ mod-add-mod t n 1;
          held = λ e.
              record {
                cadence = t / n;
                notice = _;
                written = w.here;
                sts = refl;
                md = refl;
                after = omega (arith, div-add-mod' t n);
                till = omega (arith, div-add-mod' t n, mod-lt t some-n);
              };
        }

    -- a slip exactly where the slave's count differs
    slip_by_lem : (b : Book) → Follows A b s → notice_taken s.count (label_of n x.pointer) ≡ slip_by n b t
    unfolding notice_taken
    slip_by_lem closed f = rw f
    slip_by_lem (opened last u told od) f =
        rw (f.locked, label_taken, f.next, one_label n some-n (untold last u t) (apart_at last u f t)) (swapped (eqb (residue n (untold last u t)) 0))
      where
        swapped : (b : Bool) → cond (not b) slip taken ≡ cond b taken slip
        swapped true = refl
        swapped false = refl

    time_by : (b : Book) → Follows A b s → (tick : ℕ) (y : Times) → OwnDue s tick s.board.profile (released y)
        → told_exactly b t ≡ true → Timed n (second s.board.profile) A t y.reference
    time_by closed f tick y r e = absurd (false≢true e)
    time_by (opened last u told od) f tick y r e = time_at last u f t told od tick y r e

    took_right : (b : Book) → Follows A b s → (tick : ℕ)
        → Right s.board A b t (some (label_at n t)) (slip_by n b t) (took s x tick).reply
    unfolding took
    took_right b f tick =
        record {
          report = _;
          counted = refl;
          labelled = ap some label_taken;
          noticed = slip_by_lem b f;
          unit = λ p d m. (taken_due p d s tick _ m).unit;
          timed = λ y m. time_by b f tick y (taken_due _ _ s tick _ m);
        }

  -- ---- each step, by the book

  counted_follows : (b : Book) → Follows A b s → (k t tick : ℕ)
      → Right s.board A b t (label_by n b t) (notice_by k) (counted s k tick).reply × Follows A (count_place b t) (counted s k tick).slave
  unfolding counted count_place unheard
  counted_follows closed f k t tick =
      rw f (
        record {
          report = _;
          counted = refl;
          labelled = refl;
          noticed = refl;
          unit = λ p d m. absurd (unmarked_apart p d m);
          timed = λ x m e. absurd (false≢true e);
        },
        f,
      )
  counted_follows (opened last u told od) f k t tick = rw f.locked (passed_follows last u f t told od (notice_by k) tick)

  pub gap_follows : (b : Book) → Follows A b s → (k : ℕ) → Follows A (tell_gap b k) (gapped s k)
  unfolding tell_gap gapped
  gap_follows closed f k = rw f f
  gap_follows (opened last u told od) f k = gap_tracks last u f k

  -- the slave's own judgement j and the book's verdict v
  pub step_follows : (b : Book) → Follows A b s → {j v : Judgement} → Alike j v → (t tick : ℕ) → Genuine n A t v
      → RightReply s.board A b t v (step_of s j tick).reply × Follows A (enter b t v) (step_of s j tick).slave
  unfolding step_of enter
  step_follows b f lost_alike t tick w = (refl, gap_follows b f 1)
  step_follows b f refused_alike t tick w = (refl, f)
  step_follows b f (counted_alike {k = k}) t tick w = counted_follows b f k t tick
  step_follows b f (taken_alike x y z e) t tick w = (took_right (set_to x y) t w b f tick, took_tracks (set_to x y) t w tick)
