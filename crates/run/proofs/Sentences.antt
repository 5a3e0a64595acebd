-- The sentences of demand 3, each read off the one theorem.
use Prim.Native.Nat.{ℕ}
use native.Mathlib.Omega.{arith}
use mathlib.Core.Path.{◌≡◌, sym, ap, ◌∙◌, subst}
use mathlib.Core.Bool.{cond}
use mathlib.Core.Option.{Option}
use lib.Dec.{eqb}
use borrow.Author.Tests.{eq-eqb, ne_eqb}
use Rattle.wire.specs.Reply.{Reply, refused, given}
use Rattle.wire.proofs.Tests.{yes, no}
use Rattle.times.specs.Whole.{residue}
use Rattle.times.specs.Release.{released}
use Rattle.state.specs.Profile.{second}
use Rattle.state.specs.declared.Board.{Board}
use Rattle.judging.specs.Judgement.{Judgement, Counts, Takes}
use Rattle.slave.specs.Answer.{Notice, taken, slip, due, Report, label_in, notice_in, mark_in}
use Rattle.slave.proofs.Due.{unmarked_apart}
use Rattle.run.specs.Adapter.{Adapter}
use Rattle.run.specs.Book.{at, Book, untold}
use Rattle.run.specs.Claim.{label_by, slip_by, Timed, Right, RightReply}
use Rattle.run.specs.Sentences.{Sentence, InEveryRun, LabelWhereTaken, LabelElsewhere, SlipWhereUntold, TimeWhereTold, Sentences}
use Rattle.run.proofs.Run.{timed_by, demand_3}

-- ---- the parts of a right reply
module _ (g : Board) (A : Adapter) (b : Book) (t : ℕ) (r : Reply Report) {label : Option ℕ} {notice : Notice} (k : Right g A b t label notice r) where
  has_label : label_in r ≡ label
  has_label = ap label_in k.counted ∙ k.labelled

  pub has_notice : notice_in r ≡ notice
  has_notice = ap notice_in k.counted ∙ k.noticed

-- a slip is a choice that was not "taken"
slip_chosen : (z : ℕ) {x : Notice} → x ≡ cond (eqb z 0) taken slip → (x ≡ slip → z ≡ 0 → ⊥) × ((z ≡ 0 → ⊥) → x ≡ slip)
slip_chosen z e = (
  λ f m. let q : taken ≡ slip = sym (yes (eqb z 0) taken slip (eq-eqb z 0 m)) ∙ sym e ∙ f in let d : ◌≡◌ {A = ℕ} 0 1 = cc in omega arith,
  λ f. e ∙ no (eqb z 0) taken slip (ne_eqb z 0 f),
)

-- ---- each sentence, by the verdict
module _ (g : Board) (A : Adapter) (b : Book) (t : ℕ) (v : Judgement) (r : Reply Report) (h : RightReply g A b t v r) where
  by_verdict : (w : Judgement) → v ≡ w → RightReply g A b t w r
  by_verdict w e = subst (λ (x : Judgement). RightReply g A b t x r) e h

  label_where_taken : LabelWhereTaken g b t v r
  label_where_taken x e = has_label g A b t r (by_verdict (Takes x) e)

  label_elsewhere : LabelElsewhere g b t v r
  label_elsewhere k e s u told od o = has_label g A b t r (by_verdict (Counts k) e) ∙ ap (λ (c : Book). label_by g.n c t) o

  slip_where_untold : SlipWhereUntold g b t v r
  slip_where_untold x e s u told od o =
      slip_chosen (residue g.n (untold s u t)) (has_notice g A b t r (by_verdict (Takes x) e) ∙ ap (λ (c : Book). slip_by g.n c t) o)

  time_where_told : TimeWhereTold A g b t v r
  time_where_told p x m e = go r h m
    where
      go : (r : Reply Report) → RightReply g A b t v r → mark_in r ≡ due p (released x) → (p ≡ g.profile) × Timed g.n (second p) A t x.reference
      go (refused k) h' m' = absurd (unmarked_apart p (released x) m')
      go (given c) h' m' = let k = timed_by g A b t v c p x h' m' e in (k.0, rw k.0 k.1)

-- ---- at every place of a run
everywhere : (A : Adapter) (P : Sentence) → ((g : Board) (b : Book) (t : ℕ) (v : Judgement) (r : Reply Report) → RightReply g A b t v r → P g b t v r)
    → InEveryRun A P
everywhere A P f g calls run before after t a e = f g _ t _ _ (((demand_3 A).followed g calls run).answers before after (at t a) e)

pub sentences : (A : Adapter) → Sentences A
sentences A =
    record {
      where_taken = everywhere A LabelWhereTaken (λ g. label_where_taken g A);
      elsewhere = everywhere A LabelElsewhere (λ g. label_elsewhere g A);
      slips = everywhere A SlipWhereUntold (λ g. slip_where_untold g A);
      times = everywhere A (TimeWhereTold A) (λ g. time_where_told g A);
      two_slaves = (demand_3 A).one_time;
    }
