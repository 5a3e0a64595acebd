-- Demand 3 sentence by sentence, as a reader has it before them. Each is a consequence of the one claim, `Demand3`.
use Rattle.std.specs.Prelude.{ℕ, ◌≡◌, Bool, true, List, ◌∷◌, ◌++◌, ℤ, pos, ◌-ℤ◌}
use Rattle.std.proofs.Math.Option.{some}
use Rattle.wire.specs.Reply.{Reply}
use Rattle.times.specs.Whole.{residue}
use Rattle.times.specs.Release.{Times, released}
use Rattle.cadence.specs.Label.{label_at}
use Rattle.state.specs.Profile.{second}
use Rattle.state.specs.declared.Board.{Board}
use Rattle.judging.specs.declared.Taken.{Taken}
use Rattle.judging.specs.Judgement.{Judgement, Counts, Takes}
use Rattle.slave.specs.Answer.{slip, due, Report, label_in, notice_in, mark_in}
use Rattle.run.specs.Adapter.{Adapter}
use Rattle.run.specs.Book.{Arrival, Call, at, Book, closed, opened, verdict_at, untold, book_after}
use Rattle.run.specs.Run.{hear, slave_after, begun, Run}
use Rattle.run.specs.Claim.{told_exactly, Timed, OneTime}

-- a sentence about a packet or numbers notice: the start's settings, the book before it, its place, the verdict on it, and the slave's reply
abbrev pub Sentence : Type 1
Sentence = Board → Book → ℕ → Judgement → Reply Report → Type 0

-- it holds at every place of all such lists of calls
abbrev pub InEvery : (Board → List Call → Type 0) → Sentence → Type 0
InEvery Such P =
    (g : Board) (calls : List Call) → Such g calls → (before after : List Call) (t : ℕ) (a : Arrival) → calls ≡ before ++ at t a ∷ after
    → P g (book_after g closed before) t (verdict_at g (book_after g closed before) a) (hear (slave_after (begun g) before) a).reply

-- at every place of every run on the adapter's stream
abbrev pub InEveryRun : Adapter → Sentence → Type 0
InEveryRun A P = InEvery (λ g calls. Run g A calls) P

-- where a notice is taken, the label equals the adapter's
abbrev pub LabelWhereTaken : Sentence
LabelWhereTaken g b t v r = (x : Taken) → v ≡ Takes x → label_in r ≡ some (label_at g.n t)

-- elsewhere, from the first notice taken on, the label of a counted packet is the adapter's less the number untold, modulo the cadence
abbrev pub LabelElsewhere : Sentence
LabelElsewhere g b t v r =
    (k : ℕ) → v ≡ Counts k → (s : ℕ) (u : ℤ) (told : Bool) (od : ℤ) → b ≡ opened s u told od
    → label_in r ≡ some (residue g.n (pos (label_at g.n t) -ℤ untold s u t))

-- a later notice taken carries the slip mark exactly when the number untold since the one before is no multiple of the cadence
abbrev pub SlipWhereUntold : Sentence
SlipWhereUntold g b t v r =
    (x : Taken) → v ≡ Takes x → (s : ℕ) (u : ℤ) (told : Bool) (od : ℤ) → b ≡ opened s u told od
    → (notice_in r ≡ slip → residue g.n (untold s u t) ≡ 0 → ⊥) × ((residue g.n (untold s u t) ≡ 0 → ⊥) → notice_in r ≡ slip)

-- a mark released, all losses since the last notice taken told exactly, has the reference emission time of the adapter's notice for that mark,
-- in the unit of the slave's own profile
abbrev pub TimeWhereTold : Adapter → Sentence
TimeWhereTold A g b t v r =
    (profile : ℕ) (x : Times) → mark_in r ≡ due profile (released x) → told_exactly b t ≡ true
    → (profile ≡ g.profile) × Timed g.n (second profile) A t x.reference

-- the demand's sentences in their order; the last is the claim's own
pub record Sentences (A : Adapter) : Type 0 where
  pub where_taken : InEveryRun A LabelWhereTaken
  pub elsewhere : InEveryRun A LabelElsewhere
  pub slips : InEveryRun A SlipWhereUntold
  pub times : InEveryRun A (TimeWhereTold A)
  pub two_slaves : OneTime A
