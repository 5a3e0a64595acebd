-- What counts and times of either unit mean in document 01's values.
use Rattle.std.specs.Prelude.{ℕ}
use Rattle.times.specs.Release.{Times, Due, late, released}
use Rattle.times.specs.declared.Steps.{Steps}
use Rattle.times.specs.declared.Periods.{Periods}
use Rattle.times.specs.declared.Times as Times'
use Rattle.times.specs.declared.Due as Due'
use Rattle.times.specs.declared.Due.TheVariants as due

-- a plain number
abbrev pub number : ℕ → ℕ
number n = n

-- profile 0
abbrev pub steps : Steps → ℕ
steps t = t.0

-- profile 1
abbrev pub periods : Periods → ℕ
periods t = t.0

-- the times of a release in the unit that is counted so
abbrev pub times_in : {T : Type 0} → (T → ℕ) → Times'.Times T → Times
times_in count t = record { reference = count t.reference; emission = count t.emission; modulation = count t.modulation; wait = t.wait }

-- and a mark that is due
abbrev pub due_in : {T : Type 0} → (T → ℕ) → Due'.Due T → Due
due_in count (due.Late x) = late (count x)
due_in count (due.Released t) = released (times_in count t)
