-- The adapter's stream (document 01, "Runs"): its packets have places 0, 1, 2 and on, and place t has label t mod n.
use Rattle.std.specs.Prelude.{ℕ, ◌/◌, ◌≡◌}
use Rattle.std.proofs.Math.Option.{Option, some}
use Rattle.cadence.specs.Label.{label_at, pointer_of}

-- a notice that the adapter wrote: the label of its packet, and the next mark's STS and MD
pub record Announced : Type 0 where
  pub label : ℕ
  pub sts : ℕ
  pub md : ℕ

-- at most one notice in each cadence, counted from 0
abbrev pub Adapter : Type 0
Adapter = ℕ → Option Announced

-- these numbers are those of the notice that the adapter wrote at place t: its pointer is n − 1 − label
pub record Wrote (n : ℕ) (A : Adapter) (t pointer sts md : ℕ) : Type 0 where
  pub points : pointer ≡ pointer_of n (label_at n t)
  pub here : A (t / n) ≡ some (record { label = label_at n t; sts = sts; md = md })
