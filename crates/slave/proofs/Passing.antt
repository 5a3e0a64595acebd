-- Each way that a gap can go.
use mathlib.Core.Path.{◌≡◌, sym}
use Prim.Native.Nat.{ℕ, ◌+◌, ◌-◌, ◌/◌, ◌%◌, ◌≤◌, ◌<◌}
use native.Mathlib.Nat.{mod_self, mod-eq_of_lt}
use native.Mathlib.Omega.{arith}
use Rattle.std.proofs.lemmas.Bool.Decides.{nat_tests}
use Rattle.state.specs.Slave.{nothing}
use Rattle.state.specs.declared.Count.{Count}
use Rattle.state.specs.declared.Waiting.{Waiting}
use Rattle.state.specs.declared.Slave.{Slave}
use Rattle.slave.specs.Step.{labelled, past, moved_to}
use Rattle.slave.specs.Gap.{to_mark, gapped}

-- the packets before the next mark: none if it is next, else those up to the end of the cadence
pub to_mark_none : (n next : ℕ) → next < n → next ≡ 0 → 0 ≡ to_mark n next
to_mark_none n next h z = grind (arith, mod_self n)

pub to_mark_some : (n next : ℕ) → next < n → (next ≡ 0 → ⊥) → n - next ≡ to_mark n next
to_mark_some n next h z = sym (mod-eq_of_lt (omega arith))

module _ (s : Slave) (k : ℕ) where
  -- a hunting slave stays as it is
  pub gap_unheard : (s.count.phase ≡ 2 → ⊥) → s ≡ gapped s k
  unfolding gapped
  gap_unheard e = grind (arith, nat_tests)

  module _ (e : s.count.phase ≡ 2) (left : ℕ) (l : left ≡ to_mark s.board.n s.count.next) (after count : Count) (c : count ≡ labelled after ((s.count.next + k) % s.board.n)) where
    -- no mark is among the missing: none is passed, and a notice waits on
    pub gap_kept : after ≡ past s.count 0 → k ≤ left → moved_to s s.settings count s.waiting ≡ gapped s k
    unfolding gapped
    gap_kept q h = grind (arith, nat_tests)

    -- the first mark is, and one more with each n packets behind it: they are passed, and a notice is dropped
    pub gap_dropped : after ≡ past s.count (1 + (k - 1 - left) / s.board.n) → left < k → {waiting : Waiting} → waiting ≡ nothing → moved_to s s.settings count waiting ≡ gapped s k
    unfolding gapped
    gap_dropped q h w = grind (arith, nat_tests)
