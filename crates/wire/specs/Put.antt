-- Bytes put over other bytes.
use Rattle.std.specs.Prelude.{ℕ, ◌+◌, cond, List, ◌++◌, length, take, drop, leb}

-- d with all of s from byte `at` on, or d as it is where s does not fit
unfoldable pub put_at : List ℕ → ℕ → List ℕ → List ℕ
put_at d at s = cond (leb (at + length s) (length d)) (take at d ++ s ++ drop (at + length s) d) d
