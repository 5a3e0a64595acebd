-- What a writer of text leaves: some bytes in place of those that a lent buffer had, and everything else as it was.
use Rattle.std.specs.Prelude.{◌≡◌, cond, List, ◌++◌, ℕ, ◌+◌, ◌-◌, ◌≤◌, leb, length, take, drop}

-- text stands at the front of d', which is otherwise d, and `end` is the byte after it
pub record Fronts (text d d' : List ℕ) (end : ℕ) : Type 0 where
  pub bytes : d' ≡ text ++ drop (length text) d
  pub ends : end ≡ length text

-- text, of at most `room` bytes, stands in d' from byte `at` on; d' is otherwise d, and `end` is the byte after the text
pub record Puts (room : ℕ) (d : List ℕ) (at : ℕ) (text d' : List ℕ) (end : ℕ) : Type 0 where
  pub bytes : d' ≡ take at d ++ text ++ drop (at + length text) d
  pub ends : end ≡ at + length text
  pub short : length text ≤ room
  pub within : at ≤ length d

-- text from byte `at` on where so much room is there, else nothing
pub record Placed (room : ℕ) (d : List ℕ) (at : ℕ) (text d' : List ℕ) (end : ℕ) : Type 0 where
  pub bytes : d' ≡ cond (leb room (length d - at)) (take at d ++ text ++ drop (at + length text) d) d
  pub ends : end ≡ cond (leb room (length d - at)) (at + length text) at
  pub short : room ≤ length d - at → length text ≤ room
