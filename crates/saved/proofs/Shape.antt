-- Where the body of a block stands.
use mathlib.Core.Path.{◌≡◌, ◌∙◌}
use mathlib.Core.Bool.{true, false}
use mathlib.Core.List.{List}
use Prim.Native.Nat.{ℕ, ◌+◌, ◌-◌, ◌≤◌, ◌<◌}
use native.Mathlib.Omega.{arith}
use lib.Dec.{eqb}
use lib.ListN.{length, length-drop}
use Rattle.std.proofs.lemmas.Bool.{false_from_ne_true, eqb-false}
use Rattle.std.proofs.lemmas.Bool.Decides.{nat_tests}
use Rattle.wire.proofs.Tests.{split}
use Rattle.saved.specs.Layout.{Body, whole, old, length_of}
use Rattle.saved.specs.Block.{trailer_length, block_length, distance, body_at, shaped, from_body}

-- the body that a distance says fits in front of the trailer
pub body_room : (d : ℕ) → length_of old ≤ d → length_of (body_at d) ≤ d
body_room d h = split (λ (x : Body). length_of x ≤ d) (eqb d (length_of old)) old whole (λ e. h) (λ e. let n = eqb-false _ _ e in omega arith)

module _ (b : List ℕ) (s : shaped b ≡ true) where
  pub shape_room : (length_of old ≤ distance b) × (distance b + trailer_length ≤ length b)
  unfolding shaped
  shape_room = grind (arith, nat_tests)

  pub body_length_lem : length (from_body b) ≡ distance b + trailer_length
  unfolding from_body
  body_length_lem = length-drop (length b - trailer_length - distance b) b ∙ omega (arith, shape_room)

-- bytes from the body on that are too few for a block, old or whole
pub short_body : (b : List ℕ) → length (from_body b) < block_length (body_at (distance b)) → shaped b ≡ false
short_body b h =
    false_from_ne_true (shaped b)
    (λ s. let r = shape_room b s in omega (arith, body_room (distance b) r.0, body_length_lem b s))
