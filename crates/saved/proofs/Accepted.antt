-- What resume accepts is what a save writes, by this release or the one before.
--     accepted_body    the body of an accepted block is the body, old or whole by its distance, of the slave that is left
--     accepted_block   and with that body's own distance, body through check value are exactly the block that the slave makes
use mathlib.Core.Path.{◌≡◌, refl, sym, ap, ap₂, ◌∙◌}
use mathlib.Core.Bool.{true}
use mathlib.Core.List.{List, [], ◌∷◌, ◌++◌}
use Prim.Native.Nat.{ℕ, ◌+◌, ◌-◌}
use native.Mathlib.Omega.{arith}
use lib.ListN.{length, take, drop, get_or}
use lib.Seq.{take_all, get_or-drop, drop-drop}
use Rattle.wire.specs.Reply.{given}
use Rattle.wire.specs.BigEndian.{be16, be16_at, bytes16}
use Rattle.wire.proofs.Tests.{passed, given_zero}
use Rattle.wire.proofs.Bytes.{Bytes, drop_bytes, elements, elements_are}
use Rattle.check_value.specs.Register.{register, sealed}
use Rattle.check_value.proofs.Laws.{zero_only}
use Rattle.state.specs.Profile.{settings_kept}
use Rattle.state.specs.declared.Board.{Board}
use Rattle.slave.specs.Answer.{Result}
use Rattle.saved.specs.Layout.{Body, whole, old, length_of, pair, body_of, slave_in}
use Rattle.saved.specs.Block.{trailer_length, block_length, covered_of, block_of, trailer, distance, body_at, shaped, from_body, held, block_fits, same_board, resume_refusal, resumed, resume_of}
use Rattle.saved.proofs.Body.{field_again, body_again}
use Rattle.saved.proofs.Shape.{shape_room, body_room, body_length_lem}
use Rattle.saved.proofs.Fitting.{fitting}
use Rattle.saved.proofs.Answers.{resume_held}

-- bytes of a block's length that leave zero, with the body's site and distance behind the body
module _ (body : Body) (c : List ℕ) (bytes : Bytes c) (long : length c ≡ block_length body) (zero : register c ≡ 0)
    (site : be16_at c (length_of body) ≡ (slave_in body c).board.site) (far : be16_at c (length_of body + 2) ≡ length_of body) where
  -- the bytes behind the body
  abbrev at : ℕ → ℕ
  at k = get_or c (length_of body + k) 0

  -- element by element, a body and what stands behind it are one list
  seams : (b : Body)
      → (elements (length_of b) 0 c ++ get_or c (length_of b) 0 ∷ get_or c (length_of b + 1) 0 ∷ [] ++ get_or c (length_of b + 2) 0 ∷ get_or c (length_of b + 2 + 1) 0 ∷ []
      ≡ elements (block_length b - 4) 0 c)
      × (elements (block_length b - 4) 0 c ++ get_or c (length_of b + 4) 0 ∷ get_or c (length_of b + 5) 0 ∷ get_or c (length_of b + 6) 0 ∷ get_or c (length_of b + 7) 0 ∷ []
      ≡ elements (block_length b) 0 c)
  seams whole = (refl, refl)
  seams old = (refl, refl)

  covered_again : covered_of body (slave_in body c) ≡ elements (block_length body - 4) 0 c
  unfolding covered_of
  covered_again =
      ap₂ ◌++◌
      (ap₂ ◌++◌ (body_again c bytes body) (ap bytes16 (sym site) ∙ field_again c bytes (pair (length_of body))))
      (ap bytes16 (sym far) ∙ field_again c bytes (pair (length_of body + 2)))
      ∙ (seams body).0

  all : elements (block_length body) 0 c ≡ c
  all = sym (elements_are (block_length body) 0 c (omega (arith, long))) ∙ take_all (block_length body) c (omega (arith, long))

  block_again : block_of body (slave_in body c) ≡ c
  unfolding block_of
  block_again =
      let l : ℕ = length_of body in
      ap sealed covered_again
      ∙ ap (λ (x : List ℕ). elements (block_length body - 4) 0 c ++ x)
      (sym (zero_only (elements (block_length body - 4) 0 c) (at 4) (at 5) (at 6) (at 7) (bytes (l + 4)) (bytes (l + 5)) (bytes (l + 6)) (bytes (l + 7))
      (ap register ((seams body).1 ∙ all) ∙ zero)))
      ∙ (seams body).1
      ∙ all

-- a block that fits
module _ (b : List ℕ) (bytes : Bytes b) (fits : block_fits (held b) b ≡ true) where
  abbrev body : Body
  body = body_at (distance b)

  from_bytes : Bytes (from_body b)
  unfolding from_body
  from_bytes = drop_bytes (length b - trailer_length - distance b) b bytes

  shape : shaped b ≡ true
  shape = (fitting (held b) b fits).shape

  pub body_held : take (length_of body) (from_body b) ≡ body_of body (held b)
  body_held =
      elements_are (length_of body) 0 (from_body b) (omega (arith, shape_room b shape, body_length_lem b shape, body_room (distance b) (shape_room b shape).0))
      ∙ sym (body_again (from_body b) from_bytes body)

  module _ (far : distance b ≡ length_of body) where
    trailer_is : drop (length_of body) (from_body b) ≡ trailer b
    unfolding from_body
    trailer_is =
        let k : length b - trailer_length - distance b + length_of body ≡ length b - trailer_length = omega (arith, shape_room b shape, far) in
        drop-drop (length_of body) (length b - trailer_length - distance b) b ∙ ap (λ (j : ℕ). drop j b) k

    in_trailer : (k : ℕ) → get_or (from_body b) (length_of body + k) 0 ≡ get_or (trailer b) k 0
    in_trailer k = sym (get_or-drop (length_of body) (from_body b) k 0) ∙ ap (λ (t : List ℕ). get_or t k 0) trailer_is

    pair_in : (k : ℕ) → be16_at (from_body b) (length_of body + k) ≡ be16_at (trailer b) k
    pair_in k =
        let next : length_of body + k + 1 ≡ length_of body + (k + 1) = omega arith in
        ap₂ be16 (in_trailer k) (ap (λ (j : ℕ). get_or (from_body b) j 0) next ∙ in_trailer (k + 1))

    pub block_held : from_body b ≡ block_of body (held b)
    block_held =
        let f = fitting (held b) b fits in
        sym
        (block_again body (from_body b) from_bytes (body_length_lem b shape ∙ ap (λ (d : ℕ). d + trailer_length) far) f.check
        (ap (be16_at (from_body b)) (omega arith) ∙ pair_in 0 ∙ f.site)
        (pair_in 2 ∙ far))

-- ---- by resume's reply

module _ (block : List ℕ) (b : Board) (e : (resume_of block b).reply ≡ given tt) where
  -- a reply that gives is that of a block that fits, and leaves its slave
  accepted : (block_fits (held block) block ≡ true) × ((resume_of block b).slave ≡ held block)
  unfolding resume_of resumed resume_refusal
  accepted =
      let kept = passed (settings_kept b) _ _ (given_zero (resume_refusal (held block) block b) tt tt e).0 in
      let fits = passed (block_fits (held block) block) _ _ kept.1 in
      let same = passed (same_board (held block).board b) _ _ fits.1 in
      (fits.0, ap (λ (r : Result (Unit {0})). r.slave) (resume_held (held block) block b kept.0 fits.0 same.0))

  module _ (bytes : Bytes block) where
    -- which body it has
    abbrev kind : Body
    kind = body_at (distance block)

    pub accepted_body : take (length_of kind) (from_body block) ≡ body_of kind (resume_of block b).slave
    accepted_body = body_held block bytes accepted.0 ∙ sym (ap (body_of kind) accepted.1)

    pub accepted_block : distance block ≡ length_of kind → from_body block ≡ block_of kind (resume_of block b).slave
    accepted_block far = block_held block bytes accepted.0 far ∙ sym (ap (block_of kind) accepted.1)
