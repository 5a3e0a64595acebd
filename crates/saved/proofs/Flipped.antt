-- A block with any one bit flipped is 16, of exactly its own bytes, whichever release saved it.
--     one_bit   of a saved block: no other distance leads to a body in it but 30, one byte in, where the byte of the profile is the high one of n
--     old_bit   of one that the release before this one saved
use mathlib.Core.Path.{◌≡◌, refl, sym, ap, ap₂, ◌∙◌}
use mathlib.Core.Bool.{Bool, true, false}
use mathlib.Core.List.{List, []}
use Prim.Native.Nat.{ℕ, ◌+◌, ◌-◌, ◌/◌, ◌%◌, ◌≤◌, ◌<◌}
use native.Mathlib.Omega.{arith}
use lib.Dec.{eqb, ltb}
use lib.ListN.{length, drop, get_or, length-set}
use lib.Seq.{get_or-drop, get_or-set_other}
use Rattle.std.proofs.lemmas.Bool.{false_from_ne_true, eqb-true, eqb-false, ltb-true, ltb-false}
use Rattle.wire.specs.Reply.{refused, given}
use Rattle.wire.specs.BigEndian.{be16}
use Rattle.check_value.specs.Register.{register}
use Rattle.check_value.proofs.Laws.{leaves_zero, flipped, misses_no_bit}
use Rattle.cadence.proofs.Lengths.{admitted_range}
use Rattle.state.specs.Profile.{settings_kept}
use Rattle.state.specs.Slave.{hunting}
use Rattle.state.specs.Sound.{sound}
use Rattle.state.specs.declared.Board.{Board}
use Rattle.state.specs.declared.Slave.{Slave}
use Rattle.state.proofs.Sound.{admitted, profile_small, settings_kept_lem}
use Rattle.slave.specs.Answer.{left}
use Rattle.saved.specs.Layout.{Body, whole, old, length_of, body_of, slave_in}
use Rattle.saved.specs.Block.{trailer_length, block_length, covered_of, block_of, save_of, distance, from_body, held, block_fits, resume_of}
use Rattle.saved.specs.Older.{older_block}
use Rattle.saved.proofs.Body.{Fits}
use Rattle.saved.proofs.Shape.{shape_room}
use Rattle.saved.proofs.Fitting.{fitting}
use Rattle.saved.proofs.Answers.{resume_16}
use Rattle.saved.proofs.Own.{block_length_lem, block_bytes, own_distance}
use Rattle.saved.proofs.Resumed.{saved_block, block}

-- bytes that fit and are no more than body and trailer leave zero
whole_zero : (t : Slave) (d : List ℕ) → block_fits t d ≡ true → length d ≡ distance d + trailer_length → register d ≡ 0
unfolding from_body
whole_zero t d e h =
    let k : length d - trailer_length - distance d ≡ 0 = omega arith in
    sym (ap (λ (j : ℕ). register (drop j d)) k) ∙ (fitting t d e).check

-- where the distance stands in as many bytes as save writes
far_at : (d : List ℕ) → length d ≡ block_length whole → distance d ≡ be16 (get_or d 33 0) (get_or d 34 0)
far_at d h =
    let k : length d - trailer_length ≡ 31 = omega arith in
    ap (λ (j : ℕ). be16 (get_or (drop j d) 2 0) (get_or (drop j d) 3 0)) k ∙ ap₂ be16 (get_or-drop 31 d 2 0) (get_or-drop 31 d 3 0)

module _ (body : Body) (s : Slave) (f : Fits s) (i k : ℕ) (hi : i < block_length body) (hk : k < 8) where
  abbrev bytes : List ℕ
  bytes = block_of body s

  abbrev pub bit : List ℕ
  bit = flipped bytes i k

  long : length bit ≡ block_length body
  long = length-set bytes i _ ∙ block_length_lem body s

  -- with the body's own distance the check value finds it
  found : (t : Slave) → distance bit ≡ length_of body → block_fits t bit ≡ true → ⊥
  unfolding block_of
  found t far e =
      misses_no_bit bytes i k (omega (arith, block_length_lem body s)) hk (block_bytes body s f)
      (whole_zero t bit e (omega (arith, long, far)) ∙ sym (leaves_zero (covered_of body s)))

  others : (j : ℕ) → (j ≡ i → ⊥) → get_or bit j 0 ≡ get_or bytes j 0
  others j h = get_or-set_other bytes i j _ 0 h

-- another distance in a saved block is 30, whose last bit is then the one flipped: the profile would be the high byte of n
module _ (s : Slave) (f : Fits s) (ok : sound s ≡ true) (i k : ℕ) (hi : i < block_length whole) (hk : k < 8) where
  abbrev saved : List ℕ
  saved = bit whole s f i k hi hk

  high : get_or (block_of whole s) 2 0 ≡ s.board.n / 256 % 256
  unfolding block_of covered_of body_of
  high = refl

  profile_in : distance saved ≡ 30 → (held saved).board.profile ≡ get_or saved 2 0
  unfolding slave_in from_body
  profile_in far =
      let j : length saved - trailer_length - distance saved ≡ 1 = omega (arith, long whole s f i k hi hk) in
      ap (λ (j : ℕ). get_or (drop j saved) 1 0) j ∙ get_or-drop 1 saved 1 0

  far_kept : i ≤ 2 → distance saved ≡ length_of whole
  far_kept h =
      far_at saved (long whole s f i k hi hk)
      ∙ ap₂ be16 (others whole s f i k hi hk 33 (λ e. omega arith)) (others whole s f i k hi hk 34 (λ e. omega arith))
      ∙ sym (far_at (block_of whole s) (block_length_lem whole s))
      ∙ own_distance whole s f []

  one_in : distance saved ≡ 30 → block_fits (held saved) saved ≡ true → ⊥
  one_in far e = by (ltb 2 i) refl
    where
      small : (held saved).board.profile < 2
      small = profile_small (held saved).board (settings_kept_lem (held saved) (fitting (held saved) saved e).is_sound)

      by : (b : Bool) → ltb 2 i ≡ b → ⊥
      by true h =
          omega (
            arith,
            small,
            profile_in far,
            others whole s f i k hi hk 2 (λ q. let x = ltb-true _ _ h in omega arith),
            high,
            admitted_range s.board.profile s.board.n (admitted s.board (settings_kept_lem s ok)),
          )
      by false h = let x = far_kept (ltb-false _ _ h) in omega arith

  misfit : block_fits (held saved) saved ≡ true → ⊥
  misfit e = by (eqb (distance saved) 30) refl
    where
      room : (length_of old ≤ distance saved) × (distance saved + trailer_length ≤ length saved)
      room = shape_room saved (fitting (held saved) saved e).shape

      by : (b : Bool) → eqb (distance saved) 30 ≡ b → ⊥
      by true h = one_in (eqb-true _ _ h) e
      by false h = found whole s f i k hi hk (held saved) (omega (arith, room, long whole s f i k hi hk, eqb-false _ _ h)) e

-- 16 on any board
flip_refused : (d : List ℕ) (b : Board) → settings_kept b ≡ true → (block_fits (held d) d ≡ true → ⊥) → resume_of d b ≡ left (hunting b) (refused 16)
unfolding resume_of
flip_refused d b kept unfit = resume_16 (held d) d b kept (false_from_ne_true (block_fits (held d) d) unfit)

pub one_bit : (s : Slave) (f : Fits s) (out : List ℕ) (e : (save_of s out).reply ≡ given tt) (i k : ℕ) → i < block_length whole → k < 8
    → (b : Board) → settings_kept b ≡ true → resume_of (flipped (block s f out e) i k) b ≡ left (hunting b) (refused 16)
one_bit s f out e i k hi hk b kept =
    let saved = saved_block s out e in
    ap (λ (l : List ℕ). resume_of (flipped l i k) b) saved.1 ∙ flip_refused _ b kept (misfit s f saved.0 i k hi hk)

pub old_bit : (s : Slave) → Fits s → (i k : ℕ) → i < block_length old → k < 8
    → (b : Board) → settings_kept b ≡ true → resume_of (flipped (older_block s) i k) b ≡ left (hunting b) (refused 16)
old_bit s f i k hi hk b kept =
    let d : List ℕ = bit old s f i k hi hk in
    flip_refused d b kept
    (λ q. found old s f i k hi hk (held d) (omega (arith, shape_room d (fitting (held d) d q).shape, long old s f i k hi hk)) q)
