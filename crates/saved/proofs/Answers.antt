-- What save puts and answers, and what resume answers, number by number.
use mathlib.Core.Path.{◌≡◌, refl, ap, ◌∙◌}
use mathlib.Core.Bool.{true, false}
use mathlib.Core.List.{List, [], ◌∷◌, ◌++◌}
use Prim.Native.Nat.{ℕ, ◌+◌, ◌-◌, ◌≤◌, ◌<◌}
use native.Mathlib.Omega.{arith}
use lib.ListN.{length, take, drop, length-append, length-drop}
use lib.Seq.{take_at}
use borrow.Author.Tests.{le-leb, lt-leb}
use Rattle.wire.specs.Reply.{refused, given}
use Rattle.wire.specs.BigEndian.{bytes32}
use Rattle.wire.proofs.Puts.{put_behind}
use Rattle.check_value.specs.Register.{register, sealed_at}
use Rattle.check_value.proofs.Sealing.{seal_fits}
use Rattle.state.specs.Profile.{settings_kept}
use Rattle.state.specs.Slave.{cold, hunting}
use Rattle.state.specs.Sound.{sound}
use Rattle.state.specs.declared.Board.{Board}
use Rattle.state.specs.declared.Slave.{Slave}
use Rattle.slave.specs.Answer.{left}
use Rattle.slave.specs.Calls.{start_of}
use Rattle.saved.specs.Layout.{Body, whole, old, length_of, pair, body_fields, put_in, put_all, body_of}
use Rattle.saved.specs.Block.{block_length, covered_of, block_of, save_refusal, save_of, block_fits, same_board, resume_refusal, resumed}
use Rattle.saved.proofs.Body.{put_packed}

-- ---- save

-- a refused save keeps the output, an accepted one all bytes after the block
module _ (s : Slave) (out : List ℕ) where
  pub save_15 : sound s ≡ false → save_of s out ≡ record { reply = refused 15; bytes = out }
  unfolding save_of save_refusal
  save_15 e = rw e

  module _ (e : sound s ≡ true) where
    pub save_18 : length out < block_length whole → save_of s out ≡ record { reply = refused 18; bytes = out }
    unfolding save_of save_refusal
    save_18 h = rw (e, lt-leb (block_length whole) (length out) h)

    pub save_done : block_length whole ≤ length out → save_of s out ≡ record { reply = given tt; bytes = block_of whole s ++ drop (block_length whole) out }
    unfolding save_of save_refusal
    save_done h = rw (e, le-leb (block_length whole) (length out) h)

pub covered_length : (body : Body) (s : Slave) → length (covered_of body s) ≡ block_length body - 4
unfolding covered_of body_of
covered_length whole s = refl
covered_length old s = refl

-- body, site and distance put at the front, and sealed
pub block_put : (s : Slave) (d : List ℕ) → block_length whole ≤ length d
    → sealed_at (block_length whole - 4) (put_in (put_in (put_all d (body_fields whole s)) (pair (length_of whole)) s.board.site) (pair (length_of whole + 2)) (length_of whole))
    ≡ block_of whole s ++ drop (block_length whole) d
unfolding covered_of block_of body_of
block_put s d h =
    let far : ℕ = length_of whole in
    let at : ℕ = block_length whole - 4 in
    let c : List ℕ = covered_of whole s in
    let covered : put_in (put_in (put_all d (body_fields whole s)) (pair far) s.board.site) (pair (far + 2)) far ≡ c ++ drop at d =
    put_packed d (body_fields whole s ++ (pair far, s.board.site) ∷ (pair (far + 2), far) ∷ []) 0 [] refl refl (omega arith) in
    let front : take at (c ++ drop at d) ≡ c = take_at c (drop at d) at (covered_length whole s) in
    ap (sealed_at at) covered
    ∙ seal_fits at (c ++ drop at d) (omega (arith, length-append c (drop at d), covered_length whole s, length-drop at d))
    ∙ ap (λ (x : List ℕ). take at (c ++ drop at d) ++ bytes32 (register x) ++ drop (block_length whole) (c ++ drop at d)) front
    ∙ put_behind c (bytes32 (register c)) d at (covered_length whole s)

-- ---- resume

-- of a block that is read as some slave
module _ (s : Slave) (block : List ℕ) (b : Board) where
  pub resume_15 : settings_kept b ≡ false → resumed s block b ≡ left cold (refused 15)
  unfolding resumed resume_refusal start_of
  resume_15 e = rw e

  module _ (e : settings_kept b ≡ true) where
    pub resume_16 : block_fits s block ≡ false → resumed s block b ≡ left (hunting b) (refused 16)
    unfolding resumed resume_refusal start_of
    resume_16 f = rw (e, f)

    module _ (f : block_fits s block ≡ true) where
      pub resume_17 : same_board s.board b ≡ false → resumed s block b ≡ left (hunting b) (refused 17)
      unfolding resumed resume_refusal start_of
      resume_17 h = rw (e, f, h)

      pub resume_held : same_board s.board b ≡ true → resumed s block b ≡ left s (given tt)
      unfolding resumed resume_refusal start_of
      resume_held h = rw (e, f, h)
