-- What a saved block is good for.
--     saved_resumes   a saved slave resumes as itself, its marks coasted too, on a board of its own settings, whatever stands in front of the block
--     another_board   on a board of another site, profile, n or TAD it gives 17 and that board's fresh hunting slave
--     resume_sound    whatever the bytes, the slave that resume leaves is sound and has the board's settings; settings out of limits
--                     leave the cold slave (Answers.resume_15)
use mathlib.Core.Path.{◌≡◌, refl, sym, ap, ◌∙◌, subst}
use mathlib.Core.Bool.{Bool, true, false}
use mathlib.Core.List.{List, ◌++◌}
use Prim.Native.Nat.{ℕ}
use native.Mathlib.Omega.{arith}
use lib.ListN.{length, take, drop}
use lib.Seq.{take_at}
use Rattle.std.proofs.lemmas.Bool.{false_from_ne_true}
use Rattle.std.proofs.lemmas.Bool.Decides.{nat_tests}
use Rattle.wire.specs.Reply.{refused, given}
use Rattle.wire.proofs.Tests.{passed, given_zero, kept_new}
use Rattle.state.specs.Profile.{settings_kept}
use Rattle.state.specs.Slave.{hunting}
use Rattle.state.specs.Sound.{sound}
use Rattle.state.specs.declared.Board.{Board}
use Rattle.state.specs.declared.Slave.{Slave}
use Rattle.state.proofs.Sound.{hunting_sound}
use Rattle.slave.specs.Answer.{Result, left}
use Rattle.saved.specs.Layout.{whole}
use Rattle.saved.specs.Block.{block_length, block_of, save_refusal, save_of, held, block_fits, same_board, resumed, resume_of}
use Rattle.saved.proofs.Body.{Fits}
use Rattle.saved.proofs.Fitting.{fitting}
use Rattle.saved.proofs.Answers.{resume_16, resume_17, resume_held}
use Rattle.saved.proofs.Own.{block_length_lem, held_own, own_fits, own_resumed}

-- ---- the board

one_board : (a b : Board) → same_board a b ≡ true → a ≡ b
unfolding same_board
one_board a b e = grind (arith, nat_tests)

-- ---- a save that was accepted

pub saved_block : (s : Slave) (out : List ℕ) → (save_of s out).reply ≡ given tt → (sound s ≡ true) × (take (block_length whole) (save_of s out).bytes ≡ block_of whole s)
unfolding save_of save_refusal
saved_block s out e =
    let none = (given_zero (save_refusal s (length out)) tt tt e).0 in (
      (passed (sound s) _ _ none).0,
      ap (take (block_length whole)) (kept_new _ out (block_of whole s ++ drop (block_length whole) out) none)
          ∙ take_at (block_of whole s) (drop (block_length whole) out) (block_length whole) (block_length_lem whole s),
    )

module _ (s : Slave) (f : Fits s) (out : List ℕ) (e : (save_of s out).reply ≡ given tt) where
  abbrev pub block : List ℕ
  block = take (block_length whole) (save_of s out).bytes

  module _ (front : List ℕ) where
    -- what resume makes of the saved block is what it makes of the slave's own
    same_block : (b : Board) → resume_of (front ++ block) b ≡ resumed s (front ++ block_of whole s) b
    unfolding resume_of
    same_block b =
        ap (λ (l : List ℕ). resume_of (front ++ l) b) (saved_block s out e).1
        ∙ ap (λ (x : Slave). resumed x (front ++ block_of whole s) b) (held_own whole s f front)

    pub saved_resumes : resume_of (front ++ block) s.board ≡ left s (given tt)
    saved_resumes = same_block s.board ∙ own_resumed whole s f front s (saved_block s out e).0 refl

    pub another_board : (b : Board) → settings_kept b ≡ true → (s.board ≡ b → ⊥) → resume_of (front ++ block) b ≡ left (hunting b) (refused 17)
    another_board b kept other =
        same_block b
        ∙ resume_17 s (front ++ block_of whole s) b kept (own_fits whole s f front s (saved_block s out e).0 refl)
        (false_from_ne_true (same_board s.board b) (λ q. other (one_board s.board b q)))

-- ---- any bytes

module _ (block : List ℕ) (b : Board) (kept : settings_kept b ≡ true) where
  -- sound, with the board's settings
  abbrev pub Left : Result (Unit {0}) → Type 0
  Left r = (sound r.slave ≡ true) × (r.slave.board ≡ b)

  -- whatever slave the block is read as
  module _ (s : Slave) where
    fresh : (k : ℕ) → resumed s block b ≡ left (hunting b) (refused k) → Left (resumed s block b)
    fresh k e = subst Left (sym e) (hunting_sound b kept, refl)

    resumed_sound : Left (resumed s block b)
    resumed_sound = go (block_fits s block) refl
      where
        board : block_fits s block ≡ true → (t : Bool) → same_board s.board b ≡ t → Left (resumed s block b)
        board f true e = subst Left (sym (resume_held s block b kept f e)) ((fitting s block f).is_sound, one_board s.board b e)
        board f false e = fresh 17 (resume_17 s block b kept f e)

        go : (t : Bool) → block_fits s block ≡ t → Left (resumed s block b)
        go true f = board f (same_board s.board b) refl
        go false f = fresh 16 (resume_16 s block b kept f)

  pub resume_sound : Left (resume_of block b)
  unfolding resume_of
  resume_sound = resumed_sound (held block)
