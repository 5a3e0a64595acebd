-- An update of the firmware, from the release before this one to this one, and back (document 02, Paper 12).
--     old_alike     a block of distance 30, whatever its bytes, resumes as it did, by every number and with every slave
--     old_resumes   so one that the release before this one saved resumes its slave, with 255 marks coasted
--     older_reads   that release resumes a block of this one's, all of it lent, as the slave without the new part
--     older_cut     and of its first 38 bytes, as many as that release's own blocks have, it gives 16 and hunts, as this one does
--     old_longer    so does an old block with one byte behind it: neither kind is taken for the other
use mathlib.Core.Path.{◌≡◌, refl, ap, ◌∙◌}
use mathlib.Core.Bool.{true, false}
use mathlib.Core.List.{List, [], ◌∷◌, ◌++◌}
use Prim.Native.Nat.{ℕ}
use native.Mathlib.Omega.{arith}
use lib.ListN.{take}
use Rattle.std.proofs.lemmas.Bool.Decides.{nat_tests}
use Rattle.wire.specs.Reply.{refused, given}
use Rattle.state.specs.Profile.{settings_kept}
use Rattle.state.specs.Slave.{hunting}
use Rattle.state.specs.Sound.{is_uncounted, hunting_fits, locked_fits, parts_fit, sound}
use Rattle.state.specs.declared.Board.{Board}
use Rattle.state.specs.declared.Slave.{Slave}
use Rattle.slave.specs.Answer.{left}
use Rattle.saved.specs.Layout.{whole, old, length_of, body_of, slave_in}
use Rattle.saved.specs.Block.{block_length, covered_of, block_of, save_of, distance, body_at, shaped, from_body, held, block_fits, resumed, resume_of}
use Rattle.saved.specs.Older.{older, older_block, older_held, older_resume_of}
use Rattle.saved.proofs.Body.{Fits}
use Rattle.saved.proofs.Answers.{resume_16}
use Rattle.saved.proofs.Own.{own_distance, own_slave, own_resumed}
use Rattle.saved.proofs.Resumed.{saved_block, block}

pub old_alike : (b : List ℕ) (board : Board) → distance b ≡ length_of old → resume_of b board ≡ older_resume_of b board
unfolding resume_of older_resume_of
old_alike b board far = ap (λ (d : ℕ). resumed (slave_in (body_at d) (from_body b)) b board) far

module _ (s : Slave) (f : Fits s) (front : List ℕ) where
  pub older_resumes : sound (older s) ≡ true → older_resume_of (front ++ older_block s) s.board ≡ left (older s) (given tt)
  unfolding older_resume_of
  older_resumes ok =
      ap (λ (x : Slave). resumed x (front ++ older_block s) s.board) (own_slave old s f front) ∙ own_resumed old s f front (older s) ok refl

  pub old_resumes : sound (older s) ≡ true → resume_of (front ++ older_block s) s.board ≡ left (older s) (given tt)
  old_resumes ok = old_alike (front ++ older_block s) s.board (own_distance old s f front) ∙ older_resumes ok

-- 255 for a sound slave's marks leaves it sound
older_sound : (s : Slave) → sound s ≡ true → sound (older s) ≡ true
unfolding sound parts_fit hunting_fits is_uncounted locked_fits
older_sound s ok = grind (arith, nat_tests)

-- where the shape is wrong it is 16, whatever slave the bytes are read as
unshaped : (b : List ℕ) (t : Slave) (board : Board) → settings_kept board ≡ true → shaped b ≡ false → resumed t b board ≡ left (hunting board) (refused 16)
unfolding block_fits
unshaped b t board kept e = resume_16 t b board kept (rw e refl)

longer_shape : (s : Slave) (x : ℕ) → shaped (older_block s ++ x ∷ []) ≡ false
unfolding shaped block_of covered_of body_of
longer_shape s x = grind (arith, nat_tests)

pub old_longer : (s : Slave) (x : ℕ) (b : Board) → settings_kept b ≡ true → resume_of (older_block s ++ x ∷ []) b ≡ left (hunting b) (refused 16)
unfolding resume_of
old_longer s x b kept = unshaped (older_block s ++ x ∷ []) (held (older_block s ++ x ∷ [])) b kept (longer_shape s x)

module _ (s : Slave) (f : Fits s) (out : List ℕ) (e : (save_of s out).reply ≡ given tt) where
  pub older_reads : (front : List ℕ) → older_resume_of (front ++ block s f out e) s.board ≡ left (older s) (given tt)
  unfolding older_resume_of slave_in
  older_reads front =
      let saved = saved_block s out e in
      ap (λ (l : List ℕ). older_resume_of (front ++ l) s.board) saved.1
      ∙ ap (λ (x : Slave). resumed (older x) (front ++ block_of whole s) s.board) (own_slave whole s f front)
      ∙ own_resumed whole s f front (older s) (older_sound s saved.0) refl

  abbrev cut : List ℕ
  cut = take (block_length old) (block s f out e)

  cut_shape : shaped cut ≡ false
  unfolding shaped block_of covered_of body_of
  cut_shape = ap (λ (l : List ℕ). shaped (take (block_length old) l)) (saved_block s out e).1 ∙ grind (arith, nat_tests)

  pub older_cut : (b : Board) → settings_kept b ≡ true
      → (older_resume_of cut b ≡ left (hunting b) (refused 16)) × (resume_of cut b ≡ left (hunting b) (refused 16))
  unfolding older_resume_of resume_of
  older_cut b kept = (unshaped cut (older_held cut) b kept cut_shape, unshaped cut (held cut) b kept cut_shape)
