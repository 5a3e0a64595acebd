-- The premises of the theorems can be met, and the papers' examples of 16 to 18 hold.
use mathlib.Core.Path.{◌≡◌, refl, ap}
use mathlib.Core.Bool.{true}
use mathlib.Core.List.{List, []}
use Prim.Native.Nat.{ℕ}
use native.Mathlib.Omega.{arith}
use lib.IntN.{negsuc}
use lib.ListN.{take, replicate}
use Rattle.wire.specs.Reply.{refused, given}
use Rattle.check_value.specs.Register.{bit_in, bits_in, register_from, register}
use Rattle.times.specs.Whole.{within}
use Rattle.times.specs.Release.{delay_fits}
use Rattle.cadence.specs.Cadence.{at_some_rate, is_mega_frame, admits}
use Rattle.state.specs.Profile.{second, delay_kept, settings_kept}
use Rattle.state.specs.Slave.{uncounted, unknown, nothing, hunting}
use Rattle.state.specs.Sound.{is_zero, frequency_fits, index_fits, waiting_fits, is_unset, is_uncounted, hunting_fits, locked_fits, parts_fit, sound}
use Rattle.state.specs.declared.Board.{Board}
use Rattle.state.specs.declared.Slave.{Slave}
use Rattle.slave.specs.Answer.{left}
use Rattle.slave.specs.Step.{locked_at}
use Rattle.slave.specs.Calls.{start_of}
use Rattle.saved.specs.Layout.{whole, body_of, slave_in}
use Rattle.saved.specs.Block.{block_length, covered_of, block_of, save_refusal, save_of, shaped, from_body, block_fits, resume_refusal, resumed, resume_of}
use Rattle.saved.specs.Older.{older, older_block}
use Rattle.saved.proofs.Body.{Fits}
use Rattle.saved.proofs.Resumed.{saved_resumes, another_board}
use Rattle.saved.proofs.Older.{old_resumes}

abbrev board : ℕ → Board
board site = record { profile = 0; n = 2016; site = site; tad = 200 }

-- a locked slave with a negative OD, a pending notice, and 254 marks coasted: no packet or gap leaves such a one, but a body may hold it
abbrev locked : Slave
locked =
    record {
      board = board 7;
      settings = record { od = negsuc 50; frequency = negsuc 99_999; power = 300 };
      count = record (locked_at 2015 unknown) { coasted = 254 };
      waiting = record { pending = 1; sts = 9_999_999; md = 1100 };
    }

fits : Fits locked
fits = record { fields = refl; od = omega arith; frequency = omega arith }

abbrev room : List ℕ
room = replicate (block_length whole) 0

accepted : (save_of locked room).reply ≡ given tt
unfolding save_of save_refusal settings_kept admits is_mega_frame at_some_rate second sound parts_fit locked_fits frequency_fits index_fits waiting_fits delay_kept delay_fits within
accepted = refl

old_sound : sound (older locked) ≡ true
unfolding settings_kept admits is_mega_frame at_some_rate second sound parts_fit locked_fits frequency_fits index_fits waiting_fits delay_kept delay_fits within
old_sound = refl

pub resumes : resume_of (take (block_length whole) (save_of locked room).bytes) (board 7) ≡ left locked (given tt)
resumes = saved_resumes locked fits room accepted []

-- 17: saved by site 7, board is 8
pub site_8 : resume_of (take (block_length whole) (save_of locked room).bytes) (board 8) ≡ left (hunting (board 8)) (refused 17)
unfolding settings_kept admits is_mega_frame at_some_rate second
site_8 = another_board locked fits room accepted [] (board 8) refl (λ q. let e : ◌≡◌ {A = ℕ} 7 8 = ap (λ (b : Board). b.site) q in omega arith)

-- 16: phase 7, check right
abbrev phase7 : Slave
phase7 = record { board = board 7; settings = (hunting (board 7)).settings; count = uncounted 7 255; waiting = nothing }

pub phase_7 : resume_of (block_of whole phase7) (board 7) ≡ left (hunting (board 7)) (refused 16)
unfolding resume_of resumed resume_refusal start_of settings_kept admits is_mega_frame at_some_rate second block_fits shaped from_body slave_in block_of covered_of body_of register register_from bits_in bit_in sound parts_fit
phase_7 = refl

-- 16: a hunting slave's body with 254 in byte 30, check right
abbrev hunting_254 : Slave
hunting_254 = record (hunting (board 7)) { count = uncounted 1 254 }

pub hunts_254 : resume_of (block_of whole hunting_254) (board 7) ≡ left (hunting (board 7)) (refused 16)
unfolding resume_of resumed resume_refusal start_of settings_kept admits is_mega_frame at_some_rate second block_fits shaped from_body slave_in block_of covered_of body_of register register_from bits_in bit_in sound parts_fit hunting_fits is_unset is_zero is_uncounted
hunts_254 = refl

-- a block of the release before this one: its slave, with 255 for 254
pub old_locked : resume_of (older_block locked) (board 7) ≡ left (record locked { count = record (locked_at 2015 unknown) { coasted = 255 } }) (given tt)
old_locked = old_resumes locked fits [] old_sound

-- 18: document 01's 37 bytes
abbrev Short : ℕ → Type 0
Short k = save_of locked (replicate k 0) ≡ record { reply = refused 18; bytes = replicate k 0 }

pub short_37 : Short 37
unfolding save_of save_refusal settings_kept admits is_mega_frame at_some_rate second sound parts_fit locked_fits frequency_fits index_fits waiting_fits delay_kept delay_fits within
short_37 = refl

-- and 38, which the release before this one wrote
pub short : Short 37 × Short 38
unfolding save_of save_refusal settings_kept admits is_mega_frame at_some_rate second sound parts_fit locked_fits frequency_fits index_fits waiting_fits delay_kept delay_fits within
short = (short_37, refl)
