-- A call with a packet: 15 and 1 to 3 refuse it, else it is a judged step of a sound slave. What follows them is a packet's judgement or a numbers notice's.
-- An empty packet is refused by neither form, and is a gap of one.
use mathlib.Core.Path.{◌≡◌, refl}
use mathlib.Core.Bool.{Bool, true, false, cond}
use mathlib.Core.List.{List}
use Prim.Native.Nat.{ℕ}
use native.Mathlib.Omega.{arith}
use lib.Dec.{eqb}
use borrow.Author.Tests.{eq-eqb, ne_eqb}
use Rattle.std.proofs.lemmas.Bool.Decides.{nat_tests}
use Rattle.wire.specs.Reply.{refused, must}
use Rattle.state.specs.Profile.{settings_kept}
use Rattle.state.specs.Slave.{cold}
use Rattle.state.specs.Sound.{parts_fit, sound}
use Rattle.state.specs.declared.Slave.{Slave}
use Rattle.judging.specs.Judge.{unless_refused, is_empty, arrival_refusal, judge_arrived, judge_given}
use Rattle.judging.specs.Judgement.{Judgement, Refuse}
use Rattle.judging.specs.declared.Numbers.{Numbers}
use Rattle.judging.proofs.Judging.{refuses, arrived_length}
use Rattle.slave.specs.Answer.{Report, Result, left}
use Rattle.slave.specs.Calls.{unless15, step_of, ready_refusal, packet_of, numbers_of}
use Rattle.slave.specs.Ways.{lost_by}

-- 15 is none of the numbers of an arrival
apart : (a b c : Bool) → must a 1 (must b 2 (must c 3 0)) ≡ 15 → ⊥
apart false b c e = omega arith
apart true false c e = omega arith
apart true true false e = omega arith
apart true true true e = omega arith

module _ (s : Slave) (p : List ℕ) (tick : ℕ) where
  arrival_apart : arrival_refusal s.board.profile p tick ≡ 15 → ⊥
  unfolding arrival_refusal
  arrival_apart e = grind (arith, nat_tests)

  -- where nothing refuses, the slave is sound
  pub ready_sound : ready_refusal s p tick ≡ 0 → (sound s ≡ true) × (arrival_refusal s.board.profile p tick ≡ 0)
  unfolding ready_refusal
  ready_sound e = grind (arith, nat_tests)

  pub ready_is : sound s ≡ true → ready_refusal s p tick ≡ arrival_refusal s.board.profile p tick
  unfolding ready_refusal
  ready_is h = rw h

  -- a call whose packet is judged so
  abbrev pub judged_call : Judgement → Result Report
  judged_call j = unless15 (sound s) (step_of s (unless_refused (arrival_refusal s.board.profile p tick) j) tick)

  pub packet_is : (limit : ℕ) → is_empty p ≡ false → judged_call (judge_arrived s.board s.settings p limit) ≡ packet_of s p tick limit
  unfolding packet_of
  packet_is limit e = rw e refl

  pub packet_lost : (limit : ℕ) → is_empty p ≡ true → lost_by s ≡ packet_of s p tick limit
  unfolding packet_of step_of
  packet_lost limit e = rw e refl

  pub numbers_is : (x : Numbers) → judged_call (cond (eqb s.board.profile 0) (Refuse 20) (judge_given s.board s.settings p x)) ≡ numbers_of s p tick x
  unfolding numbers_of
  numbers_is x = refl

  module _ (j : Judgement) where
    -- 15 leaves the cold slave, another number the slave as it is
    pub call_refused : (n : ℕ) → n ≡ ready_refusal s p tick → (n ≡ 0 → ⊥) → left (cond (eqb n 15) cold s) (refused n) ≡ judged_call j
    unfolding ready_refusal step_of
    call_refused n e h = let a = arrival_apart in grind (arith, nat_tests, refuses)

    pub call_steps : ready_refusal s p tick ≡ 0 → step_of s j tick ≡ judged_call j
    call_steps e = let r = ready_sound e in rw (r.0, r.1)

-- ---- the same, call by call: 15, then 1 to 3, then 20 of a numbers notice, then the step

-- a slave is sound if its settings are kept, and then its parts fit
module _ (s : Slave) where
  pub unsound_settings : settings_kept s.board ≡ false → sound s ≡ false
  unfolding sound
  unsound_settings k = rw k

  module _ (k : settings_kept s.board ≡ true) where
    pub unsound_parts : parts_fit s ≡ false → sound s ≡ false
    unfolding sound
    unsound_parts f = rw (k, f)

    pub sound_parts : parts_fit s ≡ true → sound s ≡ true
    unfolding sound
    sound_parts f = rw (k, f)

-- 15, which leaves the cold slave
abbrev pub refusal : {A : Type 0} → Result A
refusal = left cold (refused 15)

module _ (s : Slave) (p : List ℕ) (tick : ℕ) where
  module _ (limit : ℕ) where
    -- 15 of every packet, an empty one too
    pub packet_cold : sound s ≡ false → refusal ≡ packet_of s p tick limit
    unfolding packet_of
    packet_cold k = rw k

    module _ (k : sound s ≡ true) where
      -- 1 to 3 leave the slave as it is; an empty packet gets none of them
      pub packet_refused : is_empty p ≡ false → (n : ℕ) → n ≡ arrival_refusal s.board.profile p tick → (n ≡ 0 → ⊥) → left s (refused n) ≡ packet_of s p tick limit
      unfolding packet_of step_of
      packet_refused f n e h = rw (k, f, ← e, refuses n (judge_arrived s.board s.settings p limit) h)

      -- a packet with none of them is not empty
      pub packet_steps : arrival_refusal s.board.profile p tick ≡ 0 → (j : Judgement) → j ≡ judge_arrived s.board s.settings p limit → step_of s j tick ≡ packet_of s p tick limit
      unfolding packet_of
      packet_steps a j e = rw (k, arrived_length s.board.profile p tick a, a, e)

  module _ (x : Numbers) where
    pub numbers_cold : sound s ≡ false → refusal ≡ numbers_of s p tick x
    unfolding numbers_of
    numbers_cold k = rw k

    module _ (k : sound s ≡ true) where
      pub numbers_refused : (n : ℕ) → n ≡ arrival_refusal s.board.profile p tick → (n ≡ 0 → ⊥) → left s (refused n) ≡ numbers_of s p tick x
      unfolding numbers_of step_of
      numbers_refused n e h = rw (k, ← e, refuses n _ h)

      module _ (a : arrival_refusal s.board.profile p tick ≡ 0) where
        -- 20 in profile 0
        pub numbers_20 : s.board.profile ≡ 0 → left s (refused 20) ≡ numbers_of s p tick x
        unfolding numbers_of step_of
        numbers_20 z = rw (k, a, eq-eqb s.board.profile 0 z)

        pub numbers_steps : (s.board.profile ≡ 0 → ⊥) → (j : Judgement) → j ≡ judge_given s.board s.settings p x → step_of s j tick ≡ numbers_of s p tick x
        unfolding numbers_of
        numbers_steps z j e = rw (k, a, ne_eqb s.board.profile 0 z, e)
