-- Laws of the refusals' numbers, and of replies by number.
use mathlib.Core.Path.{◌≡◌, refl, sym, ap}
use Prim.Native.Nat.{ℕ, zero, suc}
use native.Mathlib.Omega.{arith}
use Rattle.wire.specs.declared.Refusal.{Refusal}
use Rattle.wire.specs.declared.Refusal.TheVariants as refusal
use Rattle.wire.specs.Reply.{given, reply, number_of, refusal_number}

-- no refusal has number 0, which says that nothing refuses
pub refusal_positive : (r : Refusal) → refusal_number r ≡ 0 → ⊥
refusal_positive refusal.NotAPacket e = omega arith
refusal_positive refusal.SyncByte e = omega arith
refusal_positive refusal.Tick e = omega arith
refusal_positive refusal.ErrorIndicator e = omega arith
refusal_positive refusal.PacketIdentifier e = omega arith
refusal_positive refusal.HeaderBits e = omega arith
refusal_positive refusal.SynchronizationId e = omega arith
refusal_positive refusal.SectionLength e = omega arith
refusal_positive refusal.CheckValue e = omega arith
refusal_positive refusal.AddressingForm e = omega arith
refusal_positive refusal.Times e = omega arith
refusal_positive refusal.PointerOrIndex e = omega arith
refusal_positive refusal.Delay e = omega arith
refusal_positive refusal.Late e = omega arith
refusal_positive refusal.StartSettings e = omega arith
refusal_positive refusal.SavedBlock e = omega arith
refusal_positive refusal.OtherBoard e = omega arith
refusal_positive refusal.OutputLength e = omega arith
refusal_positive refusal.NoticeField e = omega arith
refusal_positive refusal.OtherProfile e = omega arith
refusal_positive refusal.ReaderLimit e = omega arith

-- a reply that gives has no number
pub given_zero : {A : Type 0} (n : ℕ) (a b : A) → given a ≡ reply n b → n ≡ 0
given_zero zero a b e = refl
given_zero (suc n) a b e = sym (ap number_of e)
