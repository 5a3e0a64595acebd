-- What a call answers: a number that refuses, of document 01's table "Numbers a call can refuse with" or of document 02, or what the call gives.
use Rattle.std.specs.Prelude.{ℕ, zero, suc, Bool, true, false, List, Result, Ok, Err}
use Rattle.wire.specs.declared.Refusal.{Refusal}
use Rattle.wire.specs.declared.Refusal.TheVariants as refusal

pub data Reply (A : Type 0) : Type 0 where
  refused : ℕ → Reply A
  given : A → Reply A

-- the number n unless the condition holds, else what follows: a chain of these gives the first number that applies, and 0 where none does
abbrev pub must : Bool → ℕ → ℕ → ℕ
must true n rest = rest
must false n rest = n

-- the first of two numbers that is not 0
abbrev pub or_else : ℕ → ℕ → ℕ
or_else zero n = n
or_else (suc m) n = suc m

-- a number refuses; 0 gives
abbrev pub reply : {A : Type 0} → ℕ → A → Reply A
reply zero a = given a
reply (suc n) a = refused (suc n)

-- a reply's number, 0 where it gives
abbrev pub number_of : {A : Type 0} → Reply A → ℕ
number_of (refused n) = n
number_of (given a) = 0

-- a number keeps the old, 0 lets the new stand
abbrev pub kept_by : {A : Type 0} → ℕ → A → A → A
kept_by zero old new = new
kept_by (suc n) old new = old

-- what a call that fills a lent buffer leaves: its reply, and the bytes of the buffer
pub record Output : Type 0 where
  pub reply : Reply (Unit {0})
  pub bytes : List ℕ

-- a number refuses and keeps the old bytes, 0 lets the new ones stand
abbrev pub filled : ℕ → List ℕ → List ℕ → Output
filled n old new = record { reply = reply n tt; bytes = kept_by n old new }

-- ---- the code's answers in these numbers and values

-- the papers' number of each refusal; 26 is of document 02, Paper 9
abbrev pub refusal_number : Refusal → ℕ
refusal_number refusal.NotAPacket = 1
refusal_number refusal.SyncByte = 2
refusal_number refusal.Tick = 3
refusal_number refusal.ErrorIndicator = 4
refusal_number refusal.PacketIdentifier = 5
refusal_number refusal.HeaderBits = 6
refusal_number refusal.SynchronizationId = 7
refusal_number refusal.SectionLength = 8
refusal_number refusal.CheckValue = 9
refusal_number refusal.AddressingForm = 10
refusal_number refusal.Times = 11
refusal_number refusal.PointerOrIndex = 12
refusal_number refusal.Delay = 13
refusal_number refusal.Late = 14
refusal_number refusal.StartSettings = 15
refusal_number refusal.SavedBlock = 16
refusal_number refusal.OtherBoard = 17
refusal_number refusal.OutputLength = 18
refusal_number refusal.NoticeField = 19
refusal_number refusal.OtherProfile = 20
refusal_number refusal.ReaderLimit = 26

abbrev pub reply_of : {A : Type 0} → Result A Refusal → Reply A
reply_of (Ok a) = given a
reply_of (Err r) = refused (refusal_number r)
