-- A tick of the other clock is none of the slave's: whatever its count, the packet is refused with 3 and the slave is kept.
use mathlib.Core.Path.{◌≡◌, refl, sym, ap, ◌∙◌}
use mathlib.Core.Bool.{Bool, true, false, cond}
use mathlib.Core.List.{List}
use Prim.Native.Nat.{ℕ}
use lib.Dec.{eqb}
use lib.ListN.{length, get_or}
use native.Mathlib.Omega.{arith}
use Rattle.wire.specs.Reply.{refused}
use Rattle.wire.specs.Standards.{dvb_second, a110_second, packet_length, sync_byte}
use Rattle.times.specs.Release.{in_second}
use Rattle.state.specs.Profile.{second}
use Rattle.state.specs.Sound.{sound}
use Rattle.state.specs.declared.Slave.{Slave}
use Rattle.judging.proofs.Judging.{arrival_3}
use Rattle.slave.specs.Answer.{left}
use Rattle.slave.specs.Calls.{packet_of}
use Rattle.slave.proofs.Calling.{ready_is, packet_is, call_refused}
use Rattle.vikombare.specs.Flat.{no_tick, tick_on}
use Rattle.vikombare.specs.declared.Tick.{Tick}

-- no tick is beyond the second of either profile
beyond_both : (y : Bool) → in_second (cond y a110_second dvb_second) no_tick ≡ false
beyond_both true = refl
beyond_both false = refl

beyond : (profile : ℕ) → in_second (second profile) no_tick ≡ false
unfolding second
beyond profile = beyond_both (eqb profile 1)

pub other_clock : (s : Slave) (p : List ℕ) (t : Tick) (limit : ℕ) → sound s ≡ true → length p ≡ packet_length → get_or p 0 0 ≡ sync_byte → eqb s.board.profile t.profile ≡ false
    → packet_of s p (tick_on s.board.profile t) limit ≡ left s (refused 3)
other_clock s p t limit h l y d =
    let none : tick_on s.board.profile t ≡ no_tick = ap (λ (b : Bool). cond b t.count no_tick) d in
    let three = arrival_3 s.board.profile p no_tick l y (beyond s.board.profile) ∙ sym (ready_is s p no_tick h) in
    ap (λ (k : ℕ). packet_of s p k limit) none ∙ sym (call_refused s p no_tick _ 3 three (λ e. omega arith) ∙ packet_is s p no_tick limit (ap (λ (k : ℕ). eqb k 0) l))
