-- What the writer writes and answers: document 01's numbers 18, 19, 8, 10, 11, the first that applies, or the packet of TS 101 191 table 1.
use Rattle.std.specs.Prelude.{ℕ, ◌+◌, ◌-◌, Bool, cond, ◌&&◌, List, [], ◌∷◌, ◌++◌, length, drop, replicate, leb, Result}
use Rattle.wire.specs.Reply.{must, Output, filled, reply_of}
use Rattle.wire.specs.Standards.{packet_length, sync_byte, mip_pid, section_beside, longest_addressing, dvb_second}
use Rattle.wire.specs.BigEndian.{bytes16, bytes24, bytes32}
use Rattle.check_value.specs.Register.{sealed}
use Rattle.times.specs.Release.{in_second}
use Rattle.addressing.specs.Entries.{well_formed}
use Rattle.notice.specs.declared.Notice.{Notice}
use Rattle.wire.specs.declared.Refusal.{Refusal}

-- 18, 19, 8, 10, 11, for an output of this length
unfoldable pub write_refusal : ℕ → Notice → List ℕ → ℕ
write_refusal room n field =
    must (leb packet_length room) 18
    (must (leb n.continuity 15) 19
    (must (leb n.reserved 32767) 19
    (must (leb (length field) longest_addressing) 8
    (must (well_formed field) 10
    (must (in_second dvb_second n.sts.0) 11
    (must (in_second dvb_second n.md.0) 11
    0))))))

-- the periodic flag and the 15 bits for future use
abbrev pub flags_of : Notice → ℕ
flags_of n = cond n.periodic (32768 + n.reserved) n.reserved

-- bytes 0 to 20: unit start and priority 1; scrambling 00, adaptation 01; the scheme 0
unfoldable pub head_of : Notice → ℕ → List ℕ
head_of n a =
    (sync_byte ∷ 0x60 ∷ mip_pid ∷ (0x10 + n.continuity) ∷ 0 ∷ (section_beside + a) ∷ [])
    ++ bytes16 n.pointer
    ++ bytes16 (flags_of n)
    ++ bytes24 n.sts.0
    ++ bytes24 n.md.0
    ++ bytes32 n.tps
    ++ (a ∷ [])

-- all bytes before the check value
unfoldable pub fields_of : Notice → List ℕ → List ℕ
fields_of n field = head_of n (length field) ++ field

-- every stuffing_byte is 0xFF
abbrev pub stuffing : ℕ → List ℕ
stuffing k = replicate k 0xFF

-- the whole packet
unfoldable pub mip_of : Notice → List ℕ → List ℕ
mip_of n field = sealed (fields_of n field) ++ stuffing (longest_addressing - length field)

-- the packet over the first bytes of an output, where it has room and the parts have their widths; else the output as it was. What the field's form and the times
-- are is not asked here
unfoldable pub fits : ℕ → Notice → List ℕ → Bool
fits room n field = leb packet_length room && leb n.continuity 15 && leb n.reserved 32767 && leb (length field) longest_addressing

unfoldable pub put_of : List ℕ → Notice → List ℕ → List ℕ
put_of out n field = cond (fits (length out) n field) (mip_of n field ++ drop packet_length out) out

-- what a write leaves: a number and the output as it was, or the packet, and all bytes after it kept
unfoldable pub write_of : List ℕ → Notice → List ℕ → Output
write_of out n field = filled (write_refusal (length out) n field) out (mip_of n field ++ drop packet_length out)

-- an answer, and the bytes that it leaves
abbrev pub output_of : Result (Unit {0}) Refusal → List ℕ → Output
output_of r out = record { reply = reply_of r; bytes = out }
