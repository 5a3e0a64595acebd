-- Reading and writing undo each other, and no packet with one bit changed is read, whatever the reader's limit on the addressing field.
--     written_read        what an accepted write wrote is read back as exactly its fields, by every reader within whose limit it is
--     written_over        any other refuses it with 26
--     written_addressing  and as exactly its addressing field
--     rewrite_accepted    what was read is accepted by the writer
--     read_written        what is read and written again is the same packet, where its stuffing is 0xFF
--     one_bit_refused     an accepted packet with one bit of its bytes 0 to 24 + a flipped is refused, by a reader of any limit
use mathlib.Core.Path.{◌≡◌, refl, sym, ap, ap₂, ◌∙◌, subst}
use mathlib.Core.Bool.{Bool, true, false, cond}
use mathlib.Core.List.{List, ◌++◌, append_assoc}
use Prim.Native.Nat.{ℕ, zero, suc, ◌+◌, ◌-◌, ◌%◌, ◌≤◌, ◌<◌, ◌^◌}
use native.Mathlib.Decide.{ℕ_discrete}
use native.Mathlib.Omega.{arith}
use lib.Bits.{bit_xor}
use lib.Dec.{leb}
use lib.ListN.{length, take, drop, get_or, set, length-append, take-append-drop}
use lib.Seq.{take_at, take-add, length-take-le, get_or-take, get_or-set_same, get_or-set_other, take-set-lt}
use borrow.Author.Tests.{le-leb, lt-leb, ltb-true}
use Rattle.wire.specs.Reply.{refused, given, reply, Output}
use Rattle.wire.specs.Standards.{packet_length, longest_addressing, dvb_second}
use Rattle.wire.specs.BigEndian.{be16, byte0, byte1, bytes32}
use Rattle.wire.proofs.Tests.{given_output}
use Rattle.wire.proofs.Numbers.{spelled16, spelled24, spelled32}
use Rattle.wire.proofs.Bytes.{Bytes, take_bytes, elements, elements_are}
use Rattle.check_value.specs.Register.{register, sealed}
use Rattle.check_value.proofs.Sealing.{sealed_length}
use Rattle.check_value.proofs.Laws.{leaves_zero, zero_only, flipped, flip_differs, misses_no_bit}
use Rattle.times.specs.Release.{in_second}
use Rattle.addressing.specs.Entries.{well_formed}
use Rattle.notice.specs.Mip.{individual_addressing_length, addressing_field, through_check, notice_in}
use Rattle.writer.specs.Writable.{Writable}
use Rattle.notice.specs.Reader.{limit_of, read_refusal, read_of}
use Rattle.writer.specs.Writer.{write_refusal, head_of, fields_of, stuffing, mip_of, write_of}
use Rattle.notice.specs.declared.Notice.{Notice}
use Rattle.notice.proofs.Sound.{Sound, accepted_sound, sound_reads, field_whole, reads_sound}
use Rattle.notice.proofs.Limit.{over_read, sound_front}
use Rattle.writer.proofs.Writing.{fields_length, length_stuffing, judged, write_none}
use Rattle.writer.proofs.Front.{head_again}

-- ---- written, then read

-- a notice whose pointer and TPS are numbers of their widths, as those of every notice that code holds are
pub record Fits (n : Notice) : Type 0 where
  pub pointer : n.pointer < 65536
  pub tps : n.tps < 2 ^ 32

-- a time within the second has 24 bits
time_fits : (t : ℕ) → in_second dvb_second t ≡ true → t < 16777216
time_fits t e = omega (arith, ltb-true t dvb_second e)

-- the periodic flag is the top bit
flag_back : (t : Bool) (r : ℕ) → r ≤ 32767 → leb 128 (byte1 (cond t (32768 + r) r)) ≡ t
flag_back true r h = le-leb 128 (byte1 (32768 + r)) (omega arith)
flag_back false r h = lt-leb 128 (byte1 r) (omega arith)

bits_back : (t : Bool) (r : ℕ) → r ≤ 32767 → be16 (byte1 (cond t (32768 + r) r)) (byte0 (cond t (32768 + r) r)) % 32768 ≡ r
bits_back true r h = omega arith
bits_back false r h = omega arith

module _ (n : Notice) (f : List ℕ) (space : ℕ) (w : Writable space n f) where
  packet_parts : mip_of n f ≡ sealed (fields_of n f) ++ stuffing (longest_addressing - length f)
  unfolding mip_of
  packet_parts = refl

  sealed_end : length (sealed (fields_of n f)) ≡ 25 + length f
  sealed_end = sealed_length (fields_of n f) ∙ omega (arith, fields_length n f)

  packet_length_lem : length (mip_of n f) ≡ packet_length
  packet_length_lem =
      ap length packet_parts
      ∙ length-append (sealed (fields_of n f)) (stuffing (longest_addressing - length f))
      ∙ omega (arith, sealed_end, length_stuffing (longest_addressing - length f), w.short)

  packet_check : register (take (25 + length f) (mip_of n f)) ≡ 0
  packet_check =
      ap (λ (s : List ℕ). register (take (25 + length f) s)) packet_parts
      ∙ ap register (take_at (sealed (fields_of n f)) (stuffing (longest_addressing - length f)) (25 + length f) sealed_end)
      ∙ leaves_zero (fields_of n f)

  pub packet_field : take (length f) (drop 21 (mip_of n f)) ≡ f
  unfolding mip_of fields_of head_of
  packet_field =
      ap (take (length f)) (append_assoc f (bytes32 (register (fields_of n f))) (stuffing (longest_addressing - length f)))
      ∙ take_at f (bytes32 (register (fields_of n f)) ++ stuffing (longest_addressing - length f)) (length f) refl

  module _ (e : write_refusal space n f ≡ 0) (k : Fits n) where
    pub packet_notice : notice_in (mip_of n f) ≡ n
    unfolding mip_of fields_of head_of
    packet_notice =
        let j = judged space n f e in
        let c : (0x10 + n.continuity) % 16 ≡ n.continuity = omega (arith, w.counter) in
        λ i. record {
          continuity = c i;
          pointer = spelled16 n.pointer k.pointer i;
          periodic = flag_back n.periodic n.reserved w.bits i;
          reserved = bits_back n.periodic n.reserved w.bits i;
          sts = record { 0 = spelled24 n.sts.0 (time_fits n.sts.0 j.2) i };
          md = record { 0 = spelled24 n.md.0 (time_fits n.md.0 j.3) i };
          tps = spelled32 n.tps k.tps i;
        }

    pub packet_sound : (limit : ℕ) → length f ≤ limit_of limit → Sound (mip_of n f) limit
    unfolding mip_of fields_of head_of
    packet_sound limit h =
        let j = judged space n f e in
        record {
          long = packet_length_lem;
          sync = refl;
          whole = refl;
          pid = refl;
          start = refl;
          control = omega (arith, w.counter);
          scheme = refl;
          room = w.short;
          section = refl;
          within = h;
          check = packet_check;
          form = ap well_formed packet_field ∙ j.1;
          sts = ap (in_second dvb_second) (spelled24 n.sts.0 (time_fits n.sts.0 j.2)) ∙ j.2;
          md = ap (in_second dvb_second) (spelled24 n.md.0 (time_fits n.md.0 j.3)) ∙ j.3;
        }

-- what an accepted write left in the first 188 bytes of the output is read back as exactly its fields
module _ (out : List ℕ) (n : Notice) (f : List ℕ) (e : write_refusal (length out) n f ≡ 0) (k : Fits n) where
  fitting : Writable (length out) n f
  fitting = (judged (length out) n f e).0

  left : take packet_length (write_of out n f).bytes ≡ mip_of n f
  unfolding write_of
  left =
      ap (λ (o : Output). take packet_length o.bytes) (given_output _ out (mip_of n f ++ drop packet_length out) e)
      ∙ take_at (mip_of n f) (drop packet_length out) packet_length (packet_length_lem n f (length out) fitting)

  pub written_read : (limit : ℕ) → length f ≤ limit_of limit → read_of (take packet_length (write_of out n f).bytes) limit ≡ given n
  written_read limit h =
      ap (λ (s : List ℕ). read_of s limit) left
      ∙ sound_reads (mip_of n f) limit (packet_sound n f (length out) fitting e k limit h)
      ∙ ap given (packet_notice n f (length out) fitting e k)

  pub written_over : (limit : ℕ) → limit_of limit < length f → read_of (take packet_length (write_of out n f).bytes) limit ≡ refused 26
  unfolding mip_of fields_of head_of
  written_over limit h =
      ap (λ (s : List ℕ). read_of s limit) left
      ∙ (let q = sound_front (mip_of n f) longest_addressing (packet_sound n f (length out) fitting e k longest_addressing fitting.short) in over_read (mip_of n f) limit h q.0 q.1)

  pub written_addressing : addressing_field (take packet_length (write_of out n f).bytes) ≡ f
  unfolding mip_of fields_of head_of
  written_addressing = ap addressing_field left ∙ packet_field n f (length out) fitting

-- ---- read, then written

module _ (s : List ℕ) (limit : ℕ) (n : Notice) (e : read_of s limit ≡ given n) (bytes : Bytes s) where
  sound : Sound s limit
  sound = (reads_sound s limit n e).0

  field_length : length (addressing_field s) ≡ individual_addressing_length s
  field_length = field_whole s limit sound

  head_front : head_of (notice_in s) (length (addressing_field s)) ≡ take 21 s
  head_front =
      ap (head_of (notice_in s)) field_length
      ∙ head_again s limit sound bytes
      ∙ sym (elements_are 21 0 s (omega (arith, sound.long)))

  fields_front : fields_of (notice_in s) (addressing_field s) ≡ take (21 + individual_addressing_length s) s
  unfolding fields_of
  fields_front =
      ap (λ (h : List ℕ). h ++ addressing_field s) head_front
      ∙ sym (take-add 21 (individual_addressing_length s) s)

  check_bytes : take 4 (drop (21 + individual_addressing_length s) s) ≡ bytes32 (register (take (21 + individual_addressing_length s) s))
  check_bytes =
      let m : ℕ = 21 + individual_addressing_length s in
      let four : take 4 (drop m s) ≡ elements 4 m s = elements_are 4 m s (omega (arith, sound.long, sound.room)) in
      let count : 25 + individual_addressing_length s ≡ m + 4 = omega arith in
      let all : take (25 + individual_addressing_length s) s ≡ take m s ++ elements 4 m s =
      ap (λ (j : ℕ). take j s) count ∙ take-add m 4 s ∙ ap (λ (l : List ℕ). take m s ++ l) four in
      four
      ∙ zero_only (take m s) (get_or s m 0) (get_or s (suc m) 0) (get_or s (suc (suc m)) 0) (get_or s (suc (suc (suc m))) 0)
      (bytes m) (bytes (suc m)) (bytes (suc (suc m))) (bytes (suc (suc (suc m))))
      (ap register (sym all) ∙ sound.check)

  -- the notice and the addressing field that were read are accepted by the writer, for any output with room
  pub rewrite_accepted : (space : ℕ) → packet_length ≤ space → write_refusal space n (addressing_field s) ≡ 0
  rewrite_accepted space h =
      subst (λ (m : Notice). write_refusal space m (addressing_field s) ≡ 0) (reads_sound s limit n e).1
      (sym (write_none space (notice_in s) (addressing_field s) room sound.form sound.sts sound.md))
    where
      room : Writable space (notice_in s) (addressing_field s)
      room =
          record {
            room = h;
            counter = omega arith;
            bits = omega arith;
            short = omega (arith, field_length, sound.room);
          }

  -- where the stuffing is 0xFF, the packet that they make is the packet that was read
  pub same_packet : drop (25 + individual_addressing_length s) s ≡ stuffing (longest_addressing - individual_addressing_length s) → mip_of n (addressing_field s) ≡ s
  unfolding mip_of
  same_packet rest =
      subst (λ (m : Notice). mip_of m (addressing_field s) ≡ s) (reads_sound s limit n e).1
      whole
    where
      whole : mip_of (notice_in s) (addressing_field s) ≡ s
      whole =
          let m : ℕ = 21 + individual_addressing_length s in
          let count : m + 4 ≡ 25 + individual_addressing_length s = omega arith in
          ap₂ (λ (x : List ℕ) (k : ℕ). sealed x ++ stuffing (longest_addressing - k)) fields_front field_length
          ∙ ap (λ (c : List ℕ). take m s ++ c ++ stuffing (longest_addressing - individual_addressing_length s)) (sym check_bytes)
          ∙ ap (λ (x : List ℕ). x ++ stuffing (longest_addressing - individual_addressing_length s)) (sym (take-add m 4 s) ∙ ap (λ (j : ℕ). take j s) count)
          ∙ ap (λ (x : List ℕ). take (25 + individual_addressing_length s) s ++ x) (sym rest)
          ∙ take-append-drop (25 + individual_addressing_length s) s

  -- written into any output with room, they give it the packet that was read, and keep all bytes after it
  pub read_written : (out : List ℕ) → packet_length ≤ length out → drop (25 + individual_addressing_length s) s ≡ stuffing (longest_addressing - individual_addressing_length s)
      → write_of out n (addressing_field s) ≡ record { reply = given tt; bytes = s ++ drop packet_length out }
  unfolding write_of
  read_written out h rest =
      given_output _ out (mip_of n (addressing_field s) ++ drop packet_length out) (rewrite_accepted (length out) h)
      ∙ ap (λ (x : List ℕ). record { reply = given tt; bytes = x ++ drop packet_length out }) (same_packet rest)

-- ---- one bit

module _ (s : List ℕ) (bytes : Bytes s) (limit m : ℕ) (k : Sound s limit) (i b : ℕ) (hi : i ≤ 24 + individual_addressing_length s) (hb : b < 8) where
  -- a flip in the length of the addressing field is caught by the section's length
  length_flip : i ≡ 20 → Sound (flipped s i b) m → ⊥
  length_flip z c =
      let x : ℕ = bit_xor (get_or s i 0) (2 ^ b) in
      let new : get_or (flipped s i b) 20 0 ≡ bit_xor (get_or s 20 0) (2 ^ b) =
      ap (λ (j : ℕ). get_or (flipped s j b) 20 0) z ∙ get_or-set_same s 20 (bit_xor (get_or s 20 0) (2 ^ b)) 0 (omega (arith, k.long)) in
      let old : get_or (flipped s i b) 5 0 ≡ get_or s 5 0 = get_or-set_other s i 5 x 0 (λ q. omega arith) in
      flip_differs (get_or s 20 0) b (omega (arith, new, old, c.section, k.section))

  -- any other flip by the check value
  other_flip : (i ≡ 20 → ⊥) → Sound (flipped s i b) m → ⊥
  other_flip z c =
      let end : ℕ = 25 + individual_addressing_length s in
      let x : ℕ = bit_xor (get_or s i 0) (2 ^ b) in
      let same : get_or (flipped s i b) 20 0 ≡ get_or s 20 0 = get_or-set_other s i 20 x 0 (λ q. z (sym q)) in
      let below : i < end = omega arith in
      let cut : through_check (flipped s i b) ≡ flipped (take end s) i b =
      ap (λ (j : ℕ). take (25 + j) (flipped s i b)) same
      ∙ take-set-lt end s i x below
      ∙ ap (λ (v : ℕ). set (take end s) i (bit_xor v (2 ^ b))) (sym (get_or-take end s i 0 below)) in
      misses_no_bit (take end s) i b (omega (arith, length-take-le end s (omega (arith, k.long, k.room)))) hb (take_bytes end s bytes)
      (ap register (sym cut) ∙ c.check ∙ sym k.check)

-- an accepted packet with one bit of its bytes 0 to 24 + a flipped is refused, also where the limits of the two reads differ
pub one_bit_refused : (s : List ℕ) (limit m : ℕ) (n : Notice) → read_of s limit ≡ given n → Bytes s → (i b : ℕ) → i ≤ 24 + individual_addressing_length s → b < 8
    → (r : ℕ) × (read_of (flipped s i b) m ≡ refused (suc r))
unfolding read_of
one_bit_refused s limit m n e bytes i b hi hb = go (read_refusal (flipped s i b) m) refl
  where
    never : Sound (flipped s i b) m → ⊥
    never c = pick (ℕ_discrete i 20)
      where
        pick : Dec (i ≡ 20) → ⊥
        pick (yes z) = length_flip s bytes limit m (reads_sound s limit n e).0 i b hi hb z c
        pick (no z) = other_flip s bytes limit m (reads_sound s limit n e).0 i b hi hb z c

    go : (v : ℕ) → read_refusal (flipped s i b) m ≡ v → (r : ℕ) × (read_of (flipped s i b) m ≡ refused (suc r))
    go zero z = absurd (never (accepted_sound (flipped s i b) m z))
    go (suc r) z = (r, ap (λ (v : ℕ). reply v (notice_in (flipped s i b))) z)
