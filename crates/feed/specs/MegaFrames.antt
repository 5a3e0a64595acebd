-- The stream of an inserter, mega-frame by mega-frame, as document 02's Paper 1 has it: it is said of what came alone, and not of an inserter.
use Rattle.std.specs.Prelude.{◌≡◌, ℕ, zero, suc, ◌+◌, ◌*◌, ◌%◌, ◌≤◌, Bool, cond, ◌&&◌, not, List, [], ◌∷◌, map, length, take, drop, filter, eqb}
use Rattle.std.specs.List.{list_any}
use Rattle.wire.specs.Standards.{mip_pid}
use Rattle.notice.specs.Mip.{packet_identifier}
use Rattle.writer.specs.Writer.{mip_of}
use Rattle.inserter.specs.declared.Settings.{Settings}
use Rattle.inserter.specs.Settings.{notice_at, begun}
use Rattle.inserter.specs.Packet.{cleared, is_null}
use Rattle.feed.specs.Calls.{Item, packets, numbers, came}

-- mega-frame k of a stream: n packets, fewer where it is not complete
abbrev pub frame : {A : Type 0} → (n k : ℕ) → List A → List A
frame n k xs = take n (drop (n * k) xs)

-- among some packets there is a null packet, or one that is made one
abbrev pub has_null : List Item → Bool
has_null = list_any (λ i. is_null i.bytes)

-- what leaves of a mega-frame, from this label on: the first null packet leaves as the notice, with this counter and the STS given with it; each packet behind it
-- as it came, or as the null packet where it came with the MIP's PID; and all before it as they came, for none of them is null
unfoldable pub left : Settings → List ℕ → (label continuity : ℕ) → List Item → List (List ℕ)
left t f label continuity [] = []
left t f label continuity (i ∷ is) =
    cond (is_null i.bytes)
    (mip_of (notice_at t label continuity i.sts) f ∷ map (λ j. cleared j.bytes) is)
    (i.bytes ∷ left t f (suc label) continuity is)

-- the numbers, from this label on: 21 with the last packet of a mega-frame that has no null packet, else 0
unfoldable pub ends : (n label : ℕ) → Bool → List Item → List ℕ
ends n label null [] = []
ends n label null (i ∷ is) = cond (eqb (suc label) n && not null) 21 0 ∷ ends n (suc label) null is

-- the notices before mega-frame k: one for each that has a null packet
unfoldable pub notices_before : (n k : ℕ) → List Item → ℕ
notices_before n zero is = 0
notices_before n (suc k) is = notices_before n k is + cond (has_null (frame n k is)) 1 0

-- a packet that has the MIP's PID
abbrev pub is_mip : List ℕ → Bool
is_mip p = eqb (packet_identifier p) mip_pid

-- what an inserter sends that these settings start. Each packet that came has a place in its order; mega-frame k is places n × k to n × k + n − 1, so the first
-- packet has label 0; the first notice has counter 0 and each next one more, 15 to 0. A complete mega-frame has exactly one packet with the MIP's PID, its notice,
-- and no number, or, without a null packet, none, and its last packet has 21
pub record Sends (t : Settings) (f : List ℕ) (is : List Item) : Type 0 where
  pub places : length (packets (begun t f) is) ≡ length (came is)
  pub frames : (k : ℕ) → frame t.n k (packets (begun t f) is) ≡ left t f 0 (notices_before t.n k (came is) % 16) (frame t.n k (came is))
  pub ends : (k : ℕ) → frame t.n k (numbers (begun t f) is) ≡ ends t.n 0 (has_null (frame t.n k (came is))) (frame t.n k (came is))
  pub one_notice : (k : ℕ) → length (filter is_mip (frame t.n k (packets (begun t f) is))) ≡ cond (has_null (frame t.n k (came is))) 1 0
  pub one_miss : (k : ℕ) → t.n * suc k ≤ length (came is)
      → length (filter (λ m. eqb m 21) (frame t.n k (numbers (begun t f) is))) ≡ cond (has_null (frame t.n k (came is))) 0 1
