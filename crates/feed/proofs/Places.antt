-- What stands at a place of an inserter's stream: a notice that every reader reads, and that is the adapter's, or no MIP.
use mathlib.Core.Path.{◌≡◌, refl, sym, ap, ap₂, ◌∙◌}
use mathlib.Core.Bool.{Bool, true, false, cond, false≢true}
use mathlib.Core.List.{List, [], ◌∷◌, map}
use mathlib.Core.Option.{some}
use Prim.Native.Nat.{ℕ, zero, suc, ◌+◌, ◌*◌, ◌/◌, ◌%◌, ◌<◌}
use native.Mathlib.Nat.{div-add-mod', mod-lt}
use native.Mathlib.Omega.{arith}
use lib.Dec.{eqb}
use lib.ListN.{length, drop, get_or, length-take}
use lib.Seq.{get_or-take, get_or-drop}
use Rattle.std.proofs.lemmas.Bool.{ne_eqb}
use Rattle.std.proofs.lemmas.Bool.Decides.{nat_tests}
use Rattle.wire.specs.Reply.{given}
use Rattle.wire.specs.Standards.{packet_length, dvb_second}
use Rattle.times.specs.Release.{in_second}
use Rattle.times.specs.declared.Steps.{Steps}
use Rattle.cadence.specs.Label.{label_at}
use Rattle.cadence.proofs.Lengths.{admitted_range}
use Rattle.notice.specs.Mip.{addressing_field}
use Rattle.notice.specs.Reader.{read_of}
use Rattle.notice.specs.declared.Notice.{Notice}
use Rattle.notice.proofs.Sound.{sound_reads}
use Rattle.writer.specs.Writable.{Writable}
use Rattle.writer.specs.Writer.{write_refusal, head_of, fields_of, mip_of}
use Rattle.writer.proofs.Writing.{judged}
use Rattle.writer.proofs.RoundTrip.{Fits, packet_field, packet_notice, packet_sound}
use Rattle.inserter.specs.declared.Settings.{Settings}
use Rattle.inserter.specs.Settings.{notice_at, begun}
use Rattle.inserter.specs.Packet.{given_refusal, is_null, cleared}
use Rattle.inserter.proofs.Judged.{Accepted, accepted, writes, some_packets}
use Rattle.run.specs.Adapter.{Announced}
use Rattle.feed.specs.Calls.{Item, packets, came, no_item, sts_at, packet_at}
use Rattle.feed.specs.MegaFrames.{frame, left, notices_before, is_mip}
use Rattle.feed.specs.Network.{announced, adapter_of, Startable, NoticeAt}
use Rattle.feed.proofs.Sending.{cleared_none, mip_is, frames}
use Rattle.feed.proofs.Steps.{as_it_came}

-- ---- a mega-frame from label l on: what stands at its packet j
module _ (t : Settings) (f : List ℕ) (c : ℕ) where
  none_cleared : (is : List Item) (j : ℕ) → is_mip (get_or (map (λ i. cleared i.bytes) is) j []) ≡ false
  none_cleared [] j = refl
  none_cleared (i ∷ is) zero = cleared_none i.bytes
  none_cleared (i ∷ is) (suc j) = none_cleared is j

  -- a MIP is the notice at its label, and is announced
  record Stands (is : List Item) (l j : ℕ) : Type 0 where
    packet : get_or (left t f l c is) j [] ≡ mip_of (notice_at t (l + j) c (get_or is j no_item).sts) f
    announces : announced t l is ≡ some (record { label = l + j; sts = (get_or is j no_item).sts.0; md = t.md.0 })

  stands : (is : List Item) (l j : ℕ) → is_mip (get_or (left t f l c is) j []) ≡ true → Stands is l j
  unfolding left announced
  stands [] l j e = absurd cc
  stands (i ∷ is) l zero e = go (is_null i.bytes) refl e
    where
      go : (z : Bool) → is_null i.bytes ≡ z
          → is_mip (get_or (cond z (mip_of (notice_at t l c i.sts) f ∷ map (λ i. cleared i.bytes) is) (i.bytes ∷ left t f (suc l) c is)) 0 []) ≡ true
          → Stands (i ∷ is) l 0
      go true z e = let same : l ≡ l + 0 = omega arith in record { packet = rw z (ap (λ (x : ℕ). mip_of (notice_at t x c i.sts) f) same); announces = rw z (ap (λ (x : ℕ). some (record { label = x; sts = i.sts.0; md = t.md.0 })) same) }
      go false z e = absurd (false≢true (sym (as_it_came i.bytes z).0 ∙ e))
  stands (i ∷ is) l (suc j) e = go (is_null i.bytes) refl e (stands is (suc l) j)
    where
      go : (z : Bool) → is_null i.bytes ≡ z
          → is_mip (get_or (cond z (mip_of (notice_at t l c i.sts) f ∷ map (λ i. cleared i.bytes) is) (i.bytes ∷ left t f (suc l) c is)) (suc j) []) ≡ true
          → (is_mip (get_or (left t f (suc l) c is) j []) ≡ true → Stands is (suc l) j)
          → Stands (i ∷ is) l (suc j)
      go true z e later = absurd (false≢true (sym (none_cleared is j) ∙ e))
      go false z e later =
          let k = later e in
          let same : suc l + j ≡ l + suc j = omega arith in
          record {
            packet = rw z (k.packet ∙ ap (λ (x : ℕ). mip_of (notice_at t x c (get_or is j no_item).sts) f) same);
            announces = rw z (k.announces ∙ ap (λ (x : ℕ). some (record { label = x; sts = (get_or is j no_item).sts.0; md = t.md.0 })) same);
          }

  -- and what is announced stands there
  found : (is : List Item) (l : ℕ) (a : Announced) → announced t l is ≡ some a → (j : ℕ) × (a.label ≡ l + j) × (j < length is) × (is_mip (get_or (left t f l c is) j []) ≡ true)
  unfolding left announced
  found [] l a e = absurd cc
  found (i ∷ is) l a e = go (is_null i.bytes) e (found is (suc l) a)
    where
      go : (z : Bool) → cond z (some (record { label = l; sts = i.sts.0; md = t.md.0 })) (announced t (suc l) is) ≡ some a
          → (announced t (suc l) is ≡ some a → (j : ℕ) × (a.label ≡ suc l + j) × (j < length is) × (is_mip (get_or (left t f (suc l) c is) j []) ≡ true))
          → (j : ℕ) × (a.label ≡ l + j) × (j < suc (length is))
          × (is_mip (get_or (cond z (mip_of (notice_at t l c i.sts) f ∷ map (λ i. cleared i.bytes) is) (i.bytes ∷ left t f (suc l) c is)) j []) ≡ true)
      go true h later = let same : l ≡ a.label = cc in (0, omega (arith, same), omega arith, mip_is (notice_at t l c i.sts) f)
      go false h later = let k = later h in (suc k.0, omega (arith, k.1), omega (arith, k.2), k.3)

-- ---- a place is a packet of its mega-frame
module _ (n p : ℕ) (some : 0 < n) where
  pub in_frame : {A : Type 0} (xs : List A) (d : A) → get_or xs p d ≡ get_or (frame n (p / n) xs) (p % n) d
  in_frame xs d =
      let whole : n * (p / n) + p % n ≡ p = omega (arith, div-add-mod' p n) in
      ap (λ (x : ℕ). get_or xs x d) (sym whole) ∙ sym (get_or-drop (n * (p / n)) xs (p % n) d) ∙ sym (get_or-take n (drop (n * (p / n)) xs) (p % n) d (mod-lt p some))

-- the STS given is one of the second
pub sts_fits : (is : List Item) (p : ℕ) → in_second dvb_second (sts_at is p).0 ≡ true
unfolding given_refusal
sts_fits [] p = refl
sts_fits (i ∷ is) p = go (given_refusal i.bytes i.sts) refl p (sts_fits is)
  where
    go : (k : ℕ) → given_refusal i.bytes i.sts ≡ k → (p : ℕ) → ((q : ℕ) → in_second dvb_second (sts_at is q).0 ≡ true)
        → in_second dvb_second (get_or (cond (eqb k 0) (i ∷ came is) (came is)) p no_item).sts.0 ≡ true
    go zero e zero rest = grind (arith, nat_tests)
    go zero e (suc p) rest = rest p
    go (suc k) e p rest = rw (ne_eqb (suc k) 0 (λ z. omega (arith, z))) (rest p)

-- ---- the stream
module _ (t : Settings) (f : List ℕ) (is : List Item) (k : Startable t f) where
  kept : Accepted t f
  kept = accepted t f k.accepted

  pub packets_some : 0 < t.n
  packets_some = some_packets t.n kept.cadence

  module _ (p : ℕ) (e : is_mip (packet_at (packets (begun t f) is) p) ≡ true) where
    abbrev counter : ℕ
    counter = notices_before t.n (p / t.n) (came is) % 16

    abbrev said : Notice
    said = notice_at t (label_at t.n p) counter (sts_at is p)

    at_left : packet_at (packets (begun t f) is) p ≡ get_or (left t f 0 counter (frame t.n (p / t.n) (came is))) (p % t.n) []
    at_left = in_frame t.n p packets_some (packets (begun t f) is) [] ∙ ap (λ (x : List (List ℕ)). get_or x (p % t.n) []) (frames t f k.accepted is (p / t.n))

    stands_there : Stands t f counter (frame t.n (p / t.n) (came is)) 0 (p % t.n)
    stands_there = stands t f counter (frame t.n (p / t.n) (came is)) 0 (p % t.n) (ap is_mip (sym at_left) ∙ e)

    label_there : 0 + p % t.n ≡ label_at t.n p
    label_there = omega arith

    sts_there : (get_or (frame t.n (p / t.n) (came is)) (p % t.n) no_item).sts ≡ sts_at is p
    sts_there = ap (λ (x : Item). x.sts) (sym (in_frame t.n p packets_some (came is) no_item))

    is_notice : packet_at (packets (begun t f) is) p ≡ mip_of said f
    is_notice = at_left ∙ stands_there.packet ∙ ap₂ (λ (x : ℕ) (y : Steps). mip_of (notice_at t x counter y) f) label_there sts_there

    written : write_refusal packet_length said f ≡ 0
    written = writes t f kept packet_length (label_at t.n p) counter (sts_at is p) (omega arith) (omega arith) (sts_fits is p)

    writable : Writable packet_length said f
    writable = (judged packet_length said f written).0

    fits : Fits said
    fits = record { pointer = omega (arith, admitted_range 0 t.n kept.cadence); tps = k.tps }

    pub notice_there : NoticeAt t f is p
    unfolding mip_of fields_of head_of
    notice_there =
        record {
          read = λ limit h.
              ap (λ (x : List ℕ). read_of x limit) is_notice
              ∙ sound_reads (mip_of said f) limit (packet_sound said f packet_length writable written fits limit h)
              ∙ ap given (packet_notice said f packet_length writable written fits);
          field = ap addressing_field is_notice ∙ packet_field said f packet_length writable;
          here = stands_there.announces ∙ ap₂ (λ (x : ℕ) (y : Steps). some (record { label = x; sts = y.0; md = t.md.0 })) label_there sts_there;
        }

  module _ (m : ℕ) (a : Announced) (e : adapter_of t is m ≡ some a) where
    pub announced_there : (a.label < t.n) × (is_mip (packet_at (packets (begun t f) is) (t.n * m + a.label)) ≡ true)
    announced_there =
        let c : ℕ = notices_before t.n m (came is) % 16 in
        let w = found t f c (frame t.n m (came is)) 0 a e in
        let j = w.0 in
        let short : j < t.n = omega (arith, w.2, length-take t.n (drop (t.n * m) (came is))) in
        let same : t.n * m + j ≡ t.n * m + a.label = omega (arith, w.1) in (
          omega (arith, short, w.1),
          ap (λ (x : ℕ). is_mip (packet_at (packets (begun t f) is) x)) (sym same)
              ∙ ap is_mip
              (sym (get_or-drop (t.n * m) (packets (begun t f) is) j []) ∙ sym (get_or-take t.n (drop (t.n * m) (packets (begun t f) is)) j [] short)
              ∙ ap (λ (x : List (List ℕ)). get_or x j []) (frames t f k.accepted is m))
              ∙ w.3,
        )
