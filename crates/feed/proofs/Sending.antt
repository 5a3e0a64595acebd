-- What an inserter sends is, mega-frame by mega-frame, what the paper says.
use mathlib.Core.Path.{◌≡◌, refl, sym, ap, ap₂, ◌∙◌}
use mathlib.Core.Bool.{Bool, true, false, cond, not, ◌&&◌, ◌||◌}
use mathlib.Core.List.{List, [], ◌∷◌, map}
use Prim.Native.Nat.{ℕ, zero, suc, ◌+◌, ◌*◌, ◌%◌, ◌≤◌, ◌<◌}
use native.Mathlib.Omega.{arith}
use native.Mathlib.Decide.{dec_le}
use lib.Dec.{eqb}
use lib.ListN.{length, take, drop, length-take, length-drop}
use lib.Seq.{take-add, length-take-le}
use Rattle.std.specs.Prelude.{filter}
use Rattle.std.proofs.lemmas.Bool.{eq-eqb, ne_eqb}
use Rattle.std.proofs.lemmas.List.{drop-map, take-map, drop_all, length-map}
use Rattle.writer.specs.Writer.{head_of, fields_of, mip_of}
use Rattle.notice.specs.declared.Notice.{Notice}
use Rattle.inserter.specs.declared.Settings.{Settings}
use Rattle.inserter.specs.declared.Inserter.{Inserter}
use Rattle.inserter.specs.Settings.{notice_at, field_of, settings_refusal, begun}
use Rattle.inserter.specs.Packet.{sent_number, cleared, is_null, null_packet, Handled}
use Rattle.inserter.proofs.Judged.{some_packets, accepted}
use Rattle.inserter.proofs.Kept.{begun_field, begun_sound}
use Rattle.feed.specs.Calls.{Item, packets, numbers, came}
use Rattle.feed.specs.MegaFrames.{frame, has_null, left, ends, notices_before, is_mip, Sends}
use Rattle.feed.proofs.Lists.{sends, behind, sends_length, sends_take, sends_drop, behind_both, sent_came}
use Rattle.feed.proofs.Steps.{count_on, as_it_came, at_place, sent_bytes, number_sent, goes_on, begins_anew, rest_sent}

abbrev bytes_in : List Handled → List (List ℕ)
bytes_in = map (λ h. h.bytes)

abbrev numbers_in : List Handled → List ℕ
numbers_in = map (λ h. sent_number h.reply)

none_of : {A : Type 0} (m : ℕ) → take {A = A} m [] ≡ []
none_of zero = refl
none_of (suc m) = refl

module _ (s : Inserter) where
  abbrev n : ℕ
  n = s.settings.n

  -- ---- the rest of a mega-frame, from label l on

  -- behind the notice
  bytes_cleared : (is : List Item) (l c : ℕ) → l + length is ≤ n → bytes_in (sends (at_place s l true c) is) ≡ map (λ j. cleared j.bytes) is
  bytes_cleared [] l c h = refl
  bytes_cleared (i ∷ is) l c h =
      ap₂ (λ (x : List ℕ) (y : List Handled). x ∷ bytes_in y) (sent_bytes s i l true c) (rest_sent s i l true c is (omega (arith, h)))
      ∙ ap (λ (y : List (List ℕ)). cleared i.bytes ∷ y) (bytes_cleared is (suc l) c (omega (arith, h)))

  bytes_left : (is : List Item) (l c : ℕ) → l + length is ≤ n → bytes_in (sends (at_place s l false c) is) ≡ left s.settings (field_of s) l c is
  unfolding left
  bytes_left [] l c h = refl
  bytes_left (i ∷ is) l c h =
      ap₂ (λ (x : List ℕ) (y : List Handled). x ∷ bytes_in y) (sent_bytes s i l false c) (rest_sent s i l false c is (omega (arith, h)))
      ∙ go (is_null i.bytes) refl (bytes_cleared is (suc l) ((c + 1) % 16) (omega (arith, h))) (bytes_left is (suc l) c (omega (arith, h)))
    where
      go : (z : Bool) → is_null i.bytes ≡ z
          → bytes_in (sends (at_place s (suc l) true ((c + 1) % 16)) is) ≡ map (λ j. cleared j.bytes) is
          → bytes_in (sends (at_place s (suc l) false c) is) ≡ left s.settings (field_of s) (suc l) c is
          → cond z (mip_of (notice_at s.settings l c i.sts) (field_of s)) (cleared i.bytes) ∷ bytes_in (sends (at_place s (suc l) z (count_on false z c)) is)
          ≡ cond z (mip_of (notice_at s.settings l c i.sts) (field_of s) ∷ map (λ j. cleared j.bytes) is) (i.bytes ∷ left s.settings (field_of s) (suc l) c is)
      go true e after before = ap (λ (y : List (List ℕ)). mip_of (notice_at s.settings l c i.sts) (field_of s) ∷ y) after
      go false e after before = ap₂ (λ (x : List ℕ) (y : List (List ℕ)). x ∷ y) (as_it_came i.bytes e).1 before

  numbers_left : (is : List Item) (l : ℕ) (b : Bool) (c : ℕ) → l + length is ≤ n → numbers_in (sends (at_place s l b c) is) ≡ ends n l (b || has_null is) is
  unfolding ends
  numbers_left [] l b c h = refl
  numbers_left (i ∷ is) l b c h =
      ap₂ (λ (x : ℕ) (y : List Handled). x ∷ numbers_in y) (number_sent s i l b c) (rest_sent s i l b c is (omega (arith, h)))
      ∙ ap₂ (λ (x : ℕ) (y : List ℕ). x ∷ y) (first is (omega (arith, h)))
      (numbers_left is (suc l) (b || is_null i.bytes) (count_on b (is_null i.bytes) c) (omega (arith, h)) ∙ ap (λ (x : Bool). ends n (suc l) x is) (or_assoc b (is_null i.bytes) (has_null is)))
    where
      or_assoc : (x y z : Bool) → ((x || y) || z) ≡ (x || (y || z))
      or_assoc true y z = refl
      or_assoc false y z = refl

      or_false : (x : Bool) → x ≡ (x || false)
      or_false true = refl
      or_false false = refl

      -- what comes behind it decides nothing of a packet that is not the last
      first : (is : List Item) → suc l + length is ≤ n
          → ◌≡◌ {A = ℕ} (cond (eqb (suc l) n && not (b || is_null i.bytes)) 21 0) (cond (eqb (suc l) n && not (b || (is_null i.bytes || has_null is))) 21 0)
      first [] g = ap (λ (x : Bool). cond (eqb (suc l) n && not (b || x)) 21 0) (or_false (is_null i.bytes))
      first (j ∷ js) g = rw (ne_eqb (suc l) n (omega (arith, g))) refl

  -- ---- behind a complete mega-frame
  behind_frame : (is : List Item) (l : ℕ) (b : Bool) (c : ℕ) → l + length is ≡ n → l < n → behind (at_place s l b c) is ≡ at_place s 0 false (count_on b (has_null is) c)
  behind_frame [] l b c e h = absurd (omega (arith, e, h))
  behind_frame (i ∷ []) l b c e h =
      begins_anew s i l b c (omega (arith, e)) ∙ ap (λ (x : ℕ). at_place s 0 false x) (one b (is_null i.bytes))
    where
      one : (b z : Bool) → count_on b z c ≡ count_on b (z || false) c
      one b true = refl
      one b false = refl
  behind_frame (i ∷ j ∷ js) l b c e h =
      ap (λ (x : Inserter). behind x (j ∷ js)) (goes_on s i l b c (omega (arith, e)))
      ∙ behind_frame (j ∷ js) (suc l) (b || is_null i.bytes) (count_on b (is_null i.bytes) c) (omega (arith, e)) (omega (arith, e))
      ∙ ap (λ (x : ℕ). at_place s 0 false x) (both b (is_null i.bytes) (has_null (j ∷ js)))
    where
      both : (b z y : Bool) → count_on (b || z) y (count_on b z c) ≡ count_on b (z || y) c
      both true z y = refl
      both false true y = refl
      both false false y = refl

  -- before mega-frame k
  counted : (b : Bool) (x : ℕ) → count_on false b (x % 16) ≡ (x + cond b 1 0) % 16
  counted true x = omega arith
  counted false x = omega arith

  frame_begins : 0 < n → (is : List Item) (k : ℕ) → n * k ≤ length is → behind (at_place s 0 false 0) (take (n * k) is) ≡ at_place s 0 false (notices_before n k is % 16)
  unfolding notices_before
  frame_begins some is zero h = let z : n * 0 ≡ 0 = omega arith in ap (λ (j : ℕ). behind (at_place s 0 false 0) (take j is)) z
  frame_begins some is (suc k) h =
      let z : n * suc k ≡ n * k + n = omega arith in
      let f = frame n k is in
      let long : length f ≡ n = length-take-le n (drop (n * k) is) (omega (arith, length-drop (n * k) is, h)) in
      ap (λ (j : ℕ). behind (at_place s 0 false 0) (take j is)) z
      ∙ ap (behind (at_place s 0 false 0)) (take-add (n * k) n is)
      ∙ behind_both (at_place s 0 false 0) (take (n * k) is) f
      ∙ ap (λ (x : Inserter). behind x f) (frame_begins some is k (omega (arith, h)))
      ∙ behind_frame f 0 false (notices_before n k is % 16) (omega (arith, long)) some
      ∙ ap (λ (x : ℕ). at_place s 0 false x) (counted (has_null f) (notices_before n k is))

  -- ---- any mega-frame, by its place in the stream
  module _ (some : 0 < n) (is : List Item) (k : ℕ) where
    -- what the packets of mega-frame k leave, where it has begun
    frame_sent : n * k ≤ length is → take n (drop (n * k) (sends (at_place s 0 false 0) is)) ≡ sends (at_place s 0 false (notices_before n k is % 16)) (frame n k is)
    frame_sent h =
        ap (take n) (sends_drop (n * k) (at_place s 0 false 0) is)
        ∙ sends_take n (behind (at_place s 0 false 0) (take (n * k) is)) (drop (n * k) is)
        ∙ ap (λ (x : Inserter). sends x (frame n k is)) (frame_begins some is k h)

    frame_short : 0 + length (frame n k is) ≤ n
    frame_short = omega (arith, length-take n (drop (n * k) is))

    -- beyond the last there is nothing
    nothing_came : (n * k ≤ length is → ⊥) → frame n k is ≡ []
    nothing_came h = ap (take n) (drop_all (n * k) is (omega (arith, h))) ∙ none_of n

    module _ {A : Type 0} (f : Handled → A) where
      frame_mapped : frame n k (map f (sends (at_place s 0 false 0) is)) ≡ map f (take n (drop (n * k) (sends (at_place s 0 false 0) is)))
      frame_mapped = ap (take n) (drop-map f (n * k) (sends (at_place s 0 false 0) is)) ∙ take-map f n (drop (n * k) (sends (at_place s 0 false 0) is))

      nothing_sent : (n * k ≤ length is → ⊥) → frame n k (map f (sends (at_place s 0 false 0) is)) ≡ []
      nothing_sent h =
          ap (take n) (drop_all (n * k) (map f (sends (at_place s 0 false 0) is)) (omega (arith, h, length-map (sends (at_place s 0 false 0) is) f, sends_length (at_place s 0 false 0) is)))
          ∙ none_of n

    bytes_frame : frame n k (bytes_in (sends (at_place s 0 false 0) is)) ≡ left s.settings (field_of s) 0 (notices_before n k is % 16) (frame n k is)
    unfolding left
    bytes_frame = go (dec_le (n * k) (length is))
      where
        go : Dec (n * k ≤ length is) → frame n k (bytes_in (sends (at_place s 0 false 0) is)) ≡ left s.settings (field_of s) 0 (notices_before n k is % 16) (frame n k is)
        go (yes h) = frame_mapped (λ h. h.bytes) ∙ ap bytes_in (frame_sent h) ∙ bytes_left (frame n k is) 0 (notices_before n k is % 16) frame_short
        go (no h) = nothing_sent (λ h. h.bytes) h ∙ ap (left s.settings (field_of s) 0 (notices_before n k is % 16)) (sym (nothing_came h))

    numbers_frame : frame n k (numbers_in (sends (at_place s 0 false 0) is)) ≡ ends n 0 (has_null (frame n k is)) (frame n k is)
    unfolding ends
    numbers_frame = go (dec_le (n * k) (length is))
      where
        go : Dec (n * k ≤ length is) → frame n k (numbers_in (sends (at_place s 0 false 0) is)) ≡ ends n 0 (has_null (frame n k is)) (frame n k is)
        go (yes h) = frame_mapped (λ h. sent_number h.reply) ∙ ap numbers_in (frame_sent h) ∙ numbers_left (frame n k is) 0 false (notices_before n k is % 16) frame_short
        go (no h) = nothing_sent (λ h. sent_number h.reply) h ∙ ap (λ (x : List Item). ends n 0 (has_null x) x) (sym (nothing_came h))

-- ---- one notice in a mega-frame with a null packet, and one 21 in one without
pub mip_is : (m : Notice) (f : List ℕ) → is_mip (mip_of m f) ≡ true
unfolding mip_of fields_of head_of
mip_is m f = refl

pub cleared_none : (p : List ℕ) → is_mip (cleared p) ≡ false
unfolding cleared null_packet
cleared_none p = go (is_mip p) refl
  where
    go : (b : Bool) → is_mip p ≡ b → is_mip (cond b null_packet p) ≡ false
    go true e = refl
    go false e = e

module _ (t : Settings) (f : List ℕ) (c : ℕ) where
  none_behind : (is : List Item) → length (filter is_mip (map (λ j. cleared j.bytes) is)) ≡ 0
  none_behind [] = refl
  none_behind (i ∷ is) = rw (cleared_none i.bytes) (none_behind is)

  one_left : (is : List Item) (l : ℕ) → length (filter is_mip (left t f l c is)) ≡ cond (has_null is) 1 0
  unfolding left
  one_left [] l = refl
  one_left (i ∷ is) l = go (is_null i.bytes) refl (one_left is (suc l))
    where
      go : (z : Bool) → is_null i.bytes ≡ z → length (filter is_mip (left t f (suc l) c is)) ≡ cond (has_null is) 1 0
          → length (filter is_mip (cond z (mip_of (notice_at t l c i.sts) f ∷ map (λ j. cleared j.bytes) is) (i.bytes ∷ left t f (suc l) c is)))
          ≡ cond (z || has_null is) 1 0
      go true e r = rw (mip_is (notice_at t l c i.sts) f) (ap suc (none_behind is))
      go false e r = rw (as_it_came i.bytes e).0 r

module _ (n : ℕ) (b : Bool) where
  one_end : (is : List Item) (l : ℕ) → l + length is ≡ n → l < n → length (filter (λ m. eqb m 21) (ends n l b is)) ≡ cond b 0 1
  unfolding ends
  one_end [] l e h = absurd (omega (arith, e, h))
  one_end (i ∷ []) l e h = rw (eq-eqb (suc l) n (omega (arith, e))) (go b)
    where
      go : (b : Bool) → length (filter (λ m. eqb m 21) (cond (not b) 21 0 ∷ [])) ≡ cond b 0 1
      go true = refl
      go false = refl
  one_end (i ∷ j ∷ js) l e h = rw (ne_eqb (suc l) n (omega (arith, e))) (one_end (j ∷ js) (suc l) (omega (arith, e)) (omega (arith, e)))

-- ---- an inserter that these settings start
module _ (t : Settings) (f : List ℕ) (e : settings_refusal t f ≡ 0) (is : List Item) where
  some : 0 < t.n
  some = some_packets t.n (accepted t f e).cadence

  pub all_sent : packets (begun t f) is ≡ bytes_in (sends (begun t f) (came is))
  unfolding packets
  all_sent = ap bytes_in (sent_came (begun t f) (begun_sound t f e) is)

  all_numbers : numbers (begun t f) is ≡ numbers_in (sends (begun t f) (came is))
  unfolding numbers
  all_numbers = ap numbers_in (sent_came (begun t f) (begun_sound t f e) is)

  pub frames : (k : ℕ) → frame t.n k (packets (begun t f) is) ≡ left t f 0 (notices_before t.n k (came is) % 16) (frame t.n k (came is))
  frames k =
      ap (frame t.n k) all_sent ∙ bytes_frame (begun t f) some (came is) k
      ∙ ap (λ (x : List ℕ). left t x 0 (notices_before t.n k (came is) % 16) (frame t.n k (came is))) (begun_field t f e)

  ends_of : (k : ℕ) → frame t.n k (numbers (begun t f) is) ≡ ends t.n 0 (has_null (frame t.n k (came is))) (frame t.n k (came is))
  ends_of k = ap (frame t.n k) all_numbers ∙ numbers_frame (begun t f) some (came is) k

  pub places : length (packets (begun t f) is) ≡ length (came is)
  places = ap length all_sent ∙ length-map (sends (begun t f) (came is)) (λ h. h.bytes) ∙ sends_length (begun t f) (came is)

  pub stream_sent : Sends t f is
  stream_sent =
      record {
        places = places;
        frames = frames;
        ends = ends_of;
        one_notice = λ k. ap (λ (x : List (List ℕ)). length (filter is_mip x)) (frames k) ∙ one_left t f (notices_before t.n k (came is) % 16) (frame t.n k (came is)) 0;
        one_miss = λ k h.
            ap (λ (x : List ℕ). length (filter (λ m. eqb m 21) x)) (ends_of k)
            ∙ one_end t.n (has_null (frame t.n k (came is))) (frame t.n k (came is)) 0
            (omega (arith, length-take-le t.n (drop (t.n * k) (came is)) (omega (arith, h, length-drop (t.n * k) (came is))))) some;
      }
