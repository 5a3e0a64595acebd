-- An inserter at a place of its mega-frame, and what a packet leaves there.
use mathlib.Core.Path.{◌≡◌, refl, ap}
use mathlib.Core.Bool.{Bool, true, false, cond, not, ◌&&◌, ◌||◌}
use mathlib.Core.List.{List, [], ◌∷◌}
use Prim.Native.Nat.{ℕ, suc, ◌+◌, ◌%◌, ◌≤◌, ◌<◌}
use native.Mathlib.Omega.{arith}
use lib.Dec.{eqb}
use lib.ListN.{length}
use Rattle.std.proofs.lemmas.Bool.{eq-eqb, ne_eqb}
use Rattle.wire.specs.Standards.{mip_pid}
use Rattle.notice.specs.Mip.{packet_identifier}
use Rattle.writer.specs.Writer.{mip_of}
use Rattle.inserter.specs.declared.Progress.{Progress}
use Rattle.inserter.specs.declared.Inserter.{Inserter}
use Rattle.inserter.specs.Settings.{notice_at, field_of}
use Rattle.inserter.specs.Packet.{sent_number, null_pid, null_packet, cleared, is_null, sent_of, progress_after, missed, sent}
use Rattle.inserter.proofs.Kept.{label_last, label_on}
use Rattle.feed.specs.Calls.{Item}
use Rattle.feed.proofs.Lists.{sending, sends}

-- ---- the place in the mega-frame: the label, whether the notice is put, and the counter

abbrev pub progress_at : (l : ℕ) (b : Bool) (c : ℕ) → Progress
progress_at l b c = record { label = l; placed = cond b 1 0; continuity = c }

-- the counter behind packets of which one is null or none
abbrev pub count_on : (b z : Bool) (c : ℕ) → ℕ
count_on b z c = cond (not b && z) ((c + 1) % 16) c

-- whether the notice is put in place of a packet, by the flag
abbrev put_by : (b z : Bool) → Bool
put_by b z = eqb (cond b 1 0) 0 && z

module _ (n l : ℕ) (c : ℕ) where
  moved_on : suc l < n → (b z : Bool) → progress_after n (progress_at l b c) (put_by b z) ≡ progress_at (suc l) (b || z) (count_on b z c)
  unfolding progress_after
  moved_on h b z =
      rw (label_on n (progress_at l b c) (omega (arith, h)) (ne_eqb (suc l) n (omega (arith, h))), ne_eqb (suc l) n (omega (arith, h))) (go b z)
    where
      go : (b z : Bool) → ◌≡◌ {A = Progress} (record { label = suc l; placed = cond (put_by b z) 1 (cond b 1 0); continuity = cond (put_by b z) ((c + 1) % 16) c }) (progress_at (suc l) (b || z) (count_on b z c))
      go true z = refl
      go false true = refl
      go false false = refl

  moved_last : suc l ≡ n → (b z : Bool) → progress_after n (progress_at l b c) (put_by b z) ≡ progress_at 0 false (count_on b z c)
  unfolding progress_after
  moved_last h b z =
      rw (label_last n (progress_at l b c) (omega (arith, h)) (eq-eqb (suc l) n h), eq-eqb (suc l) n h) (go b z)
    where
      go : (b z : Bool) → ◌≡◌ {A = Progress} (record { label = 0; placed = 0; continuity = cond (put_by b z) ((c + 1) % 16) c }) (progress_at 0 false (count_on b z c))
      go true z = refl
      go false true = refl
      go false false = refl

  missed_by : (b z : Bool) → missed n (progress_at l b c) (put_by b z) ≡ cond (eqb (suc l) n && not (b || z)) 21 0
  unfolding missed
  missed_by b z = go (eqb (suc l) n) b z
    where
      go : (w b z : Bool) → ◌≡◌ {A = ℕ} (cond (w && eqb (cond b 1 0) 0 && not (put_by b z)) 21 0) (cond (w && not (b || z)) 21 0)
      go false b z = refl
      go true true z = refl
      go true false true = refl
      go true false false = refl

-- ---- a packet that is not null is no MIP, and leaves as it came
pub as_it_came : (p : List ℕ) → is_null p ≡ false → (eqb (packet_identifier p) mip_pid ≡ false) × (cleared p ≡ p)
unfolding cleared null_packet
as_it_came p = go (eqb (packet_identifier p) mip_pid)
  where
    go : (b : Bool) → eqb (packet_identifier (cond b null_packet p)) null_pid ≡ false → (b ≡ false) × (cond b null_packet p ≡ p)
    go true e = absurd cc
    go false e = (refl, refl)

module _ (s : Inserter) where
  abbrev n : ℕ
  n = s.settings.n

  -- the inserter at a place
  abbrev pub at_place : (l : ℕ) (b : Bool) (c : ℕ) → Inserter
  at_place l b c = record s { progress = progress_at l b c }

  module _ (i : Item) (l : ℕ) (b : Bool) (c : ℕ) where
    pub sent_bytes : (sending (at_place l b c) i).bytes
        ≡ cond (not b && is_null i.bytes) (mip_of (notice_at s.settings l c i.sts) (field_of s)) (cleared i.bytes)
    unfolding sent sent_of
    sent_bytes = go b
      where
        go : (b : Bool) → cond (put_by b (is_null i.bytes)) (mip_of (notice_at s.settings l c i.sts) (field_of s)) (cleared i.bytes)
            ≡ cond (not b && is_null i.bytes) (mip_of (notice_at s.settings l c i.sts) (field_of s)) (cleared i.bytes)
        go true = refl
        go false = refl

    pub number_sent : sent_number (sending (at_place l b c) i).reply ≡ cond (eqb (suc l) n && not (b || is_null i.bytes)) 21 0
    unfolding sent
    number_sent = missed_by n l c b (is_null i.bytes)

    pub goes_on : suc l < n → (sending (at_place l b c) i).inserter ≡ at_place (suc l) (b || is_null i.bytes) (count_on b (is_null i.bytes) c)
    unfolding sent
    goes_on h = ap (λ (q : Progress). record s { progress = q }) (moved_on n l c h b (is_null i.bytes))

    pub begins_anew : suc l ≡ n → (sending (at_place l b c) i).inserter ≡ at_place 0 false (count_on b (is_null i.bytes) c)
    unfolding sent
    begins_anew h = ap (λ (q : Progress). record s { progress = q }) (moved_last n l c h b (is_null i.bytes))

    -- the rest of the mega-frame, where there is one
    pub rest_sent : (is : List Item) → suc l + length is ≤ n
        → sends (sending (at_place l b c) i).inserter is ≡ sends (at_place (suc l) (b || is_null i.bytes) (count_on b (is_null i.bytes) c)) is
    rest_sent [] h = refl
    rest_sent (j ∷ js) h = ap (λ (x : Inserter). sends x (j ∷ js)) (goes_on (omega (arith, h)))
