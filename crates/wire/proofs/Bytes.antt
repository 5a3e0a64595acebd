-- Lists of bytes, and the elements of a list one by one.
use mathlib.Core.Path.{◌≡◌, refl, sym, ap, ◌∙◌, subst}
use mathlib.Core.List.{List, [], ◌∷◌, ◌++◌}
use Prim.Native.Nat.{ℕ, zero, suc, ◌+◌, ◌≤◌, ◌<◌}
use native.Mathlib.Decide.{dec_lt}
use native.Mathlib.Omega.{arith}
use lib.ListN.{length, take, drop, get_or, length-take, get_or-eq_default}
use lib.Seq.{drop-cons, get_or-take, get_or-drop}
use Rattle.wire.specs.BigEndian.{byte0, byte1, byte2, byte3, bytes16, bytes32}

-- every element is a byte
abbrev pub Bytes : List ℕ → Type 0
Bytes s = (j : ℕ) → get_or s j 0 < 256

pub no_bytes : Bytes []
no_bytes j = omega arith

pub and_byte : (x : ℕ) (s : List ℕ) → x < 256 → Bytes s → Bytes (x ∷ s)
and_byte x s h k zero = h
and_byte x s h k (suc j) = k j

pub and_bytes : (s t : List ℕ) → Bytes s → Bytes t → Bytes (s ++ t)
and_bytes [] t h k = k
and_bytes (x ∷ s) t h k = and_byte x (s ++ t) (h 0) (and_bytes s t (λ j. h (suc j)) k)

pub bytes_16 : (v : ℕ) → Bytes (bytes16 v)
bytes_16 v = and_byte (byte1 v) (byte0 v ∷ []) (omega arith) (and_byte (byte0 v) [] (omega arith) no_bytes)

pub bytes_32 : (v : ℕ) → Bytes (bytes32 v)
bytes_32 v = and_byte (byte3 v) (byte2 v ∷ bytes16 v) (omega arith) (and_byte (byte2 v) (bytes16 v) (omega arith) (bytes_16 v))

module _ (m : ℕ) (s : List ℕ) (bytes : Bytes s) where
  pub drop_bytes : Bytes (drop m s)
  drop_bytes j = subst (λ (x : ℕ). x < 256) (sym (get_or-drop m s j 0)) (bytes (m + j))

  pub take_bytes : Bytes (take m s)
  take_bytes j = go (dec_lt j m)
    where
      go : Dec (j < m) → get_or (take m s) j 0 < 256
      go (yes h) = subst (λ (x : ℕ). x < 256) (sym (get_or-take m s j 0 h)) (bytes j)
      go (no h) = subst (λ (x : ℕ). x < 256) (sym (get_or-eq_default (take m s) 0 {n = j} (omega (arith, length-take m s)))) (omega arith)

-- k elements from place i on
abbrev pub elements : ℕ → ℕ → List ℕ → List ℕ
elements zero i s = []
elements (suc k) i s = get_or s i 0 ∷ elements k (suc i) s

pub elements_are : (k i : ℕ) (s : List ℕ) → i + k ≤ length s → take k (drop i s) ≡ elements k i s
elements_are zero i s h = refl
elements_are (suc k) i s h =
    ap (take (suc k)) (drop-cons s i 0 (omega arith)) ∙ ap (λ (l : List ℕ). get_or s i 0 ∷ l) (elements_are k (suc i) s (omega arith))
