-- Packets that are sent one after another: a part of what they leave is what a part of them leaves.
use mathlib.Core.Path.{◌≡◌, refl, ap}
use mathlib.Core.Bool.{true, cond}
use mathlib.Core.List.{List, [], ◌∷◌, ◌++◌}
use Prim.Native.Nat.{ℕ, zero, suc}
use native.Mathlib.Omega.{arith}
use lib.Dec.{eqb}
use Rattle.std.proofs.lemmas.Bool.{ne_eqb}
use lib.ListN.{length, take, drop}
use Rattle.inserter.specs.declared.Inserter.{Inserter}
use Rattle.inserter.specs.Settings.{sound}
use Rattle.inserter.specs.Packet.{given_refusal, insert_refusal, Handled, sent, unless_kept, insert_of}
use Rattle.inserter.proofs.Kept.{sent_sound}
use Rattle.feed.specs.Calls.{Item, call_of, one_by_one, left_by, outcomes, sent_among, came}

-- ---- packets that nothing refuses, one after another: what each leaves, and the inserter behind them
abbrev pub sending : Inserter → Item → Handled
sending s i = sent s i.bytes i.sts

abbrev pub sends : Inserter → List Item → List Handled
sends = one_by_one sending

abbrev pub behind : Inserter → List Item → Inserter
behind = left_by sending

pub sends_length : (s : Inserter) (is : List Item) → length (sends s is) ≡ length is
sends_length s [] = refl
sends_length s (i ∷ is) = ap suc (sends_length (sending s i).inserter is)

pub sends_take : (j : ℕ) (s : Inserter) (is : List Item) → take j (sends s is) ≡ sends s (take j is)
sends_take zero s is = refl
sends_take (suc j) s [] = refl
sends_take (suc j) s (i ∷ is) = ap (λ (x : List Handled). sending s i ∷ x) (sends_take j (sending s i).inserter is)

pub sends_drop : (j : ℕ) (s : Inserter) (is : List Item) → drop j (sends s is) ≡ sends (behind s (take j is)) (drop j is)
sends_drop zero s is = refl
sends_drop (suc j) s [] = refl
sends_drop (suc j) s (i ∷ is) = sends_drop j (sending s i).inserter is

pub behind_both : (s : Inserter) (is js : List Item) → behind s (is ++ js) ≡ behind (behind s is) js
behind_both s [] js = refl
behind_both s (i ∷ is) js = behind_both (sending s i).inserter is js

-- ---- a sound inserter refuses with 1, 2 and 11 alone, and each keeps it; so what it sends is what it sends of the others
pub call_is : (s : Inserter) → sound s ≡ true → (i : Item) → call_of s i ≡ unless_kept s i.bytes (given_refusal i.bytes i.sts) (sending s i)
unfolding insert_of insert_refusal
call_is s ok i = rw ok refl

pub sent_came : (s : Inserter) → sound s ≡ true → (is : List Item) → sent_among (outcomes s is) ≡ sends s (came is)
unfolding sent
sent_came s ok [] = refl
sent_came s ok (i ∷ is) =
    rw (call_is s ok i) (go (given_refusal i.bytes i.sts) (sent_came (sending s i).inserter (sent_sound s i.bytes i.sts ok) is) (sent_came s ok is))
  where
    go : (k : ℕ) → sent_among (outcomes (sending s i).inserter is) ≡ sends (sending s i).inserter (came is)
        → sent_among (outcomes s is) ≡ sends s (came is)
        → sent_among (unless_kept s i.bytes k (sending s i) ∷ outcomes (unless_kept s i.bytes k (sending s i)).inserter is)
        ≡ sends s (cond (eqb k 0) (i ∷ came is) (came is))
    go zero moved kept = ap (λ (x : List Handled). sending s i ∷ x) moved
    go (suc k) moved kept = rw (ne_eqb (suc k) 0 (λ e. omega (arith, e))) kept
