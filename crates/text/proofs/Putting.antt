-- Pieces put one behind the other are one piece.
use mathlib.Core.Path.{◌≡◌, refl, sym, ap, ap₂, ◌∙◌, subst}
use mathlib.Core.List.{List, [], ◌++◌, append_assoc}
use Prim.Native.Nat.{ℕ, ◌+◌, ◌-◌, ◌≤◌}
use native.Mathlib.Omega.{arith}
use native.Mathlib.Nat.{zero-add}
use lib.ListN.{length, take, drop, length-append, length-drop}
use lib.Seq.{length-take-le, take_at}
use borrow.Author.Tests.{le-leb}
use Rattle.wire.proofs.Puts.{put_behind}
use Rattle.text.specs.Puts.{Fronts, Puts, Placed}

-- a piece and another right behind it
pub then : {room more : ℕ} {d : List ℕ} {at : ℕ} {s d₁ : List ℕ} {e : ℕ} {t d₂ : List ℕ} {f : ℕ} → Puts room d at s d₁ e → Puts more d₁ e t d₂ f
    → Puts (room + more) d at (s ++ t) d₂ f
then {d = d} {at = at} {s = s} {e = e} {t = t} p q =
    let l : length (take at d ++ s) ≡ e = length-append (take at d) s ∙ ap (λ (k : ℕ). k + length s) (length-take-le at d p.within) ∙ sym p.ends in
    let k : e + length t ≡ at + length (s ++ t) = omega (arith, p.ends, length-append s t) in
    record {
      bytes =
          q.bytes
          ∙ ap (λ (x : List ℕ). take e x ++ t ++ drop (e + length t) x) (p.bytes ∙ ap (λ (k : ℕ). take at d ++ s ++ drop k d) (sym p.ends))
          ∙ put_behind (take at d ++ s) t d e l
          ∙ ap₂ (λ (x : List ℕ) (n : ℕ). x ++ drop n d) (append_assoc (take at d) s t) k;
      ends = q.ends ∙ k;
      short = omega (arith, length-append s t, p.short, q.short);
      within = p.within;
    }

-- a piece has as much room as is said, or less
pub wider : {room more : ℕ} {d : List ℕ} {at : ℕ} {s d' : List ℕ} {e : ℕ} → room ≤ more → Puts room d at s d' e → Puts more d at s d' e
wider h p = record { bytes = p.bytes; ends = p.ends; short = omega (arith, p.short); within = p.within }

-- the same piece, said another way
pub retext : {room : ℕ} {d : List ℕ} {at : ℕ} {s t d' : List ℕ} {e : ℕ} → s ≡ t → Puts room d at s d' e → Puts room d at t d' e
retext {room} {d} {at} {s} {t} {d'} {e} q p = subst (λ (x : List ℕ). Puts room d at x d' e) q p

-- a piece that fits keeps the length
pub puts_length : {room : ℕ} {d : List ℕ} {at : ℕ} {s d' : List ℕ} {e : ℕ} → Puts room d at s d' e → at + room ≤ length d → length d' ≡ length d
puts_length {d = d} {at = at} {s = s} p h =
    ap length p.bytes ∙ simp (length-append, length-drop) (omega (arith, p.short, length-take-le at d p.within))

-- where there is room a piece is put, else nothing
module _ {room : ℕ} {d : List ℕ} {at : ℕ} {s d' : List ℕ} {e : ℕ} where
  pub puts_placed : room ≤ length d - at → Puts room d at s d' e → Placed room d at s d' e
  puts_placed h p =
      let l = le-leb room (length d - at) h in
      record { bytes = rw l p.bytes; ends = rw l p.ends; short = λ _. p.short }

  pub placed_puts : Placed room d at s d' e → room ≤ length d - at → at ≤ length d → Puts room d at s d' e
  placed_puts p h within =
      let l = le-leb room (length d - at) h in
      record { bytes = rw l at p.bytes; ends = rw l at p.ends; short = p.short h; within = within }

-- ---- at the front of a buffer

pub at_front : {room : ℕ} {d s d' : List ℕ} {e : ℕ} → Puts room d 0 s d' e → Fronts s d d' e
at_front {d = d} {s = s} p =
    record { bytes = p.bytes ∙ ap (λ (n : ℕ). s ++ drop n d) (zero-add (length s)); ends = p.ends ∙ zero-add (length s) }

-- a line placed in a buffer that has its room
pub front_placed : {room : ℕ} {d s d' : List ℕ} {e : ℕ} → Placed room d 0 s d' e → room ≤ length d → Fronts s d d' e
front_placed p h = at_front (placed_puts p (omega arith) (omega arith))

pub refront : {s t d d' : List ℕ} {e : ℕ} → s ≡ t → Fronts s d d' e → Fronts t d d' e
refront {s} {t} {d} {d'} {e} q p = subst (λ (x : List ℕ). Fronts x d d' e) q p

-- nothing yet, and a piece behind what stands at the front
pub nothing : (d : List ℕ) → Fronts [] d d 0
nothing d = record { bytes = refl; ends = refl }

pub front_then : {room : ℕ} {s d d₁ : List ℕ} {e : ℕ} {t d₂ : List ℕ} {f : ℕ} → Fronts s d d₁ e → Puts room d₁ e t d₂ f → Fronts (s ++ t) d d₂ f
front_then {s = s} {d = d} {d₁ = d₁} {e = e} p q =
    at_front
    (then {room = length s} {d = d} {at = 0} {s = s} {d₁ = d₁} {e = e}
    (record {
      bytes = p.bytes ∙ ap (λ (n : ℕ). s ++ drop n d) (sym (zero-add (length s)));
      ends = p.ends ∙ sym (zero-add (length s));
      short = omega arith;
      within = omega arith;
    })
    q)

-- what stands at the front can be read there
pub fronts_read : {s d d' : List ℕ} {e : ℕ} → Fronts s d d' e → take e d' ≡ s
fronts_read {s} {d} {d'} {e} p = ap (take e) p.bytes ∙ take_at s (drop (length s) d) e (sym p.ends)
