-- Laws of the label, for general n: a pointer and its label give each other back, and the packet pointer + 1 places on is the mark.
use mathlib.Core.Path.{◌≡◌, sym, ap, ◌∙◌}
use Prim.Native.Nat.{ℕ, ◌+◌, ◌-◌, ◌<◌}
use native.Mathlib.Nat.{mod-lt, mod_self, mod-eq_of_lt, mod-add-mod}
use native.Mathlib.Omega.{arith}
use Rattle.cadence.specs.Label.{label_of, pointer_of, label_at, next_label}

module _ (n x : ℕ) (h : x < n) where
  pub label_below : label_of n x < n
  label_below = omega arith

  -- the pointer back from its label; as both are one map, also the label back from its pointer
  pub own_inverse : pointer_of n (label_of n x) ≡ x
  own_inverse = omega arith

  -- x + 1 places on is the mark
  pub mark_after : label_at n (label_of n x + (x + 1)) ≡ 0
  mark_after =
      let e : label_of n x + (x + 1) ≡ n = omega arith in
      ap (label_at n) e ∙ mod_self n

-- pointer 0 is that of the last packet, and pointer n − 1 that of the mark
pub label_of_zero : (n : ℕ) → label_of n 0 ≡ n - 1
label_of_zero n = omega arith

pub label_of_last : (n : ℕ) → label_of n (n - 1) ≡ 0
label_of_last n = omega arith

module _ (n : ℕ) (h : 0 < n) where
  pub label_at_below : (t : ℕ) → label_at n t < n
  label_at_below t = mod-lt t h

  pub next_below : (l : ℕ) → next_label n l < n
  next_below l = mod-lt (l + 1) h

  -- 0 comes after n − 1
  pub next_of_last : next_label n (n - 1) ≡ 0
  next_of_last =
      let e : n - 1 + 1 ≡ n = omega arith in
      ap (label_at n) e ∙ mod_self n

-- l + 1 comes after any other label
pub next_of_other : (n l : ℕ) → l + 1 < n → next_label n l ≡ l + 1
next_of_other n l h = mod-eq_of_lt h

-- the next place has the next label
pub next_place : (n t : ℕ) → label_at n (t + 1) ≡ next_label n (label_at n t)
next_place n t = sym (mod-add-mod t n 1)

-- a notice whose pointer gives its place's label points at a mark
pub mark_pointed_at : (n t pointer : ℕ) → pointer < n → label_at n t ≡ label_of n pointer → label_at n (t + (pointer + 1)) ≡ 0
mark_pointed_at n t pointer h e =
    sym (mod-add-mod t n (pointer + 1)) ∙ ap (λ (l : ℕ). label_at n (l + (pointer + 1))) e ∙ mark_after n pointer h
