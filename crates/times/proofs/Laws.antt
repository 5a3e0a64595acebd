-- What holds of the times of a release, for a second of u units.
-- Their ranges, what they are modulo u, where the wait ends, when a mark is late and by how much, and one reference time for all sites.
use Rattle.std.proofs.Common.{◌≡◌, sym, ap, ◌∙◌, subst, true, false, ℕ, ◌+◌, ◌-◌, ◌*◌, ◌/◌, ◌%◌, ◌≤◌, ◌<◌, arith, ℤ, pos, ◌+ℤ◌, ◌-ℤ◌}
use native.Mathlib.Nat.{mod-lt, mod-mod, mod-eq_of_lt}
use lib.Dec.{ltb}
use lib.Signed.{lt_z, ◌≤ℤ◌}
use borrow.Author.Differences.{up, down}
use Rattle.std.proofs.lemmas.Int.{ints}
use Rattle.std.proofs.lemmas.Bool.Decides.{nat_tests}
use Rattle.times.specs.Whole.{plus, residue}
use Rattle.times.specs.Release.{wrap, reference, emission, modulation, link_delay, wait, negative, delay_fits, Times, late, released, wait_of, times_of, due_of, Kept}
use Rattle.times.proofs.Whole.{Diff, congruent, differ, residue_only}
use Rattle.times.proofs.Formulas.{wrap_less, wrap_residue, modulation_less, modulation_residue, link_less, link_residue, delay_less, delay_whole, sum_apart, sum_whole, late_is, lateness_minus, lateness_least, wait_longer}
use Rattle.times.proofs.Answers.{due_late, due_released, Passed, passed, Missed, missed}

-- ---- ranges
pub record InRange (u : ℕ) (t : Times) : Type 0 where
  pub reference_less : t.reference < u
  pub emission_less : t.emission < u
  pub modulation_less : t.modulation < u

-- each time is its sum modulo u
pub record Residues (u sts md : ℕ) (od : ℤ) (tad : ℕ) (t : Times) : Type 0 where
  pub reference_is : t.reference ≡ residue u (pos sts +ℤ pos md)
  pub emission_is : t.emission ≡ residue u (pos sts +ℤ pos md +ℤ od)
  pub modulation_is : t.modulation ≡ residue u (pos sts +ℤ pos md +ℤ od -ℤ pos tad)

-- the wait is a natural number of units, at most MD + OD, which is within the second; held so long from the arrival tick on, the mark ends
-- at its modulation time
pub record Waits (u md : ℕ) (od : ℤ) (arrival : ℕ) (t : Times) : Type 0 where
  pub units : ℕ
  pub wait_is : t.wait ≡ pos units
  pub delay : ℕ
  pub delay_is : pos md +ℤ od ≡ pos delay
  pub at_most : units ≤ delay
  pub is_in_second : delay < u
  pub ends : (arrival + units) % u ≡ t.modulation

-- the same, but that it ends at the modulation time modulo u
abbrev pub WaitsModulo : (u md : ℕ) → ℤ → ℕ → Times → Type 0
WaitsModulo u md od arrival t = Waits u md od arrival (record t { modulation = t.modulation % u })

module _ (u sts md : ℕ) (od : ℤ) (fits : delay_fits u md od ≡ true) where
  pub emission_less : sts < u → emission u sts md od < u
  emission_less h = wrap_less u (plus (sts + md) od) (omega (arith, sum_apart u md od fits sts, delay_less u md od fits))

  pub times_range : (tad arrival : ℕ) → sts < u → md < u → InRange u (times_of u sts md od tad arrival)
  times_range tad arrival h k =
      record {
        reference_less = wrap_less u (sts + md) (omega arith);
        emission_less = emission_less h;
        modulation_less = modulation_less u (emission u sts md od) tad (emission_less h);
      }

  -- the modulation time is its own remainder
  modulation_own : (tad : ℕ) → sts < u → modulation u (emission u sts md od) tad % u ≡ modulation u (emission u sts md od) tad
  modulation_own tad h = mod-eq_of_lt (modulation_less u (emission u sts md od) tad (emission_less h))

  -- ---- the times modulo u
  pub times_residues : (tad arrival : ℕ) → sts < u → md < u → tad < u → Residues u sts md od tad (times_of u sts md od tad arrival)
  times_residues tad arrival h k g =
      let x = plus (sts + md) od in
      let e = wrap u x in
      let some : 0 < u = omega arith in
      let nought : (n : ℕ) → (n + 0) % u ≡ n % u = λ n. ap (λ (k : ℕ). k % u) (omega arith) in
      let r : Diff (pos sts +ℤ pos md) (sts + md) 0 = record { is = omega (arith, ints) } in
      let s : Diff (pos sts +ℤ pos md +ℤ od) x 0 = record { is = omega (arith, ints, sum_whole u md od fits sts) } in
      let m : Diff (pos sts +ℤ pos md +ℤ od -ℤ pos tad) x tad = record { is = omega (arith, ints, sum_whole u md od fits sts) } in
      record {
        reference_is = sym (residue_only some r (wrap u (sts + md)) (wrap_less u (sts + md) (omega arith)) (nought _ ∙ wrap_residue u (sts + md)));
        emission_is = sym (residue_only some s e (emission_less h) (nought _ ∙ wrap_residue u x));
        modulation_is =
            sym (residue_only some m (modulation u e tad) (modulation_less u e tad (emission_less h))
            (modulation_residue u e tad (omega arith) ∙ wrap_residue u x));
      }

  -- ---- where the wait ends: from the arrival tick on, at the modulation time. Of any STS, modulo u
  pub wait_ends_modulo :
      (tad arrival : ℕ) → tad < u
      → residue u (pos arrival +ℤ wait_of u sts md od tad arrival) ≡ modulation u (emission u sts md od) tad % u
  wait_ends_modulo tad arrival g =
      let x = plus (sts + md) od in
      let e = wrap u x in
      let m = modulation u e tad in
      let l = link_delay u arrival sts in
      let some : 0 < u = omega arith in
      let c₁ = differ u (m % u) m (mod-mod m u) in
      let c₂ = differ u (m + tad) e (modulation_residue u e tad (omega arith)) in
      let c₃ = differ u e x (wrap_residue u x) in
      let c₄ = differ u (l + sts) arrival (link_residue u arrival sts some) in
      let d : Diff (pos arrival +ℤ wait md od tad l) (arrival + x) (sts + tad + l) = record { is = omega (arith, ints, sum_whole u md od fits sts) } in
      residue_only some d (m % u) (mod-lt m some)
      (congruent u _ _ (m / u + e / u + x / u + arrival / u) (m % u / u + (m + tad) / u + e / u + (l + sts) / u) (omega arith))

  -- and of an STS within the second
  pub wait_ends :
      (tad arrival : ℕ) → sts < u → tad < u
      → residue u (pos arrival +ℤ wait_of u sts md od tad arrival) ≡ modulation u (emission u sts md od) tad
  wait_ends tad arrival h g = wait_ends_modulo tad arrival g ∙ modulation_own tad h

  -- ---- a wait that is not late, of any STS
  pub waits_modulo :
      (tad arrival : ℕ) → tad < u → negative (wait_of u sts md od tad arrival) ≡ false
      → WaitsModulo u md od arrival (times_of u sts md od tad arrival)
  waits_modulo tad arrival g in_time =
      let w = wait_of u sts md od tad arrival in
      let whole : w ≡ pos (up w - down w) = omega (arith, ints) in
      record {
        units = up w - down w;
        wait_is = whole;
        delay = plus md od;
        delay_is = sym (delay_whole u md od fits);
        at_most = omega (arith, ints, delay_whole u md od fits);
        is_in_second = delay_less u md od fits;
        ends = sym (ap (λ (z : ℤ). residue u (pos arrival +ℤ z)) whole) ∙ wait_ends_modulo tad arrival g;
      }

  -- and of one within the second
  pub waits :
      (tad arrival : ℕ) → sts < u → tad < u → negative (wait_of u sts md od tad arrival) ≡ false
      → Waits u md od arrival (times_of u sts md od tad arrival)
  waits tad arrival h g in_time =
      let at : ℕ → Type 0 = λ (m : ℕ). Waits u md od arrival (record (times_of u sts md od tad arrival) { modulation = m }) in
      subst at (modulation_own tad h) (waits_modulo tad arrival g in_time)

  -- ---- no wait is below −2 × (u − 1): MD + OD is not negative, and TAD and the link delay are at most u − 1 each
  pub wait_least : (tad arrival : ℕ) → tad < u → pos 0 ≤ℤ (wait_of u sts md od tad arrival +ℤ pos (2 * (u - 1)))
  wait_least tad arrival h = omega (arith, ints, link_less u arrival sts (omega arith), delay_whole u md od fits)

  -- ---- late exactly when MD + OD is over before the link delay and TAD are
  pub late_after : (tad link : ℕ) → negative (wait md od tad link) ≡ ltb (plus md od) (tad + link)
  late_after tad link = late_is md od tad link ∙ ap (λ (z : ℤ). lt_z z (pos (tad + link))) (sym (delay_whole u md od fits))

-- ---- of a mark that was released within the limits
module _ (u sts md : ℕ) (od : ℤ) (tad arrival : ℕ) (t : Times) (answer : due_of u sts md od tad arrival ≡ released t) where
  has : Passed u sts md od tad arrival t
  has = passed u sts md od tad arrival t answer

  -- a site's own values do not enter the reference time
  pub released_reference : t.reference ≡ reference u sts md
  released_reference = sym (ap (λ (x : Times). x.reference) has.times_are)

  module _ (k : Kept u sts md od tad arrival) where
    pub released_range : InRange u t
    released_range = subst (InRange u) has.times_are (times_range u sts md od k.delay_in_second tad arrival k.sts_less k.md_less)

    pub released_residues : Residues u sts md od tad t
    released_residues = subst (Residues u sts md od tad) has.times_are (times_residues u sts md od k.delay_in_second tad arrival k.sts_less k.md_less k.tad_less)

    pub released_waits : Waits u md od arrival t
    released_waits = subst (Waits u md od arrival) has.times_are (waits u sts md od k.delay_in_second tad arrival k.sts_less k.tad_less has.in_time)

-- ---- of a mark that is late by x
module _ (u sts md : ℕ) (od : ℤ) (tad arrival x : ℕ) (answer : due_of u sts md od tad arrival ≡ late x) where
  abbrev w : ℤ
  w = wait_of u sts md od tad arrival

  missing : Missed u sts md od tad arrival x
  missing = missed u sts md od tad arrival x answer

  -- x is minus the wait, and 1 or more
  pub late_wait : wait_of u sts md od tad arrival ≡ pos 0 -ℤ pos x
  late_wait = lateness_minus w missing.too_late ∙ ap (λ (n : ℕ). pos 0 -ℤ pos n) missing.by

  pub late_least : 1 ≤ x
  late_least = omega (arith, lateness_least w missing.too_late, missing.by)

  -- and within the limits at most 2 × (u − 1)
  pub late_most : Kept u sts md od tad arrival → x ≤ 2 * (u - 1)
  late_most k = omega (arith, ints, wait_least u sts md od k.delay_in_second tad arrival k.tad_less, late_wait)

  -- with MD longer by y it is late by y less at the same arrival, and released from y = x on
  module _ (y : ℕ) where
    longer_wait : wait_of u sts (md + y) od tad arrival ≡ pos y -ℤ pos x
    longer_wait = omega (arith, ints, late_wait, wait_longer md y od tad (link_delay u arrival sts))

    pub longer_late : y < x → due_of u sts (md + y) od tad arrival ≡ late (x - y)
    longer_late h =
        let e : negative (wait_of u sts (md + y) od tad arrival) ≡ true = rw longer_wait (grind (arith, ints, nat_tests)) in
        due_late u sts (md + y) od tad arrival e ∙ ap late (omega (arith, ints, longer_wait, lateness_minus (wait_of u sts (md + y) od tad arrival) e))

    pub longer_released : x ≤ y → due_of u sts (md + y) od tad arrival ≡ released (times_of u sts (md + y) od tad arrival)
    longer_released h = due_released u sts (md + y) od tad arrival (rw longer_wait (grind (arith, ints, nat_tests)))

    pub longer_waits : x ≤ y → wait_of u sts (md + y) od tad arrival ≡ pos (y - x)
    longer_waits h = omega (arith, ints, longer_wait)

-- two sites that release a mark of one STS and MD give it one reference time
pub one_reference :
    (u sts md : ℕ) (od od' : ℤ) (tad tad' arrival arrival' : ℕ) (t t' : Times)
    → due_of u sts md od tad arrival ≡ released t
    → due_of u sts md od' tad' arrival' ≡ released t'
    → t.reference ≡ t'.reference
one_reference u sts md od od' tad tad' arrival arrival' t t' e e' =
    released_reference u sts md od tad arrival t e ∙ sym (released_reference u sts md od' tad' arrival' t' e')
