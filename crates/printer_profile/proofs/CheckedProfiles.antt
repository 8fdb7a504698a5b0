-- What a profile that passes its checks can do.
use Rattle.std.proofs.Common.{List, ◌∷◌, drop, ◌≡◌, ℕ, zero, suc, ◌<◌, ◌≤◌, ◌⊎◌, [], Bool, true, false, not, cond, ◌||◌, eqb, ltb, Result, Err, inl, inr, refl, arith}
use Rattle.std.specs.Prelude.{IsOk, slice_index_or}
use Rattle.std.proofs.lemmas.Bool.Decides.{nat_tests}
use Rattle.separation_definitions.specs.CanPrint.{CanPrint}
use Rattle.printer_definitions.specs.Printer.{Printer, head_rows, nozzle_step}
use Rattle.printer_profile.specs.declared.validity.ProfileFault.{ProfileFault}
use Rattle.printer_profile.specs.Validity.{check, curve_tests, first_profile_fault, gcd_of, is_curve, is_resolution, profile_tests}
use Rattle.printer_profile.specs.declared.validity.ProfileFault.TheVariants as fault
use Rattle.printer_profile.proofs.Divisors.{coprime_is}
use Rattle.std.specs.Int.{IsGcd}

-- where there is no fault, the test fails
passed : (test : Bool) (fault : ProfileFault) (rest : Result (Unit {0}) ProfileFault)
    → IsOk (cond test (Err fault) rest) → (test ≡ false) × IsOk rest
passed true fault rest h = absurd (cc)
passed false fault rest h = (refl, h)

both_fail : (a b : Bool) → (not a || not b) ≡ false → (a ≡ true) × (b ≡ true)
both_fail a b h = (grind (arith, nat_tests), grind (arith, nat_tests))

one_of : (dpi : ℕ) → is_resolution dpi ≡ true → (dpi ≡ 360) ⊎ (dpi ≡ 720)
one_of dpi h = by_test (eqb dpi 360) refl h where
  by_test : (test : Bool) → eqb dpi 360 ≡ test → (test || eqb dpi 720) ≡ true → (dpi ≡ 360) ⊎ (dpi ≡ 720)
  by_test true same h = inl (grind (arith, nat_tests))
  by_test false other h = inr (grind (arith, nat_tests))

some : (n : ℕ) → eqb n 0 ≡ false → 1 ≤ n
some n h = grind (arith, nat_tests)

at_most : (most n : ℕ) → ltb most n ≡ false → n ≤ most
at_most most n h = grind (arith, nat_tests)

pub is_coprime : (p : Printer) → IsOk (check p) → IsGcd p.nozzles p.pitch 1
is_coprime p h =
    let resolution = passed _ _ _ h in
    let nozzles = passed _ _ _ resolution.1 in
    let pitch = passed _ _ _ nozzles.1 in
    let coprime = passed _ _ _ pitch.1 in
    coprime_is p.nozzles p.pitch (some p.nozzles nozzles.0) (at_most 1 (gcd_of p.nozzles p.pitch) coprime.0)

pub can_print : (p : Printer) → p.nozzles ≤ 255 → IsOk (check p) → CanPrint p
can_print p small h =
    let resolution = passed _ _ _ h in
    let nozzles = passed _ _ _ resolution.1 in
    let pitch = passed _ _ _ nozzles.1 in
    let coprime = passed _ _ _ pitch.1 in
    let step = passed _ _ _ coprime.1 in
    let margin = passed _ _ _ step.1 in
    let both = both_fail (is_resolution p.hdpi) (is_resolution p.vdpi) resolution.0 in
    record {
      across = one_of p.hdpi both.0;
      down = one_of p.vdpi both.1;
      some_nozzles = some p.nozzles nozzles.0;
      most_nozzles = small;
      some_pitch = some p.pitch pitch.0;
      coprime = is_coprime p h;
      small_step = at_most 255 (nozzle_step p) step.0;
      head_room = at_most p.top (head_rows p) margin.0;
    }

-- where no test fails, none of the later ones does
later_pass : (tests : List (Bool × ProfileFault)) (n : ℕ) → IsOk (first_profile_fault tests) → IsOk (first_profile_fault (drop n tests))
later_pass tests zero h = h
later_pass [] (suc n) h = h
later_pass (test ∷ tests) (suc n) h = later_pass tests n (passed test.0 test.1 (first_profile_fault tests) h).1

four_good : (a b c d : Bool)
    → IsOk (first_profile_fault ((not a, fault.Curve 0) ∷ (not b, fault.Curve 1) ∷ (not c, fault.Curve 2) ∷ (not d, fault.Curve 3) ∷ []))
    → (a ≡ true) × (b ≡ true) × (c ≡ true) × (d ≡ true)
four_good false b c d h = absurd (cc)
four_good true false c d h = absurd (cc)
four_good true true false d h = absurd (cc)
four_good true true true false h = absurd (cc)
four_good true true true true h = (refl, refl, refl, refl)

curve_at : (curves : List (List ℕ)) (ink : ℕ) → IsOk (first_profile_fault (curve_tests curves)) → ink < 4
    → is_curve (slice_index_or curves ink []) ≡ true
curve_at curves ink h within = by_place ink within (four_good (good_at 0) (good_at 1) (good_at 2) (good_at 3) h) where
  good_at : ℕ → Bool
  good_at place = is_curve (slice_index_or curves place [])

  by_place : (ink : ℕ) → ink < 4
      → (good_at 0 ≡ true) × (good_at 1 ≡ true) × (good_at 2 ≡ true) × (good_at 3 ≡ true) → good_at ink ≡ true
  by_place zero within good = good.0
  by_place (suc zero) within good = good.1
  by_place (suc (suc zero)) within good = good.2
  by_place (suc (suc (suc zero))) within good = good.3
  by_place (suc (suc (suc (suc ink)))) within good = absurd (omega arith)

-- the curve of each ink begins with 0 and does not fall
pub curve_good : (p : Printer) (ink : ℕ) → IsOk (check p) → ink < 4 → is_curve (slice_index_or p.curves ink []) ≡ true
curve_good p ink h within = curve_at p.curves ink (later_pass (profile_tests p) 7 h) within
