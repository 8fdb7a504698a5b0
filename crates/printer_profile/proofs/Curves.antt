-- Curves that begin with 0 and do not fall.
use Rattle.std.proofs.Common.{◌≡◌, ℕ, zero, suc, ◌+◌, ◌-◌, ◌<◌, ◌≤◌, Bool, true, false, not, ◌&&◌, eqb, ltb, List, [], ◌∷◌, length, get_or}
use Rattle.std.proofs.Common.{Option, Some, None, Result, Ok, Err, cond, refl, sym, arith}
use Rattle.std.specs.Prelude.{position}
use Rattle.std.proofs.lemmas.Bool.{and_parts}
use Rattle.std.proofs.lemmas.Bool.Decides.{nat_tests}
use Rattle.printer_profile.specs.Validity.{curve_tests, first_profile_fault, is_curve, never_falls}
use Rattle.printer_profile.specs.declared.validity.ProfileFault.{ProfileFault}
use Rattle.printer_profile.specs.declared.validity.ProfileFault.TheVariants as fault

-- a point and the next
not_below : (a b : ℕ) (rest : Bool) → (not (ltb b a) && rest) ≡ true → a ≤ b
not_below a b rest h = grind (arith, nat_tests)

below : (a b : ℕ) (rest : Bool) → b < a → (not (ltb b a) && rest) ≡ false
below a b rest h = grind (arith, nat_tests)

both : (a b : ℕ) (rest : Bool) → a ≤ b → rest ≡ true → (not (ltb b a) && rest) ≡ true
both a b rest h more = grind (arith, nat_tests)

either : (here rest : Bool) → rest ≡ false → (here && rest) ≡ false
either true rest h = h
either false rest h = refl

rises : (xs : List ℕ) (i : ℕ) → never_falls xs ≡ true → suc i < length xs → get_or xs i 0 ≤ get_or xs (suc i) 0
rises [] i h within = absurd (omega arith)
rises (a ∷ []) i h within = absurd (omega arith)
rises (a ∷ b ∷ xs) zero h within = not_below a b (never_falls (b ∷ xs)) h
rises (a ∷ b ∷ xs) (suc i) h within = rises (b ∷ xs) i (and_parts _ _ h).1 (omega arith)

falls : (xs : List ℕ) (i : ℕ) → suc i < length xs → get_or xs (suc i) 0 < get_or xs i 0 → never_falls xs ≡ false
falls [] i within h = absurd (omega arith)
falls (a ∷ []) i within h = absurd (omega arith)
falls (a ∷ b ∷ xs) zero within h = below a b (never_falls (b ∷ xs)) h
falls (a ∷ b ∷ xs) (suc i) within h = either _ (never_falls (b ∷ xs)) (falls (b ∷ xs) i (omega arith) h)

all_rise : (xs : List ℕ) → ((i : ℕ) → suc i < length xs → get_or xs i 0 ≤ get_or xs (suc i) 0) → never_falls xs ≡ true
all_rise [] h = refl
all_rise (a ∷ []) h = refl
all_rise (a ∷ b ∷ xs) h =
    both a b (never_falls (b ∷ xs)) (h 0 (omega arith)) (all_rise (b ∷ xs) (λ i within. h (suc i) (omega arith)))

both_true : (n : ℕ) (rest : Bool) → n ≡ 0 → rest ≡ true → true ≡ (eqb n 0 && rest)
both_true n rest none h = grind (arith, nat_tests)

pub is_good : (curve : List ℕ) → get_or curve 0 0 ≡ 0
    → ((i : ℕ) → suc i < length curve → get_or curve i 0 ≤ get_or curve (suc i) 0) → true ≡ is_curve curve
is_good curve none h = both_true (get_or curve 0 0) (never_falls curve) none (all_rise curve h)

pub is_bad : (curve : List ℕ) (place : ℕ) → 0 < place → place < length curve
    → get_or curve place 0 < get_or curve (place - 1) 0 → false ≡ is_curve curve
is_bad curve zero some within h = absurd (omega arith)
is_bad curve (suc i) some within h =
    let e : suc i - 1 ≡ i = omega arith in
    sym (either (eqb (get_or curve 0 0) 0) (never_falls curve) (falls curve i (omega arith) (rw e at h)))

-- ---- the curves of a profile

-- what the place of the first broken curve says of a profile
unfoldable pub answer : Option ℕ → Result (Unit {0}) ProfileFault
answer None = Ok tt
answer (Some ink) = Err (fault.Curve ink)

before_broken : Bool → ℕ → ℕ
before_broken good others = cond (not (not good)) (1 + others) 0

first_broken : (a b c d : Bool) →
    let place : ℕ = before_broken a (before_broken b (before_broken c (before_broken d 0))) in
    answer (cond (ltb place 4) (Some place) None)
    ≡ first_profile_fault ((not a, fault.Curve 0) ∷ (not b, fault.Curve 1) ∷ (not c, fault.Curve 2) ∷ (not d, fault.Curve 3) ∷ [])
unfolding answer before_broken
first_broken false b c d = refl
first_broken true false c d = refl
first_broken true true false d = refl
first_broken true true true false = refl
first_broken true true true true = refl

pub broken_is : (curves : List (List ℕ)) → length curves ≡ 4
    → answer (position (λ curve. not (is_curve curve)) curves) ≡ first_profile_fault (curve_tests curves)
unfolding answer before_broken
broken_is [] h = absurd (omega arith)
broken_is (a ∷ []) h = absurd (omega arith)
broken_is (a ∷ b ∷ []) h = absurd (omega arith)
broken_is (a ∷ b ∷ c ∷ []) h = absurd (omega arith)
broken_is (a ∷ b ∷ c ∷ d ∷ []) h = first_broken (is_curve a) (is_curve b) (is_curve c) (is_curve d)
broken_is (a ∷ b ∷ c ∷ d ∷ e ∷ curves) h = absurd (omega arith)

-- the points of a good curve, one after the other
pub good_rises : (curve : List ℕ) (place : ℕ) → is_curve curve ≡ true → place + 1 < length curve
    → get_or curve place 0 ≤ get_or curve (place + 1) 0
good_rises curve place good within =
    let e : place + 1 ≡ suc place = omega arith in
    rw e (rises curve place (and_parts (eqb (get_or curve 0 0) 0) (never_falls curve) good).1 (omega arith))
