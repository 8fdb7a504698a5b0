-- Which profiles make sense.
use Rattle.std.specs.Prelude.{ℕ, zero, suc, ◌%◌, Bool, true, not, ◌==◌, ◌&&◌, ◌||◌, nat_lt, if◌then◌else◌, List, [], ◌∷◌, slice_index, slice_index_or, Result, Ok, Err}
use Rattle.printer_definitions.specs.Printer.{Printer, head_rows, nozzle_step}
use Rattle.printer_profile.specs.declared.validity.ProfileFault.{ProfileFault}
use Rattle.printer_profile.specs.declared.validity.ProfileFault.TheVariants as fault

-- whether a number divides two others
abbrev pub divides_both : ℕ → ℕ → ℕ → Bool
divides_both d a b = (a % d == 0) && (b % d == 0)

-- the greatest number up to `most` that divides both
unfoldable pub greatest_divisor : ℕ → ℕ → ℕ → ℕ
greatest_divisor zero a b = 0
greatest_divisor (suc most) a b = if divides_both (suc most) a b then suc most else greatest_divisor most a b

-- the greatest common divisor of two numbers, of which the first is not 0: the number that `IsGcd` says
abbrev pub gcd_of : ℕ → ℕ → ℕ
gcd_of a b = greatest_divisor a a b

abbrev pub is_resolution : ℕ → Bool
is_resolution dpi = (dpi == 360) || (dpi == 720)

-- whether no number is below the one before
abbrev pub never_falls : List ℕ → Bool
never_falls [] = true
never_falls (a ∷ []) = true
never_falls (a ∷ b ∷ others) = not (nat_lt b a) && never_falls (b ∷ others)

-- whether a curve begins with 0 and does not fall
abbrev pub is_curve : List ℕ → Bool
is_curve curve = (slice_index curve 0 == 0) && never_falls curve

-- the fault of the curve of an ink, with its test
abbrev pub curve_test : List (List ℕ) → ℕ → Bool × ProfileFault
curve_test curves ink = (not (is_curve (slice_index_or curves ink [])), fault.Curve ink)

-- the faults of the curves of the four inks, with their tests
abbrev pub curve_tests : List (List ℕ) → List (Bool × ProfileFault)
curve_tests curves = curve_test curves 0 ∷ curve_test curves 1 ∷ curve_test curves 2 ∷ curve_test curves 3 ∷ []

-- each fault of a profile with the test for it, in the order of the checks
abbrev pub profile_tests : Printer → List (Bool × ProfileFault)
profile_tests p =
    (not (is_resolution p.hdpi) || not (is_resolution p.vdpi), fault.Resolution)
    ∷ (p.nozzles == 0, fault.Nozzles)
    ∷ (p.pitch == 0, fault.Pitch)
    ∷ (nat_lt 1 (gcd_of p.nozzles p.pitch), fault.NotCoprime (gcd_of p.nozzles p.pitch))
    ∷ (nat_lt 255 (nozzle_step p), fault.RowStep)
    ∷ (nat_lt p.top (head_rows p), fault.TopMargin (head_rows p))
    ∷ (p.black_start == 255, fault.BlackStart)
    ∷ curve_tests p.curves

-- the fault of the first test that holds
abbrev pub first_profile_fault : List (Bool × ProfileFault) → Result (Unit {0}) ProfileFault
first_profile_fault [] = Ok tt
first_profile_fault (test ∷ tests) = if test.0 then Err test.1 else first_profile_fault tests

-- a profile's first fault, if it has one
abbrev pub check : Printer → Result (Unit {0}) ProfileFault
check p = first_profile_fault (profile_tests p)
