-- The greatest common divisor, and the one that Euclid's steps find.
use Rattle.std.proofs.Common.{◌≡◌, ℕ, zero, suc, ◌<◌, ◌≤◌, ◌%◌, Bool, true, false, cond, eqb, ◌&&◌, refl, sym, arith, subst}
use Prim.Native.Nat.{◌∣◌}
use Rattle.std.specs.Int.{IsGcd}
use Rattle.std.proofs.Math.Nat.{eq-zero_of_zero-dvd, one-dvd}
use Rattle.std.proofs.lemmas.Bool.Decides.{nat_tests}
use Rattle.std.proofs.lemmas.Nat.Gcd.{dvd_of_mod-eq-zero, dvd_refl, mod-eq-zero_of_dvd, le_from_IsGcd, le_of_dvd}
use Rattle.printer_profile.specs.Validity.{divides_both, greatest_divisor, gcd_of}

-- two remainders, and the test of both
are_zero : (m n : ℕ) → m ≡ 0 → n ≡ 0 → (eqb m 0 && eqb n 0) ≡ true
are_zero m n m_is n_is = grind (arith, nat_tests)

both_zero : (m n : ℕ) → (eqb m 0 && eqb n 0) ≡ true → (m ≡ 0) × (n ≡ 0)
both_zero m n h = (grind (arith, nat_tests), grind (arith, nat_tests))

-- the test passes just what divides both
passes : (d a b : ℕ) → d ∣ a → d ∣ b → divides_both d a b ≡ true
passes d a b in_a in_b = are_zero (a % d) (b % d) (mod-eq-zero_of_dvd d in_a) (mod-eq-zero_of_dvd d in_b)

divides : (d a b : ℕ) → divides_both d a b ≡ true → (d ∣ a) × (d ∣ b)
divides d a b h = let rests = both_zero (a % d) (b % d) h in (dvd_of_mod-eq-zero d rests.0, dvd_of_mod-eq-zero d rests.1)

-- the greatest common divisor is the greatest number that divides both
greatest : (most a b g : ℕ) → IsGcd a b g → 0 < g → g ≤ most → greatest_divisor most a b ≡ g
unfolding greatest_divisor
greatest zero a b g is some within = absurd (omega arith)
greatest (suc most) a b g is some within =
    by_test (divides_both (suc most) a b) refl (greatest most a b g is some) where
      by_test : (test : Bool) → divides_both (suc most) a b ≡ test
          → (g ≤ most → greatest_divisor most a b ≡ g) → cond test (suc most) (greatest_divisor most a b) ≡ g
      by_test true passed below =
          let both = divides (suc most) a b passed in
          let least : suc most ≤ g = le_from_IsGcd a b g (suc most) is some both.0 both.1 in omega arith
      by_test false failed below =
          let here : divides_both g a b ≡ true = passes g a b is.0 is.1 in
          let apart : g ≡ suc most → ⊥ = λ same. cc in
          below (omega arith)

positive : (a g : ℕ) → 0 < a → g ∣ a → 0 < g
positive a zero some h = let none : a ≡ 0 = eq-zero_of_zero-dvd h in absurd (omega arith)
positive a (suc g) some h = omega arith

-- the greatest common divisor of two numbers, of which the first is not 0
pub gcd_is : (a b g : ℕ) → 0 < a → IsGcd a b g → g ≡ gcd_of a b
gcd_is a b g some is = sym (greatest a a b g is (positive a g some is.0) (le_of_dvd some is.0))

-- each common divisor is at most the greatest
most_common : (most a b d : ℕ) → d ≤ most → d ∣ a → d ∣ b → d ≤ greatest_divisor most a b
unfolding greatest_divisor
most_common zero a b d within in_a in_b = within
most_common (suc most) a b d within in_a in_b =
    by_test (divides_both (suc most) a b) refl (λ below. most_common most a b d below in_a in_b) where
      by_test : (test : Bool) → divides_both (suc most) a b ≡ test
          → (d ≤ most → d ≤ greatest_divisor most a b) → d ≤ cond test (suc most) (greatest_divisor most a b)
      by_test true passed below = within
      by_test false failed below =
          let here : divides_both d a b ≡ true = passes d a b in_a in_b in
          let apart : d ≡ suc most → ⊥ = λ same. cc in
          below (omega arith)

-- where the greatest common divisor is at most 1, it is 1
pub coprime_is : (a b : ℕ) → 0 < a → gcd_of a b ≤ 1 → IsGcd a b 1
coprime_is a b some low = (one-dvd a, one-dvd b, λ d p q. is_one d p (omega (arith, most_common a a b d (le_of_dvd some p) p q)))
  where
    is_one : (d : ℕ) → d ∣ a → d ≤ 1 → d ∣ 1
    is_one zero p le = let none : a ≡ 0 = eq-zero_of_zero-dvd p in absurd (omega arith)
    is_one (suc d) p le = let one : suc d ≡ 1 = omega arith in subst (λ n. n ∣ 1) (sym one) (dvd_refl 1)
