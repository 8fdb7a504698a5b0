-- How many numbers below another pass a test.
use Rattle.std.proofs.Common.{◌≡◌, ℕ, zero, suc, ◌+◌, ◌*◌, ◌<◌, ◌≤◌, Bool, true, false, cond, min, ltb, ap, arith, inl, inr, refl, ◌∙◌}
use Rattle.std.proofs.lemmas.Bool.{cases_lt, lt-ltb, le-ltb}
use Rattle.std.proofs.lemmas.List.Sums.{sum_by-cons}
use Rattle.std.specs.Prelude.{count_by, List, ◌∷◌}
use Rattle.base_definitions.specs.Counting.{count_from}

unfoldable pub tally : (ℕ → Bool) → ℕ → ℕ
tally test zero = 0
tally test (suc n) = tally test n + cond (test n) 1 0

-- one where a test passes
abbrev pub one_if : Bool → ℕ
one_if b = cond b 1 0

-- tests that agree pass as many
pub tally_same : (f g : ℕ → Bool) (n : ℕ) → ((k : ℕ) → k < n → f k ≡ g k) → tally f n ≡ tally g n
unfolding tally
tally_same f g zero same = refl
tally_same f g (suc n) same =
    omega (arith, tally_same f g n (λ k low. same k (omega arith)), ap one_if (same n (omega arith)))

-- what passes one of two tests that exclude each other
pub tally_both : (f g h : ℕ → Bool) (n : ℕ) → ((k : ℕ) → cond (f k) 1 0 + cond (g k) 1 0 ≡ cond (h k) 1 0)
    → tally f n + tally g n ≡ tally h n
unfolding tally
tally_both f g h zero both = refl
tally_both f g h (suc n) both = omega (arith, tally_both f g h n both, both n)

tally_first : (f : ℕ → Bool) (n : ℕ) → tally f (suc n) ≡ cond (f 0) 1 0 + tally (λ k. f (suc k)) n
unfolding tally
tally_first f zero = omega arith
tally_first f (suc n) = omega (arith, tally_first f n)

-- the numbers from x on
pub count_is : (f : ℕ → Bool) (x n : ℕ) → count_by f (count_from x n) ≡ tally (λ k. f (x + k)) n
unfolding tally
count_is f x zero = refl
count_is f x (suc n) =
    let here : x + 0 ≡ x = omega arith in
    omega (
      arith,
      sum_by-cons (λ k. cond (f k) 1 0) x (count_from (x + 1) n),
      count_is f (x + 1) n,
      tally_same (λ k. f (x + 1 + k)) (λ k. f (x + suc k)) n (λ k low. ap f (omega arith)),
      tally_first (λ k. f (x + k)) n,
      ap (λ k. one_if (f k)) here,
    )

-- the even numbers and the odd ones
pub halves : (f : ℕ → Bool) (n : ℕ) → tally f (2 * n) ≡ tally (λ k. f (2 * k)) n + tally (λ k. f (2 * k + 1)) n
unfolding tally
halves f zero = refl
halves f (suc n) =
    let next : 2 * suc n ≡ suc (suc (2 * n)) = omega arith in
    let odd : 2 * n + 1 ≡ suc (2 * n) = omega arith in
    ap (tally f) next ∙ omega (arith, halves f n, ap (λ k. one_if (f k)) odd)

-- the numbers below a bound
pub tally_below : (bound n : ℕ) → tally (λ k. ltb k bound) n ≡ min n bound
unfolding tally
tally_below bound zero = omega arith
tally_below bound (suc n) = elim (cases_lt n bound) [
  | inl below ↦ omega (arith, tally_below bound n, ap one_if (lt-ltb n bound below))
  | inr from ↦ omega (arith, tally_below bound n, ap one_if (le-ltb n bound from))
]
