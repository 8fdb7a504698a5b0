-- Counts and sums over lists.
use Rattle.std.proofs.Common.{◌≡◌, ◌≢◌, ℕ, zero, suc, ◌+◌, ◌<◌, ◌≤◌, Bool, true, false, cond, ◌||◌, inl, inr}
use Rattle.std.proofs.Common.{if◌then◌else◌, List, [], ◌∷◌, ◌++◌, refl, ◌∙◌, ap, arith}
use Rattle.std.proofs.lemmas.Bool.{cases_eq}
use Rattle.std.proofs.lemmas.List.Sums.{sum_by-append, sum_by-cons}
use Rattle.std.specs.List.{AllByRecursion, list_any, count_by, flat_map, sum_by}
use Rattle.base_definitions.specs.Counting.{count_from}

-- ---- what holds of each element

-- a fact of all values is one of each element
pub each-of : {X : Type 0} (P : X → Type 0) (xs : List X) → ((x : X) → P x) → AllByRecursion P xs
each-of P [] every = tt
each-of P (x ∷ xs) every = (every x, each-of P xs every)

-- a fact of the numbers in between is one of each that is counted
pub each-from : (P : ℕ → Type 0) (n many : ℕ) → ((k : ℕ) → n ≤ k → k < n + many → P k) → AllByRecursion P (count_from n many)
each-from P n zero between = tt
each-from P n (suc many) between = grind (arith, each-from P (n + 1) many (λ k first last. between k (omega arith) (omega arith)))

-- ---- sums

-- terms that are equal one by one have equal sums
pub sum-same : {X : Type 0} (f g : X → ℕ) (xs : List X) → AllByRecursion (λ x. f x ≡ g x) xs → sum_by f xs ≡ sum_by g xs
sum-same f g [] same = refl
sum-same f g (x ∷ xs) same = omega (arith, sum_by-cons f x xs, sum_by-cons g x xs, same.0, sum-same f g xs same.1)

-- terms that are 0 sum to 0
pub sum-none : {X : Type 0} (f : X → ℕ) (xs : List X) → AllByRecursion (λ x. f x ≡ 0) xs → sum_by f xs ≡ 0
sum-none f [] none = refl
sum-none f (x ∷ xs) none = omega (arith, sum_by-cons f x xs, none.0, sum-none f xs none.1)

-- the sum of sums of two terms
pub sum-plus : {X : Type 0} (f g : X → ℕ) (xs : List X) → sum_by (λ x. f x + g x) xs ≡ sum_by f xs + sum_by g xs
sum-plus f g [] = omega arith
sum-plus f g (x ∷ xs) = omega (arith, sum_by-cons (λ x. f x + g x) x xs, sum_by-cons f x xs, sum_by-cons g x xs, sum-plus f g xs)

-- a sum with one term that is not 0
pub sum-one : (f : ℕ → ℕ) (one n many : ℕ) → n ≤ one → one < n + many → ((k : ℕ) → k ≢ one → f k ≡ 0) → sum_by f (count_from n many) ≡ f one
sum-one f one n zero from below others = absurd (omega arith)
sum-one f one n (suc many) from below others =
    elim (cases_eq n one) [
      | inl e ↦ omega (
        arith,
        sum_by-cons f n (count_from (n + 1) many),
        ap f e,
        sum-none f (count_from (n + 1) many)
            (each-from (λ k. f k ≡ 0) (n + 1) many (λ k after inside. others k (λ same. omega (arith, same, e, after)))),
      )
      | inr apart ↦ omega (
        arith,
        sum_by-cons f n (count_from (n + 1) many),
        others n apart,
        sum-one f one (n + 1) many (omega (arith, apart)) (omega arith) others,
      )
    ]

-- ---- numbers that count where a test holds

-- a number that is 0 counts 0
pub if-none : (b : Bool) (n : ℕ) → n ≡ 0 → cond b n 0 ≡ 0
if-none true n e = e
if-none false n e = refl

-- the sum of two such numbers
pub if-plus : (b : Bool) (m n : ℕ) → cond b m 0 + cond b n 0 ≡ cond b (m + n) 0
if-plus true m n = refl
if-plus false m n = omega arith

-- ---- counts

-- the count of two lists, one after the other
pub count-append : {X : Type 0} (test : X → Bool) (xs ys : List X) → count_by test (xs ++ ys) ≡ count_by test xs + count_by test ys
count-append test xs ys = sum_by-append (λ x. cond (test x) 1 0) xs ys

-- the count of a list with one element before it
pub count-cons : {X : Type 0} (test : X → Bool) (x : X) (xs : List X) → count_by test (x ∷ xs) ≡ cond (test x) 1 0 + count_by test xs
count-cons test x xs = sum_by-cons (λ x. cond (test x) 1 0) x xs

-- lists that are put together hold as much as their parts
pub flat-most : {X Y : Type 0} (test : Y → Bool) (f : X → List Y) (g : X → ℕ) (xs : List X) → ((x : X) → count_by test (f x) ≤ g x)
    → count_by test (flat_map f xs) ≤ sum_by g xs
flat-most test f g [] each = omega arith
flat-most test f g (x ∷ xs) each =
    omega (arith, count-append test (f x) (flat_map f xs), sum_by-cons g x xs, each x, flat-most test f g xs each)

-- lists that are put together of parts with none have none
pub flat-none : {X Y : Type 0} (test : Y → Bool) (f : X → List Y) (xs : List X) → ((x : X) → count_by test (f x) ≡ 0)
    → count_by test (flat_map f xs) ≡ 0
flat-none test f [] each = refl
flat-none test f (x ∷ xs) each = omega (arith, count-append test (f x) (flat_map f xs), each x, flat-none test f xs each)

-- where at most one is counted, the count says whether there is one
pub few : {X : Type 0} (test : X → Bool) (xs : List X) → count_by test xs ≤ 1 → count_by test xs ≡ (if list_any test xs then 1 else 0)
few test [] le = refl
few test (x ∷ xs) le = grind (arith, count-cons, few test xs)
