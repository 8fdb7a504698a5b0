-- The list of firings has each row of the window exactly once.
use Rattle.std.proofs.Common.{◌≡◌, ◌≢◌, ℕ, zero, suc, ◌+◌, ◌-◌, ◌*◌, ◌/◌, ◌%◌, ◌<◌, ◌≤◌, Bool, true, false, cond, ◌==◌, inl, inr, nat_lt}
use Rattle.std.proofs.Common.{if◌then◌else◌, List, [], ◌∷◌, Option, None, Some, refl, sym, ◌∙◌, ap, arith}
use Rattle.std.proofs.lemmas.Bool.{cases_eq, eq-eqb, eqb-true, ltb-false, ltb-true}
use Rattle.std.proofs.lemmas.Nat.{mod_below}
use Rattle.std.proofs.lemmas.List.Sums.{sum_by-append, sum_by-cons}
use Rattle.std.specs.Int.{IsGcd}
use Rattle.std.specs.List.{count_by, flat_map, sum_by}
use Rattle.base_definitions.specs.Counting.{count_from}
use Rattle.weave_definitions.specs.Weave.{Firing, firing, nozzle_row, pass_count, passes}
use Rattle.weave_definitions.specs.Weave.{FiresEachRowOnce}
use Rattle.weave_definitions.proofs.Rounds.{Inverse, inverse}
use Rattle.weave_definitions.proofs.Rows.{Counts, StandsOn, own-counts, pass-low, place-fires, place-only, stands_on}

-- ---- sums and counts

pub sum-same : (g h : ℕ → ℕ) (xs : List ℕ) → ((x : ℕ) → g x ≡ h x) → sum_by g xs ≡ sum_by h xs
sum-same g h [] same = refl
sum-same g h (x ∷ xs) same = omega (arith, sum_by-cons g x xs, sum_by-cons h x xs, same x, sum-same g h xs same)

-- a list that is put together has as many as its parts
pub count-flat : {X Y : Type 0} (test : Y → Bool) (f : X → List Y) (xs : List X)
    → count_by test (flat_map f xs) ≡ sum_by (λ x. count_by test (f x)) xs
count-flat test f [] = refl
count-flat test f (x ∷ xs) =
    sum_by-append (λ y. cond (test y) 1 0) (f x) (flat_map f xs)
    ∙ ap (λ n. count_by test (f x) + n) (count-flat test f xs)
    ∙ sym (sum_by-cons (λ x. count_by test (f x)) x xs)

pub sum-none : (g : ℕ → ℕ) (n many : ℕ) → ((k : ℕ) → n ≤ k → k < n + many → g k ≡ 0) → sum_by g (count_from n many) ≡ 0
sum-none g n zero none = refl
sum-none g n (suc many) none =
    omega (
      arith,
      sum_by-cons g n (count_from (n + 1) many),
      none n (omega arith) (omega arith),
      sum-none g (n + 1) many (λ k from below. none k (omega arith) (omega arith)),
    )

sum-one : (g : ℕ → ℕ) (one n many : ℕ) → n ≤ one → one < n + many → ((k : ℕ) → k < n + many → k ≢ one → g k ≡ 0)
    → sum_by g (count_from n many) ≡ g one
sum-one g one n zero from below others = absurd (omega arith)
sum-one g one n (suc many) from below others =
    elim (cases_eq n one) [
      | inl e ↦ omega (
        arith,
        sum_by-cons g n (count_from (n + 1) many),
        ap g e,
        sum-none g (n + 1) many (λ k after inside. others k (omega arith) (λ same. omega (arith, same, e, after))),
      )
      | inr apart ↦ omega (
        arith,
        sum_by-cons g n (count_from (n + 1) many),
        others n (omega arith) apart,
        sum-one g one (n + 1) many (omega (arith, apart)) (omega arith) (λ k inside. others k (omega arith)),
      )
    ]

-- ---- one nozzle in one pass

-- how often one firing is on a row
pub count-firing : (t i y : ℕ) (row : Option ℕ) → record {
  hit : row ≡ Some y → count_by (λ (f : Firing). f.row == y) (firing t i row) ≡ 1;
  miss : (row ≡ Some y → ⊥) → count_by (λ (f : Firing). f.row == y) (firing t i row) ≡ 0;
}
count-firing t i y None = record { hit = λ e. cc; miss = λ e. refl }
count-firing t i y (Some row) = record {
  hit = λ e. let same : row ≡ y = cc in ap (λ b. 0 + cond b 1 0) (eq-eqb row y same) ∙ omega arith;
  miss = λ apart. by_test (row == y) refl apart;
}
  where
    by_test : (b : Bool) → (row == y) ≡ b → (Some row ≡ Some y → ⊥) → 0 + cond b 1 0 ≡ 0
    by_test true e apart = absurd (apart (ap Some (eqb-true row y e)))
    by_test false e apart = omega arith

-- ---- all of them

-- how often nozzle i is on row y in pass t
row_count : ℕ → ℕ → ℕ → ℕ → ℕ → ℕ → ℕ
row_count n pitch height y t i = count_by (λ (f : Firing). f.row == y) (firing t i (nozzle_row n pitch height t i))

pass_rows : ℕ → ℕ → ℕ → ℕ → ℕ → ℕ
pass_rows n pitch height y t = sum_by (row_count n pitch height y t) (count_from 0 n)

all-passes : (n pitch height y : ℕ)
    → count_by (λ (f : Firing). f.row == y) (passes n pitch height)
    ≡ sum_by (pass_rows n pitch height y) (count_from 0 (pass_count n pitch height))
unfolding row_count pass_rows
all-passes n pitch height y =
    let test : Firing → Bool = λ f. f.row == y in
    let rows : ℕ → ℕ → List Firing = λ t i. firing t i (nozzle_row n pitch height t i) in
    count-flat test (λ t. flat_map (rows t) (count_from 0 n)) (count_from 0 (pass_count n pitch height))
    ∙ sum-same (λ t. count_by test (flat_map (rows t) (count_from 0 n))) (pass_rows n pitch height y)
    (count_from 0 (pass_count n pitch height))
    (λ t. count-flat test (rows t) (count_from 0 n))

low-row : (n pitch height y : ℕ) → 1 ≤ n → 1 ≤ pitch → IsGcd n pitch 1 → y < height
    → sum_by (pass_rows n pitch height y) (count_from 0 (pass_count n pitch height)) ≡ 1
unfolding row_count pass_rows
low-row n pitch height y some near gcd low =
    let found : Inverse n pitch = inverse n pitch some near gcd in
    let first : ℕ = (n - 1) * pitch in
    let counts : Counts n pitch n pitch found.number first = own-counts n pitch some found in
    let i : ℕ = (y + first) * found.number % n in
    let t : ℕ = (y + first - i * pitch) / n in
    let hit : nozzle_row n pitch height t i ≡ Some y = place-fires n pitch height y n pitch found.number first counts low in
    let only : (t' i' : ℕ) → i' < n → nozzle_row n pitch height t' i' ≡ Some y → (t' ≡ t)
    × (i' ≡ i) = λ t' i' less e. place-only n pitch height y n pitch found.number first t' i' counts less e in
    let pass : t < pass_count n pitch height = pass-low n pitch height t i y some (stands_on n pitch height t i y hit) in
    let nozzle : i < n = mod_below ((y + first) * found.number) n (omega arith) in
    sum-one (pass_rows n pitch height y) t 0 (pass_count n pitch height) (omega arith) (omega arith)
    (λ t' inside apart. sum-none (row_count n pitch height y t') 0 n (λ i' from below.
    (count-firing t' i' y (nozzle_row n pitch height t' i')).miss (λ e. apart (only t' i' (omega arith) e).0)))
    ∙ sum-one (row_count n pitch height y t) i 0 n (omega arith) (omega arith)
    (λ i' inside apart. (count-firing t i' y (nozzle_row n pitch height t i')).miss (λ e. apart (only t i' (omega arith) e).1))
    ∙ (count-firing t i y (nozzle_row n pitch height t i)).hit hit

high-row : (n pitch height y : ℕ) → height ≤ y
    → sum_by (pass_rows n pitch height y) (count_from 0 (pass_count n pitch height)) ≡ 0
unfolding row_count pass_rows
high-row n pitch height y high =
    sum-none (pass_rows n pitch height y) 0 (pass_count n pitch height) (λ t from below.
    sum-none (row_count n pitch height y t) 0 n (λ i first last.
    (count-firing t i y (nozzle_row n pitch height t i)).miss (λ e. let s : StandsOn n pitch height t i y =
    stands_on n pitch height t i y e in omega (arith, s.low))))

pub each_row : (n pitch height : ℕ) → 1 ≤ n → 1 ≤ pitch → IsGcd n pitch 1 → FiresEachRowOnce height (passes n pitch height)
each_row n pitch height some near gcd y =
    all-passes n pitch height y ∙ by_test (nat_lt y height) refl
  where
    by_test : (b : Bool) → nat_lt y height ≡ b
        → sum_by (pass_rows n pitch height y) (count_from 0 (pass_count n pitch height)) ≡ (if b then 1 else 0)
    by_test true e = low-row n pitch height y some near gcd (ltb-true y height e)
    by_test false e = high-row n pitch height y (ltb-false y height e)
