-- Sums, counts and tests over lists.
use Rattle.std.proofs.Common.{◌≡◌, ◌≢◌, ℕ, zero, suc, ◌+◌, ◌<◌, ◌≤◌, Bool, true, false, cond, ◌&&◌, ◌||◌, ◌==◌, inl, inr, ◌⊎◌}
use Rattle.std.proofs.Common.{List, [], ◌∷◌, ◌++◌, map, refl, sym, ◌∙◌, ap, arith}
use Rattle.std.proofs.lemmas.Bool.{cases_eq, eq-eqb, eqb-true}
use Rattle.std.proofs.lemmas.List.Sums.{sum_by-append, sum_by-cons}
use Rattle.std.specs.List.{AllByRecursion, count_by, filter, flat_map, sum_by}
use Rattle.base_definitions.specs.Counting.{count_from}
use Rattle.dead_nozzles.specs.Dead.{has}

-- ---- sums

pub sum-map : {X Y : Type 0} (g : Y → ℕ) (f : X → Y) (xs : List X) → sum_by g (map f xs) ≡ sum_by (λ x. g (f x)) xs
sum-map g f [] = refl
sum-map g f (x ∷ xs) =
    sum_by-cons g (f x) (map f xs) ∙ ap (λ n. g (f x) + n) (sum-map g f xs) ∙ sym (sum_by-cons (λ x. g (f x)) x xs)

pub count-more : {Y : Type 0} (test : Y → Bool) (xs ys : List Y) → count_by test (xs ++ ys) ≡ count_by test xs + count_by test ys
count-more test xs ys = sum_by-append (λ y. cond (test y) 1 0) xs ys

pub count-cons : {Y : Type 0} (test : Y → Bool) (x : Y) (xs : List Y) → count_by test (x ∷ xs) ≡ cond (test x) 1 0 + count_by test xs
count-cons test x xs = sum_by-cons (λ y. cond (test y) 1 0) x xs

-- one of several numbers has the property, and they add up to 1
pub record One (P : ℕ → Type 0) (sum n many : ℕ) : Type 0 where
  pub at : ℕ
  pub after : n ≤ at
  pub inside : at < n + many
  pub has : P at
  pub once : sum ≡ 1

-- none of them has it, and they add up to 0
pub record Nowhere (P : ℕ → Type 0) (sum n many : ℕ) : Type 0 where
  pub none : (k : ℕ) → n ≤ k → k < n + many → P k → ⊥
  pub never : sum ≡ 0

-- a number has the property, and is 1, or it has not, and is 0
abbrev pub Indicates : (ℕ → Type 0) → (ℕ → ℕ) → ℕ → Type 0
Indicates P g k = (P k × (g k ≡ 1)) ⊎ ((P k → ⊥) × (g k ≡ 0))

sum-none : (P : ℕ → Type 0) (g : ℕ → ℕ) (n many : ℕ) → ((k : ℕ) → Indicates P g k) → ((k : ℕ) → n ≤ k → P k → ⊥)
    → sum_by g (count_from n many) ≡ 0
sum-none P g n zero tells none = refl
sum-none P g n (suc many) tells none = grind (arith, sum_by-cons, sum-none P g (n + 1) many tells (λ k from. none k (omega arith)))

-- where no two numbers have the property
pub sum-indicated : (P : ℕ → Type 0) (g : ℕ → ℕ) (n many : ℕ) → ((k : ℕ) → Indicates P g k) → ((k l : ℕ) → P k → P l → k ≡ l)
    → One P (sum_by g (count_from n many)) n many ⊎ Nowhere P (sum_by g (count_from n many)) n many
sum-indicated P g n zero tells unique = inr (record { none = λ k from below p. absurd (omega arith); never = refl })
sum-indicated P g n (suc many) tells unique = grind (arith, cases_eq, sum-none, sum_by-cons, sum-indicated P g (n + 1) many tells unique)

-- ---- tests

pub both-true : (a b : Bool) → (a && b) ≡ true → (a ≡ true) × (b ≡ true)
both-true true true e = (refl, refl)
both-true true false e = cc
both-true false b e = cc

or-right : (a b : Bool) → b ≡ true → (a || b) ≡ true
or-right true b e = refl
or-right false b e = e

-- a list has what a longer one has that passes the test
pub has-filter : (test : ℕ → Bool) (xs : List ℕ) (y : ℕ) → has (filter test xs) y ≡ (has xs y && test y)
has-filter test [] y = refl
has-filter test (x ∷ xs) y = grind (arith, eqb-true, has-filter test xs y)

pub has-inside : (n many y : ℕ) → n ≤ y → y < n + many → has (count_from n many) y ≡ true
has-inside n zero y from below = absurd (omega arith)
has-inside n (suc many) y from below =
    by_first (cases_eq n y) (λ apart. has-inside (n + 1) many y (omega (arith, apart)) (omega arith))
  where
    by_first : (n ≡ y) ⊎ (n ≢ y) → (n ≢ y → has (count_from (n + 1) many) y ≡ true) → ((n == y) || has (count_from (n + 1) many) y) ≡ true
    by_first (inl e) later = ap (λ b. b || has (count_from (n + 1) many) y) (eq-eqb n y e)
    by_first (inr apart) later = or-right (n == y) (has (count_from (n + 1) many) y) (later apart)

pub has-outside : (n many y : ℕ) → has (count_from n many) y ≡ true → y < n + many
has-outside n zero y e = cc
has-outside n (suc many) y e = by_first (n == y) (λ all. has-outside (n + 1) many y all) refl e
  where
    by_first : (b : Bool) → (has (count_from (n + 1) many) y ≡ true → y < n + 1 + many) → (n == y) ≡ b
        → (b || has (count_from (n + 1) many) y) ≡ true → y < n + suc many
    by_first true later e all = omega (arith, eqb-true n y e)
    by_first false later e all = omega (arith, later all)

-- ---- lists all of whose elements have a property

pub all-has : (P : ℕ → Type 0) (rows : List ℕ) (y : ℕ) → AllByRecursion P rows → has rows y ≡ true → P y
all-has P [] y all e = cc
all-has P (row ∷ rows) y all e = grind (arith, eqb-true, all-has P rows y all.1)

pub all-map : {X : Type 0} (P Q : X → Type 0) (xs : List X) → ((x : X) → P x → Q x) → AllByRecursion P xs → AllByRecursion Q xs
all-map P Q [] to all = tt
all-map P Q (x ∷ xs) to all = (to x all.0, all-map P Q xs to all.1)

pub all-append : {X : Type 0} (P : X → Type 0) (xs ys : List X) → AllByRecursion P xs → AllByRecursion P ys → AllByRecursion P (xs ++ ys)
all-append P [] ys all more = more
all-append P (x ∷ xs) ys all more = (all.0, all-append P xs ys all.1 more)

pub all-filter : {X : Type 0} (P : X → Type 0) (test : X → Bool) (xs : List X) → AllByRecursion P xs → AllByRecursion P (filter test xs)
all-filter P test [] all = tt
all-filter {X = X} P test (x ∷ xs) all = grind (arith, all-filter P test xs all.1)

pub all-numbers : (P : ℕ → Type 0) (n many : ℕ) → ((k : ℕ) → n ≤ k → k < n + many → P k) → AllByRecursion P (count_from n many)
all-numbers P n zero each = tt
all-numbers P n (suc many) each =
    (each n (omega arith) (omega arith), all-numbers P (n + 1) many (λ k from below. each k (omega arith) (omega arith)))

pub all-mapped : {X : Type 0} (P : X → Type 0) (f : ℕ → X) (n many : ℕ) → ((k : ℕ) → n ≤ k → k < n + many → P (f k))
    → AllByRecursion P (map f (count_from n many))
all-mapped P f n zero each = tt
all-mapped P f n (suc many) each =
    (each n (omega arith) (omega arith), all-mapped P f (n + 1) many (λ k from below. each k (omega arith) (omega arith)))

pub all-flat : {X : Type 0} (P : X → Type 0) (f : ℕ → List X) (n many : ℕ)
    → ((k : ℕ) → n ≤ k → k < n + many → AllByRecursion P (f k)) → AllByRecursion P (flat_map f (count_from n many))
all-flat P f n zero each = tt
all-flat P f n (suc many) each = grind (arith, all-append, all-flat P f (n + 1) many (λ k from below. each k (omega arith) (omega arith)))
