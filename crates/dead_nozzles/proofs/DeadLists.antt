-- A rising list of nozzles has as many as there are exactly where none is live.
use Rattle.std.proofs.Common.{◌≡◌, ℕ, zero, suc, ◌+◌, ◌<◌, ◌≤◌, true, false, ◌||◌, ◌==◌, inl, inr, ◌⊎◌}
use Rattle.std.proofs.Common.{List, [], ◌∷◌, length, drop, None, Some, get_or, refl, ◌∙◌, ap, arith, if◌then◌else◌}
use Rattle.std.proofs.lemmas.Bool.{cases_eq, eq-eqb, eqb-true, lt-ltb, ltb-true}
use Rattle.std.proofs.lemmas.List.{drop_more}
use Rattle.std.specs.List.{AllByRecursion}
use Rattle.base_definitions.specs.Counting.{count_from}
use Rattle.dead_nozzles.specs.Dead.{IsRising, first_live, first_outside, has}
use Rattle.dead_nozzles.proofs.Lists.{all-map}

-- ---- numbers that are no nozzles

pub outside-step : (n : ℕ) (dead : List ℕ) (i : ℕ) → i < length dead → get_or dead i 0 < n
    → first_outside n (drop i dead) ≡ first_outside n (drop (i + 1) dead)
outside-step n dead i inside low = grind (arith, drop_more, lt-ltb)

pub outside-here : (n : ℕ) (dead : List ℕ) (i : ℕ) → i < length dead → (get_or dead i 0 < n → ⊥)
    → first_outside n (drop i dead) ≡ Some (get_or dead i 0)
outside-here n dead i inside high = grind (arith, drop_more, ltb-true)

pub all-inside : (n : ℕ) (dead : List ℕ) → first_outside n dead ≡ None → AllByRecursion (λ k. k < n) dead
all-inside n [] e = tt
all-inside n (k ∷ dead) e = grind (arith, ltb-true, all-inside n dead)

-- ---- live nozzles

pub has-none : (n : ℕ) (rest : List ℕ) → AllByRecursion (λ k. n < k) rest → has rest n ≡ false
has-none n [] all = refl
has-none n (k ∷ rest) all = grind (arith, eqb-true, has-none n rest all.1)

-- as many as there are, and none is live, or fewer, and one is
pub record NoneLive (whole rest : List ℕ) (n many : ℕ) : Type 0 where
  pub all : length rest ≡ many
  pub none : first_live whole (count_from n many) ≡ None

pub record SomeLive (whole rest : List ℕ) (n many : ℕ) : Type 0 where
  pub fewer : length rest < many
  pub live : ℕ
  pub some : first_live whole (count_from n many) ≡ Some live

-- the numbers from n on that are in the whole list are in the rest
abbrev Agrees : List ℕ → List ℕ → ℕ → Type 0
Agrees whole rest n = (k : ℕ) → n ≤ k → has whole k ≡ has rest k

live-first : (whole rest : List ℕ) (n many : ℕ) → has whole n ≡ false → first_live whole (count_from n (suc many)) ≡ Some n
live-first whole rest n many e = ap (λ b. if b then first_live whole (count_from (n + 1) many) else Some n) e

dead-first : (whole : List ℕ) (n many : ℕ) → has whole n ≡ true → first_live whole (count_from n (suc many)) ≡ first_live whole (count_from (n + 1) many)
dead-first whole n many e = ap (λ b. if b then first_live whole (count_from (n + 1) many) else Some n) e

pub at-most : (whole rest : List ℕ) (n many : ℕ) → NoneLive whole rest n many ⊎ SomeLive whole rest n many → length rest ≤ many
at-most whole rest n many (inl all) = omega (arith, all.all)
at-most whole rest n many (inr some) = omega (arith, some.fewer)

pub live-or-not : (whole rest : List ℕ) (n many : ℕ) → Agrees whole rest n → IsRising rest → AllByRecursion (λ k. n ≤ k) rest
    → AllByRecursion (λ k. k < n + many) rest → NoneLive whole rest n many ⊎ SomeLive whole rest n many
live-or-not whole [] n zero agrees rising low high = inl (record { all = refl; none = refl })
live-or-not whole (k ∷ rest) n zero agrees rising low high = absurd (omega (arith, low.0, high.0))
live-or-not whole [] n (suc many) agrees rising low high =
    inr (record { fewer = omega arith; live = n; some = live-first whole [] n many (agrees n (omega arith)) })
live-or-not whole (k ∷ rest) n (suc many) agrees rising low high =
    grind (arith, all-map, at-most, cases_eq, dead-first, eq-eqb, eqb-true, has-none, live-first, live-or-not whole rest (n + 1) many, live-or-not whole (k ∷ rest) (n + 1) many)

-- of a whole list
pub all-or-not : (n : ℕ) (dead : List ℕ) → IsRising dead → first_outside n dead ≡ None → NoneLive dead dead 0 n ⊎ SomeLive dead dead 0 n
all-or-not n dead rising e =
    live-or-not dead dead 0 n (λ k from. refl) rising (from-zero dead)
    (all-map (λ k. k < n) (λ k. k < 0 + n) dead (λ k less. omega (arith, less)) (all-inside n dead e))
  where
    from-zero : (ks : List ℕ) → AllByRecursion (λ k. 0 ≤ k) ks
    from-zero [] = tt
    from-zero (k ∷ ks) = (omega arith, from-zero ks)

-- nothing is left past the end
pub outside-past : (n : ℕ) (dead : List ℕ) (i : ℕ) → length dead ≤ i → first_outside n (drop i dead) ≡ None
outside-past n [] zero past = refl
outside-past n [] (suc i) past = refl
outside-past n (k ∷ dead) zero past = absurd (omega (arith, past))
outside-past n (k ∷ dead) (suc i) past = outside-past n dead i (omega (arith, past))
