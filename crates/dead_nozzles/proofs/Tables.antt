-- A table of dead nozzles has those of the list that it was made from.
use Rattle.std.proofs.Common.{◌≡◌, ◌≢◌, ℕ, zero, suc, ◌+◌, ◌-◌, ◌<◌, ◌≤◌, Bool, true, false, cond, ◌&&◌, ◌||◌, ◌==◌, inl, inr, ◌⊎◌}
use Rattle.std.proofs.Common.{List, [], ◌∷◌, length, drop, get_or, replicate, if◌then◌else◌, None, Some, Ok, refl, sym, ◌∙◌, ap, subst, arith, set}
use Rattle.std.proofs.Common.{get_or-set_same, get_or-set_other}
use Rattle.std.proofs.lemmas.Bool.{cases_eq, eq-eqb, ne_eqb}
use Rattle.std.proofs.lemmas.List.{drop_more}
use Rattle.std.specs.Int.{IsGcd}
use Rattle.std.specs.List.{AllByRecursion, filter}
use Rattle.base_definitions.specs.Counting.{count_from}
use Rattle.dead_nozzles.specs.Dead.{IsRising, checked, first_live, first_outside, has, least_live}
use Rattle.dead_nozzles.specs.Plans.{listed}
use Rattle.dead_nozzles.specs.Strokes.{Head, IsHead}
use Rattle.dead_nozzles.proofs.Lists.{all-map, has-filter, has-inside}
use Rattle.dead_nozzles.proofs.DeadLists.{all-inside, all-or-not, at-most, has-none}

-- ---- the table

-- a number of the list is put into the table
pub table-step : (dead : List ℕ) (table : List Bool) (i k : ℕ) → i < length dead → get_or dead i 0 < length table
    → (get_or table k false || has (drop i dead) k) ≡ (get_or (set table (get_or dead i 0) true) k false || has (drop (i + 1) dead) k)
table-step dead table i k inside low = grind (arith, cases_eq, drop_more, eq-eqb, get_or-set_other, get_or-set_same, ne_eqb)

-- no number is left
pub table-end : (dead : List ℕ) (b : Bool) (i k : ℕ) → length dead ≤ i → (b || has (drop i dead) k) ≡ b
table-end [] b zero k past = grind arith
table-end [] b (suc i) k past = grind arith
table-end (n ∷ dead) b zero k past = absurd (omega (arith, past))
table-end (n ∷ dead) b (suc i) k past = table-end dead b i k (omega (arith, past))

-- ---- the list of a table

pub has-listed : (table : List Bool) (nozzles k : ℕ) → k < nozzles → has (listed table nozzles) k ≡ get_or table k false
has-listed table nozzles k few = grind (arith, has-filter, has-inside)

-- the numbers from n on that pass a test, where it is that of being in a rising list
rising-is : (test : ℕ → Bool) (n many : ℕ) (rest : List ℕ) → IsRising rest → AllByRecursion (λ k. n ≤ k) rest
    → AllByRecursion (λ k. k < n + many) rest → ((k : ℕ) → n ≤ k → k < n + many → test k ≡ has rest k)
    → filter test (count_from n many) ≡ rest
rising-is test n zero [] rising low high same = refl
rising-is test n zero (k ∷ rest) rising low high same = absurd (omega (arith, low.0, high.0))
rising-is test n (suc many) [] rising low high same =
    grind (arith, rising-is test (n + 1) many [] rising tt tt (λ k from below. same k (omega arith) (omega arith)))
rising-is test n (suc many) (k ∷ rest) rising low high same =
    by_case (cases_eq k n)
    (λ e. rising-is test (n + 1) many rest rising.1 (all-map (λ i. k < i) (λ i. n + 1 ≤ i) rest (λ i less. omega (arith, less, e)) rising.0)
    (all-map (λ i. i < n + suc many) (λ i. i < n + 1 + many) rest (λ i less. omega (arith, less)) high.1)
    (λ i from below. same i (omega arith) (omega arith) ∙ ap (λ b. b || has rest i) (ne_eqb k i (λ f. omega (arith, e, f, from)))))
    (λ apart. rising-is test (n + 1) many (k ∷ rest) rising
    (omega (arith, apart, low.0), all-map (λ i. k < i) (λ i. n + 1 ≤ i) rest (λ i less. omega (arith, less, low.0)) rising.0)
    (all-map (λ i. i < n + suc many) (λ i. i < n + 1 + many) (k ∷ rest) (λ i less. omega (arith, less)) high)
    (λ i from below. same i (omega arith) (omega arith)))
  where
    pick : Bool → List ℕ
    pick b = cond b (n ∷ filter test (count_from (n + 1) many)) (filter test (count_from (n + 1) many))

    by_case : (k ≡ n) ⊎ (k ≢ n) → (k ≡ n → filter test (count_from (n + 1) many) ≡ rest)
        → (k ≢ n → filter test (count_from (n + 1) many) ≡ k ∷ rest) → cond (test n) (n ∷ filter test (count_from (n + 1) many)) (filter test (count_from (n + 1) many)) ≡ k ∷ rest
    by_case (inl e) found apart =
        ap (λ b. cond b (n ∷ filter test (count_from (n + 1) many)) (filter test (count_from (n + 1) many)))
        (same n (omega arith) (omega arith) ∙ ap (λ b. b || has rest n) (eq-eqb k n e))
        ∙ ap (λ ks. n ∷ ks) (found e) ∙ ap (λ m. m ∷ rest) (sym e)
    by_case (inr other) found apart =
        ap (λ b. cond b (n ∷ filter test (count_from (n + 1) many)) (filter test (count_from (n + 1) many)))
        (same n (omega arith) (omega arith) ∙ has-none n (k ∷ rest)
        (omega (arith, other, low.0), all-map (λ i. k < i) (λ i. n < i) rest (λ i less. omega (arith, less, low.0)) rising.0))
        ∙ apart other

-- a list without a fault has nozzles
inside : (nozzles : ℕ) (dead : List ℕ) → checked nozzles dead ≡ Ok tt → first_outside nozzles dead ≡ None
inside nozzles dead e = grind arith

-- no more nozzles are dead than there are
pub dead-few : (nozzles : ℕ) (dead : List ℕ) → IsRising dead → checked nozzles dead ≡ Ok tt → length dead ≤ nozzles
dead-few nozzles dead rising e = at-most dead dead 0 nozzles (all-or-not nozzles dead rising (inside nozzles dead e))

pub listed-is : (table : List Bool) (nozzles : ℕ) (dead : List ℕ) → IsRising dead → checked nozzles dead ≡ Ok tt
    → ((k : ℕ) → k < nozzles → get_or table k false ≡ has dead k) → listed table nozzles ≡ dead
listed-is table nozzles dead rising good same =
    rising-is (λ k. get_or table k false) 0 nozzles dead rising (from-zero dead)
    (all-map (λ k. k < nozzles) (λ k. k < 0 + nozzles) dead (λ k less. omega (arith, less)) (all-inside nozzles dead (inside nozzles dead good)))
    (λ k from below. same k (omega arith))
  where
    from-zero : (ks : List ℕ) → AllByRecursion (λ k. 0 ≤ k) ks
    from-zero [] = tt
    from-zero (k ∷ ks) = (omega arith, from-zero ks)

-- a nozzle is live
pub record HasLive (nozzles : ℕ) (dead : List ℕ) : Type 0 where
  pub live : ℕ
  pub is_live : least_live nozzles dead ≡ Some live

pub some-live : (nozzles : ℕ) (dead : List ℕ) → checked nozzles dead ≡ Ok tt → HasLive nozzles dead
some-live nozzles dead e = grind arith

-- ---- a table of a head

pub view-dead : (table : List Bool) (nozzles pitch height : ℕ) (h : Head) (k : ℕ)
    → (let seen : Head = record { nozzles = nozzles; pitch = pitch; height = height; dead = listed table nozzles } in seen ≡ h)
    → k < nozzles → get_or table k false ≡ has h.dead k
view-dead table nozzles pitch height h k e few = sym (has-listed table nozzles k few) ∙ ap (λ (h : Head). has h.dead k) e

-- the first nozzle from here on is live
pub live-here : (dead : List ℕ) (nozzles n : ℕ) → n < nozzles → has dead n ≡ false → Some n ≡ first_live dead (count_from n (nozzles - n))
live-here dead nozzles n few e = grind arith

-- it is dead
pub dead-here : (dead : List ℕ) (nozzles n : ℕ) → n < nozzles → has dead n ≡ true
    → first_live dead (count_from n (nozzles - n)) ≡ first_live dead (count_from (n + 1) (nozzles - (n + 1)))
dead-here dead nozzles n few e = grind arith

-- no nozzle is left
pub none-left : (dead : List ℕ) (nozzles n : ℕ) → nozzles ≤ n → first_live dead (count_from n (nozzles - n)) ≡ None
none-left dead nozzles n past =
    let none : nozzles - n ≡ 0 = omega arith in ap (λ m. first_live dead (count_from n m)) none

-- a table without a dead nozzle
pub blank : (n k : ℕ) → get_or (replicate n false) k false ≡ false
blank zero k = refl
blank (suc n) zero = refl
blank (suc n) (suc k) = blank n k

-- the same where the table is read at a number that is the nozzle's
pub view-read : (table : List Bool) (nozzles pitch height : ℕ) (h : Head) (k n : ℕ)
    → (let seen : Head = record { nozzles = nozzles; pitch = pitch; height = height; dead = listed table nozzles } in seen ≡ h)
    → k < nozzles → n ≡ k → has h.dead k ≡ get_or table n false
view-read table nozzles pitch height h k n e few same =
    sym (ap (λ n. get_or table n false) same ∙ view-dead table nozzles pitch height h k e few)

-- a head that is checked can print
pub head-of : (nozzles pitch height : ℕ) (dead : List ℕ) (h : Head) → 1 ≤ nozzles → 1 ≤ pitch → IsGcd nozzles pitch 1 → checked nozzles dead ≡ Ok tt
    → (let of : Head = record { nozzles = nozzles; pitch = pitch; height = height; dead = dead } in h ≡ of) → IsHead h
head-of nozzles pitch height dead h some near coprime good e =
    let live : HasLive nozzles dead = some-live nozzles dead good in
    subst IsHead (sym e) (record { some_nozzles = some; some_pitch = near; coprime = coprime; live = live.live; is_live = live.is_live })
