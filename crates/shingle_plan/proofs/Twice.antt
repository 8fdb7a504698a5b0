-- The list of firings has each row of the window exactly twice. Each half of the head is a weave by half the nozzles:
-- over the window as it is for the lower half, and for the upper half with as many rows above it as that is ahead.
use Rattle.std.proofs.lemmas.Grind.{common_steps}
use Rattle.std.proofs.Common.{◌≡◌, ℕ, zero, suc, ◌+◌, ◌-◌, ◌*◌, ◌/◌, ◌<◌, ◌≤◌, Bool, true, false, not, ◌&&◌, ◌==◌, nat_lt, nat_le}
use Rattle.std.proofs.Common.{if◌then◌else◌, List, [], ◌∷◌, refl, sym, ◌∙◌, ap, arith, zero-add}
use Rattle.std.proofs.lemmas.Bool.{and_from, and_left, and_parts, and_right, eq-eqb, eqb-true, false_from_ne_true, le-leb, le-ltb, lt-leb, lt-ltb}
use Rattle.std.proofs.lemmas.Bool.{ltb-false, ltb-true, not_from_false}
use Rattle.std.proofs.lemmas.List.Sums.{sum_by-cons}
use Rattle.std.proofs.lemmas.Nat.{div-add-mod'}
use Rattle.std.specs.List.{count_by, sum_by}
use Rattle.base_definitions.specs.Counting.{count_from}
use Rattle.weave_definitions.specs.Weave.{Firing, pass_count, passes}
use Rattle.weave_definitions.proofs.Firings.{count-flat, each_row as each_weave_row, sum-none, sum-same}
use Rattle.shingle_plan.specs.Fits.{Shingles}
use Rattle.shingle_plan.specs.Shingles.{FiresEachRowTwice, Shingle, fires_even, half, shingle_count, shingle_row, shingles}
use Rattle.shingle_plan.proofs.Rows.{IsOnly, count-miss, lands, meets, times, weave_times}

-- ---- sums

sum-plus : (f g h : ℕ → ℕ) (xs : List ℕ) → ((x : ℕ) → f x ≡ g x + h x) → sum_by f xs ≡ sum_by g xs + sum_by h xs
sum-plus f g h [] same = refl
sum-plus f g h (x ∷ xs) same =
    omega (arith, sum_by-cons f x xs, sum_by-cons g x xs, sum_by-cons h x xs, same x, sum-plus f g h xs same)

-- two sums over as many numbers, term by term
sum-along : (g h : ℕ → ℕ) (from to many : ℕ) → ((k : ℕ) → k < many → g (from + k) ≡ h (to + k))
    → sum_by g (count_from from many) ≡ sum_by h (count_from to many)
sum-along g h from to zero same = refl
sum-along g h from to (suc many) same =
    let here : from ≡ from + 0 = omega arith in
    let there : to + 0 ≡ to = omega arith in
    let first : g from ≡ h to = ap g here ∙ same 0 (omega arith) ∙ ap h there in
    omega (
      arith,
      sum_by-cons g from (count_from (from + 1) many),
      sum_by-cons h to (count_from (to + 1) many),
      first,
      sum-along g h (from + 1) (to + 1) many next,
    )
  where
    next : (k : ℕ) → k < many → g (from + 1 + k) ≡ h (to + 1 + k)
    next k less =
        let here : from + 1 + k ≡ from + (k + 1) = omega arith in
        let there : to + (k + 1) ≡ to + 1 + k = omega arith in
        ap g here ∙ same (k + 1) (omega arith) ∙ ap h there

-- a sum in two parts
sum-split : (g : ℕ → ℕ) (from k m all : ℕ) → all ≡ k + m
    → sum_by g (count_from from all) ≡ sum_by g (count_from from k) + sum_by g (count_from (from + k) m)
sum-split g from zero m all e = grind (arith, zero-add)
sum-split g from (suc k) m zero e = absurd (omega (arith, e))
sum-split g from (suc k) m (suc all) e = grind (arith, sum_by-cons, sum-split g (from + 1) k m all (omega (arith, e)))

-- ---- nozzle by nozzle in each of some passes

abbrev table : (ℕ → ℕ → ℕ) → ℕ → ℕ → ℕ
table g nozzles passes = sum_by (λ t. sum_by (λ i. g t i) (count_from 0 nozzles)) (count_from 0 passes)

table-none : (g : ℕ → ℕ → ℕ) (nozzles passes : ℕ) → ((t i : ℕ) → g t i ≡ 0) → table g nozzles passes ≡ 0
table-none g nozzles passes none = simp sum-none

all-shingles : (test : Shingle → Bool) (n pitch height : ℕ)
    → count_by test (shingles n pitch height) ≡ table (λ t i. times test n pitch height t i) n (shingle_count n pitch height)
all-shingles test n pitch height = simp (count-flat, sum-same, times)

all-weaves : (n pitch height y : ℕ) → count_by (λ (f : Firing). f.row == y) (passes n pitch height)
    ≡ table (λ t i. weave_times n pitch height y t i) n (pass_count n pitch height)
all-weaves n pitch height y = simp (count-flat, sum-same, weave_times)

-- the nozzles of a pass are those of the upper half, those of the lower half, and one more of an odd number
pass-halves : (g upper lower : ℕ → ℕ) (n : ℕ) → ((i : ℕ) → i < half n → g i ≡ upper i)
    → ((j : ℕ) → j < half n → g (half n + j) ≡ lower j) → ((i : ℕ) → 2 * half n ≤ i → g i ≡ 0)
    → sum_by g (count_from 0 n) ≡ sum_by upper (count_from 0 (half n)) + sum_by lower (count_from 0 (half n))
pass-halves g upper lower n high low rest =
    let a : ℕ = half n in
    let twice : n ≡ a + (n - a) = omega (arith, div-add-mod' n 2) in
    let once : n - a ≡ a + (n - a - a) = omega (arith, div-add-mod' n 2) in
    omega (
      arith,
      sum-split g 0 a (n - a) n twice,
      sum-split g (0 + a) a (n - a - a) (n - a) once,
      sum-along g upper 0 0 a (λ k less. high (0 + k) (omega arith)),
      sum-along g lower (0 + a) 0 a (λ k less. let place : 0 + a + k ≡ a + (0 + k) = omega arith in
          ap g place ∙ low (0 + k) (omega arith)),
      sum-none g (0 + a + a) (n - a - a) (λ k from below. rest k (omega (arith, from))),
    )

all-halves : (test : Shingle → Bool) (upper lower : ℕ → ℕ → ℕ) (n pitch height : ℕ)
    → ((t i : ℕ) → i < half n → times test n pitch height t i ≡ upper t i)
    → ((t j : ℕ) → j < half n → times test n pitch height t (half n + j) ≡ lower t j)
    → count_by test (shingles n pitch height)
    ≡ table upper (half n) (shingle_count n pitch height) + table lower (half n) (shingle_count n pitch height)
all-halves test upper lower n pitch height high low =
    all-shingles test n pitch height
    ∙ sum-plus (λ t. sum_by (λ i. times test n pitch height t i) (count_from 0 n))
    (λ t. sum_by (λ i. upper t i) (count_from 0 (half n))) (λ t. sum_by (λ i. lower t i) (count_from 0 (half n)))
    (count_from 0 (shingle_count n pitch height))
    (λ t. pass-halves (λ i. times test n pitch height t i) (λ i. upper t i) (λ i. lower t i) n (high t) (low t)
    (λ i far. count-miss test t i (fires_even n i) (shingle_row n pitch height t i) (λ r is.
    absurd (let on : i < 2 * half n = (lands n pitch height t i r is).nozzle in omega (arith, on, far)))))

-- ---- arithmetic

spread : (x y p : ℕ) → (x + y) * p ≡ x * p + y * p
spread x y p = omega arith

above-parts : (a pitch : ℕ) → 1 ≤ a → (2 * a - 1) * pitch ≡ a * pitch + (a - 1) * pitch
above-parts a pitch some =
    let many : 2 * a - 1 ≡ a + (a - 1) = omega arith in
    ap (λ v. v * pitch) many ∙ spread a (a - 1) pitch

all-rows : (height above ahead first last : ℕ) → above ≡ ahead + first → height + above + last ≡ height + ahead + first + last
all-rows height above ahead first last e = omega (arith, e)

upper-place : (y above ahead first : ℕ) → above ≡ ahead + first → above + y ≡ first + (y + ahead) + 0
upper-place y above ahead first e = omega (arith, e)

lower-place : (y above ahead first : ℕ) → above ≡ ahead + first → above + y ≡ first + y + ahead
lower-place y above ahead first e = omega (arith, e)

two-sums : (x y m n : ℕ) → x ≡ m → y ≡ n → x + y ≡ m + n
two-sums x y m n ex ey = omega (arith, ex, ey)

-- ---- the weave of both halves: over the window and as many rows above it as the upper half is ahead

abbrev tall : ℕ → ℕ → ℕ → ℕ
tall n pitch height = height + half n * pitch

abbrev weave_table : ℕ → ℕ → ℕ → ℕ → ℕ
weave_table n pitch height z = table (λ t i. weave_times (half n) pitch (tall n pitch height) z t i) (half n) (shingle_count n pitch height)

same-passes : (n pitch height : ℕ) → 1 ≤ half n → shingle_count n pitch height ≡ pass_count (half n) pitch (tall n pitch height)
same-passes n pitch height some = grind (arith, above-parts, all-rows)

weave-once : (n pitch height z : ℕ) → Shingles n pitch → z < tall n pitch height → weave_table n pitch height z ≡ 1
weave-once n pitch height z fits under =
    let value : Bool → ℕ = λ b. if b then 1 else 0 in
    ap (λ v. table (λ t i. weave_times (half n) pitch (tall n pitch height) z t i) (half n) v) (same-passes n pitch height fits.0)
    ∙ sym (all-weaves (half n) pitch (tall n pitch height) z)
    ∙ each_weave_row (half n) pitch (tall n pitch height) fits.0 fits.1 fits.2 z
    ∙ ap value (lt-ltb z (tall n pitch height) under)

upper-meets : (test : Shingle → Bool) (n pitch height y t i : ℕ) → Shingles n pitch → IsOnly test y → y < height → i < half n
    → test (record { pass = t; nozzle = i; row = y; even = fires_even n i }) ≡ true
    → times test n pitch height t i ≡ weave_times (half n) pitch (tall n pitch height) (y + half n * pitch) t i
upper-meets test n pitch height y t i fits only low less passes = grind (arith, common_steps, above-parts, meets, tall, upper-place)

lower-meets : (test : Shingle → Bool) (n pitch height y t j : ℕ) → Shingles n pitch → IsOnly test y → y < height → j < half n
    → test (record { pass = t; nozzle = half n + j; row = y; even = fires_even n (half n + j) }) ≡ true
    → times test n pitch height t (half n + j) ≡ weave_times (half n) pitch (tall n pitch height) y t j
lower-meets test n pitch height y t j fits only low less passes = grind (arith, common_steps, above-parts, lower-place, meets, spread, tall)

-- ---- rows off the window

no-row : (test : Shingle → Bool) (n pitch height y : ℕ) → IsOnly test y → height ≤ y → count_by test (shingles n pitch height) ≡ 0
no-row test n pitch height y only high = grind (arith, all-shingles, count-miss, false_from_ne_true, lands, table-none, times)

by_window : (test : Shingle → Bool) (n pitch height y many : ℕ) → IsOnly test y
    → (y < height → count_by test (shingles n pitch height) ≡ many)
    → count_by test (shingles n pitch height) ≡ (if nat_lt y height then many else 0)
by_window test n pitch height y many only inside = by_test (nat_lt y height) refl
  where
    by_test : (b : Bool) → nat_lt y height ≡ b → count_by test (shingles n pitch height) ≡ (if b then many else 0)
    by_test true e = inside (ltb-true y height e)
    by_test false e = no-row test n pitch height y only (ltb-false y height e)

-- ---- the tests of the law

abbrev on_row : ℕ → Shingle → Bool
on_row y = λ f. f.row == y

abbrev on_even : ℕ → ℕ → Shingle → Bool
on_even a y = λ f. f.row == y && (nat_le a f.nozzle && f.even)

abbrev on_odd : ℕ → ℕ → Shingle → Bool
on_odd a y = λ f. f.row == y && (nat_lt f.nozzle a && not f.even)

row-only : (y : ℕ) → IsOnly (on_row y) y
row-only y s passed = eqb-true s.row y passed

even-only : (a y : ℕ) → IsOnly (on_even a y) y
even-only a y s passed = eqb-true s.row y (and_parts (s.row == y) (nat_le a s.nozzle && s.even) passed).0

odd-only : (a y : ℕ) → IsOnly (on_odd a y) y
odd-only a y s passed = eqb-true s.row y (and_parts (s.row == y) (nat_lt s.nozzle a && not s.even) passed).0

row-twice : (n pitch height y : ℕ) → Shingles n pitch → y < height → count_by (on_row y) (shingles n pitch height) ≡ 2
row-twice n pitch height y fits low =
    all-halves (on_row y) (λ t i. weave_times (half n) pitch (tall n pitch height) (y + half n * pitch) t i)
    (λ t j. weave_times (half n) pitch (tall n pitch height) y t j) n pitch height
    (λ t i less. upper-meets (on_row y) n pitch height y t i fits (row-only y) low less (eq-eqb y y refl))
    (λ t j less. lower-meets (on_row y) n pitch height y t j fits (row-only y) low less (eq-eqb y y refl))
    ∙ two-sums (weave_table n pitch height (y + half n * pitch)) (weave_table n pitch height y) 1 1
    (weave-once n pitch height (y + half n * pitch) fits (omega arith)) (weave-once n pitch height y fits (omega arith))

even-once : (n pitch height y : ℕ) → Shingles n pitch → y < height → count_by (on_even (half n) y) (shingles n pitch height) ≡ 1
even-once n pitch height y fits low =
    all-halves (on_even (half n) y) (λ t i. 0) (λ t j. weave_times (half n) pitch (tall n pitch height) y t j) n pitch height
    (λ t i less. count-miss (on_even (half n) y) t i (fires_even n i) (shingle_row n pitch height t i) (λ r is.
    and_right (r == y) (nat_le (half n) i && fires_even n i) (and_left (nat_le (half n) i) (fires_even n i) (lt-leb (half n) i less))))
    (λ t j less. let after : nat_le (half n) (half n + j) ≡ true = le-leb (half n) (half n + j) (omega arith) in
    lower-meets (on_even (half n) y) n pitch height y t j fits (even-only (half n) y) low less
    (and_from _ _ (eq-eqb y y refl) (and_from _ _ after after)))
    ∙ two-sums (table (λ t i. 0) (half n) (shingle_count n pitch height)) (weave_table n pitch height y) 0 1
    (table-none (λ t i. 0) (half n) (shingle_count n pitch height) (λ t i. refl)) (weave-once n pitch height y fits (omega arith))

odd-once : (n pitch height y : ℕ) → Shingles n pitch → y < height → count_by (on_odd (half n) y) (shingles n pitch height) ≡ 1
odd-once n pitch height y fits low =
    all-halves (on_odd (half n) y) (λ t i. weave_times (half n) pitch (tall n pitch height) (y + half n * pitch) t i) (λ t j. 0) n pitch
    height
    (λ t i less. upper-meets (on_odd (half n) y) n pitch height y t i fits (odd-only (half n) y) low less
    (and_from _ _ (eq-eqb y y refl) (and_from _ _ (lt-ltb i (half n) less) (not_from_false _ (lt-leb (half n) i less)))))
    (λ t j less. count-miss (on_odd (half n) y) t (half n + j) (fires_even n (half n + j)) (shingle_row n pitch height t (half n + j))
    (λ r is. and_right (r == y) (nat_lt (half n + j) (half n) && not (fires_even n (half n + j)))
    (and_left (nat_lt (half n + j) (half n)) (not (fires_even n (half n + j))) (le-ltb (half n + j) (half n) (omega arith)))))
    ∙ two-sums (weave_table n pitch height (y + half n * pitch)) (table (λ t i. 0) (half n) (shingle_count n pitch height)) 1 0
    (weave-once n pitch height (y + half n * pitch) fits (omega arith))
    (table-none (λ t i. 0) (half n) (shingle_count n pitch height) (λ t i. refl))

pub each_row : (n pitch height : ℕ) → Shingles n pitch → FiresEachRowTwice (half n) height (shingles n pitch height)
each_row n pitch height fits = record {
  twice = λ y. by_window (on_row y) n pitch height y 2 (row-only y) (row-twice n pitch height y fits);
  even = λ y. by_window (on_even (half n) y) n pitch height y 1 (even-only (half n) y) (even-once n pitch height y fits);
  odd = λ y. by_window (on_odd (half n) y) n pitch height y 1 (odd-only (half n) y) (odd-once n pitch height y fits);
}
