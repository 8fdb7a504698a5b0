-- The row that a nozzle fires in a pass, and how often one firing is on a row: as often as that of a weave by half the
-- nozzles is.
use Rattle.std.proofs.lemmas.Grind.{common_steps}
use Rattle.std.proofs.Common.{◌≡◌, ℕ, ◌+◌, ◌-◌, ◌*◌, ◌<◌, ◌≤◌, Bool, true, false, cond, ◌&&◌, ◌==◌}
use Rattle.std.proofs.Common.{if◌then◌else◌, Option, None, Some, refl, ◌∙◌, ap, arith}
use Rattle.std.proofs.lemmas.Bool.{and_from, cases_eq, false_from_ne_true, le-leb, leb-true, lt-ltb, ltb-true}
use Rattle.std.specs.List.{count_by}
use Rattle.weave_definitions.specs.Weave.{Firing, firing, nozzle_row}
use Rattle.weave_definitions.proofs.Firings.{count-firing}
use Rattle.weave_definitions.proofs.Rows.{row_under, stands_on}
use Rattle.shingle_plan.specs.Shingles.{Shingle, fires_even, half, rows_above, shingle, shingle_row}

-- ---- the row of a firing

pub record Lands (n pitch height t i y : ℕ) : Type 0 where
  pub nozzle : i < 2 * half n
  pub sum : t * half n + i * pitch ≡ rows_above n pitch + y
  pub low : y < height

pub lands : (n pitch height t i y : ℕ) → shingle_row n pitch height t i ≡ Some y → Lands n pitch height t i y
lands n pitch height t i y e = grind (arith, leb-true, ltb-true)

landed_row : (n pitch height t i y : ℕ) → Lands n pitch height t i y → shingle_row n pitch height t i ≡ Some y
landed_row n pitch height t i y s = grind (arith, and_from, le-leb, lt-ltb)

-- ---- how often one firing is on a row

-- only firings on row y pass the test
abbrev pub IsOnly : (Shingle → Bool) → ℕ → Type 0
IsOnly test y = (s : Shingle) → test s ≡ true → s.row ≡ y

-- a firing that passes the test where it is on row y
count-hit : (test : Shingle → Bool) (t i y : ℕ) (even : Bool) (row : Option ℕ) → row ≡ Some y
    → test (record { pass = t; nozzle = i; row = y; even = even }) ≡ true → count_by test (shingle t i even row) ≡ 1
count-hit test t i y even None e passes = cc
count-hit test t i y even (Some row) e passes = cc

-- a firing that does not pass it
pub count-miss : (test : Shingle → Bool) (t i : ℕ) (even : Bool) (row : Option ℕ)
    → ((r : ℕ) → row ≡ Some r → test (record { pass = t; nozzle = i; row = r; even = even }) ≡ false)
    → count_by test (shingle t i even row) ≡ 0
count-miss test t i even None fails = refl
count-miss test t i even (Some row) fails = ap (λ b. 0 + cond b 1 0) (fails row refl) ∙ omega arith

-- how often nozzle i passes the test in pass t
abbrev pub times : (Shingle → Bool) → ℕ → ℕ → ℕ → ℕ → ℕ → ℕ
times test n pitch height t i = count_by test (shingle t i (fires_even n i) (shingle_row n pitch height t i))

-- how often nozzle i of a weave is on row y in pass t
abbrev pub weave_times : ℕ → ℕ → ℕ → ℕ → ℕ → ℕ → ℕ
weave_times n pitch height y t i = count_by (λ (f : Firing). f.row == y) (firing t i (nozzle_row n pitch height t i))

-- places that lie one gap above two others are the same where those are
same-place : (p q below-p below-q gap : ℕ) → p ≡ below-p + gap → q ≡ below-q + gap → p ≡ q → below-p ≡ below-q
same-place p q below-p below-q gap ep eq e = omega (arith, ep, eq, e)

same-above : (p q below-p below-q gap : ℕ) → p ≡ below-p + gap → q ≡ below-q + gap → below-p ≡ below-q → p ≡ q
same-above p q below-p below-q gap ep eq e = omega (arith, ep, eq, e)

-- A nozzle is on row y in the passes in which a nozzle of a weave is on row z, if both are moved by the same gap.
pub meets : (test : Shingle → Bool) (n pitch height y tall z t i j gap : ℕ) → IsOnly test y → y < height → z < tall → i < 2 * half n
    → test (record { pass = t; nozzle = i; row = y; even = fires_even n i }) ≡ true → i * pitch ≡ j * pitch + gap
    → rows_above n pitch + y ≡ (half n - 1) * pitch + z + gap
    → times test n pitch height t i ≡ weave_times (half n) pitch tall z t j
meets test n pitch height y tall z t i j gap only low under on passes nozzle row =
    grind (arith, common_steps, cases_eq, count-firing, count-hit, count-miss, false_from_ne_true, lands, landed_row, row_under, same-above, same-place, stands_on)
