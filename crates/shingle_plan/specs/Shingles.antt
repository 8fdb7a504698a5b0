-- Shingled passes: which nozzle fires which columns of which row of a window in which pass. Each row is fired twice, by
-- a nozzle of the lower half of the head at its even columns and by one of the upper half at its odd columns.
use Rattle.base_definitions.specs.Counting.{count_from}
use Rattle.std.specs.Prelude.{◌≡◌, ℕ, ◌+◌, ◌-◌, ◌*◌, ◌/◌, ◌==◌, nat_lt, nat_le, Bool, not, ◌&&◌, if◌then◌else◌}
use Rattle.std.specs.Prelude.{List, [], ◌∷◌, count_by, Option, Some, None}
use Rattle.std.specs.List.{flat_map}

-- how many nozzles each half of a head of n nozzles has; the last of an odd number of nozzles is in neither
abbrev pub half : ℕ → ℕ
half n = n / 2

-- how many rows above the window the head begins: so many as its last nozzle of the halves is below its first
abbrev pub rows_above : ℕ → ℕ → ℕ
rows_above n pitch = (2 * half n - 1) * pitch

-- how many passes a window of `height` rows takes: its rows and those above it by half the nozzles, rounded up
abbrev pub shingle_count : ℕ → ℕ → ℕ → ℕ
shingle_count n pitch height = (height + rows_above n pitch + (half n - 1)) / half n

-- The row of the window that nozzle i fires in pass t, of a head of n nozzles that are `pitch` rows apart. The head
-- moves down by half its nozzles a pass.
abbrev pub shingle_row : ℕ → ℕ → ℕ → ℕ → ℕ → Option ℕ
shingle_row n pitch height t i =
    let place : ℕ = t * half n + i * pitch in
    let above : ℕ = rows_above n pitch in
    if nat_lt i (2 * half n) && (nat_le above place && nat_lt (place - above) height) then Some (place - above) else None

-- a nozzle of the lower half fires a row's even columns, counted from 0, and one of the upper half its odd columns
abbrev pub fires_even : ℕ → ℕ → Bool
fires_even n i = nat_le (half n) i

-- A row, the pass and nozzle that fire it, and whether they fire its even columns or its odd ones.
pub record Shingle : Type 0 where
  pub pass : ℕ
  pub nozzle : ℕ
  pub row : ℕ
  pub even : Bool

-- the firing of a nozzle in a pass, where it has a row
abbrev pub shingle : ℕ → ℕ → Bool → Option ℕ → List Shingle
shingle t i even None = []
shingle t i even (Some row) = record { pass = t; nozzle = i; row = row; even = even } ∷ []

-- The firings of a head over a window: pass by pass, nozzle by nozzle, those on the window.
abbrev pub shingles : ℕ → ℕ → ℕ → List Shingle
shingles n pitch height =
    flat_map (λ t. flat_map (λ i. shingle t i (fires_even n i) (shingle_row n pitch height t i)) (count_from 0 n))
    (count_from 0 (shingle_count n pitch height))

-- Each row of a window of `height` rows is in the list exactly twice, once at a nozzle of `half` or more with its even
-- columns and once at a nozzle below `half` with its odd columns, and no other row is.
pub record FiresEachRowTwice (half height : ℕ) (firings : List Shingle) : Type 0 where
  pub twice : (row : ℕ) → count_by (λ (f : Shingle). f.row == row) firings ≡ (if nat_lt row height then 2 else 0)
  pub even : (row : ℕ) → count_by (λ (f : Shingle). f.row == row && (nat_le half f.nozzle && f.even)) firings
      ≡ (if nat_lt row height then 1 else 0)
  pub odd : (row : ℕ) → count_by (λ (f : Shingle). f.row == row && (nat_lt f.nozzle half && not f.even)) firings
      ≡ (if nat_lt row height then 1 else 0)
