-- Interleaved passes: which nozzle fires which row of a window in which pass.
use Rattle.base_definitions.specs.Counting.{count_from}
use Rattle.std.specs.Prelude.{◌≡◌, ℕ, ◌+◌, ◌-◌, ◌*◌, ◌/◌, ◌==◌, nat_lt, nat_le, ◌&&◌, if◌then◌else◌, List, [], ◌∷◌, count_by}
use Rattle.std.specs.Prelude.{Option, Some, None}
use Rattle.std.specs.List.{flat_map}

-- The row of the window under nozzle i in pass t, of a head of n nozzles that are `pitch` rows apart. The head
-- moves down n rows a pass, and its last nozzle begins on row 0.
abbrev pub nozzle_row : ℕ → ℕ → ℕ → ℕ → ℕ → Option ℕ
nozzle_row n pitch height t i =
    let place : ℕ = t * n + i * pitch in
    let first : ℕ = (n - 1) * pitch in
    if nat_le first place && nat_lt (place - first) height then Some (place - first) else None

-- how many passes a window of `height` rows takes
abbrev pub pass_count : ℕ → ℕ → ℕ → ℕ
pass_count n pitch height = (height + (n - 1) * pitch + (n - 1)) / n

-- A row, and the pass and nozzle that fire it.
pub record Firing : Type 0 where
  pub pass : ℕ
  pub nozzle : ℕ
  pub row : ℕ

-- the firing of a nozzle in a pass, where it has a row
abbrev pub firing : ℕ → ℕ → Option ℕ → List Firing
firing t i None = []
firing t i (Some row) = record { pass = t; nozzle = i; row = row } ∷ []

-- The firings of a head over a window: pass by pass, nozzle by nozzle, those on the window.
abbrev pub passes : ℕ → ℕ → ℕ → List Firing
passes n pitch height =
    flat_map (λ t. flat_map (λ i. firing t i (nozzle_row n pitch height t i)) (count_from 0 n)) (count_from 0 (pass_count n pitch height))

-- Each row of a window of `height` rows is in the list exactly once, and no other row is.
abbrev pub FiresEachRowOnce : ℕ → List Firing → Type 0
FiresEachRowOnce height firings = (row : ℕ) → count_by (λ (f : Firing). f.row == row) firings ≡ (if nat_lt row height then 1 else 0)
