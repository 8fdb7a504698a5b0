-- The planes of the current sheet, which exist from the first dot on.
use Rattle.std.specs.Prelude.{◌≡◌, ◌<◌, ◌≤◌, ℕ, Bool, false, List, Option, Some, None}
use Rattle.escp2_definitions.specs.Commands.{last_column}
use Rattle.dot_planes.specs.Laying.{meets}
use Rattle.dot_planes.specs.Tables.{DotTable, dot}

abbrev pub inks_of : Option DotTable → ℕ
inks_of None = 4
inks_of (Some t) = t.inks

abbrev pub width_of : Option DotTable → ℕ
width_of None = last_column
width_of (Some t) = t.width

-- their rows, or `n` where there are no planes
abbrev pub rows_or : ℕ → Option DotTable → ℕ
rows_or n None = n
rows_or n (Some t) = t.rows

-- there are planes, of this many rows
abbrev pub HasHeight : ℕ → Option DotTable → Type 0
HasHeight rows None = ⊥
HasHeight rows (Some t) = t.rows ≡ rows

abbrev pub dot_in : Option DotTable → ℕ → ℕ → ℕ → Bool
dot_in None ink y x = false
dot_in (Some t) ink y x = dot t ink y x

-- none of their dots is at or past this column
abbrev pub IsBlankPast : ℕ → Option DotTable → Type 0
IsBlankPast column planes =
    (ink y x : ℕ) → ink < inks_of planes → y < rows_or 0 planes → column ≤ x → dot_in planes ink y x ≡ false

-- whether one of the first `dots` dots of a packed row is on where the ink has a dot in row y, with the row's first at
-- column x
abbrev pub meets_in : Option DotTable → ℕ → ℕ → ℕ → List ℕ → ℕ → Bool
meets_in None ink y x row dots = false
meets_in (Some t) ink y x row dots = meets t ink y x row dots
