-- Sheets as tables of dots. The columns and rows of a sheet are as far apart as its printer's.
use Rattle.std.specs.Prelude.{◌≡◌, ℕ, ◌*◌, ◌/◌, ◌%◌, ◌<◌, ◌≤◌, false, List}
use Rattle.std.specs.List.{AllByRecursion, list_any}
use Rattle.printer_definitions.specs.declared.inks.Ink.{Ink}
use Rattle.printer_definitions.specs.Inks.{ink_place}
use Rattle.escp2_definitions.specs.Machine.{Dot, is_at}
use Rattle.dot_planes.specs.Tables.{DotTable, dot}

-- no dot is at or past this column
abbrev pub IsBlankFrom : ℕ → DotTable → Type 0
IsBlankFrom column t = (ink y x : ℕ) → ink < t.inks → y < t.rows → column ≤ x → dot t ink y x ≡ false

-- the dots from this column on are unchanged
abbrev pub IsKeptFrom : ℕ → DotTable → DotTable → Type 0
IsKeptFrom column old new = (ink y x : ℕ) → y < old.rows → column ≤ x → dot new ink y x ≡ dot old ink y x

-- the dot of an ink in row y at column x, with these steps from column to column and from row to row
abbrev pub dot_at : ℕ → ℕ → Ink → ℕ → ℕ → Dot
dot_at column row ink y x = record { ink = ink; x = x * column; y = y * row }

-- a dot is on one of the first columns and rows, not between them
pub record IsOnGrid (column row columns rows : ℕ) (d : Dot) : Type 0 where
  pub in_column : d.x % column ≡ 0
  pub in_columns : d.x / column < columns
  pub in_row : d.y % row ≡ 0
  pub in_rows : d.y / row < rows

-- each place of a table has a dot of an ink exactly where a list has one
abbrev pub HasPlaces : ℕ → ℕ → List Dot → DotTable → Type 0
HasPlaces column row dots t =
    (ink : Ink) (y x : ℕ) → y < t.rows → dot t (ink_place ink) y x ≡ list_any (is_at (dot_at column row ink y x)) dots

-- The table has the dots of a list: each place has a dot exactly where the list has one, and each dot of the list has
-- a place.
pub record HoldsDots (column row columns : ℕ) (dots : List Dot) (t : DotTable) : Type 0 where
  pub places : HasPlaces column row dots t
  pub inside : AllByRecursion (IsOnGrid column row columns t.rows) dots
