-- The dots that a raster fires, at their columns and rows.
use Rattle.std.specs.Prelude.{◌≡◌, ℕ, ◌*◌, ◌≤◌, Bool, false, nat_le, nat_lt, List, [], ◌∷◌, length, Option, Some, None, Result, Ok, Err}
use Rattle.std.specs.List.{list_any}
use Rattle.escp2_definitions.specs.Commands.{row_bytes}
use Rattle.escp2_definitions.specs.declared.stops.EmulatorFault.{EmulatorFault}
use Rattle.escp2_definitions.specs.declared.stops.EmulatorFault.TheVariants.{OffSheet, Overprint}
use Rattle.escp2_definitions.specs.Machine.{Dot, first_refusal, overprints, refuse, rows_dots}
use Rattle.dot_planes.specs.Tables.{DotTable}
use Rattle.dot_emulator.specs.declared.firing.Raster.{Raster}
use Rattle.dot_emulator.specs.Sheets.{HasPlaces}

-- The steps from column to column and from row to row, and the bottom margin.
pub record Grid : Type 0 where
  pub column : ℕ
  pub row : ℕ
  pub bottom : ℕ

-- the dots of a raster
abbrev pub fired : Grid → Raster → List ℕ → List Dot
fired g r rows = rows_dots r.header.m r.header r.ink (r.x * g.column) (r.y * g.row) rows

-- A raster has the steps of a grid, and its rows from `end` on are at or below the bottom margin.
pub record Stands (g : Grid) (r : Raster) : Type 0 where
  pub some_column : 1 ≤ g.column
  pub some_row : 1 ≤ g.row
  pub across : r.header.h ≡ g.column
  pub down : r.header.v ≡ r.pitch * g.row
  pub ends : (n : ℕ) → nat_le g.bottom (n * g.row) ≡ nat_le r.end n

-- no dot of a raster is at or below the bottom margin
abbrev pub IsAbove : Grid → Raster → List ℕ → Type 0
IsAbove g r rows = list_any (λ d. nat_le g.bottom d.y) (fired g r rows) ≡ false

-- the bytes have the rows of the raster
abbrev pub HasRows : Raster → List ℕ → Type 0
HasRows r rows = length rows ≡ r.header.m * row_bytes r.header

-- the planes have the places of the dots; there are no planes before the first dot
abbrev pub PlanesHave : Grid → List Dot → Option DotTable → Type 0
PlanesHave g dots None = length dots ≡ 0
PlanesHave g dots (Some t) = HasPlaces g.column g.row dots t

-- why the dots of a raster are refused on a sheet with these dots: one is at or below the bottom margin, or where there
-- is one already
abbrev pub late_fault : Grid → Raster → List ℕ → List Dot → Option EmulatorFault
late_fault g r rows dots = first_refusal (
    refuse (list_any (λ d. nat_le g.bottom d.y) (fired g r rows)) OffSheet
    ∷ refuse (overprints dots (fired g r rows)) Overprint
    ∷ [])

-- the answer is whether the raster has a dot, or why its dots are refused
abbrev pub IsLooked : Grid → Raster → List ℕ → List Dot → Result Bool EmulatorFault → Type 0
IsLooked g r rows dots (Ok has_dots) = (late_fault g r rows dots ≡ None) × (has_dots ≡ nat_lt 0 (length (fired g r rows)))
IsLooked g r rows dots (Err fault) = late_fault g r rows dots ≡ Some fault
