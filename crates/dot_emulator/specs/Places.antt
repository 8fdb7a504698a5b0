-- Where on the sheet a raster is, or why it is refused whatever its dots.
use Rattle.std.specs.Prelude.{◌≡◌, ℕ, ◌/◌, ◌≤◌, nat_le, List, [], ◌∷◌, Result, Ok, Err, Some}
use Rattle.std.specs.List.{list_any}
use Rattle.printer_definitions.specs.Printer.{Printer, column_step, row_step}
use Rattle.escp2_definitions.specs.declared.command.RasterHead.{RasterHead}
use Rattle.escp2_definitions.specs.declared.command.Command.TheVariants as c
use Rattle.escp2_definitions.specs.declared.stops.EmulatorFault.{EmulatorFault}
use Rattle.escp2_definitions.specs.declared.stops.EmulatorFault.TheVariants.{OffSheet, Overprint}
use Rattle.escp2_definitions.specs.Machine.{Machine, Refusal, bottom_margin, first_refusal, overprints, raster_dots, refusals, refuse}
use Rattle.dot_emulator.specs.declared.firing.Raster.{Raster}
use Rattle.dot_emulator.specs.Firing.{Grid, Stands, fired}
use Rattle.dot_emulator.specs.Pages.{sheet_rows}

-- the grid of a printer, above the bottom margin
abbrev pub grid_of : Printer → Machine → Grid
grid_of p m = record { column = column_step p; row = row_step p; bottom = bottom_margin m }

-- the refusals that depend on the dots: a dot at or below the bottom margin, or where there is one already
abbrev pub late_refusals : Machine → RasterHead → List ℕ → List Refusal
late_refusals m header rows =
    refuse (list_any (λ d. nat_le (bottom_margin m) d.y) (raster_dots m header rows)) OffSheet
    ∷ refuse (overprints m.dots (raster_dots m header rows)) Overprint
    ∷ []

pub record Placed (p : Printer) (m : Machine) (header : RasterHead) (r : Raster) : Type 0 where
  pub left : (rows : List ℕ) → first_refusal (refusals p m (c.Raster header) rows) ≡ first_refusal (late_refusals m header rows)
  pub fires : (rows : List ℕ) → raster_dots m header rows ≡ fired (grid_of p m) r rows
  pub stands : Stands (grid_of p m) r
  pub header_is : r.header ≡ header
  pub column : r.x ≡ m.across / column_step p
  pub on_page : r.end ≤ sheet_rows m.page (row_step p)

abbrev pub IsPlaced : Printer → Machine → RasterHead → Result Raster EmulatorFault → Type 0
IsPlaced p m header (Ok r) = Placed p m header r
IsPlaced p m header (Err fault) = (rows : List ℕ) → first_refusal (refusals p m (c.Raster header) rows) ≡ Some fault
