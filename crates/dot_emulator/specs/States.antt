-- The machine, from the state that is kept.
use Rattle.std.specs.Prelude.{◌≡◌, ℕ, ◌==◌, Bool, true, false, not, List, [], ◌∷◌, Option, Some, None, Result, Ok, Err}
use Rattle.escp2_definitions.specs.Machine.{Dot, Machine, after, first_refusal, is_off_grid, is_other_density}
use Rattle.escp2_definitions.specs.Machine.{no_margins, no_unit, refusals, refuse}
use Rattle.escp2_definitions.specs.declared.command.Command.{Command}
use Rattle.escp2_definitions.specs.declared.command.Command.TheVariants as c
use Rattle.escp2_definitions.specs.declared.command.RasterHead.{RasterHead}
use Rattle.escp2_definitions.specs.declared.stops.EmulatorFault.{EmulatorFault}
use Rattle.escp2_definitions.specs.declared.stops.EmulatorFault.TheVariants.{NotGraphics, Density, Rows, OffGrid}
use Rattle.printer_definitions.specs.Printer.{Printer}
use Rattle.dot_emulator.specs.Margins.{margins_of}
use Rattle.dot_emulator.specs.declared.state.State.{State}

-- the machine with these dots on its sheet
abbrev pub machine_of : State → List Dot → Machine
machine_of s dots = record {
  graphics = s.graphics;
  unit = s.unit;
  page = s.page;
  margins = margins_of s.margins;
  colour = s.colour;
  down = s.down;
  across = s.across;
  columns = s.columns;
  dots = dots;
}

-- A step of the machine that fires no dots: why it is refused, or the state after it.
abbrev pub IsStep : Printer → Machine → Command → Result State EmulatorFault → Type 0
IsStep p m command (Ok s) =
    (rows : List ℕ) → (first_refusal (refusals p m command rows) ≡ None)
    × (machine_of s (after p m command rows).dots ≡ after p m command rows)
IsStep p m command (Err fault) = (rows : List ℕ) → first_refusal (refusals p m command rows) ≡ Some fault

-- whether a command neither fires dots nor gives a sheet
abbrev pub is_plain : Command → Bool
is_plain (c.Raster header) = false
is_plain c.Eject = false
is_plain other = true

-- why a raster is refused, whatever its dots
abbrev pub early_fault : Printer → Machine → RasterHead → Option EmulatorFault
early_fault p m header = first_refusal (
    refuse (not m.graphics) NotGraphics ∷ no_unit m ∷ no_margins m
    ∷ refuse (is_other_density p header) Density
    ∷ refuse (not (header.m == p.nozzles)) Rows
    ∷ refuse (is_off_grid p m) OffGrid
    ∷ [])
