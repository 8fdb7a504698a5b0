-- Worked states of the machine of a printer with one nozzle, 360 dots an inch both ways.
use Rattle.std.specs.Prelude.{ℕ, ◌-◌, ◌*◌, true, List, [], ◌∷◌, ◌++◌, Option, Some}
use Rattle.printer_definitions.specs.declared.inks.Ink.TheVariants.{Black}
use Rattle.printer_definitions.specs.Printer.{tiny1}
use Rattle.escp2_definitions.specs.declared.command.Command.{Command}
use Rattle.escp2_definitions.specs.declared.command.Command.TheVariants as c
use Rattle.escp2_definitions.specs.declared.stops.EmulatorFault.{EmulatorFault}
use Rattle.escp2_definitions.specs.Commands.{Entry, last_column}
use Rattle.escp2_definitions.specs.Machine.{Machine, Printed, execute, first_refusal, refusals, start}
use Rattle.escp2_laws.specs.Examples.{said}

-- what a command is refused for in a state
abbrev pub fault_of : Machine → Command → List ℕ → Option EmulatorFault
fault_of s command rows = first_refusal (refusals tiny1 s command rows)

-- graphics mode, without a unit
abbrev pub in_graphics : Machine
in_graphics = record start { graphics = true }

-- a unit of 5/3600 inch, without the length of a sheet
abbrev pub with_unit : Machine
with_unit = record in_graphics { unit = Some 5 }

-- on a sheet of six rows
abbrev pub on_sheet : Machine
on_sheet = record with_unit { page = Some 60; margins = Some (record { top = 0; bottom = 60 }) }

-- the same, half a column from the left
abbrev pub off_column : Machine
off_column = record on_sheet { across = 5 }

-- the place of the last column, counted from the left margin
abbrev pub last_place : ℕ
last_place = 10 * (last_column - 1)

-- with a dot in the last column
abbrev pub with_dot : Machine
with_dot = record on_sheet { across = last_place; dots = record { ink = Black; x = last_place; y = 0 } ∷ [] }

-- a raster of these numbers of rows and columns, with these steps down and across
abbrev pub raster : ℕ → ℕ → ℕ → ℕ → Command
raster v h m n = c.Raster (record { c = 0; v = v; h = h; m = m; n = n })

-- the commands before the first raster of a sheet of six rows, in units of 5/3600 inch
abbrev pub sheet_begins : List Entry
sheet_begins = said 0 c.Graphics ∷ said 1 (c.Unit 5) ∷ said 2 (c.Length 12) ∷ said 3 (c.Margins 0 12) ∷ []

-- a row of this many columns, from the head's position on
abbrev pub row_entry : ℕ → List ℕ → Entry
row_entry n row = record { at = 4; command = raster 10 10 1 n; rows = row }

-- what the sheet becomes
abbrev pub printed_by : List Entry → Printed
printed_by entries = execute tiny1 (sheet_begins ++ entries)
