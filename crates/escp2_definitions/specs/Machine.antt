-- The machine: what the commands of a job put on its sheets. Lengths and places are in 1/3600 inch.
use Rattle.std.specs.Prelude.{ℕ, zero, suc, ◌+◌, ◌-◌, ◌*◌, ◌/◌, ◌%◌, Bool, true, false, not, ◌==◌, nat_lt, nat_le, ◌&&◌, ◌||◌}
use Rattle.std.specs.Prelude.{if◌then◌else◌, List, [], ◌∷◌, ◌++◌, length, take, drop, max, unwrap_or, is_none, Option, Some, None}
use Rattle.base_definitions.specs.Packed.{bits}
pub use Rattle.base_definitions.specs.Limits.{longest_page}
use Rattle.std.specs.List.{list_any}
use Rattle.printer_definitions.specs.declared.inks.Ink.{Ink}
use Rattle.printer_definitions.specs.declared.inks.Ink.TheVariants.{Black}
use Rattle.printer_definitions.specs.Inks.{same_ink}
use Rattle.printer_definitions.specs.Printer.{Printer, column_step, row_step, nozzle_step}
use Rattle.escp2_definitions.specs.declared.command.RasterHead.{RasterHead}
use Rattle.escp2_definitions.specs.declared.command.Command.{Command}
use Rattle.escp2_definitions.specs.declared.command.Command.TheVariants as c
use Rattle.escp2_definitions.specs.declared.stops.EmulatorFault.{EmulatorFault}
use Rattle.escp2_definitions.specs.declared.stops.EmulatorFault.TheVariants.{NotGraphics, NoUnit, NoMargins, Density, Rows, Backward, OffGrid}
use Rattle.escp2_definitions.specs.declared.stops.EmulatorFault.TheVariants.{OffSheet, Overprint}
use Rattle.escp2_definitions.specs.Commands.{Entry, last_column, row_bytes}

-- A dot of an ink, by its distance from the left margin and from the paper's top.
pub record Dot : Type 0 where
  pub ink : Ink
  pub x : ℕ
  pub y : ℕ

-- A sheet: its rows, its columns, and its dots in the order in which they were fired.
pub record Sheet : Type 0 where
  pub rows : ℕ
  pub columns : ℕ
  pub dots : List Dot

-- The margins from the paper's top.
pub record PageMargins : Type 0 where
  pub top : ℕ
  pub bottom : ℕ

-- The state of the machine. The current sheet has these columns and dots.
pub record Machine : Type 0 where
  pub graphics : Bool
  pub unit : Option ℕ
  pub page : Option ℕ
  pub margins : Option PageMargins
  pub colour : Ink
  -- the position down from the top margin, and across from the left one
  pub down : ℕ
  pub across : ℕ
  pub columns : ℕ
  pub dots : List Dot

-- The state at the start of a job, and after `ESC @`.
abbrev pub start : Machine
start = record { graphics = false; unit = None; page = None; margins = None; colour = Black; down = 0; across = 0; columns = 1; dots = [] }

-- whether the sheet has dots
abbrev pub has_dots : Machine → Bool
has_dots s = nat_lt 0 (length s.dots)

-- the length of n units
abbrev pub units : Machine → ℕ → ℕ
units s n = n * unwrap_or s.unit 0

-- the length of the sheet, 0 where none was set
abbrev pub page_length : Machine → ℕ
page_length s = unwrap_or s.page 0

-- the top margin, 0 where none was set
abbrev pub top_margin : Machine → ℕ
top_margin s = (unwrap_or s.margins (record { top = 0; bottom = 0 })).top

-- the bottom margin, from the top of the paper; 0 where none was set
abbrev pub bottom_margin : Machine → ℕ
bottom_margin s = (unwrap_or s.margins (record { top = 0; bottom = 0 })).bottom

-- the position from the paper's top
abbrev pub from_top : Machine → ℕ
from_top s = top_margin s + s.down

-- ---- the dots of a raster

-- The dots of a row's bits, from place x on, one step apart.
abbrev pub row_dots : Ink → ℕ → ℕ → ℕ → List Bool → List Dot
row_dots ink x step y [] = []
row_dots ink x step y (true ∷ row) = record { ink = ink; x = x; y = y } ∷ row_dots ink (x + step) step y row
row_dots ink x step y (false ∷ row) = row_dots ink (x + step) step y row

-- The dots of the rows of a raster, the top one first. Bits past the last column are no dots.
unfoldable pub rows_dots : ℕ → RasterHead → Ink → ℕ → ℕ → List ℕ → List Dot
rows_dots zero header ink x y bytes = []
rows_dots (suc m) header ink x y bytes =
    row_dots ink x header.h y (take header.n (bits (take (row_bytes header) bytes)))
    ++ rows_dots m header ink x (y + header.v) (drop (row_bytes header) bytes)

-- the dots that a raster fires
abbrev pub raster_dots : Machine → RasterHead → List ℕ → List Dot
raster_dots s header rows = rows_dots header.m header s.colour s.across (from_top s) rows

-- whether two dots are of one ink at one place
abbrev pub is_at : Dot → Dot → Bool
is_at d e = same_ink d.ink e.ink && (d.x == e.x) && (d.y == e.y)

-- whether one of the new dots is on the sheet already
abbrev pub overprints : List Dot → List Dot → Bool
overprints old new = list_any (λ d. list_any (is_at d) old) new

-- ---- what is refused

-- A test, and the fault where it holds.
pub record Refusal : Type 0 where
  pub holds : Bool
  pub fault : EmulatorFault

-- a refusal with this fault, where the test holds
abbrev pub refuse : Bool → EmulatorFault → Refusal
refuse holds fault = record { holds = holds; fault = fault }

-- the first refusal that holds
abbrev pub first_refusal : List Refusal → Option EmulatorFault
first_refusal [] = None
first_refusal (refusal ∷ refusals) = if refusal.holds then Some refusal.fault else first_refusal refusals

-- refused where no unit was set
abbrev pub no_unit : Machine → Refusal
no_unit s = refuse (is_none s.unit) NoUnit

-- refused where no margins were set
abbrev pub no_margins : Machine → Refusal
no_margins s = refuse (is_none s.margins) NoMargins

-- whether a raster's steps are not those of the printer
abbrev pub is_other_density : Printer → RasterHead → Bool
is_other_density p header = not (header.h == column_step p) || not (header.v == nozzle_step p)

-- whether the position is between the printer's columns or rows
abbrev pub is_off_grid : Printer → Machine → Bool
is_off_grid p s = not (s.across % column_step p == 0) || not (from_top s % row_step p == 0)

-- whether a raster goes past the last column, or has a dot at or below the bottom margin
abbrev pub is_off_sheet : Printer → Machine → RasterHead → List Dot → Bool
is_off_sheet p s header new = nat_lt last_column (s.across / column_step p + header.n) || list_any (λ d. nat_le (bottom_margin s) d.y) new

-- The refusals of a command, in the order in which they are tested.
abbrev pub refusals : Printer → Machine → Command → List ℕ → List Refusal
refusals p s c.Init rows = refuse (has_dots s) Backward ∷ []
refusals p s c.Graphics rows = []
refusals p s (c.Unit m) rows = []
refusals p s (c.MicroWeave n) rows = []
refusals p s (c.OneWay n) rows = []
refusals p s (c.Length n) rows = no_unit s ∷ refuse (has_dots s) Backward ∷ refuse (nat_lt longest_page (units s n)) OffSheet ∷ []
refusals p s (c.Margins top bottom) rows =
    no_unit s ∷ refuse (is_none s.page) NoMargins ∷ refuse (has_dots s) Backward
    ∷ refuse (nat_lt (page_length s) (units s bottom)) OffSheet ∷ []
refusals p s (c.DownTo n) rows =
    no_unit s ∷ no_margins s ∷ refuse (nat_lt (units s n) s.down) Backward
    ∷ refuse (nat_lt (page_length s) (top_margin s + units s n)) OffSheet ∷ []
refusals p s (c.DownBy n) rows = no_unit s ∷ no_margins s ∷ refuse (nat_lt (page_length s) (from_top s + units s n)) OffSheet ∷ []
refusals p s (c.Across n) rows = no_unit s ∷ []
refusals p s c.Return rows = []
refusals p s c.Eject rows = no_margins s ∷ []
refusals p s (c.Colour ink) rows = []
refusals p s (c.Raster header) rows =
    refuse (not s.graphics) NotGraphics ∷ no_unit s ∷ no_margins s
    ∷ refuse (is_other_density p header) Density
    ∷ refuse (not (header.m == p.nozzles)) Rows
    ∷ refuse (is_off_grid p s) OffGrid
    ∷ refuse (is_off_sheet p s header (raster_dots s header rows)) OffSheet
    ∷ refuse (overprints s.dots (raster_dots s header rows)) Overprint
    ∷ []

-- ---- what is done

-- The state after a command that is not refused.
abbrev pub after : Printer → Machine → Command → List ℕ → Machine
after p s c.Init rows = start
after p s c.Graphics rows = record s { graphics = true }
after p s (c.Unit m) rows = record s { unit = Some m }
after p s (c.MicroWeave n) rows = s
after p s (c.OneWay n) rows = s
after p s (c.Length n) rows = record s { page = Some (units s n); margins = None; down = 0; across = 0 }
after p s (c.Margins top bottom) rows =
    record s { margins = Some (record { top = units s top; bottom = units s bottom }); down = 0; across = 0 }
after p s (c.DownTo n) rows = record s { down = units s n }
after p s (c.DownBy n) rows = record s { down = s.down + units s n }
after p s (c.Across n) rows = record s { across = units s n }
after p s c.Return rows = record s { across = 0 }
after p s c.Eject rows = record s { columns = 1; dots = []; down = 0; across = 0 }
after p s (c.Colour ink) rows = record s { colour = ink }
after p s (c.Raster header) rows = record s {
  dots = s.dots ++ raster_dots s header rows;
  across = s.across + header.n * header.h;
  columns = max s.columns (s.across / column_step p + header.n);
}

-- The sheets that a command gives: `Eject` gives the current one, with as many rows as its length takes.
abbrev pub given : Printer → Machine → Command → List Sheet
given p s c.Eject = record { rows = (page_length s + row_step p - 1) / row_step p; columns = s.columns; dots = s.dots } ∷ []
given p s other = []

-- The first command that was refused: the offset of its first byte, and why.
pub record Refused : Type 0 where
  pub at : ℕ
  pub fault : EmulatorFault

-- What a run gave: the sheets that were ejected, and the first refused command. A sheet that was not ejected does not
-- count.
pub record Printed : Type 0 where
  pub sheets : List Sheet
  pub refused : Option Refused

-- the run with these sheets before its own
abbrev pub with_sheets : List Sheet → Printed → Printed
with_sheets sheets run = record { sheets = sheets ++ run.sheets; refused = run.refused }

-- The run of commands from a state on. It ends at the first that is refused.
unfoldable pub execute_from : Printer → Machine → List Entry → Printed
execute_from p s [] = record { sheets = []; refused = None }
execute_from p s (entry ∷ entries) = elim (first_refusal (refusals p s entry.command entry.rows)) [
  | Some fault ↦ record { sheets = []; refused = Some (record { at = entry.at; fault = fault }) }
  | None ↦ with_sheets (given p s entry.command) (execute_from p (after p s entry.command entry.rows) entries)
]

-- The run of a job's commands.
abbrev pub execute : Printer → List Entry → Printed
execute p entries = execute_from p start entries
