-- The rows that the rasters of a job have, as the machine takes them from their bytes.
use Rattle.std.specs.Prelude.{◌≡◌, ℕ, ◌*◌, ◌%◌, ◌<◌, Bool, true, List, [], take, drop, slice_index_or}
use Rattle.std.specs.List.{AllByRecursion}
use Rattle.base_definitions.specs.Packed.{at, bits}
use Rattle.escp2_definitions.specs.declared.command.Command.{Command}
use Rattle.escp2_definitions.specs.declared.command.Command.TheVariants as c
use Rattle.escp2_definitions.specs.declared.command.RasterHead.{RasterHead}
use Rattle.escp2_definitions.specs.Commands.{Entry, row_bytes}
use Rattle.page_definitions.specs.Strokes.{Stroke}
use Rattle.printer_definitions.specs.declared.inks.Ink.{Ink}

-- the dots of row i of a raster whose rows have these bytes, the top row first; bits past the last column are no dots
abbrev pub raster_row : RasterHead → List ℕ → ℕ → List Bool
raster_row header bytes i = take header.n (bits (take (row_bytes header) (drop (i * row_bytes header) bytes)))

-- whether row i of a raster has a dot at column x
abbrev pub raster_dot : RasterHead → List ℕ → ℕ → ℕ → Bool
raster_dot header bytes i x = at (raster_row header bytes i) x

-- This is true of each row of a command: of the row's number and of where it has dots. Only a raster has rows.
abbrev pub CommandRows : (ℕ → (ℕ → Bool) → Type 0) → Command → List ℕ → Type 0
CommandRows Q (c.Raster header) bytes = (i : ℕ) → i < header.m → Q i (raster_dot header bytes i)
CommandRows Q other bytes = Unit {0}

-- This is true of each row of each raster among the commands.
abbrev pub RasterRows : (ℕ → (ℕ → Bool) → Type 0) → List Entry → Type 0
RasterRows Q entries = AllByRecursion (λ entry. CommandRows Q entry.command entry.rows) entries

-- This is true of each row that a stroke of a head of this many nozzles fires: of the nozzle and of where the row has
-- dots.
abbrev pub StrokeRows : (ℕ → (ℕ → Bool) → Type 0) → ℕ → Stroke → Type 0
StrokeRows Q nozzles stroke = (ink : Ink) (i : ℕ) → i < nozzles → Q i (λ x. at (slice_index_or (stroke.rows ink) i []) x)

-- Any two dots of a row pass this test of the row's number and their columns.
abbrev pub EachTwo : (ℕ → ℕ → ℕ → Bool) → ℕ → (ℕ → Bool) → Type 0
EachTwo test i dot = (x y : ℕ) → dot x ≡ true → dot y ≡ true → test i x y ≡ true

-- A row does not have dots both at even and at odd columns.
abbrev pub FiresHalf : ℕ → (ℕ → Bool) → Type 0
FiresHalf i dot = (x y : ℕ) → dot x ≡ true → dot y ≡ true → x % 2 ≡ y % 2
