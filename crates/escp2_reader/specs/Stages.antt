-- The stages of a command that is read.
use Rattle.std.specs.Prelude.{◌≡◌, ℕ, ◌+◌, ◌-◌, ◌<◌, ◌≤◌, Bool, true, false, List, [], ◌++◌, length, slice_index}
use Rattle.escp2_definitions.specs.declared.command.RasterHead.{RasterHead}
use Rattle.escp2_definitions.specs.declared.stops.JobCause.{JobCause}
use Rattle.escp2_definitions.specs.Commands.{Heard, command_at, raster_rows, row_bytes}
use Rattle.escp2_definitions.specs.Commands.Heard.{One, Part, Wrong}
use Rattle.escp2_rows.specs.declared.reader.RowReader.{RowReader}
use Rattle.escp2_rows.specs.Places.{RowsForm}
use Rattle.escp2_rows.specs.Reading.{StandsFor as RowsStandFor, bytes_left_of, is_done_of}
use Rattle.escp2_reader.specs.declared.reader.Stage.{Stage}
use Rattle.escp2_reader.specs.declared.reader.Stage.TheVariants.{Header, Rows, Failed}

-- ---- what was read of a command

-- the rows of a raster, after its eight bytes
abbrev pub rows_form : RasterHead → RowsForm
rows_form raster = record { c = raster.c; width = row_bytes raster; rows = raster.m; at = 8 }

-- Within the rows of a raster: its numbers, and the rows that the bytes after them gave.
pub record InRows (raster : RasterHead) (reader : RowReader) (rows sofar : List ℕ) : Type 0 where
  pub front : List ℕ
  pub code : List ℕ
  pub is : sofar ≡ front ++ code
  pub front_len : length front ≡ 8
  pub reads : (more : List ℕ) → command_at (front ++ more) ≡ raster_rows raster more
  pub stands : RowsStandFor (rows_form raster) reader code rows

-- After a fault, which is read whatever follows.
pub record AfterFault (begin offset : ℕ) (cause : JobCause) (sofar : List ℕ) : Type 0 where
  pub behind : begin ≤ offset
  pub wrong : (rest : List ℕ) → command_at (sofar ++ rest) ≡ Wrong (offset - begin) cause

-- what was read of a command, at this stage
abbrev pub AtStage : Stage → ℕ → List ℕ → List ℕ → Type 0
AtStage (Header header) begin rows sofar = header.items ≡ sofar
AtStage (Rows raster reader) begin rows sofar = InRows raster reader rows sofar
AtStage (Failed offset cause) begin rows sofar = AfterFault begin offset cause sofar

-- At this stage of a command that begins at an offset these bytes of it were fed.
pub record Stands (stage : Stage) (begin next : ℕ) (rows sofar : List ℕ) : Type 0 where
  pub fed : next ≡ begin + length sofar
  pub bytes : (k : ℕ) → slice_index sofar k < 256
  pub heard : AtStage stage begin rows sofar

-- the rows of the raster that was just answered
abbrev pub rows_at : Stage → List ℕ → List ℕ
rows_at (Header header) rows = rows
rows_at (Rows raster reader) rows = []
rows_at (Failed offset cause) rows = []

-- whether a fault was answered
abbrev pub is_failed_at : Stage → Bool
is_failed_at (Header header) = false
is_failed_at (Rows raster reader) = false
is_failed_at (Failed offset cause) = true

-- ---- what holds of a reader

-- the bytes that are gathered, before the rows of a raster
abbrev pub gathered : Stage → List ℕ
gathered (Header header) = header.items
gathered (Rows raster reader) = []
gathered (Failed offset cause) = []

-- whether the bytes are a part of a command
abbrev pub is_part : Heard → Bool
is_part (One command rows len) = false
is_part Part = true
is_part (Wrong place cause) = false

-- whether no bytes of rows may be fed
abbrev pub is_done_at : Stage → Bool
is_done_at (Header header) = false
is_done_at (Rows raster reader) = is_done_of reader
is_done_at (Failed offset cause) = false

-- the room for the rows of a raster, of which `len` bytes are given
abbrev pub room_at : Stage → ℕ → ℕ
room_at (Header header) len = 0
room_at (Rows raster reader) len = len + bytes_left_of reader
room_at (Failed offset cause) len = 0
