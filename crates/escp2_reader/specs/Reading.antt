-- What a reader of jobs stands for, and what its answers mean.
use Rattle.std.specs.Prelude.{◌≡◌, ℕ, ◌+◌, ◌-◌, ◌<◌, ◌≤◌, Bool, true, false, List, [], ◌++◌, length, take, slice_index}
use Rattle.escp2_definitions.specs.declared.command.Command.{Command}
use Rattle.escp2_definitions.specs.declared.command.RasterHead.{RasterHead}
use Rattle.escp2_definitions.specs.declared.stops.JobCause.{JobCause}
use Rattle.escp2_definitions.specs.Commands.{Spells, command_at, raster_rows}
use Rattle.escp2_definitions.specs.Commands.Heard.{One, Part, Wrong}
use Rattle.escp2_reader.specs.declared.reader.HeardState.{HeardState}
use Rattle.escp2_reader.specs.declared.reader.HeardState.TheVariants as heard
use Rattle.escp2_reader.specs.declared.reader.JobReader.{JobReader}
use Rattle.escp2_reader.specs.Stages.{Stands, is_failed_at, rows_at}

-- the reader was fed these bytes since the last command
abbrev pub StandsFor : JobReader → List ℕ → Type 0
StandsFor reader sofar = Stands reader.stage reader.begin reader.next reader.rows.items sofar

-- the offset of the first byte after the last command
abbrev pub begin_of : JobReader → ℕ
begin_of reader = reader.begin

-- how many bytes were fed
abbrev pub fed_of : JobReader → ℕ
fed_of reader = reader.next

-- the rows of the raster that was just answered
abbrev pub rows_of : JobReader → List ℕ
rows_of reader = rows_at reader.stage reader.rows.items

-- whether a fault was answered
abbrev pub is_failed_of : JobReader → Bool
is_failed_of reader = is_failed_at reader.stage

-- ---- answers

-- whether an answer is a fault
abbrev pub shows_fault : HeardState → Bool
shows_fault heard.More = false
shows_fault (heard.One command) = false
shows_fault (heard.Fault offset cause) = true

-- a fact where no command is whole
abbrev pub OnMore : HeardState → Type 0 → Type 0
OnMore heard.More P = P
OnMore (heard.One command) P = Unit {0}
OnMore (heard.Fault offset cause) P = Unit {0}

-- a fact where a fault is answered
abbrev pub OnFault : HeardState → Type 0 → Type 0
OnFault heard.More P = Unit {0}
OnFault (heard.One command) P = Unit {0}
OnFault (heard.Fault offset cause) P = P

-- The bytes since the last command are a part of a command.
pub record HeardMore (begin : ℕ) (new : JobReader) (bytes : List ℕ) : Type 0 where
  pub part : command_at bytes ≡ Part
  pub stands : StandsFor new bytes
  pub begins : begin_of new ≡ begin
  pub none : rows_of new ≡ []

-- The bytes since the last command are a command, whatever follows, and the next one begins after them.
pub record HeardOne (begin : ℕ) (command : Command) (new : JobReader) (bytes : List ℕ) : Type 0 where
  pub whole : (rest : List ℕ) → command_at (bytes ++ rest) ≡ One command (rows_of new) (length bytes)
  pub spelled : Spells command (rows_of new) bytes
  pub stands : StandsFor new []
  pub begins : begin_of new ≡ begin + length bytes

-- The bytes since the last command have a fault, whatever follows.
pub record HeardFault (begin offset : ℕ) (cause : JobCause) (new : JobReader) (bytes : List ℕ) : Type 0 where
  pub behind : begin ≤ offset
  pub wrong : (rest : List ℕ) → command_at (bytes ++ rest) ≡ Wrong (offset - begin) cause
  pub stands : StandsFor new bytes
  pub begins : begin_of new ≡ begin
  pub none : rows_of new ≡ []

-- what an answer means for the bytes since the last command, which began at this offset
abbrev pub IsHeard : HeardState → ℕ → JobReader → List ℕ → Type 0
IsHeard heard.More begin new bytes = HeardMore begin new bytes
IsHeard (heard.One command) begin new bytes = HeardOne begin command new bytes
IsHeard (heard.Fault offset cause) begin new bytes = HeardFault begin offset cause new bytes

-- These bytes end the numbers of a raster.
pub record BeginsRows (raster : RasterHead) (begin next : ℕ) (sofar bytes : List ℕ) : Type 0 where
  pub fed : next ≡ begin + length sofar
  pub are : (k : ℕ) → slice_index (sofar ++ bytes) k < 256
  pub front_len : length (sofar ++ bytes) ≡ 8
  pub reads : (more : List ℕ) → command_at ((sofar ++ bytes) ++ more) ≡ raster_rows raster more

-- The fault shows with the last byte that was used, and not before.
pub record ShowsLast (sofar piece : List ℕ) (used : ℕ) : Type 0 where
  pub some : 1 ≤ used
  pub before : command_at (sofar ++ take (used - 1) piece) ≡ Part
