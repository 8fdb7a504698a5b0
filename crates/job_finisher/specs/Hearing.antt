-- What a piece of a job makes whole.
use Rattle.std.specs.Prelude.{◌≡◌, ℕ, ◌+◌, ◌-◌, ◌*◌, ◌≤◌, false, List, [], ◌++◌, length, take, drop, Option, None, Some}
use Rattle.base_definitions.specs.Limits.{most_row_bytes}
use Rattle.escp2_definitions.specs.Commands.{Entry, command_at}
use Rattle.escp2_definitions.specs.Commands.Heard.{Part, Wrong}
use Rattle.escp2_definitions.specs.declared.stops.JobCause.{JobCause}
use Rattle.escp2_reader.specs.declared.reader.JobReader.{JobReader}
use Rattle.escp2_reader.specs.Jobs.{AreCommands}
use Rattle.escp2_reader.specs.Reading.{StandsFor, begin_of, is_failed_of}
use Rattle.finish_definitions.specs.declared.state.PageState.{PageState}
use Rattle.finish_definitions.specs.declared.state.PageState.TheVariants.{Between}
use Rattle.finish_definitions.specs.Finished.{page_from, whole_commands}
use Rattle.job_finisher.specs.declared.hearing.JobFault.{JobFault}
use Rattle.job_finisher.specs.declared.hearing.PieceHeard.{PieceHeard}

-- more than the bytes of a part of a command: 8, and twice those of a raster's rows
abbrev pub most_held : ℕ
most_held = 8 + 2 * (255 * most_row_bytes)

-- The bytes are these whole commands, whatever follows, read as commands and kept as bytes.
pub record AreWhole (bytes : List ℕ) (entries : List Entry) : Type 0 where
  pub are : AreCommands bytes entries
  pub stay : (rest : List ℕ) → whole_commands (bytes ++ rest) ≡ bytes ++ whole_commands rest

-- Of a job these whole commands were read, which leave the page in this state, and then a part of a command.
pub record StandsBehind (reader : JobReader) (state : PageState) (done part : List ℕ) : Type 0 where
  pub entries : List Entry
  pub whole : AreWhole done entries
  pub state_is : state ≡ page_from Between entries
  pub part_is : command_at part ≡ Part
  pub stands : StandsFor reader part
  pub is_open : is_failed_of reader ≡ false
  pub begins : begin_of reader ≡ length done

-- Of a job these whole commands were read, which leave the page in this state, and then a fault, whatever follows.
pub record FaultBehind (state : PageState) (done bytes : List ℕ) (offset : ℕ) (cause : JobCause) : Type 0 where
  pub entries : List Entry
  pub whole : AreWhole done entries
  pub state_is : state ≡ page_from Between entries
  pub behind : length done ≤ offset
  pub wrong : (rest : List ℕ) → command_at (bytes ++ rest) ≡ Wrong (offset - length done) cause

-- the bytes that a piece made whole, with those of a command in hand before it
abbrev pub made_whole : Option ℕ → List ℕ → List ℕ → List ℕ
made_whole None part piece = []
made_whole (Some end) part piece = part ++ take end piece

-- the bytes behind those
abbrev pub left_behind : Option ℕ → List ℕ → List ℕ → List ℕ
left_behind None part piece = part ++ piece
left_behind (Some end) part piece = drop end piece

-- where a reader stands after a piece, or its fault
abbrev pub StandsAfter : Option JobFault → JobReader → PageState → List ℕ → List ℕ → Type 0
StandsAfter None reader state done part = StandsBehind reader state done part
StandsAfter (Some fault) reader state done part = FaultBehind state done part fault.offset fault.cause

-- where a reader stands after a piece, which was read behind these whole commands and a part of a command
abbrev pub EndsPiece : JobReader → PageState → List ℕ → List ℕ → List ℕ → PieceHeard → Type 0
EndsPiece reader state done part piece heard =
    StandsAfter heard.fault reader state (done ++ made_whole heard.whole part piece)
    (left_behind heard.whole part piece)
