-- A group of a page's lines that is read from a source (PWG 5102.4, section 4.4).
use Rattle.std.specs.Prelude.{◌≡◌, ℕ, ◌+◌, ◌≤◌, List, ◌++◌, Option, Result, Ok, Err}
use Rattle.std.specs.Io.KnownBytes.{Consumes}
use Rattle.pwg_definitions.specs.declared.faults.LineFault.{LineFault}
use Rattle.pwg_definitions.specs.declared.faults.InputCause.{InputCause}
use Rattle.pwg_definitions.specs.declared.faults.InputCause.TheVariants as cause
use Rattle.pwg_definitions.specs.Groups.{GroupRead}
use Rattle.pwg_definitions.specs.Groups.GroupRead.{Group, Part, Wrong}
use Rattle.pwg_lines.specs.declared.reader.LineReader.{LineReader}
use Rattle.pwg_lines.specs.Reading.{line_of, lines_left_of, next_group}
use Rattle.pwg_stream.specs.declared.groups.GroupStop.{GroupStop}
use Rattle.pwg_stream.specs.declared.groups.GroupStop.TheVariants as stop

-- The next bytes of the text are a group with these repeats, whatever follows, and were used.
pub record GivesLine (old new : LineReader) (before now : Option (List ℕ)) (repeats : ℕ) : Type 0 where
  pub some : 1 ≤ repeats
  pub fall : lines_left_of new + repeats ≡ lines_left_of old
  pub bytes : List ℕ
  pub used : Consumes before now bytes
  pub group : (rest : List ℕ) → next_group old (bytes ++ rest) ≡ Group repeats (line_of new) rest

-- The bytes that were taken are a part of the next group, without a fault.
pub record TakesPart (lines : LineReader) (before left : Option (List ℕ)) : Type 0 where
  pub bytes : List ℕ
  pub taken : Consumes before left bytes
  pub part : next_group lines bytes ≡ Part

-- the text begins with no group, for this cause
abbrev pub IsNoGroup : GroupRead → InputCause → Type 0
IsNoGroup read why = (read ≡ Part) × (why ≡ cause.Truncated)

-- the text begins with a group that has this fault
pub record IsBadGroup (read : GroupRead) (why : InputCause) : Type 0 where
  pub place : ℕ
  pub fault : LineFault
  pub wrong : read ≡ Wrong place fault
  pub why_is : why ≡ cause.Line fault

-- a fact where no group was read, of the cause
abbrev pub OnNoGroup : {T : Type 0} → Result T GroupStop → (InputCause → Type 0) → Type 0
OnNoGroup (Ok x) P = Unit {0}
OnNoGroup (Err (stop.Input why)) P = P why
OnNoGroup (Err stop.Read) P = Unit {0}
