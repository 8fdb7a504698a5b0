-- What a reader of lines stands for, and what its answers mean.
use Rattle.std.specs.Prelude.{◌≡◌, ℕ, ◌+◌, ◌≤◌, Bool, true, false, IsTrue, List, [], ◌++◌, length, take, drop, Option, Some, None}
use Rattle.pwg_definitions.specs.declared.pages.PageForm.{PageForm}
use Rattle.pwg_definitions.specs.declared.faults.LineFault.{LineFault}
use Rattle.pwg_definitions.specs.Header.{line_units, row_of}
use Rattle.pwg_definitions.specs.Groups.{GroupRead, group_at}
use Rattle.pwg_definitions.specs.Groups.GroupRead.{Group, Part, Wrong}
use Rattle.pwg_lines.specs.declared.reader.LineReader.{LineReader}
use Rattle.pwg_lines.specs.declared.states.State.{State}
use Rattle.pwg_lines.specs.declared.states.State.TheVariants as state
use Rattle.pwg_lines.specs.declared.answers.Fill.{Fill}
use Rattle.pwg_lines.specs.declared.answers.Fill.TheVariants.{More, Line, Fault}
use Rattle.pwg_lines.specs.States.{Stands, read_in}

-- the form of the page whose lines are read
abbrev pub form_of : LineReader → PageForm
form_of reader = reader.form

-- how many lines of the page are not yet given
abbrev pub lines_left_of : LineReader → ℕ
lines_left_of reader = reader.lines_left

-- the bytes of the line of the last group
abbrev pub line_of : LineReader → List ℕ
line_of reader = reader.line.items

-- the fault that a state keeps
abbrev pub fault_in : State → Option LineFault
fault_in state.Start = None
fault_in state.Packet = None
fault_in (state.Run units read) = None
fault_in (state.Literal bytes) = None
fault_in state.Full = None
fault_in (state.Failed fault) = Some fault

-- the fault that was found
abbrev pub fault_of : LineReader → Option LineFault
fault_of reader = fault_in reader.state

-- what the bytes are read as, where the next group of this reader's page begins
abbrev pub next_group : LineReader → List ℕ → GroupRead
next_group reader bytes =
    let row = row_of (form_of reader).kind in group_at row (line_units row (form_of reader).width) (lines_left_of reader) bytes

-- the bytes of a group that the reader has read are these
abbrev pub StandsFor : LineReader → List ℕ → Type 0
StandsFor reader sofar =
    let row = row_of reader.form.kind in
    Stands row (line_units row reader.form.width) reader.lines_left reader.state reader.repeats
    (take reader.filled reader.line.items) (take (read_in reader.state) (drop reader.filled reader.line.items)) reader.left sofar

-- whether a state is the one before a group
abbrev pub is_start : State → Bool
is_start state.Start = true
is_start state.Packet = false
is_start (state.Run units read) = false
is_start (state.Literal bytes) = false
is_start state.Full = false
is_start (state.Failed fault) = false

-- The reader stands before a group, and has read none of it. It has one proof at most, so that a ghost field may keep
-- it.
abbrev pub IsAnew : LineReader → Type 0
IsAnew reader = IsTrue (is_start reader.state)

-- The reader is unchanged, as far as contracts see it.
pub record IsSame (old new : LineReader) : Type 0 where
  pub form : form_of new ≡ form_of old
  pub lines_left : lines_left_of new ≡ lines_left_of old
  pub line : line_of new ≡ line_of old
  pub fault : fault_of new ≡ fault_of old
  pub stands : (sofar : List ℕ) → StandsFor old sofar → StandsFor new sofar
  pub fresh : IsAnew old → IsAnew new

-- The reader has read these bytes after those before.
pub record Takes (old new : LineReader) (bytes : List ℕ) : Type 0 where
  pub form : new.form ≡ old.form
  pub lines_left : new.lines_left ≡ old.lines_left
  pub stands : (sofar : List ℕ) → StandsFor old sofar → StandsFor new (sofar ++ bytes)

-- The reader answers the line of the group that is read, and stands before the next one.
pub record Ends (old new : LineReader) (answer : Fill) : Type 0 where
  pub answer_is : answer ≡ Line old.repeats
  pub some : 1 ≤ old.repeats
  pub fall : new.lines_left + old.repeats ≡ old.lines_left
  pub form : new.form ≡ old.form
  pub line : new.line.items ≡ old.line.items
  pub fresh : IsAnew new

-- ---- answers

-- a fact where the group is not yet read
abbrev pub OnMore : Fill → Type 0 → Type 0
OnMore More P = P
OnMore (Line repeats) P = Unit {0}
OnMore (Fault fault) P = Unit {0}

-- a fact where a line is read, of its repeats
abbrev pub OnLine : Fill → (ℕ → Type 0) → Type 0
OnLine More P = Unit {0}
OnLine (Line repeats) P = P repeats
OnLine (Fault fault) P = Unit {0}

-- a fact where a fault is found, of the fault
abbrev pub OnFault : Fill → (LineFault → Type 0) → Type 0
OnFault More P = Unit {0}
OnFault (Line repeats) P = Unit {0}
OnFault (Fault fault) P = P fault

-- The whole piece is used, and the group does not end in it.
pub record IsMore (old new : LineReader) (piece : List ℕ) (used : ℕ) : Type 0 where
  pub all : used ≡ length piece
  pub lines_left : lines_left_of new ≡ lines_left_of old
  pub part : (sofar : List ℕ) → StandsFor old sofar → next_group old (sofar ++ piece) ≡ Part
  pub stands : (sofar : List ℕ) → StandsFor old sofar → StandsFor new (sofar ++ piece)

-- The group ends with the last byte that was used, whatever follows, and the reader stands before the next one.
pub record IsLine (old new : LineReader) (piece : List ℕ) (used repeats : ℕ) : Type 0 where
  pub some : 1 ≤ repeats
  pub fall : lines_left_of new + repeats ≡ lines_left_of old
  pub group : (sofar rest : List ℕ) → StandsFor old sofar
      → next_group old (sofar ++ take used piece ++ rest) ≡ Group repeats (line_of new) rest
  pub anew : StandsFor new []
  pub fresh : IsAnew new

-- The group has this fault at the last byte that was used, whatever follows.
pub record IsFault (old new : LineReader) (piece : List ℕ) (used : ℕ) (fault : LineFault) : Type 0 where
  pub failed : fault_of new ≡ Some fault
  pub lines_left : lines_left_of new ≡ lines_left_of old
  pub wrong : (sofar rest : List ℕ) → StandsFor old sofar
      → (place : ℕ) × (length sofar + used ≡ place + 1)
      × (next_group old (sofar ++ take used piece ++ rest) ≡ Wrong place fault)
  pub stands : (sofar : List ℕ) → StandsFor old sofar → StandsFor new (sofar ++ take used piece)
