-- What the emulator stands for, and what it answers.
use Rattle.std.specs.Prelude.{◌≡◌, ℕ, true, List, [], ◌∷◌, ◌++◌, Option, Some, None, Result, Ok, Err}
use Rattle.printer_definitions.specs.Printer.{Printer, column_step, row_step}
use Rattle.escp2_definitions.specs.Commands.{last_column}
use Rattle.escp2_definitions.specs.declared.command.Command.{Command}
use Rattle.escp2_definitions.specs.Machine.{Dot, Machine, Sheet as PrintedSheet, after, first_refusal, given, has_dots, refusals}
use Rattle.dot_planes.specs.Tables.{DotTable}
use Rattle.dot_emulator.specs.declared.emulator.Emulator.{Emulator}
use Rattle.dot_emulator.specs.declared.emulator.EmulatorStop.{EmulatorStop}
use Rattle.dot_emulator.specs.declared.emulator.EmulatorStop.TheVariants.{Refused, Memory}
use Rattle.dot_emulator.specs.declared.sheet.Sheet.{Sheet}
use Rattle.dot_emulator.specs.Sheets.{HoldsDots, HasPlaces, IsBlankFrom}
use Rattle.dot_emulator.specs.Firing.{Grid, fired}
use Rattle.dot_emulator.specs.declared.firing.Raster.{Raster}
use Rattle.base_definitions.specs.declared.answers.Memory.{Memory as MemoryOut}
use Rattle.dot_emulator.specs.States.{machine_of}
use Rattle.dot_emulator.specs.Steps.{AreStepsOf}

-- The sheet has the dots of the machine's sheet.
pub record IsSheet (p : Printer) (s : PrintedSheet) (sheet : Sheet) : Type 0 where
  pub rows : sheet.rows ≡ s.rows
  pub columns : sheet.columns ≡ s.columns
  pub dots : HoldsDots (column_step p) (row_step p) s.columns s.dots sheet.planes

-- the planes have the dots of the current sheet; there are no planes before its first dot
abbrev pub ShowsDots : Printer → Machine → Option DotTable → Type 0
ShowsDots p m None = m.dots ≡ []
ShowsDots p m (Some t) = (has_dots m ≡ true) × HoldsDots (column_step p) (row_step p) m.columns m.dots t

-- The emulator stands for this state of the machine, on this printer.
pub record Emulates (p : Printer) (e : Emulator) (m : Machine) : Type 0 where
  pub steps : AreStepsOf p e.steps
  pub state : machine_of e.state m.dots ≡ m
  pub dots : ShowsDots p m e.planes

-- the answer is the sheet that the command gives, if any
abbrev pub IsGiven : Printer → List PrintedSheet → Option Sheet → Type 0
IsGiven p sheets None = sheets ≡ []
IsGiven p sheets (Some sheet) = (s : PrintedSheet) × (sheets ≡ s ∷ []) × IsSheet p s sheet

-- The outcome of a command for an emulator that stands for a machine: the machine's next state and the sheet that it
-- gives, or the machine's first refusal, or `Memory` where there is no refusal. After a refusal and after `Memory`
-- the emulator is unchanged.
abbrev pub Runs : Printer → Machine → Command → List ℕ → Emulator → Emulator → Result (Option Sheet) EmulatorStop → Type 0
Runs p m command rows old new (Ok sheet) =
    (first_refusal (refusals p m command rows) ≡ None) × IsGiven p (given p m command) sheet × Emulates p new (after p m command rows)
Runs p m command rows old new (Err (Refused fault)) = (first_refusal (refusals p m command rows) ≡ Some fault) × (new ≡ old)
Runs p m command rows old new (Err Memory) = (first_refusal (refusals p m command rows) ≡ None) × (new ≡ old)

-- ---- parts of a step

-- the planes are the current ones, or blank where there were none
abbrev pub AreTaken : Option DotTable → DotTable → Type 0
AreTaken None t = IsBlankFrom 0 t
AreTaken (Some old) t = t ≡ old

pub record Taken (rows : ℕ) (old : Option DotTable) (t : DotTable) : Type 0 where
  pub inks : t.inks ≡ 4
  pub width : t.width ≡ last_column
  pub height : t.rows ≡ rows
  pub taken : AreTaken old t

abbrev pub TakesPlanes : ℕ → Option DotTable → Result DotTable MemoryOut → Type 0
TakesPlanes rows old (Ok t) = Taken rows old t
TakesPlanes rows old (Err out) = old ≡ None

-- the current planes also have the dots of a raster
pub record LaidIn (g : Grid) (r : Raster) (rows : List ℕ) (dots : List Dot) (new : Option DotTable) : Type 0 where
  pub table : DotTable
  pub is : new ≡ Some table
  pub has : HasPlaces g.column g.row (dots ++ fired g r rows) table
