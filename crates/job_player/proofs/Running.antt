-- The machine over the commands that a feed gave.
use Rattle.std.proofs.Common.{◌≡◌, ℕ, List, [], ◌∷◌, ◌++◌, length, take, Option, None, Some, refl, sym, ◌∙◌, ap, append_assoc, append-nil}
use Rattle.escp2_definitions.specs.declared.stops.EmulatorFault.{EmulatorFault}
use Rattle.escp2_definitions.specs.declared.stops.JobStop.TheVariants as stop
use Rattle.escp2_definitions.specs.Commands.{Entry, commands}
use Rattle.escp2_definitions.specs.JobEnds.{Stopped, first_stop, job_end, list_stop, stopped}
use Rattle.escp2_definitions.specs.Machine.{Machine, Printed, Sheet, after, execute, execute_from, first_refusal}
use Rattle.escp2_definitions.specs.Machine.{given, refusals, start, with_sheets}
use Rattle.escp2_reader.specs.Jobs.{Ends}
use Rattle.printer_definitions.specs.Printer.{Printer}

-- From the first state the machine comes to this one by these commands, which gave these sheets.
pub record ExecutesFrom (p : Printer) (first : Machine) (entries : List Entry) (m : Machine) (sheets : List Sheet) : Type 0 where
  pub is : (rest : List Entry) → execute_from p first (entries ++ rest) ≡ with_sheets sheets (execute_from p m rest)

-- After these commands of a job the machine is in this state, and they gave these sheets.
abbrev pub Executes : Printer → List Entry → Machine → List Sheet → Type 0
Executes p entries m sheets = ExecutesFrom p start entries m sheets

pub executes_none : (p : Printer) (first : Machine) → ExecutesFrom p first [] first []
executes_none p first = record { is = λ rest. refl }

-- a command that is not refused
accepted : (p : Printer) (m : Machine) (entry : Entry) (rest : List Entry) → first_refusal (refusals p m entry.command entry.rows) ≡ None
    → execute_from p m (entry ∷ rest) ≡ with_sheets (given p m entry.command) (execute_from p (after p m entry.command entry.rows) rest)
unfolding execute_from
accepted p m entry rest none = ap (λ o. elim o [
  | Some fault ↦ record { sheets = []; refused = Some (record { at = entry.at; fault = fault }) }
  | None ↦ with_sheets (given p m entry.command) (execute_from p (after p m entry.command entry.rows) rest)
]) none

-- a command that is refused
pub refused : (p : Printer) (m : Machine) (entry : Entry) (rest : List Entry) (fault : EmulatorFault)
    → first_refusal (refusals p m entry.command entry.rows) ≡ Some fault
    → execute_from p m (entry ∷ rest) ≡ record { sheets = []; refused = Some (record { at = entry.at; fault = fault }) }
unfolding execute_from
refused p m entry rest fault some = ap (λ o. elim o [
  | Some fault ↦ record { sheets = []; refused = Some (record { at = entry.at; fault = fault }) }
  | None ↦ with_sheets (given p m entry.command) (execute_from p (after p m entry.command entry.rows) rest)
]) some

pub executes_more : (p : Printer) (first : Machine) (entries : List Entry) (entry : Entry) (m : Machine) (sheets : List Sheet)
    → ExecutesFrom p first entries m sheets
    → first_refusal (refusals p m entry.command entry.rows) ≡ None
    → ExecutesFrom p first (entries ++ entry ∷ []) (after p m entry.command entry.rows) (sheets ++ given p m entry.command)
executes_more p first entries entry m sheets so_far none = record {
  is = λ rest.
      let run : Printed = execute_from p (after p m entry.command entry.rows) rest in
      ap (execute_from p first) (append_assoc entries (entry ∷ []) rest)
      ∙ so_far.is (entry ∷ rest)
      ∙ ap (with_sheets sheets) (accepted p m entry rest none)
      ∙ ap (λ all. record { sheets = all; refused = run.refused }) (sym (append_assoc sheets (given p m entry.command) run.sheets));
}

-- the sheets of more commands begin with these
pub sheets_more : (p : Printer) (entries others : List Entry) (m : Machine) (sheets : List Sheet) → Executes p entries m sheets
    → (execute p (entries ++ others)).sheets ≡ sheets ++ (execute_from p m others).sheets
sheets_more p entries others m sheets so_far = ap (λ (run : Printed). run.sheets) (so_far.is others)

-- all commands were run
pub run_whole : (p : Printer) (entries : List Entry) (m : Machine) (sheets : List Sheet)
    → Executes p entries m sheets → execute p entries ≡ record { sheets = sheets; refused = None }
unfolding execute_from
run_whole p entries m sheets so_far =
    ap (execute p) (sym (append-nil entries)) ∙ so_far.is [] ∙ ap (λ all. record { sheets = all; refused = None }) (append-nil sheets)

-- a job of which all commands were run stops where its bytes do
pub stops_as_bytes : (p : Printer) (most : ℕ) (bytes : List ℕ)
    (entries : List Entry) (m : Machine) (sheets : List Sheet) (why : Option Stopped) → Executes p entries m sheets
    → Ends most bytes entries why
    → ((execute p (commands (take most bytes)).entries).sheets ≡ sheets) × (job_end bytes most (Some p) ≡ why)
stops_as_bytes p most bytes entries m sheets why so_far ends =
    let run : execute p (commands (take most bytes)).entries ≡ record { sheets = sheets; refused = None } =
    ap (execute p) ends.are ∙ run_whole p entries m sheets so_far in (
      ap (λ (r : Printed). r.sheets) run,
      ap (λ (r : Printed). first_stop r.refused (list_stop (commands (take most bytes)).end most (length bytes))) run ∙ ends.stop_is,
    )

-- a job of which a command is refused stops there, whatever follows
pub stops_at_refusal : (p : Printer) (most : ℕ) (bytes : List ℕ)
    (entries others : List Entry) (entry : Entry) (m : Machine) (sheets : List Sheet) (fault : EmulatorFault)
    → Executes p entries m sheets → first_refusal (refusals p m entry.command entry.rows) ≡ Some fault
    → (commands (take most bytes)).entries ≡ (entries ++ entry ∷ []) ++ others
    → ((execute p (commands (take most bytes)).entries).sheets ≡ sheets)
    × (job_end bytes most (Some p) ≡ stopped entry.at (stop.Machine fault))
stops_at_refusal p most bytes entries others entry m sheets fault so_far some are =
    let run : execute p (commands (take most bytes)).entries
    ≡ record { sheets = sheets; refused = Some (record { at = entry.at; fault = fault }) } =
    ap (execute p) (are ∙ append_assoc entries (entry ∷ []) others)
    ∙ so_far.is (entry ∷ others)
    ∙ ap (with_sheets sheets) (refused p m entry others fault some)
    ∙ ap (λ all. record { sheets = all; refused = Some (record { at = entry.at; fault = fault }) }) (append-nil sheets) in (
      ap (λ (r : Printed). r.sheets) run,
      ap (λ (r : Printed). first_stop r.refused (list_stop (commands (take most bytes)).end most (length bytes))) run,
    )
