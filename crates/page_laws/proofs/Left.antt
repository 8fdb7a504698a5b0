-- The state that a job leaves the machine in.
use Rattle.std.proofs.Common.{◌≡◌, ℕ, ◌+◌, nat_lt, if◌then◌else◌, List, [], ◌∷◌, ◌++◌, length, Option, None, Some, refl, sym, ◌∙◌, ap, arith}
use Rattle.std.proofs.lemmas.Bool.{lt-ltb}
use Rattle.printer_definitions.specs.Printer.{Printer}
use Rattle.escp2_definitions.specs.declared.command.Command.TheVariants as c
use Rattle.escp2_definitions.specs.declared.stops.EmulatorFault.{EmulatorFault}
use Rattle.escp2_definitions.specs.declared.stops.EmulatorFault.TheVariants.{Backward}
use Rattle.escp2_definitions.specs.Commands.{Entry}
use Rattle.escp2_definitions.specs.Machine.{Dot, Machine, Printed, after, execute_from, first_refusal, given, refusals, with_sheets}
use Rattle.escp2_definitions.specs.Written.{written}
use Rattle.page_definitions.specs.Printing.{state_after}
use Rattle.page_definitions.specs.Strokes.{Spoken, say}
use Rattle.page_laws.proofs.Running.{entries}

-- what a command and those after it give, by why the command is refused
abbrev outcome : Printer → Machine → Entry → List Entry → Option EmulatorFault → Printed
outcome p m entry rest (Some fault) = record { sheets = []; refused = Some (record { at = entry.at; fault = fault }) }
outcome p m entry rest None = with_sheets (given p m entry.command) (execute_from p (after p m entry.command entry.rows) rest)

-- a command at the head of a run that has no refusal is accepted
head-accepted : (p : Printer) (m : Machine) (entry : Entry) (rest : List Entry) → (execute_from p m (entry ∷ rest)).refused ≡ None
    → first_refusal (refusals p m entry.command entry.rows) ≡ None
unfolding execute_from
head-accepted p m entry rest none = grind (arith, outcome)

-- and those after it are accepted too
tail-accepted : (p : Printer) (m : Machine) (entry : Entry) (rest : List Entry) → (execute_from p m (entry ∷ rest)).refused ≡ None
    → (execute_from p (after p m entry.command entry.rows) rest).refused ≡ None
unfolding execute_from
tail-accepted p m entry rest none =
    sym (ap (λ o. (outcome p m entry rest o).refused) (head-accepted p m entry rest none)) ∙ none

-- The last command of a run that has no refusal is accepted in the state after those before it.
last-accepted : (p : Printer) (m : Machine) (before : List Entry) (entry : Entry)
    → (execute_from p m (before ++ entry ∷ [])).refused ≡ None
    → first_refusal (refusals p (state_after p m before) entry.command entry.rows) ≡ None
last-accepted p m [] entry none = head-accepted p m entry [] none
last-accepted p m (first ∷ before) entry none =
    last-accepted p (after p m first.command first.rows) before entry (tail-accepted p m first (before ++ entry ∷ []) none)

-- the entries of a job with one command more
last-entry : (code : List ℕ → List ℕ) (at : ℕ) (job : List Spoken) (s : Spoken)
    → (at' : ℕ) × (entries code at (job ++ s ∷ []) ≡ entries code at job ++ record { at = at'; command = s.command; rows = s.rows } ∷ [])
last-entry code at [] s = (at, refl)
last-entry code at (first ∷ job) s = grind (arith, last-entry code (at + length (written code first.command first.rows)) job s)

-- a reset is refused where there is a dot
no-dot : (dots : List Dot) → (if nat_lt 0 (length dots) then Some Backward else None) ≡ None → dots ≡ []
no-dot [] none = refl
no-dot (d ∷ dots) none = grind (arith, lt-ltb)

-- Where a job is accepted with a reset after it, it leaves no dot on the sheet.
pub leaves-none : (p : Printer) (m : Machine) (code : List ℕ → List ℕ) (job : List Spoken)
    → (execute_from p m (entries code 0 (job ++ say c.Init ∷ []))).refused ≡ None
    → (state_after p m (entries code 0 job)).dots ≡ []
leaves-none p m code job none =
    let last = last-entry code 0 job (say c.Init) in
    no-dot (state_after p m (entries code 0 job)).dots (last-accepted p m (entries code 0 job)
    (record { at = last.0; command = c.Init; rows = [] })
    (sym (ap (λ es. (execute_from p m es).refused) last.1) ∙ none))
