-- Runs of commands none of which is refused.
use Rattle.std.proofs.Common.{◌≡◌, List, [], ◌∷◌, ◌++◌, Option, None, Some, refl, sym, ◌∙◌, ap, arith, append_assoc}
use Rattle.printer_definitions.specs.Printer.{Printer}
use Rattle.escp2_definitions.specs.declared.stops.EmulatorFault.{EmulatorFault}
use Rattle.escp2_definitions.specs.Commands.{Entry}
use Rattle.escp2_definitions.specs.Machine.{Machine, Printed, Sheet, after, execute_from, first_refusal, given, refusals, with_sheets}
use Rattle.page_definitions.specs.Printing.{state_after}

-- ---- one command

-- what a command and those after it give, by why the command is refused
abbrev outcome : Printer → Machine → Entry → List Entry → Option EmulatorFault → Printed
outcome p m entry rest (Some fault) = record { sheets = []; refused = Some (record { at = entry.at; fault = fault }) }
outcome p m entry rest None = with_sheets (given p m entry.command) (execute_from p (after p m entry.command entry.rows) rest)

-- A command at the head of a run that has no refusal is accepted.
pub head-accepted : (p : Printer) (m : Machine) (entry : Entry) (rest : List Entry) → (execute_from p m (entry ∷ rest)).refused ≡ None
    → first_refusal (refusals p m entry.command entry.rows) ≡ None
unfolding execute_from
head-accepted p m entry rest none = grind (arith, outcome)

-- An accepted command gives its sheets, and then the run goes on.
pub head-runs : (p : Printer) (m : Machine) (entry : Entry) (rest : List Entry)
    → first_refusal (refusals p m entry.command entry.rows) ≡ None
    → execute_from p m (entry ∷ rest) ≡ with_sheets (given p m entry.command) (execute_from p (after p m entry.command entry.rows) rest)
unfolding execute_from
head-runs p m entry rest accepted = ap (outcome p m entry rest) accepted

-- Those after it are accepted too.
pub tail-accepted : (p : Printer) (m : Machine) (entry : Entry) (rest : List Entry) → (execute_from p m (entry ∷ rest)).refused ≡ None
    → (execute_from p (after p m entry.command entry.rows) rest).refused ≡ None
tail-accepted p m entry rest none =
    sym (ap (λ (r : Printed). r.refused) (head-runs p m entry rest (head-accepted p m entry rest none))) ∙ none

-- ---- some commands and then others

-- The first commands of a run that has no refusal have none.
pub front-accepted : (p : Printer) (m : Machine) (some others : List Entry) → (execute_from p m (some ++ others)).refused ≡ None
    → (execute_from p m some).refused ≡ None
unfolding execute_from
front-accepted p m [] others none = refl
front-accepted p m (entry ∷ some) others none =
    ap (λ (r : Printed). r.refused) (head-runs p m entry some (head-accepted p m entry (some ++ others) none))
    ∙ front-accepted p (after p m entry.command entry.rows) some others (tail-accepted p m entry (some ++ others) none)

-- After commands none of which is refused the run goes on from their state.
pub run-append : (p : Printer) (m : Machine) (some others : List Entry) → (execute_from p m some).refused ≡ None
    → execute_from p m (some ++ others) ≡ with_sheets (execute_from p m some).sheets (execute_from p (state_after p m some) others)
unfolding execute_from
run-append p m [] others none = refl
run-append p m (entry ∷ some) others none =
    let accepted : first_refusal (refusals p m entry.command entry.rows) ≡ None = head-accepted p m entry some none in
    let next : Machine = after p m entry.command entry.rows in
    let sheets : List Sheet = given p m entry.command in
    let last : Printed = execute_from p (state_after p next some) others in
    head-runs p m entry (some ++ others) accepted
    ∙ ap (with_sheets sheets) (run-append p next some others (tail-accepted p m entry some none))
    ∙ ap (λ all. record { sheets = all; refused = last.refused })
    (sym (append_assoc sheets (execute_from p next some).sheets last.sheets))
    ∙ ap (λ (r : Printed). with_sheets r.sheets last) (sym (head-runs p m entry some accepted))

-- The last commands of a run that has no refusal have none, from that state.
pub back-accepted : (p : Printer) (m : Machine) (some others : List Entry) → (execute_from p m (some ++ others)).refused ≡ None
    → (execute_from p (state_after p m some) others).refused ≡ None
back-accepted p m some others none =
    sym (ap (λ (r : Printed). r.refused) (run-append p m some others (front-accepted p m some others none))) ∙ none

-- The state after some commands and then others.
pub state-append : (p : Printer) (m : Machine) (some others : List Entry)
    → state_after p m (some ++ others) ≡ state_after p (state_after p m some) others
state-append p m [] others = refl
state-append p m (entry ∷ some) others = state-append p (after p m entry.command entry.rows) some others
