-- The tally follows the machine, and the lines of pages follow the sheets.
use Rattle.std.proofs.Common.{◌≡◌, ℕ, ◌+◌, List, [], ◌∷◌, ◌++◌, length, codes, Option, None, Some, refl, sym, ◌∙◌, ap, subst, arith, append-nil}
use Rattle.printer_definitions.specs.Printer.{Printer}
use Rattle.escp2_definitions.specs.declared.command.Command.{Command}
use Rattle.escp2_definitions.specs.declared.command.Command.TheVariants as c
use Rattle.escp2_definitions.specs.declared.stops.EmulatorFault.{EmulatorFault}
use Rattle.escp2_definitions.specs.Commands.{Entry}
use Rattle.escp2_definitions.specs.Machine.{Machine, Printed, Sheet, after, execute, execute_from, first_refusal, from_top, given, refusals, start, with_sheets}
use Rattle.finish_definitions.specs.Finished.{page_from}
use Rattle.finish_definitions.specs.declared.state.PageState.TheVariants.{Between, Open}
use Rattle.job_lister.specs.Listing.{dot_count}
use Rattle.page_definitions.specs.Printing.{state_after}
use Rattle.printer_definitions.specs.declared.inks.InkCounts.{InkCounts}
use Rattle.page_tally.specs.declared.tally.Tally.{Tally}
use Rattle.page_tally.specs.Lines.{cut_lines, lines_from, page_line, page_lines}
use Rattle.page_tally.specs.Sheets.{cut_sheet_lines, dot_counts, pages_alone, sheet_lines}
use Rattle.page_tally.specs.Tallies.{counts_after, no_tally, number_up_to, tally_after, tally_from}
use Rattle.page_tally.proofs.Counting.{number-stops, raster-counts}

-- ---- one command of a run that has no refusal

-- what a command and those after it give, by why the command is refused
abbrev outcome : Printer → Machine → Entry → List Entry → Option EmulatorFault → Printed
outcome p m entry rest (Some fault) = record { sheets = []; refused = Some (record { at = entry.at; fault = fault }) }
outcome p m entry rest None = with_sheets (given p m entry.command) (execute_from p (after p m entry.command entry.rows) rest)

-- the command at its head is accepted
head-accepted : (p : Printer) (m : Machine) (entry : Entry) (rest : List Entry) → (execute_from p m (entry ∷ rest)).refused ≡ None
    → first_refusal (refusals p m entry.command entry.rows) ≡ None
unfolding execute_from
head-accepted p m entry rest none = grind (arith, outcome)

-- the command gives its sheets, and then the run goes on
head-runs : (p : Printer) (m : Machine) (entry : Entry) (rest : List Entry) → (execute_from p m (entry ∷ rest)).refused ≡ None
    → execute_from p m (entry ∷ rest) ≡ with_sheets (given p m entry.command) (execute_from p (after p m entry.command entry.rows) rest)
unfolding execute_from
head-runs p m entry rest none = ap (outcome p m entry rest) (head-accepted p m entry rest none)

-- the commands after it are accepted too
tail-accepted : (p : Printer) (m : Machine) (entry : Entry) (rest : List Entry) → (execute_from p m (entry ∷ rest)).refused ≡ None
    → (execute_from p (after p m entry.command entry.rows) rest).refused ≡ None
tail-accepted p m entry rest none = sym (ap (λ (r : Printed). r.refused) (head-runs p m entry rest none)) ∙ none

-- ---- the tally and the machine

-- The tally has the machine's colour, the counts of its dots, and the number of the sheets before.
pub record Follows (t : Tally) (m : Machine) (before : ℕ) : Type 0 where
  pub colour : t.colour ≡ m.colour
  pub counts : t.counts ≡ dot_counts m.dots
  pub sheets : t.sheets ≡ number_up_to before

-- the number of sheets after a command
abbrev pub next : ℕ → Command → ℕ
next before c.Eject = before + 1
next before other = before

-- at the start of a job
begins : Follows no_tally start 0
begins = record { colour = refl; counts = refl; sheets = refl }

-- the counts after a raster
fires : (t : Tally) (m : Machine) (before dots : ℕ) → Follows t m before
    → counts_after t.counts t.colour dots ≡ counts_after (dot_counts m.dots) m.colour dots
fires t m before dots follows =
    ap (λ counts. counts_after counts t.colour dots) follows.counts
    ∙ ap (λ ink. counts_after (dot_counts m.dots) ink dots) follows.colour

-- each command keeps that
goes-on : (p : Printer) (t : Tally) (m : Machine) (before : ℕ) (command : Command) (rows : List ℕ) → Follows t m before
    → Follows (tally_after t command rows) (after p m command rows) (next before command)
goes-on p t m before c.Init rows follows = record { colour = refl; counts = refl; sheets = follows.sheets }
goes-on p t m before c.Eject rows follows = record {
  colour = follows.colour;
  counts = refl;
  sheets = ap (λ n. number_up_to (n + 1)) follows.sheets ∙ number-stops before;
}
goes-on p t m before (c.Colour ink) rows follows = record { colour = refl; counts = follows.counts; sheets = follows.sheets }
goes-on p t m before (c.Raster header) rows follows = record {
  colour = follows.colour;
  counts = fires t m before (dot_count header rows) follows ∙ raster-counts header m.colour m.across (from_top m) rows m.dots;
  sheets = follows.sheets;
}
goes-on p t m before other rows follows = record { colour = follows.colour; counts = follows.counts; sheets = follows.sheets }

-- ---- lines

-- the line of the page in hand
line-follows : (t : Tally) (m : Machine) (before : ℕ) → Follows t m before
    → page_line t ≡ page_line (record no_tally { sheets = number_up_to before; counts = dot_counts m.dots })
line-follows t m before follows =
    ap (λ (counts : InkCounts). page_line (record no_tally { sheets = t.sheets; counts = counts })) follows.counts
    ∙ ap (λ n. page_line (record no_tally { sheets = n; counts = dot_counts m.dots })) follows.sheets

-- the lines of a command are those of the sheets that it gives
command-lines : (p : Printer) (t : Tally) (m : Machine) (before : ℕ) (command : Command) (sheets : List Sheet) → Follows t m before
    → page_lines t command ++ sheet_lines (next before command) sheets ≡ sheet_lines before (given p m command ++ sheets)
command-lines p t m before c.Eject sheets follows =
    ap (λ line. line ++ sheet_lines (before + 1) sheets) (line-follows t m before follows)
command-lines p t m before other sheets follows = refl

lines-follow : (p : Printer) (t : Tally) (m : Machine) (before : ℕ) (entries : List Entry) → Follows t m before
    → (execute_from p m entries).refused ≡ None
    → lines_from pages_alone t entries ≡ sheet_lines before (execute_from p m entries).sheets
unfolding execute_from
lines-follow p t m before [] follows none = refl
lines-follow p t m before (entry ∷ entries) follows none =
    let later : Machine = after p m entry.command entry.rows in
    let rest : List Sheet = (execute_from p later entries).sheets in
    ap (λ lines. page_lines t entry.command ++ lines)
    (lines-follow p (tally_after t entry.command entry.rows) later (next before entry.command) entries
    (goes-on p t m before entry.command entry.rows follows) (tail-accepted p m entry entries none))
    ∙ command-lines p t m before entry.command rest follows
    ∙ sym (ap (λ (r : Printed). sheet_lines before r.sheets) (head-runs p m entry entries none))

-- The lines of pages are those of the sheets.
pub lines-of-sheets : (p : Printer) (entries : List Entry) → (execute p entries).refused ≡ None
    → lines_from pages_alone no_tally entries ≡ sheet_lines 0 (execute p entries).sheets
lines-of-sheets p entries none = lines-follow p no_tally start 0 entries begins none

-- ---- behind commands

-- the number of sheets after a command, and of those that follow
command-sheets : (p : Printer) (m : Machine) (before : ℕ) (command : Command) (sheets : List Sheet)
    → next before command + length sheets ≡ before + length (given p m command ++ sheets)
command-sheets p m before c.Eject sheets = omega arith
command-sheets p m before other sheets = refl

all-follow : (p : Printer) (t : Tally) (m : Machine) (before : ℕ) (entries : List Entry) → Follows t m before
    → (execute_from p m entries).refused ≡ None
    → Follows (tally_from t entries) (state_after p m entries) (before + length (execute_from p m entries).sheets)
unfolding execute_from
all-follow p t m before [] follows none =
    let P : ℕ → Type 0 = λ n. Follows t m n in
    let same : before ≡ before + 0 = omega arith in
    subst P same follows
all-follow p t m before (entry ∷ entries) follows none =
    let later : Machine = after p m entry.command entry.rows in
    let rest : List Sheet = (execute_from p later entries).sheets in
    let P : ℕ → Type 0 = λ n. Follows (tally_from t (entry ∷ entries)) (state_after p m (entry ∷ entries)) n in
    subst P (command-sheets p m before entry.command rest
    ∙ sym (ap (λ (r : Printed). before + length r.sheets) (head-runs p m entry entries none)))
    (all-follow p (tally_after t entry.command entry.rows) later (next before entry.command) entries
    (goes-on p t m before entry.command entry.rows follows) (tail-accepted p m entry entries none))

-- The tally follows the machine behind all commands of a job.
pub job-follows : (p : Printer) (entries : List Entry) → (execute p entries).refused ≡ None
    → Follows (tally_from no_tally entries) (state_after p start entries) (length (execute p entries).sheets)
job-follows p entries none =
    let P : ℕ → Type 0 = λ n. Follows (tally_from no_tally entries) (state_after p start entries) n in
    let same : 0 + length (execute p entries).sheets ≡ length (execute p entries).sheets = omega arith in
    subst P same (all-follow p no_tally start 0 entries begins none)

-- The line of a page that is cut.
pub cut-line : (p : Printer) (entries : List Entry) → (execute p entries).refused ≡ None
    → cut_lines pages_alone (tally_from no_tally entries) Open
    ≡ cut_sheet_lines (length (execute p entries).sheets) p (state_after p start entries)
cut-line p entries none =
    let t : Tally = tally_from no_tally entries in
    let m : Machine = state_after p start entries in
    let before : ℕ = length (execute p entries).sheets in
    ap (λ line. codes "cut " ++ line) (line-follows t m before (job-follows p entries none) ∙ sym (append-nil _))

-- The state of the tally is that of the page.
state-follows : (t : Tally) (entries : List Entry) → (tally_from t entries).state ≡ page_from t.state entries
state-follows t [] = refl
state-follows t (entry ∷ entries) = state-follows (tally_after t entry.command entry.rows) entries

pub job-state : (entries : List Entry) → (tally_from no_tally entries).state ≡ page_from Between entries
job-state entries = state-follows no_tally entries
