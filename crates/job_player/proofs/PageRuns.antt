-- The commands of a page's job, and what a counter makes of them.
use Rattle.std.proofs.Common.{◌≡◌, ℕ, ◌+◌, ◌-◌, ◌≤◌, ◌⊎◌, inl, inr, if◌then◌else◌, List, [], ◌∷◌, ◌++◌, length, take, drop, Option}
use Rattle.std.proofs.Common.{Some, None, Ok, refl, sym, ◌∙◌, ap, subst, arith, append_assoc, append-nil, length-append, length-drop, take-append-drop}
use Rattle.std.proofs.lemmas.List.{take_all}
use Rattle.std.proofs.lemmas.Bool.{le-ltb}
use Rattle.dot_emulator.specs.declared.emulator.Emulator.{Emulator}
use Rattle.dot_emulator.specs.declared.sheet.Sheet.{Sheet}
use Rattle.dot_emulator.specs.Runs.{Emulates, IsSheet, Runs}
use Rattle.escp2_definitions.specs.declared.command.Command.{Command}
use Rattle.escp2_definitions.specs.declared.stops.EmulatorFault.{EmulatorFault}
use Rattle.escp2_definitions.specs.declared.stops.JobCause.{JobCause}
use Rattle.escp2_definitions.specs.declared.stops.JobStop.TheVariants as job
use Rattle.escp2_definitions.specs.Commands.{CommandList, Entry, ListEnd, command_at, commands, commands_from}
use Rattle.escp2_definitions.specs.Commands.Heard.{One, Part, Wrong}
use Rattle.escp2_definitions.specs.Commands.ListEnd.{Whole}
use Rattle.escp2_definitions.specs.JobEnds.{Stopped, list_stop, stopped}
use Rattle.escp2_definitions.specs.Machine.{Dot, Machine, Printed, Refused, Sheet as PrintedSheet, after, execute_from, first_refusal}
use Rattle.escp2_definitions.specs.Machine.{given, refusals, with_sheets}
use Rattle.escp2_reader.specs.declared.reader.HeardState.{HeardState}
use Rattle.escp2_reader.specs.declared.reader.HeardState.TheVariants as state
use Rattle.escp2_reader.specs.declared.reader.JobReader.{JobReader}
use Rattle.escp2_reader.specs.Reading.{IsHeard, OnMore}
use Rattle.ink_meter.specs.Accounts.{together}
use Rattle.ink_meter.specs.Counts.{ink_dots}
use Rattle.escp2_reader.specs.Jobs.{AreCommands, Ends, commands_behind}
use Rattle.escp2_reader.proofs.Jobs.{commands_more, commands_none, ends_cut, ends_fault}
use Rattle.job_player.specs.declared.counting.JobCounter.{JobCounter}
use Rattle.job_player.specs.Counting.{CountsPage, IsBetweenPages}
use Rattle.job_player.specs.Totals.{AreDistinct}
use Rattle.job_player.proofs.Running.{ExecutesFrom, executes_more, executes_none, refused}
use Rattle.page_definitions.specs.Exact.{Exactly}
use Rattle.page_definitions.specs.Printing.{GivesSheet, IsOneSheet, state_after}
use Rattle.printer_definitions.specs.Printer.{Printer, column_step, row_step}

-- The page's sheet is not given yet, and nothing was counted; or it was given, and its dots were counted.
abbrev pub HasCounted : List Dot → JobCounter → JobCounter → List PrintedSheet → Type 0
HasCounted dots old now [] = (now.sheets ≡ old.sheets) × (now.dots ≡ old.dots)
HasCounted dots old now (sheet ∷ sheets) =
    (now.sheets ≡ old.sheets + 1) × (AreDistinct dots → now.dots ≡ together old.dots (ink_dots dots))

-- These bytes of a job are left. The machine, from its first state, ran the commands before them.
pub record CountsSoFar (p : Printer) (first : Machine) (dots : List Dot) (old now : JobCounter) (bytes rest : List ℕ) : Type 0 where
  pub done : List ℕ
  pub split : bytes ≡ done ++ rest
  pub entries : List Entry
  pub are : AreCommands done entries
  pub m : Machine
  pub left : state_after p first entries ≡ m
  pub sheets : List PrintedSheet
  pub executes : ExecutesFrom p first entries m sheets
  pub shows : Emulates p now.emulator m
  pub counted : HasCounted dots old now sheets

pub counts_none : (p : Printer) (first : Machine) (dots : List Dot) (old : JobCounter) (bytes : List ℕ) → Emulates p old.emulator first
    → CountsSoFar p first dots old old bytes bytes
counts_none p first dots old bytes shows = record {
  done = [];
  split = refl;
  entries = [];
  are = commands_none;
  m = first;
  left = refl;
  sheets = [];
  executes = executes_none p first;
  shows = shows;
  counted = (refl, refl);
}

-- ---- a command

-- the state after one command more
after-more : (p : Printer) (first : Machine) (entries : List Entry) (entry : Entry)
    → state_after p first (entries ++ entry ∷ []) ≡ after p (state_after p first entries) entry.command entry.rows
after-more p first [] entry = refl
after-more p first (e ∷ entries) entry = after-more p (after p first e.command e.rows) entries entry

-- the command that the reader heard after those so far
abbrev next_entry : (p : Printer) (first : Machine) (dots : List Dot) (old now : JobCounter) (bytes rest : List ℕ)
    → CountsSoFar p first dots old now bytes rest → Command → List ℕ → Entry
next_entry p first dots old now bytes rest so_far command rows = record { at = length so_far.done; command = command; rows = rows }

-- these bytes are a command, whatever follows
abbrev pub IsWhole : List ℕ → Command → List ℕ → Type 0
IsWhole piece command rows = (more : List ℕ) → command_at (piece ++ more) ≡ One command rows (length piece)

cut-in_two : (bytes done rest : List ℕ) (used : ℕ) → bytes ≡ done ++ rest → bytes ≡ (done ++ take used rest) ++ drop used rest
cut-in_two bytes done rest used split =
    split ∙ ap (λ xs. done ++ xs) (sym (take-append-drop used rest)) ∙ sym (append_assoc done (take used rest) (drop used rest))

-- the commands so far, with one more, and others
all-entries : (bytes done rest : List ℕ) (entries : List Entry) → bytes ≡ done ++ rest → AreCommands done entries
    → (commands bytes).entries ≡ entries ++ (commands_behind (length done) rest).entries
all-entries bytes done rest entries split are =
    ap (λ bs. (commands bs).entries) split ∙ ap (λ (j : CommandList). j.entries) (are.are rest)

-- it was run, and what it gave was counted
ran : (p : Printer) (first : Machine) (dots : List Dot) (old now next : JobCounter) (bytes rest : List ℕ) (used : ℕ)
    (command : Command) (rows : List ℕ) (so_far : CountsSoFar p first dots old now bytes rest) → IsWhole (take used rest) command rows
    → first_refusal (refusals p so_far.m command rows) ≡ None → Emulates p next.emulator (after p so_far.m command rows)
    → HasCounted dots old next (so_far.sheets ++ given p so_far.m command)
    → CountsSoFar p first dots old next bytes (drop used rest)
ran p first dots old now next bytes rest used command rows so_far whole accepted shows counted =
    let entry : Entry = next_entry p first dots old now bytes rest so_far command rows in
    record {
      done = so_far.done ++ take used rest;
      split = cut-in_two bytes so_far.done rest used so_far.split;
      entries = so_far.entries ++ entry ∷ [];
      are = commands_more so_far.done (take used rest) so_far.entries command rows so_far.are whole;
      m = after p so_far.m command rows;
      left = after-more p first so_far.entries entry ∙ ap (λ m. after p m command rows) so_far.left;
      sheets = so_far.sheets ++ given p so_far.m command;
      executes = executes_more p first so_far.entries entry so_far.m so_far.sheets so_far.executes accepted;
      shows = shows;
      counted = counted;
    }

-- the bytes that are left by another name
pub left_as : (p : Printer) (first : Machine) (dots : List Dot) (old now : JobCounter) (bytes left rest : List ℕ) → left ≡ rest
    → CountsSoFar p first dots old now bytes rest → CountsSoFar p first dots old now bytes left
left_as p first dots old now bytes left rest same so_far =
    let P : List ℕ → Type 0 = CountsSoFar p first dots old now bytes in subst P (sym same) so_far

-- it gave no sheet
pub counts_on : (p : Printer) (first : Machine) (dots : List Dot) (old now next : JobCounter) (bytes rest : List ℕ) (used : ℕ)
    (command : Command) (rows : List ℕ) (so_far : CountsSoFar p first dots old now bytes rest) → IsWhole (take used rest) command rows
    → Runs p so_far.m command rows now.emulator next.emulator (Ok None) → next.sheets ≡ now.sheets → next.dots ≡ now.dots
    → CountsSoFar p first dots old next bytes (drop used rest)
counts_on p first dots old now next bytes rest used command rows so_far whole runs sheets_are dots_are =
    let H : List PrintedSheet → Type 0 = HasCounted dots old next in
    ran p first dots old now next bytes rest used command rows so_far whole runs.0 runs.2
    (subst H (sym (ap (λ more. so_far.sheets ++ more) runs.1 ∙ append-nil so_far.sheets))
    (still so_far.sheets so_far.counted))
  where
    still : (sheets : List PrintedSheet) → HasCounted dots old now sheets → HasCounted dots old next sheets
    still [] counted = (sheets_are ∙ counted.0, dots_are ∙ counted.1)
    still (sheet ∷ sheets) counted = (sheets_are ∙ counted.0, λ distinct. dots_are ∙ counted.1 distinct)

-- of one sheet the one that is given is the first
only-sheet : (before after : List PrintedSheet) (this one : PrintedSheet) → (before ++ this ∷ []) ++ after ≡ one ∷ []
    → (before ≡ []) × (this ≡ one)
only-sheet [] after this one is = (refl, let same : this ≡ one = cc in same)
only-sheet (sheet ∷ before) after this one is =
    absurd (omega (arith, ap length is, length-append before (this ∷ []), length-append (before ++ this ∷ []) after))

-- The sheet that a command of the job gives is the page's, and no sheet was given before it.
pub record IsPageSheet (dots : List Dot) (before : List PrintedSheet) (this : PrintedSheet) : Type 0 where
  pub first : before ≡ []
  pub exactly : Exactly this.dots dots

pub page_sheet : (p : Printer) (first : Machine) (dots : List Dot) (old now : JobCounter) (bytes rest : List ℕ) (used : ℕ)
    (command : Command) (rows : List ℕ) (this : PrintedSheet) (so_far : CountsSoFar p first dots old now bytes rest)
    → IsWhole (take used rest) command rows → GivesSheet p bytes dots → first.dots ≡ []
    → first_refusal (refusals p so_far.m command rows) ≡ None → given p so_far.m command ≡ this ∷ []
    → IsPageSheet dots so_far.sheets this
page_sheet p first dots old now bytes rest used command rows this so_far whole gives blank accepted gave =
    let entry : Entry = next_entry p first dots old now bytes rest so_far command rows in
    let done : List ℕ = so_far.done ++ take used rest in
    let entries : List Entry = so_far.entries ++ entry ∷ [] in
    let others : List Entry = (commands_behind (length done) (drop used rest)).entries in
    let m : Machine = after p so_far.m command rows in
    let one : IsOneSheet (execute_from p first (commands bytes).entries) dots = gives.gives first blank in
    let are : (commands bytes).entries ≡ entries ++ others =
    all-entries bytes done (drop used rest) entries (cut-in_two bytes so_far.done rest used so_far.split)
    (commands_more so_far.done (take used rest) so_far.entries command rows so_far.are whole) in
    let executes = executes_more p first so_far.entries entry so_far.m so_far.sheets so_far.executes accepted in
    let all : (so_far.sheets ++ this ∷ []) ++ (execute_from p m others).sheets ≡ one.sheet ∷ [] =
    ap (λ more. (so_far.sheets ++ more) ++ (execute_from p m others).sheets) (sym gave)
    ∙ sym (ap (λ (r : Printed). r.sheets) (ap (execute_from p first) are ∙ executes.is others))
    ∙ ap (λ (r : Printed). r.sheets) one.is in
    let only = only-sheet so_far.sheets (execute_from p m others).sheets this one.sheet all in
    let E : PrintedSheet → Type 0 = λ sheet. Exactly sheet.dots dots in
    record { first = only.0; exactly = subst E (sym only.1) one.exactly }

-- it gave the page's sheet
pub counts_sheet : (p : Printer) (first : Machine) (dots : List Dot) (old now next : JobCounter) (bytes rest : List ℕ) (used : ℕ)
    (command : Command) (rows : List ℕ) (ran_on : Emulator) (sheet : Sheet) (so_far : CountsSoFar p first dots old now bytes rest)
    → IsWhole (take used rest) command rows → GivesSheet p bytes dots → first.dots ≡ []
    → Runs p so_far.m command rows now.emulator ran_on (Ok (Some sheet)) → next.emulator ≡ ran_on → next.sheets ≡ now.sheets + 1
    → ((s : PrintedSheet) → IsSheet p s sheet → Exactly s.dots dots → AreDistinct dots → next.dots ≡ together now.dots (ink_dots dots))
    → CountsSoFar p first dots old next bytes (drop used rest)
counts_sheet p first dots old now next bytes rest used command rows ran_on sheet so_far whole gives blank runs same sheets_are dots_are =
    let gave = runs.1 in
    let is : IsPageSheet dots so_far.sheets gave.0 =
    page_sheet p first dots old now bytes rest used command rows gave.0 so_far whole gives blank runs.0 gave.1 in
    let H : List PrintedSheet → Type 0 = HasCounted dots old next in
    let N : List PrintedSheet → Type 0 = HasCounted dots old now in
    let S : Emulator → Type 0 = λ e. Emulates p e (after p so_far.m command rows) in
    let none = subst N is.first so_far.counted in
    let all : so_far.sheets ++ given p so_far.m command ≡ gave.0 ∷ [] =
    ap (λ more. so_far.sheets ++ more) gave.1 ∙ ap (λ before. before ++ gave.0 ∷ []) is.first in
    ran p first dots old now next bytes rest used command rows so_far whole runs.0 (subst S (sym same) runs.2)
    (subst H (sym all) (
      sheets_are ∙ ap (λ n. n + 1) none.0,
      λ distinct. dots_are gave.0 gave.2 is.exactly distinct ∙ ap (λ n. together n (ink_dots dots)) none.1,
    ))

-- before the page's sheet is given as many sheets were counted as before the page
pub room_left : (dots : List Dot) (old now : JobCounter) (before : List PrintedSheet) → HasCounted dots old now before → before ≡ []
    → now.sheets ≡ old.sheets
room_left dots old now before counted none = let H : List PrintedSheet → Type 0 = HasCounted dots old now in (subst H none counted).0

-- the steps of a printer are no less than 1
pub some_steps : (p : Printer) (e : Emulator) (m : Machine) → Emulates p e m → (1 ≤ column_step p) × (1 ≤ row_step p)
some_steps p e m shows =
    let some : ℕ → Type 0 = λ n. 1 ≤ n in
    let row : 1 ≤ e.steps.row = omega (arith, e.steps.row_least) in
    (subst some shows.steps.column e.steps.column_some, subst some shows.steps.row row)

-- as many bytes were fed and are left as there are
pub fed_left : (fed fed' used all : ℕ) (rest left : List ℕ) → left ≡ drop used rest → used ≤ length rest → fed' ≡ fed + used
    → fed + length rest ≡ all → fed' + length left ≡ all
fed_left fed fed' used all rest left same few more is = omega (arith, ap length same, length-drop used rest, few, more, is)

pub none_left : (rest : List ℕ) → length rest ≡ 0 → rest ≡ []
none_left [] none = refl
none_left (b ∷ rest) none = absurd (omega arith)

-- ---- what does not happen

-- whole bytes do not stop
no_stop : (bytes : List ℕ) (entries : List Entry) (stop : Stopped) → (commands bytes).end ≡ Whole
    → Ends (length bytes) bytes entries (Some stop) → ⊥
no_stop bytes entries stop whole ends =
    let end : (commands (take (length bytes) bytes)).end ≡ Whole =
    ap (λ bs. (commands bs).end) (take_all (length bytes) bytes (omega arith)) ∙ whole in
    let none : list_stop Whole (length bytes) (length bytes) ≡ None =
    ap (λ b. if b then stopped (length bytes) job.TooLong else None) (le-ltb (length bytes) (length bytes) (omega arith)) in
    let some : None ≡ Some stop =
    sym none ∙ sym (ap (λ (e : ListEnd). list_stop e (length bytes) (length bytes)) end) ∙ ends.stop_is in
    cc

-- a job that is whole does not end inside a command
pub never_part : (p : Printer) (first : Machine) (dots : List Dot) (old now : JobCounter) (bytes rest : List ℕ)
    → CountsSoFar p first dots old now bytes rest → (commands bytes).end ≡ Whole → 1 ≤ length rest → command_at rest ≡ Part → ⊥
never_part p first dots old now bytes rest so_far whole some part =
    let E : List ℕ → Type 0 = λ bs. Ends (length bytes) bs so_far.entries (stopped (length so_far.done) job.Cut) in
    let long : length so_far.done + length rest ≤ length bytes =
    omega (arith, ap length so_far.split, length-append so_far.done rest) in
    no_stop bytes so_far.entries _ whole (subst E (sym so_far.split)
    (ends_cut so_far.done rest (length bytes) so_far.entries so_far.are long part (λ none. omega (arith, some, ap length none))))

-- nor at bytes that are no command
pub never_wrong : (p : Printer) (first : Machine) (dots : List Dot) (old now : JobCounter) (bytes rest : List ℕ) (used offset : ℕ)
    (cause : JobCause) → CountsSoFar p first dots old now bytes rest → (commands bytes).end ≡ Whole
    → ((more : List ℕ) → command_at (take used rest ++ more) ≡ Wrong offset cause) → ⊥
never_wrong p first dots old now bytes rest used offset cause so_far whole wrong =
    let at : ℕ = length so_far.done + offset in
    let place : at - length so_far.done ≡ offset = omega arith in
    let E : List ℕ → Type 0 = λ bs. Ends (length bytes) bs so_far.entries (stopped at (job.Reader cause)) in
    let split : bytes ≡ so_far.done ++ (take used rest ++ drop used rest) =
    so_far.split ∙ ap (λ xs. so_far.done ++ xs) (sym (take-append-drop used rest)) in
    let long : length so_far.done + length (take used rest) ≤ length bytes =
    omega (
      arith,
      ap length split,
      length-append so_far.done (take used rest ++ drop used rest),
      length-append (take used rest) (drop used rest),
    ) in
    no_stop bytes so_far.entries _ whole (subst E (sym split)
    (ends_fault so_far.done (take used rest) (drop used rest) (length bytes) at cause so_far.entries so_far.are long (omega arith)
    (λ more. wrong more ∙ ap (λ n. Wrong n cause) (sym place))))

-- The reader hears whole commands alone.
pub never_unheard : (p : Printer) (first : Machine) (dots : List Dot) (old now : JobCounter) (bytes rest : List ℕ) (used : ℕ)
    (heard : HeardState) (begin : ℕ) (new : JobReader) → CountsSoFar p first dots old now bytes rest → (commands bytes).end ≡ Whole
    → 1 ≤ length rest → IsHeard heard begin new (take used rest) → OnMore heard (used ≡ length rest)
    → (heard ≡ state.More) ⊎ ((offset : ℕ) × (cause : JobCause) × (heard ≡ state.Fault offset cause)) → ⊥
never_unheard p first dots old now bytes rest used state.More begin new so_far whole some hears all other =
    let P : List ℕ → Type 0 = λ bs. command_at bs ≡ Part in
    never_part p first dots old now bytes rest so_far whole some (subst P (take_all used rest (omega (arith, all))) hears.part)
never_unheard p first dots old now bytes rest used (state.One command) begin new so_far whole some hears all (inl more) = cc
never_unheard p first dots old now bytes rest used (state.One command) begin new so_far whole some hears all (inr fault) =
    let no : state.One command ≡ state.Fault fault.0 fault.1 = fault.2 in cc
never_unheard p first dots old now bytes rest used (state.Fault offset cause) begin new so_far whole some hears all other =
    never_wrong p first dots old now bytes rest used (offset - begin) cause so_far whole hears.wrong

-- and the printer refuses no command
pub never_refused : (p : Printer) (first : Machine) (dots : List Dot) (old now : JobCounter) (bytes rest : List ℕ) (used : ℕ)
    (command : Command) (rows : List ℕ) (fault : EmulatorFault) (so_far : CountsSoFar p first dots old now bytes rest)
    → IsWhole (take used rest) command rows → GivesSheet p bytes dots → first.dots ≡ []
    → first_refusal (refusals p so_far.m command rows) ≡ Some fault → ⊥
never_refused p first dots old now bytes rest used command rows fault so_far whole gives blank some =
    let entry : Entry = next_entry p first dots old now bytes rest so_far command rows in
    let done : List ℕ = so_far.done ++ take used rest in
    let others : List Entry = (commands_behind (length done) (drop used rest)).entries in
    let one : IsOneSheet (execute_from p first (commands bytes).entries) dots = gives.gives first blank in
    let are : (commands bytes).entries ≡ so_far.entries ++ entry ∷ others =
    all-entries bytes done (drop used rest) (so_far.entries ++ entry ∷ [])
    (cut-in_two bytes so_far.done rest used so_far.split)
    (commands_more so_far.done (take used rest) so_far.entries command rows so_far.are whole)
    ∙ append_assoc so_far.entries (entry ∷ []) others in
    let why : Option Refused = Some (record { at = entry.at; fault = fault }) in
    let no : why ≡ None =
    sym (ap (λ (r : Printed). r.refused) (ap (execute_from p first) are ∙ so_far.executes.is (entry ∷ others)
    ∙ ap (with_sheets so_far.sheets) (refused p so_far.m entry others fault some)))
    ∙ ap (λ (r : Printed). r.refused) one.is in
    cc

-- ---- the end

pub counts_page : (p : Printer) (dots : List Dot) (old now : JobCounter) (bytes rest : List ℕ) (between : IsBetweenPages p old)
    → CountsSoFar p between.machine dots old now bytes rest → rest ≡ [] → GivesSheet p bytes dots → CountsPage p dots old now
unfolding commands_from execute_from
counts_page p dots old now bytes rest between so_far none gives =
    let first : Machine = between.machine in
    let split : bytes ≡ so_far.done ++ [] = so_far.split ∙ ap (λ xs. so_far.done ++ xs) none in
    let are : (commands bytes).entries ≡ so_far.entries ++ [] = all-entries bytes so_far.done [] so_far.entries split so_far.are in
    let one : IsOneSheet (execute_from p first (commands bytes).entries) dots = gives.gives first between.blank in
    let all : so_far.sheets ++ [] ≡ one.sheet ∷ [] =
    sym (ap (λ (r : Printed). r.sheets) (ap (execute_from p first) are ∙ so_far.executes.is []))
    ∙ ap (λ (r : Printed). r.sheets) one.is in
    let H : List PrintedSheet → Type 0 = HasCounted dots old now in
    let counted = subst H (sym (append-nil so_far.sheets) ∙ all) so_far.counted in
    let blank : so_far.m.dots ≡ [] =
    ap (λ (m : Machine). m.dots) (sym so_far.left)
    ∙ ap (λ es. (state_after p first es).dots) (sym (are ∙ append-nil so_far.entries)) ∙ gives.leaves first between.blank in
    record {
      sheets = counted.0;
      counts = counted.1;
      between = record { machine = so_far.m; shows = so_far.shows; blank = blank };
    }
