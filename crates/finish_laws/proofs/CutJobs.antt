-- What a printer makes of the finished front of a job.
use Rattle.std.proofs.Common.{◌≡◌, ℕ, zero, suc, List, [], ◌∷◌, ◌++◌, length, take, drop, None, refl, sym, ◌∙◌, ap, subst, arith}
use Rattle.std.proofs.Common.{append-nil, append_assoc, length-append}
use Rattle.std.proofs.lemmas.List.{drop_at, take_at}
use Rattle.printer_definitions.specs.Printer.{Printer}
use Rattle.escp2_definitions.specs.declared.command.Command.{Command}
use Rattle.escp2_definitions.specs.declared.command.Command.TheVariants as c
use Rattle.escp2_definitions.specs.Commands.{CommandList, Entry, commands}
use Rattle.escp2_definitions.specs.Machine.{Dot, Machine, Printed, Sheet, after, execute, execute_from, first_refusal, given}
use Rattle.escp2_definitions.specs.Machine.{raster_dots, refusals, start, with_sheets}
use Rattle.page_definitions.specs.Dots.{Screening}
use Rattle.page_definitions.specs.Printing.{AreSheets, Prints, state_after}
use Rattle.pwg_definitions.specs.Stream.{Page}
use Rattle.finish_definitions.specs.Finished.{finished, page_state, whole_commands}
use Rattle.finish_definitions.specs.declared.state.PageState.TheVariants.{Between}
use Rattle.finish_laws.specs.Sheets.{IsFront, PrintsFront, PrintsPages, left_at, next_dots, open_sheets, printed}
use Rattle.finish_laws.proofs.WholeCommands.{Begins, front-read}
use Rattle.finish_laws.proofs.Ends.{added, finished-read}
use Rattle.finish_laws.proofs.PageStates.{Fits, blank, blank-unopened, ending-runs, fits-all, passes}
use Rattle.finish_laws.proofs.Runs.{back-accepted, front-accepted, head-accepted, head-runs, run-append, state-append, tail-accepted}

-- ---- the dots of a sheet that is not ejected

-- no dots are the first of any
none-first : (dots all : List Dot) → dots ≡ [] → IsFront dots all
none-first dots all none = record { more = all; is = ap (λ ds. ds ++ all) (sym none) }

-- the first of more dots are the first of these
first-kept : (dots more all : List Dot) → IsFront (dots ++ more) all → IsFront dots all
first-kept dots more all front = record { more = more ++ front.more; is = front.is ∙ append_assoc dots more front.more }

-- The dots on the sheet are the first of the next one that a run ejects, if the run leaves no dot.
dots-first : (p : Printer) (m : Machine) (later : List Entry) → (execute_from p m later).refused ≡ None
    → (state_after p m later).dots ≡ [] → IsFront m.dots (next_dots (execute_from p m later).sheets)
dots-first p m [] none left = none-first m.dots _ left
dots-first p m (entry ∷ later) none left =
    let accepted : first_refusal (refusals p m entry.command entry.rows) ≡ None = head-accepted p m entry later none in
    let P : Printed → Type 0 = λ run. IsFront m.dots (next_dots run.sheets) in
    subst P (sym (head-runs p m entry later accepted))
    (by_command (λ m none left. dots-first p m later none left) entry.command entry.rows accepted (tail-accepted p m entry later none) left)
  where
    -- what the commands behind this one make of the sheet
    by_command : ((m : Machine) → (execute_from p m later).refused ≡ None → (state_after p m later).dots ≡ []
        → IsFront m.dots (next_dots (execute_from p m later).sheets))
        → (command : Command) (rows : List ℕ) → first_refusal (refusals p m command rows) ≡ None
        → (execute_from p (after p m command rows) later).refused ≡ None → (state_after p (after p m command rows) later).dots ≡ []
        → IsFront m.dots (next_dots (given p m command ++ (execute_from p (after p m command rows) later).sheets))
    by_command again c.Init rows accepted none left =
        none-first m.dots _ (blank m.dots (passes (refusals p m c.Init rows) accepted).0)
    by_command again c.Graphics rows accepted none left = again (after p m c.Graphics rows) none left
    by_command again (c.Unit n) rows accepted none left = again (after p m (c.Unit n) rows) none left
    by_command again (c.MicroWeave n) rows accepted none left = again m none left
    by_command again (c.OneWay n) rows accepted none left = again m none left
    by_command again (c.Length n) rows accepted none left = again (after p m (c.Length n) rows) none left
    by_command again (c.Margins top bottom) rows accepted none left = again (after p m (c.Margins top bottom) rows) none left
    by_command again (c.DownTo n) rows accepted none left = again (after p m (c.DownTo n) rows) none left
    by_command again (c.DownBy n) rows accepted none left = again (after p m (c.DownBy n) rows) none left
    by_command again (c.Across n) rows accepted none left = again (after p m (c.Across n) rows) none left
    by_command again c.Return rows accepted none left = again (after p m c.Return rows) none left
    by_command again c.Eject rows accepted none left = record { more = []; is = sym (append-nil m.dots) }
    by_command again (c.Colour ink) rows accepted none left = again (after p m (c.Colour ink) rows) none left
    by_command again (c.Raster header) rows accepted none left =
        first-kept m.dots (raster_dots m header rows) _ (again (after p m (c.Raster header) rows) none left)

-- ---- a front

-- what the finished front of a job gives
finished-runs : (p : Printer) (front : List ℕ) → (printed p front).refused ≡ None
    → printed p (finished front) ≡ record { sheets = (printed p front).sheets ++ open_sheets p front; refused = None }
finished-runs p front none =
    let place : ℕ = length (whole_commands front) in
    let some : List Entry = (commands front).entries in
    let fits : Fits (page_state front) (left_at p front) = fits-all p start Between some none (refl, refl) in
    ap (λ (l : CommandList). execute p l.entries) (finished-read front)
    ∙ run-append p start some (added front) none
    ∙ ap (with_sheets (printed p front).sheets) (ending-runs p (left_at p front) (page_state front) place fits)

-- The printer takes the finished front of a job that it takes.
pub front-prints : (p : Printer) (front rest : List ℕ) → (printed p (front ++ rest)).refused ≡ None
    → (left_at p (front ++ rest)).dots ≡ [] → PrintsFront p (front ++ rest) front
front-prints p front rest none left =
    let some : List Entry = (commands front).entries in
    let first : Begins some (commands (front ++ rest)).entries = front-read front rest in
    let later : List Entry = first.tail in
    let m : Machine = left_at p front in
    let sheets : List Sheet = (printed p front).sheets in
    let others : List Sheet = (execute_from p m later).sheets in
    let taken : (execute p (some ++ later)).refused ≡ None = sym (ap (λ es. (execute p es).refused) first.is) ∙ none in
    let first_taken : (printed p front).refused ≡ None = front-accepted p start some later taken in
    let all : (printed p (front ++ rest)).sheets ≡ sheets ++ others =
    ap (λ es. (execute p es).sheets) first.is ∙ ap (λ (r : Printed). r.sheets) (run-append p start some later first_taken) in
    let leaves : (state_after p m later).dots ≡ [] =
    sym (ap (λ (m : Machine). m.dots) (ap (state_after p start) first.is ∙ state-append p start some later)) ∙ left in
    let begun : IsFront m.dots (next_dots others) = dots-first p m later (back-accepted p start some later taken) leaves in
    let runs = finished-runs p front first_taken in
    let behind : drop (length sheets) (printed p (front ++ rest)).sheets ≡ others =
    ap (drop (length sheets)) all ∙ drop_at sheets others (length sheets) refl in
    let before : take (length sheets) (printed p (front ++ rest)).sheets ≡ sheets =
    ap (take (length sheets)) all ∙ take_at sheets others (length sheets) refl in
    let P : List Sheet → Type 0 = λ sheets. IsFront m.dots (next_dots sheets) in
    record {
      count = length sheets;
      within = omega (arith, ap length all, length-append sheets others);
      accepted = ap (λ (r : Printed). r.refused) runs;
      sheets = ap (λ (r : Printed). r.sheets) runs ∙ ap (λ list. list ++ open_sheets p front) (sym before);
      begun = subst P (sym behind) begun;
      none_left = blank-unopened p m (page_state front) (fits-all p start Between some first_taken (refl, refl));
    }

-- ---- pages

-- the first sheets are those of the first pages
first-sheets : (p : Printer) (s : Screening) (count : ℕ) (pages : List Page) (sheets : List Sheet) → AreSheets p s pages sheets
    → AreSheets p s (take count pages) (take count sheets)
first-sheets p s zero pages sheets are = tt
first-sheets p s (suc count) [] [] are = tt
first-sheets p s (suc count) [] (sheet ∷ sheets) are = absurd are
first-sheets p s (suc count) (page ∷ pages) [] are = absurd are
first-sheets p s (suc count) (page ∷ pages) (sheet ∷ sheets) are = (are.0, first-sheets p s count pages sheets are.1)

-- Of a job that prints pages, the first sheets have the dots of the first pages.
pub front-pages : (p : Printer) (s : Screening) (pages : List Page) (front rest : List ℕ) → Prints p s pages (front ++ rest)
    → (left_at p (front ++ rest)).dots ≡ [] → PrintsPages p s pages (front ++ rest) front
front-pages p s pages front rest prints left =
    let first : PrintsFront p (front ++ rest) front = front-prints p front rest prints.accepted left in
    record { prints = first; whole = first-sheets p s first.count pages (printed p (front ++ rest)).sheets prints.sheets }
