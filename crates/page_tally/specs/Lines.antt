-- The lines that are told of a job's pages, on standard error (this project's own).
use Rattle.std.specs.Prelude.{ℕ, ◌+◌, ◌-◌, ◌*◌, ◌/◌, ◌==◌, min, if◌then◌else◌, List, [], ◌∷◌, ◌++◌, codes}
use Rattle.std.specs.Fmt.{decimal}
use Rattle.std.specs.List.{flat_map}
use Rattle.base_definitions.specs.Counting.{count_from}
use Rattle.escp2_definitions.specs.declared.command.Command.{Command}
use Rattle.escp2_definitions.specs.declared.command.Command.TheVariants as c
use Rattle.escp2_definitions.specs.Commands.{Entry}
use Rattle.finish_definitions.specs.declared.state.PageState.{PageState}
use Rattle.finish_definitions.specs.declared.state.PageState.TheVariants.{Between, Begun, Open, Ejected}
use Rattle.page_tally.specs.Tallies.{tally_after}
use Rattle.page_tally.specs.declared.tally.Tally.{Tally}
use Rattle.page_tally.specs.declared.lines.Telling.{Telling}

-- the number of the page in hand, from 1
abbrev pub page_number : Tally → ℕ
page_number t = t.sheets + 1

-- the page in hand and the dots of each ink on its sheet: `page 3: k 120, c 44, m 51, y 0`
abbrev pub page_line : Tally → List ℕ
page_line t =
    codes "page " ++ decimal (page_number t) ++ codes ": k " ++ decimal t.counts.k ++ codes ", c " ++ decimal t.counts.c
    ++ codes ", m " ++ decimal t.counts.m ++ codes ", y " ++ decimal t.counts.y ++ codes "\n"

-- the same of a page that was cut: `cut page 3: ..`
abbrev pub cut_page_line : Tally → List ℕ
cut_page_line t = codes "cut " ++ page_line t

-- how many tenths of the page's length are above the head: none where no length is set
abbrev pub tenths : Tally → ℕ
tenths t = if t.length == 0 then 0 else min 10 (10 * (t.top + t.down) / t.length)

-- the page in hand, and the hundredths of its length that the head has passed: `page 3 at 40`
abbrev pub progress_line : Tally → ℕ → List ℕ
progress_line t tenth = codes "page " ++ decimal (page_number t) ++ codes " at " ++ decimal (10 * tenth) ++ codes "\n"

-- a line for each tenth of the page's length that a command passes
abbrev pub progress_lines : Tally → Command → List ℕ → List ℕ
progress_lines t command rows =
    flat_map (progress_line t) (count_from (tenths t + 1) (tenths (tally_after t command rows) - tenths t))

-- a line for the page that a form feed ejects
abbrev pub page_lines : Tally → Command → List ℕ
page_lines t c.Eject = page_line t
page_lines t other = []

-- the lines of a command, as far as they are asked for
abbrev pub lines_of : Telling → Tally → Command → List ℕ → List ℕ
lines_of telling t command rows =
    (if telling.progress then progress_lines t command rows else []) ++ (if telling.pages then page_lines t command else [])

-- the lines of commands, from a state on
abbrev pub lines_from : Telling → Tally → List Entry → List ℕ
lines_from telling t [] = []
lines_from telling t (entry ∷ entries) =
    lines_of telling t entry.command entry.rows ++ lines_from telling (tally_after t entry.command entry.rows) entries

-- the line of a page that is open where its job ends
abbrev pub cut_lines : Telling → Tally → PageState → List ℕ
cut_lines telling t Open = if telling.pages then cut_page_line t else []
cut_lines telling t Between = []
cut_lines telling t Begun = []
cut_lines telling t Ejected = []
