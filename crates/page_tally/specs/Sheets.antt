-- The lines of a job's pages by what its commands put on the sheets of a printer (this project's own).
use Rattle.std.specs.Prelude.{ℕ, ◌+◌, true, false, List, [], ◌∷◌, ◌++◌, codes, count_by}
use Rattle.printer_definitions.specs.declared.inks.Ink.{Ink}
use Rattle.printer_definitions.specs.declared.inks.Ink.TheVariants.{Black, Cyan, Magenta, Yellow}
use Rattle.printer_definitions.specs.Inks.{same_ink}
use Rattle.printer_definitions.specs.Printer.{Printer}
use Rattle.escp2_definitions.specs.declared.command.Command.TheVariants as c
use Rattle.escp2_definitions.specs.Machine.{Dot, Machine, Sheet, given}
use Rattle.page_tally.specs.Tallies.{count_up_to, no_tally, number_up_to}
use Rattle.page_tally.specs.Lines.{page_line}
use Rattle.printer_definitions.specs.declared.inks.InkCounts.{InkCounts}
use Rattle.page_tally.specs.declared.lines.Telling.{Telling}

-- a telling of pages, without progress
abbrev pub pages_alone : Telling
pages_alone = record { pages = true; progress = false }

-- the dots of an ink, as far as they are counted
abbrev pub ink_count : Ink → List Dot → ℕ
ink_count ink dots = count_up_to (count_by (λ (d : Dot). same_ink ink d.ink) dots)

-- the dots of each ink
abbrev pub dot_counts : List Dot → InkCounts
dot_counts dots = record {
  k = ink_count Black dots;
  c = ink_count Cyan dots;
  m = ink_count Magenta dots;
  y = ink_count Yellow dots;
}

-- the line of a sheet behind others: its number, from 1, and the dots of each ink
abbrev pub sheet_line : ℕ → Sheet → List ℕ
sheet_line before sheet = page_line (record no_tally { sheets = number_up_to before; counts = dot_counts sheet.dots })

-- The lines of sheets in their order, behind others.
abbrev pub sheet_lines : ℕ → List Sheet → List ℕ
sheet_lines before [] = []
sheet_lines before (sheet ∷ sheets) = sheet_line before sheet ++ sheet_lines (before + 1) sheets

-- The line of a page that is cut. A form feed would eject its sheet.
abbrev pub cut_sheet_lines : ℕ → Printer → Machine → List ℕ
cut_sheet_lines before p m = codes "cut " ++ sheet_lines before (given p m c.Eject)
