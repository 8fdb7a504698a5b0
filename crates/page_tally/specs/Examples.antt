-- Worked lines of jobs.
use Rattle.std.specs.Prelude.{ℕ, true, false, List}
use Rattle.escp2_definitions.specs.Commands.{commands}
use Rattle.finish_definitions.specs.Finished.{page_state}
use Rattle.page_tally.specs.Lines.{cut_lines, lines_from}
use Rattle.page_tally.specs.Tallies.{no_tally, tally_from}
use Rattle.page_tally.specs.declared.lines.Telling.{Telling}

-- a telling of pages and progress
abbrev pub all_told : Telling
all_told = record { pages = true; progress = true }

-- a telling of progress, without pages
abbrev pub progress_alone : Telling
progress_alone = record { pages = false; progress = true }

-- the lines of the whole commands of bytes
abbrev pub lines_told : Telling → List ℕ → List ℕ
lines_told telling bytes = lines_from telling no_tally (commands bytes).entries

-- the line of a page that is open behind the whole commands of bytes
abbrev pub cut_told : Telling → List ℕ → List ℕ
cut_told telling bytes = cut_lines telling (tally_from no_tally (commands bytes).entries) (page_state bytes)
