-- A counter of sheets between the jobs of pages, and what the job of a page adds to its counts.
use Rattle.std.specs.Prelude.{◌≡◌, ℕ, ◌+◌, List, []}
use Rattle.dot_emulator.specs.Runs.{Emulates}
use Rattle.escp2_definitions.specs.Machine.{Dot, Machine}
use Rattle.ink_meter.specs.Accounts.{together}
use Rattle.ink_meter.specs.Counts.{ink_dots}
use Rattle.job_player.specs.declared.counting.JobCounter.{JobCounter}
use Rattle.job_player.specs.Totals.{AreDistinct}
use Rattle.page_definitions.specs.Printing.{GivesSheet}
use Rattle.printer_definitions.specs.declared.inks.InkCounts.{InkCounts}
use Rattle.printer_definitions.specs.Printer.{Printer}

-- how many sheets were counted
abbrev pub sheets_of : JobCounter → ℕ
sheets_of counter = counter.sheets

-- the dots of each ink on these sheets
abbrev pub counts_of : JobCounter → InkCounts
counts_of counter = counter.dots

-- Its printer has no dot on the sheet, so that the job of a page can follow.
pub record IsBetweenPages (p : Printer) (counter : JobCounter) : Type 0 where
  pub machine : Machine
  pub shows : Emulates p counter.emulator machine
  pub blank : machine.dots ≡ []

-- The bytes are the job of a page, for the printer of the counter.
pub record TakesPage (counter : JobCounter) (bytes : List ℕ) : Type 0 where
  pub printer : Printer
  pub dots : List Dot
  pub between : IsBetweenPages printer counter
  pub gives : GivesSheet printer bytes dots

-- One sheet more was counted, which has these dots, and the job of another page can follow.
pub record CountsPage (p : Printer) (dots : List Dot) (old new : JobCounter) : Type 0 where
  pub sheets : sheets_of new ≡ sheets_of old + 1
  pub counts : AreDistinct dots → counts_of new ≡ together (counts_of old) (ink_dots dots)
  pub between : IsBetweenPages p new
