use Rattle.std.proofs.Common.{◌≡◌, ◌+◌, List, [], false, length}
use Rattle.escp2_definitions.specs.Machine.{Dot}
use Rattle.escp2_reader.specs.Reading.{StandsFor, fed_of, is_failed_of}
use Rattle.job_player.specs.Counting.{IsBetweenPages}
use Rattle.job_player.proofs.PageRuns.{CountsSoFar}
use Rattle.page_definitions.specs.Printing.{GivesSheet}
use Rattle.printer_definitions.specs.Printer.{Printer}
use Rattle.job_player.proofs.counting.JobCounter.execute_page.Given as goal

abbrev pub invariant-commands : goal.invariant-commands
invariant-commands l = record {
  so_far : (p : Printer) (dots : List Dot) (between : IsBetweenPages p l.fn.self) → GivesSheet p l.bytes dots
      → CountsSoFar p between.machine dots l.fn.self l.self l.bytes l.rest;
  stands : StandsFor l.reader [];
  is_open : is_failed_of l.reader ≡ false;
  fed : fed_of l.reader + length l.rest ≡ length l.bytes;
}

abbrev pub decreases-commands : goal.decreases-commands
decreases-commands l = length l.rest
