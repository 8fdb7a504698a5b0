-- The outcome of playing a job.
use Rattle.std.specs.Prelude.{ℕ}
use Rattle.driver_answer.specs.declared.answer.Answer.{Answer}
use Rattle.driver_answer.specs.declared.answer.Answer.TheVariants as answer
use Rattle.job_player.specs.Outcome.{PlaysAll, PlaysSome, PlaysTaken, PlaysToStop, StopsInSheet}
use Rattle.printer_definitions.specs.Printer.{Printer}
use Rattle.driver_core.specs.Outside.{HasRisen, Outside}

-- What was played of a job of at most `most` bytes on a printer, by the answer. Where a write fails in the images of a
-- sheet, the sheet's number is in the place of a page's.
abbrev pub PlayOutcome : Printer → ℕ → Outside → Outside → Answer → Type 0
PlayOutcome p most input out answer.Done = PlaysAll p most input out
PlayOutcome p most input out (answer.Job offset cause) = PlaysToStop p most input out offset cause
PlayOutcome p most input out answer.Read = HasRisen input × PlaysTaken p most input out
PlayOutcome p most input out (answer.Write sheet) = HasRisen out × StopsInSheet p most input out sheet
PlayOutcome p most input out answer.Memory = PlaysSome p most input out
PlayOutcome p most input out other = ⊥
