-- What a run promises of the command `dots`.
use Rattle.std.specs.Prelude.{◌≡◌, ℕ, ◌⊎◌, List, Some, None, Ok}
use Rattle.driver_answer.specs.declared.answer.Answer.TheVariants as answer
use Rattle.escp2_definitions.specs.declared.stops.JobStop.{JobStop}
use Rattle.escp2_definitions.specs.JobEnds.{job_end, stopped}
use Rattle.job_player.specs.Outcome.{PlaysAll, PlaysSome, PlaysTaken, PlaysToStop, StopsInSheet}
use Rattle.job_words.specs.declared.reading.Job.{Job}
use Rattle.job_words.specs.declared.table.Verb.TheVariants as verb
use Rattle.printer_definitions.specs.Printer.{Printer}
use Rattle.driver_core.specs.Outside.{HasFailed, IsCalm, Outside, Outsides}
use Rattle.driver_core.specs.Runs.Outcome.{Tells}
use Rattle.driver_core.specs.Runs.Asking.{AsksFor}

-- The promises of a run for the command `dots`, by its words, the outside, the error sink and the status that it
-- returns.
pub record DotsPromises (words : List (List ℕ)) (o : Outsides) (err : Outside) (status : ℕ) : Type 0 where
  -- On 0 the whole job was read, nothing stops it, and `dots` wrote the images of its sheets.
  pub played : (job : Job) (p : Printer) → AsksFor words o.shelf.told verb.Dots job (Ok p) → status ≡ 0
      → PlaysAll p job.most o.input o.out
  -- On 8 the job stops, the error line says where and why, and the images of the sheets before that were written.
  pub played_to_stop : (job : Job) (p : Printer) → AsksFor words o.shelf.told verb.Dots job (Ok p) → status ≡ 8
      → (offset : ℕ) × (cause : JobStop) × PlaysToStop p job.most o.input o.out offset cause
      × Tells err (answer.Job offset cause)
  -- On 4 the images of all sheets that what was read ejects were written, and these bytes are valid so far.
  pub played_taken : (job : Job) (p : Printer) → AsksFor words o.shelf.told verb.Dots job (Ok p) → status ≡ 4
      → PlaysTaken p job.most o.input o.out
  -- On 7 the images of some first sheets of what was read were written; on 5 those before the named sheet, and a proper
  -- prefix of its own.
  pub played_some : (job : Job) (p : Printer) → AsksFor words o.shelf.told verb.Dots job (Ok p) → status ≡ 7
      → PlaysSome p job.most o.input o.out
  pub played_part : (job : Job) (p : Printer) → AsksFor words o.shelf.told verb.Dots job (Ok p) → status ≡ 5
      → (number : ℕ) × StopsInSheet p job.most o.input o.out number × Tells err (answer.Write number)
  -- Where nothing fails, the job and the printer decide between 0 and 8.
  pub valid_dots : (job : Job) (p : Printer) (bytes : List ℕ) → AsksFor words o.shelf.told verb.Dots job (Ok p)
      → o.input.before ≡ Some bytes → job_end bytes job.most (Some p) ≡ None
      → (HasFailed o.shelf → ⊥) → IsCalm o.input → IsCalm o.out → (status ≡ 0) ⊎ (status ≡ 7)
  pub refused_dots : (job : Job) (p : Printer) (bytes : List ℕ) (offset : ℕ) (cause : JobStop)
      → AsksFor words o.shelf.told verb.Dots job (Ok p) → o.input.before ≡ Some bytes
      → job_end bytes job.most (Some p) ≡ stopped offset cause
      → (HasFailed o.shelf → ⊥) → IsCalm o.input → IsCalm o.out → (status ≡ 8) ⊎ (status ≡ 7)
