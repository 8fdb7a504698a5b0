-- Commands that can be done, and what doing them comes to.
use Rattle.std.specs.Prelude.{◌≡◌, ℕ, ◌<◌, ◌^◌, List, Option, Ok, IsOk}
use Rattle.driver_answer.specs.declared.answer.Answer.{Answer}
use Rattle.job_words.specs.declared.reading.Job.{Job}
use Rattle.job_words.specs.declared.table.Verb.{Verb}
use Rattle.job_words.specs.declared.table.Verb.TheVariants as verb
use Rattle.job_words.specs.Meaning.{job_meaning, profile_named}
use Rattle.printer_definitions.specs.Printer.{Printer}
use Rattle.printer_profile.specs.Validity.{check}
use Rattle.weave_base.specs.Shelf.{NamedText}
use Rattle.driver_core.specs.declared.preparing.Prepared.{Prepared}
use Rattle.driver_core.specs.declared.preparing.Prepared.TheVariants as prepared
use Rattle.driver_core.specs.Listing.Outcome.{ListOutcome}
use Rattle.driver_core.specs.Outside.{Meters, Outside}
use Rattle.driver_core.specs.Printing.Setup.{CanBePrinted, setup_of}
use Rattle.driver_core.specs.Runs.Fitting.{IsProfileOf, way_of}
use Rattle.driver_core.specs.Runs.Outcome.{VerbOutcome}
use Rattle.job_words.specs.Jobs.{IsWithinBounds}
use Rattle.page_definitions.specs.Ways.{CanGo}

-- The words ask for this command with a profile that passes its checks.
pub record AsksWithProfile (words : List (List ℕ)) (told : Option (List NamedText)) (command : Verb) (job : Job) (p : Printer) : Type 0 where
  pub means : job_meaning words ≡ Ok job
  pub command_is : job.verb ≡ command
  pub profile_is : IsProfileOf job told (profile_named words) (Ok p)
  pub checked : IsOk (check p)
  pub way : CanGo (way_of job) p

-- this command is what the words ask for
abbrev pub IsPrepared : List (List ℕ) → Option (List NamedText) → Prepared → Type 0
IsPrepared words told (prepared.Print job p) = AsksWithProfile words told verb.Print job p
IsPrepared words told (prepared.Dots job p) = AsksWithProfile words told verb.Dots job p
IsPrepared words told (prepared.List job) = (job_meaning words ≡ Ok job) × (job.verb ≡ verb.List)
IsPrepared words told (prepared.Profile job p) = AsksWithProfile words told verb.Profile job p
IsPrepared words told (prepared.Trial job p) = AsksWithProfile words told verb.Trial job p

abbrev pub job_in : Prepared → Job
job_in (prepared.Print job p) = job
job_in (prepared.Dots job p) = job
job_in (prepared.List job) = job
job_in (prepared.Profile job p) = job
job_in (prepared.Trial job p) = job

-- what a command needs of its job and its profile
abbrev pub IsReady : Prepared → Type 0
IsReady (prepared.Print job p) = CanBePrinted (setup_of job p)
IsReady (prepared.Dots job p) = IsOk (check p) × (job.most < 2 ^ 63)
IsReady (prepared.List job) = job.most < 2 ^ 63
IsReady (prepared.Profile job p) = Unit {0}
IsReady (prepared.Trial job p) = CanBePrinted (setup_of job p) × IsWithinBounds job

-- The outcome of a prepared command.
abbrev pub DoneOutcome : Prepared → Outside → Outside → Meters → Answer → Type 0
DoneOutcome (prepared.Print job p) input out meters a = VerbOutcome verb.Print job p input out meters a
DoneOutcome (prepared.Dots job p) input out meters a = VerbOutcome verb.Dots job p input out meters a
DoneOutcome (prepared.List job) input out meters a = (meters.now ≡ meters.before) × ListOutcome job.most input out a
DoneOutcome (prepared.Profile job p) input out meters a = VerbOutcome verb.Profile job p input out meters a
DoneOutcome (prepared.Trial job p) input out meters a = VerbOutcome verb.Trial job p input out meters a
