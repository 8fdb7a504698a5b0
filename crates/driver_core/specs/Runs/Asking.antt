-- How a promise speaks of a command line.
use Rattle.std.specs.Prelude.{◌≡◌, ℕ, List, Option, Result, Ok}
use Rattle.job_profile.specs.Named.{Refusal}
use Rattle.job_words.specs.declared.reading.Job.{Job}
use Rattle.job_words.specs.declared.table.Verb.{Verb}
use Rattle.job_words.specs.declared.table.Verb.TheVariants as verb
use Rattle.job_words.specs.Meaning.{job_meaning, profile_named}
use Rattle.printer_definitions.specs.Printer.{Printer}
use Rattle.weave_base.specs.Shelf.{NamedText}
use Rattle.driver_core.specs.Runs.Fitting.{IsProfileOf}

-- the profile of a job is this one, or is refused for this reason, whatever a shelf holds that does not report its
-- texts
abbrev pub ProfileIs : Job → Option (List NamedText) → List ℕ → Result Printer Refusal → Type 0
ProfileIs job told name r = (other : Result Printer Refusal) → IsProfileOf job told name other → other ≡ r

-- The words ask for this command, with this profile or one that is refused for this reason.
pub record AsksFor (words : List (List ℕ))
    (told : Option (List NamedText)) (command : Verb) (job : Job) (r : Result Printer Refusal) : Type 0 where
  pub means : job_meaning words ≡ Ok job
  pub command_is : job.verb ≡ command
  pub profile_is : ProfileIs job told (profile_named words) r

-- the words ask for the listing of a job
pub record AsksForList (words : List (List ℕ)) (job : Job) : Type 0 where
  pub means : job_meaning words ≡ Ok job
  pub command_is : job.verb ≡ verb.List
