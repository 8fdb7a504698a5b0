-- What a run promises of the command `profile`.
use Rattle.std.specs.Prelude.{◌≡◌, ℕ, ◌⊎◌, List, None, Ok}
use Rattle.std.specs.Io.KnownBytes.{Appends, Keeps}
use Rattle.driver_answer.specs.declared.answer.Answer.TheVariants as answer
use Rattle.job_words.specs.declared.reading.Job.{Job}
use Rattle.job_words.specs.declared.table.Verb.TheVariants as verb
use Rattle.job_words.specs.Meaning.{job_meaning, profile_named}
use Rattle.printer_definitions.specs.Printer.{Printer}
use Rattle.printer_profile.specs.Profiles.{built_in}
use Rattle.printer_profile.specs.Text.{profile_text_of}
use Rattle.weave_base.specs.Parts.{AppendsPart}
use Rattle.driver_core.specs.Outside.{HasFailed, IsCalm, Outside, Outsides}
use Rattle.driver_core.specs.Runs.Outcome.{Tells}
use Rattle.driver_core.specs.Runs.Asking.{AsksFor}

-- The promises of a run for the command `profile`, by its words, the outside, the error sink and the status that it
-- returns.
pub record ProfilePromises (words : List (List ℕ)) (o : Outsides) (err : Outside) (status : ℕ) : Type 0 where
  -- The command `profile` writes the profile's text, and uses nothing of the input.
  pub valid_profile : (job : Job) (p : Printer) → AsksFor words o.shelf.told verb.Profile job (Ok p)
      → (HasFailed o.shelf → ⊥) → IsCalm o.out → (status ≡ 0) ⊎ (status ≡ 7)
  pub shown : (job : Job) (p : Printer) → AsksFor words o.shelf.told verb.Profile job (Ok p) → status ≡ 0
      → Appends o.out.before o.out.now (profile_text_of p)
  pub part_shown : (job : Job) (p : Printer) → AsksFor words o.shelf.told verb.Profile job (Ok p) → status ≡ 5
      → AppendsPart o.out.before o.out.now (profile_text_of p) × Tells err (answer.Write 0)
  pub none_shown : (job : Job) (p : Printer) → AsksFor words o.shelf.told verb.Profile job (Ok p) → (status ≡ 4) ⊎ (status ≡ 7)
      → Keeps o.out.before o.out.now
  pub unread : (job : Job) → job_meaning words ≡ Ok job → job.verb ≡ verb.Profile → Keeps o.input.before o.input.now
  -- 4 comes of the shelf alone, which is asked for what is not built in.
  pub shown_of_shelf : (job : Job) → job_meaning words ≡ Ok job → job.verb ≡ verb.Profile → status ≡ 4
      → HasFailed o.shelf × (built_in (profile_named words) ≡ None)
