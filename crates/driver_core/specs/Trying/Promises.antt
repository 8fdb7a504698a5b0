-- What a run promises of the command `trial`.
use Rattle.std.specs.Prelude.{◌≡◌, ℕ, ◌⊎◌, List, None, Ok, length}
use Rattle.std.specs.Io.KnownBytes.{Appends, Keeps}
use Rattle.driver_answer.specs.declared.answer.Answer.TheVariants as answer
use Rattle.driver_core.specs.Outside.{HasFailed, IsCalm, Outside, Outsides}
use Rattle.driver_core.specs.Runs.Asking.{AsksFor}
use Rattle.driver_core.specs.Runs.Outcome.{Tells}
use Rattle.driver_core.specs.Trying.Outcome.{PrintsMade, RefusesMade, TakesMade, job_pages, job_summary}
use Rattle.job_words.specs.declared.reading.Job.{Job}
use Rattle.job_words.specs.declared.table.Verb.TheVariants as verb
use Rattle.job_words.specs.Meaning.{job_meaning, profile_named}
use Rattle.printer_definitions.specs.Printer.{Printer}
use Rattle.printer_profile.specs.Profiles.{built_in}
use Rattle.pwg_definitions.specs.declared.faults.HeaderFault.{HeaderFault}
use Rattle.pwg_definitions.specs.declared.faults.InputCause.TheVariants as cause
use Rattle.weave_base.specs.Parts.{AppendsPart}

-- The promises of a run for the command `trial`, by its words, the outside, the error sink and the status that it
-- returns.
pub record TrialPromises (words : List (List ℕ)) (o : Outsides) (err : Outside) (status : ℕ) : Type 0 where
  -- On 0 the made pages are printed by their bytes, and the summary of these pages was written. They are as many as the
  -- words ask for.
  pub tried : (job : Job) (p : Printer) → AsksFor words o.shelf.told verb.Trial job (Ok p) → status ≡ 0
      → PrintsMade job p × Appends o.out.before o.out.now (job_summary job p) × (length (job_pages job) ≡ job.pages)
  -- On 5 the pages are printed by their bytes too, and a proper prefix of the summary was written.
  pub part_tried : (job : Job) (p : Printer) → AsksFor words o.shelf.told verb.Trial job (Ok p) → status ≡ 5
      → PrintsMade job p × AppendsPart o.out.before o.out.now (job_summary job p) × Tells err (answer.Write 0)
  -- On 3 the printer refuses the header of the made pages, and the error line says why: page 1, line 0. Then, and on 4
  -- and 7, nothing was written.
  pub refused_made : (job : Job) (p : Printer) → AsksFor words o.shelf.told verb.Trial job (Ok p) → status ≡ 3
      → (why : HeaderFault) × RefusesMade job p why × Tells err (answer.Input 1 0 (cause.Header why))
  pub none_tried : (job : Job) (p : Printer) → AsksFor words o.shelf.told verb.Trial job (Ok p)
      → (status ≡ 3) ⊎ (status ≡ 4) ⊎ (status ≡ 7) → Keeps o.out.before o.out.now
  -- Where nothing fails, the check of the made header decides between 0 and 3.
  pub valid_trial : (job : Job) (p : Printer) → AsksFor words o.shelf.told verb.Trial job (Ok p) → TakesMade job p
      → (HasFailed o.shelf → ⊥) → IsCalm o.out → (status ≡ 0) ⊎ (status ≡ 7)
  pub refused_trial : (job : Job) (p : Printer) (why : HeaderFault)
      → AsksFor words o.shelf.told verb.Trial job (Ok p) → RefusesMade job p why
      → (HasFailed o.shelf → ⊥) → (status ≡ 3) ⊎ (status ≡ 7)
  -- A trial uses nothing of the input; 4 comes of the shelf alone, which is asked for what is not built in.
  pub untried : (job : Job) → job_meaning words ≡ Ok job → job.verb ≡ verb.Trial → Keeps o.input.before o.input.now
  pub of_shelf : (job : Job) → job_meaning words ≡ Ok job → job.verb ≡ verb.Trial → status ≡ 4
      → HasFailed o.shelf × (built_in (profile_named words) ≡ None)
