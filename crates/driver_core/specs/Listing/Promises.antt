-- What a run promises of the command `list`.
use Rattle.std.specs.Prelude.{◌≡◌, ℕ, ◌⊎◌, List, Some, None}
use Rattle.driver_answer.specs.declared.answer.Answer.TheVariants as answer
use Rattle.escp2_definitions.specs.declared.stops.JobStop.{JobStop}
use Rattle.escp2_definitions.specs.JobEnds.{job_end, stopped}
use Rattle.job_lister.specs.Outcome.{ListsAll, ListsPart, ListsTaken, ListsToStop}
use Rattle.job_words.specs.declared.reading.Job.{Job}
use Rattle.driver_core.specs.Outside.{IsCalm, Outside, Outsides}
use Rattle.driver_core.specs.Runs.Outcome.{Tells}
use Rattle.driver_core.specs.Runs.Asking.{AsksForList}

-- The promises of a run for the command `list`, by its words, the outside, the error sink and the status that it
-- returns.
pub record ListPromises (words : List (List ℕ)) (o : Outsides) (err : Outside) (status : ℕ) : Type 0 where
  -- On 0 the whole job was read, and `list` listed its commands.
  pub listed : (job : Job) → AsksForList words job → status ≡ 0 → ListsAll job.most o.input o.out
  -- On 8 the job is refused, the error line says why, and the commands before that are listed.
  pub listed_to_stop : (job : Job) → AsksForList words job → status ≡ 8
      → (offset : ℕ) × (cause : JobStop) × ListsToStop job.most o.input o.out offset cause × Tells err (answer.Job offset cause)
  -- On 4 and 7 all commands of what was read are listed, and these bytes are valid so far; on 5 a proper prefix
  -- of the listing was written.
  pub listed_taken : (job : Job) → AsksForList words job → (status ≡ 4) ⊎ (status ≡ 7) → ListsTaken job.most o.input o.out
  pub listed_part : (job : Job) → AsksForList words job → status ≡ 5
      → ListsPart job.most o.input o.out × Tells err (answer.Write 0)
  -- Where nothing fails, the job itself decides between 0 and 8.
  pub valid_list : (job : Job) (bytes : List ℕ) → AsksForList words job → o.input.before ≡ Some bytes
      → job_end bytes job.most None ≡ None → IsCalm o.input → IsCalm o.out → (status ≡ 0) ⊎ (status ≡ 7)
  pub refused_list : (job : Job) (bytes : List ℕ) (offset : ℕ) (cause : JobStop) → AsksForList words job
      → o.input.before ≡ Some bytes → job_end bytes job.most None ≡ stopped offset cause → IsCalm o.input → IsCalm o.out
      → (status ≡ 8) ⊎ (status ≡ 7)
  -- `list` uses neither a profile nor pages, and so has none of their statuses.
  pub list_statuses : (job : Job) → AsksForList words job
      → (status ≡ 0) ⊎ (status ≡ 4) ⊎ (status ≡ 5) ⊎ (status ≡ 7) ⊎ (status ≡ 8)
