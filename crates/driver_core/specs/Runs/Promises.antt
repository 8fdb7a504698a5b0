-- What a run promises whatever its command.
use Rattle.std.specs.Prelude.{◌≡◌, ℕ, ◌⊎◌, ◌↔◌, List, None, IsErr, Ok, Err}
use Rattle.std.specs.Io.KnownBytes.{Appends, Keeps}
use Rattle.driver_answer.specs.declared.answer.Answer.{Answer}
use Rattle.driver_answer.specs.declared.answer.Answer.TheVariants as answer
use Rattle.driver_answer.specs.Answers.{line_of, status_of}
use Rattle.job_profile.specs.declared.stops.ProfileCause.{ProfileCause}
use Rattle.job_profile.specs.Named.{Refusal, refused_at}
use Rattle.job_words.specs.declared.reading.Job.{Job}
use Rattle.job_words.specs.declared.table.Verb.{Verb}
use Rattle.job_words.specs.declared.table.Verb.TheVariants as verb
use Rattle.job_words.specs.Meaning.{job_meaning, profile_named}
use Rattle.printer_profile.specs.Profiles.{built_in}
use Rattle.driver_core.specs.Outside.{HasFailed, HasRisen, IsCalm, Outside, Outsides, Untouched}
use Rattle.driver_core.specs.Runs.Fitting.{IsProfileOf}
use Rattle.driver_core.specs.Runs.Outcome.{Outcome, Tells, Told, metered}
use Rattle.driver_core.specs.Runs.Asking.{AsksFor}

-- The status is that of an answer whose cause holds, and the error sink got the line of that answer.
pub record IsAnswered (words : List (List ℕ)) (o : Outsides) (err : Outside) (status : ℕ) : Type 0 where
  pub a : Answer
  pub status_is : status ≡ status_of a
  pub outcome : Outcome words o a
  pub told : Told err a

-- The promises of a run whatever its command, by its words, the outside, the error sink and the status that it returns.
pub record Promises (words : List (List ℕ)) (o : Outsides) (err : Outside) (status : ℕ) : Type 0 where
  pub answered : IsAnswered words o err status
  -- Only printing sets a cap and counts; a refused word or profile counts nothing.
  pub unmetered : (job : Job) → job_meaning words ≡ Ok job → (job.verb ≡ verb.Print → ⊥) → o.meters.now ≡ o.meters.before
  pub untold : status ≡ 1 → o.meters.now ≡ o.meters.before
  pub uncounted : (job : Job) → job_meaning words ≡ Ok job → status ≡ 2 → o.meters.now ≡ (metered job o.meters).before
  -- Each other status has its cause: the words first, then the profile, then the input.
  pub usage : (status ≡ 1) ↔ IsErr (job_meaning words)
  pub profile : status ≡ 2 → (job : Job) × (line : ℕ) × (cause : ProfileCause) × (job_meaning words ≡ Ok job)
      × IsProfileOf job o.shelf.told (profile_named words) (Err (refused_at line cause)) × Tells err (answer.Profile line cause)
  pub refused_profile : (command : Verb) (job : Job) (refusal : Refusal) → (command ≡ verb.List → ⊥)
      → AsksFor words o.shelf.told command job (Err refusal) → (HasFailed o.shelf → ⊥) → (status ≡ 2) ⊎ (status ≡ 7)
  pub read : status ≡ 4 → HasRisen o.input ⊎ (HasFailed o.shelf × (built_in (profile_named words) ≡ None))
  pub write : status ≡ 5 → HasRisen o.out
  -- Only `print` and `trial` answer 3, and only `list` and `dots` answer 8.
  pub of_print : status ≡ 3 → (job : Job) × (job_meaning words ≡ Ok job) × ((job.verb ≡ verb.Print) ⊎ (job.verb ≡ verb.Trial))
  pub of_jobs : status ≡ 8 → (job : Job) × (job_meaning words ≡ Ok job) × ((job.verb ≡ verb.List) ⊎ (job.verb ≡ verb.Dots))
  pub range : (status ≡ 0) ⊎ (status ≡ 1) ⊎ (status ≡ 2) ⊎ (status ≡ 3) ⊎ (status ≡ 4) ⊎ (status ≡ 5) ⊎ (status ≡ 6) ⊎ (status ≡ 7)
      ⊎ (status ≡ 8)
  pub nothing : (status ≡ 1) ⊎ (status ≡ 2) → Untouched o
  -- The error line.
  pub silent : status ≡ 0 → Keeps err.before err.now
  pub line : IsCalm err → (a : Answer) × (status ≡ status_of a) × Appends err.before err.now (line_of a)
