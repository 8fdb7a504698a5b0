-- The promises of a run for the command `list`.
use Rattle.std.proofs.Common.{◌≡◌, ℕ, ◌⊎◌, List, Option, None, Some, Result, Ok, inl, inr, refl, ◌∙◌, ap, subst}
use Rattle.driver_answer.specs.Answers.{status_of}
use Rattle.driver_answer.specs.declared.answer.Answer.TheVariants as answer
use Rattle.driver_answer.specs.declared.answer.Answer.{Answer}
use Rattle.escp2_definitions.specs.declared.stops.JobStop.{JobStop}
use Rattle.escp2_definitions.specs.JobEnds.{job_end, stopped}
use Rattle.escp2_reader.specs.Jobs.{Ends, MeetsStop}
use Rattle.job_words.specs.declared.reading.Job.{Job}
use Rattle.job_words.specs.declared.table.Verb.{Verb}
use Rattle.job_words.specs.declared.usage.UsageFault.{UsageFault}
use Rattle.job_words.specs.Meaning.{profile_named}
use Rattle.driver_core.specs.Outside.{IsCalm, Outside, Outsides}
use Rattle.driver_core.specs.Listing.Outcome.{ListOutcome}
use Rattle.driver_core.specs.Listing.Promises.{ListPromises}
use Rattle.driver_core.specs.Runs.Asking.{AsksForList}
use Rattle.driver_core.specs.Runs.Outcome.{LineOutcome, Outcome, Told, VerbOutcome, metered}
use Rattle.driver_core.proofs.Runs.Asked.{told_line}
use Rattle.driver_core.proofs.Runs.Statuses.{is_done, is_job, is_memory, is_read, is_write}
use Rattle.driver_core.proofs.Runs.WholeJobs.{told_whole}

module _ (most : ℕ) (input out : Outside) where
  list_valid : (a : Answer) (bytes : List ℕ) → ListOutcome most input out a → input.before ≡ Some bytes
      → job_end bytes most None ≡ None → IsCalm input → IsCalm out → (status_of a ≡ 0) ⊎ (status_of a ≡ 7)
  list_valid answer.Done bytes does told whole calm_in calm_out = inl refl
  list_valid (answer.Job offset cause) bytes does told whole calm_in calm_out =
      let S : Option (List ℕ) → Type 0 = λ b. MeetsStop most b does.entries offset cause in
      let stop = (subst S told does.meets).stop_is in absurd (cc)
  list_valid answer.Read bytes does told whole calm_in calm_out = absurd (calm_in does.0)
  list_valid (answer.Write page) bytes does told whole calm_in calm_out = absurd (calm_out does.1)
  list_valid answer.Memory bytes does told whole calm_in calm_out = inr refl
  list_valid other bytes does told whole calm_in calm_out = absurd does

  list_refused : (a : Answer) (bytes : List ℕ) (offset : ℕ) (cause : JobStop) → ListOutcome most input out a → input.before ≡ Some bytes
      → job_end bytes most None ≡ stopped offset cause → IsCalm input → IsCalm out → (status_of a ≡ 8) ⊎ (status_of a ≡ 7)
  list_refused answer.Done bytes offset cause does told stops calm_in calm_out =
      let all = told_whole input.before bytes does.takes.bytes input.now told does.takes.taken does.takes.end in
      let E : List ℕ → Type 0 = λ bs. Ends most bs does.entries None in
      let whole = (subst E all does.takes.ends).stop_is in absurd (cc)
  list_refused (answer.Job offset' cause') bytes offset cause does told stops calm_in calm_out = inl refl
  list_refused answer.Read bytes offset cause does told stops calm_in calm_out = absurd (calm_in does.0)
  list_refused (answer.Write page) bytes offset cause does told stops calm_in calm_out = absurd (calm_out does.1)
  list_refused answer.Memory bytes offset cause does told stops calm_in calm_out = inr refl
  list_refused other bytes offset cause does told stops calm_in calm_out = absurd does

  list_status : (a : Answer) → ListOutcome most input out a
      → (status_of a ≡ 0) ⊎ (status_of a ≡ 4) ⊎ (status_of a ≡ 5) ⊎ (status_of a ≡ 7) ⊎ (status_of a ≡ 8)
  list_status answer.Done does = inl refl
  list_status answer.Read does = inr (inl refl)
  list_status (answer.Write page) does = inr (inr (inl refl))
  list_status answer.Memory does = inr (inr (inr (inl refl)))
  list_status (answer.Job offset cause) does = inr (inr (inr (inr refl)))
  list_status other does = absurd does

-- a command line that asks for a listing lists
lists : (words : List (List ℕ)) (o : Outsides) (a : Answer) (job : Job) → Outcome words o a → AsksForList words job
    → ListOutcome job.most o.input o.out a
lists words o a job outcome asks =
    let L : Result Job UsageFault → Type 0 = λ r. LineOutcome r (profile_named words) o a in
    by_case (subst L asks.means outcome)
  where
    by_case : LineOutcome (Ok job) (profile_named words) o a → ListOutcome job.most o.input o.out a
    by_case (inl does) = does.lists
    by_case (inr (inl none)) = absurd (none.needed asks.command_is)
    by_case (inr (inr has)) = let V : Verb → Type 0 = λ v. VerbOutcome v job has.p o.input o.out (metered job o.meters) a in
        absurd (subst V asks.command_is has.outcome)

pub list_promises : (words : List (List ℕ)) (o : Outsides) (err : Outside) (a : Answer)
    → Outcome words o a → Told err a → ListPromises words o err (status_of a)
list_promises words o err a outcome told = record {
  listed = λ job asks zero. subst (ListOutcome job.most o.input o.out) (is_done a zero) (lists words o a job outcome asks);
  listed_to_stop = λ job asks eight.
      let is = is_job a eight in
      let stop = subst (ListOutcome job.most o.input o.out) is.2 (lists words o a job outcome asks) in
      (is.0, is.1, stop, told_line (answer.Job is.0 is.1) is.2 told);
  listed_taken = λ job asks which. elim which [
    | inl four ↦ (subst (ListOutcome job.most o.input o.out) (is_read a four) (lists words o a job outcome asks)).1
    | inr seven ↦ subst (ListOutcome job.most o.input o.out) (is_memory a seven) (lists words o a job outcome asks)
  ];
  listed_part = λ job asks five.
      let is = is_write a five in
      let part = subst (ListOutcome job.most o.input o.out) is.1 (lists words o a job outcome asks) in
      (part.2, told_line (answer.Write 0) (is.1 ∙ ap answer.Write part.0) told);
  valid_list = λ job bytes asks. list_valid job.most o.input o.out a bytes (lists words o a job outcome asks);
  refused_list = λ job bytes offset cause asks. list_refused job.most o.input o.out a bytes offset cause (lists words o a job outcome asks);
  list_statuses = λ job asks. list_status job.most o.input o.out a (lists words o a job outcome asks);
}
