-- The promises of a run for the command `trial`.
use Rattle.std.proofs.Common.{◌≡◌, ℕ, ◌⊎◌, List, Result, Ok, Err, inl, inr, refl, sym, ◌∙◌, ap, subst}
use Rattle.std.specs.Io.KnownBytes.{Keeps}
use Rattle.driver_answer.specs.Answers.{status_of}
use Rattle.driver_answer.specs.declared.answer.Answer.TheVariants as answer
use Rattle.driver_answer.specs.declared.answer.Answer.{Answer}
use Rattle.job_words.specs.declared.reading.Job.{Job}
use Rattle.job_words.specs.declared.table.Verb.TheVariants as verb
use Rattle.printer_definitions.specs.Printer.{Printer}
use Rattle.page_maker.proofs.Spelled.{length-made_pages}
use Rattle.pwg_definitions.specs.declared.faults.HeaderFault.{HeaderFault}
use Rattle.pwg_definitions.specs.declared.faults.InputCause.TheVariants as cause
use Rattle.pwg_definitions.specs.declared.pages.PageForm.{PageForm}
use Rattle.driver_core.specs.Outside.{IsCalm, Outside, Outsides}
use Rattle.driver_core.specs.Runs.Asking.{AsksFor}
use Rattle.driver_core.specs.Runs.Outcome.{Outcome, Told}
use Rattle.driver_core.specs.Trying.Outcome.{RefusesMade, TakesMade, TrialOutcome, job_form}
use Rattle.driver_core.specs.Trying.Promises.{TrialPromises}
use Rattle.driver_core.proofs.Runs.Asked.{HasProfile, at_work, calm_work, has_profile, reads_nothing, told_line}
use Rattle.driver_core.proofs.Runs.Asked.HasProfile.{HasNone, Does}
use Rattle.driver_core.proofs.Runs.Statuses.{is_done, is_input, is_memory, is_read, is_write}

-- ---- what a trial came to, by the status

trial_read : (job : Job) (p : Printer) (out : Outside) (a : Answer) → TrialOutcome job p out a → status_of a ≡ 4 → ⊥
trial_read job p out a does four = subst (TrialOutcome job p out) (is_read a four) does

trial_none : (job : Job) (p : Printer) (out : Outside) (a : Answer) → TrialOutcome job p out a
    → (status_of a ≡ 3) ⊎ (status_of a ≡ 4) ⊎ (status_of a ≡ 7) → Keeps out.before out.now
trial_none job p out a does (inl three) =
    let is = is_input a three in
    let refused : TrialOutcome job p out (answer.Input is.0 is.1 is.2) = subst (TrialOutcome job p out) is.3 does in
    refused.1
trial_none job p out a does (inr (inl four)) = absurd (trial_read job p out a does four)
trial_none job p out a does (inr (inr seven)) = subst (TrialOutcome job p out) (is_memory a seven) does

-- made pages are not both taken and refused
never_both : (job : Job) (p : Printer) (why : HeaderFault) → TakesMade job p → RefusesMade job p why → ⊥
never_both job p why takes refuses =
    let differ : ◌≡◌ {A = Result PageForm HeaderFault} (Ok (job_form job)) (Err why) = sym takes ∙ refuses in cc

trial_valid : (job : Job) (p : Printer) (out : Outside) (a : Answer) → TrialOutcome job p out a → TakesMade job p → IsCalm out
    → (status_of a ≡ 0) ⊎ (status_of a ≡ 7)
trial_valid job p out answer.Done does takes calm = inl refl
trial_valid job p out (answer.Input page line found) does takes calm = absurd (never_both job p does.0.0 takes does.0.1)
trial_valid job p out (answer.Write page) does takes calm = absurd (calm does.2)
trial_valid job p out answer.Memory does takes calm = inr refl
trial_valid job p out other does takes calm = absurd does

trial_refused : (job : Job) (p : Printer) (out : Outside) (a : Answer) (why : HeaderFault) → TrialOutcome job p out a → RefusesMade job p why
    → (status_of a ≡ 3) ⊎ (status_of a ≡ 7)
trial_refused job p out answer.Done why does refuses = absurd (never_both job p why does.0.takes refuses)
trial_refused job p out (answer.Input page line found) why does refuses = inl refl
trial_refused job p out (answer.Write page) why does refuses = absurd (never_both job p why does.1.takes refuses)
trial_refused job p out answer.Memory why does refuses = inr refl
trial_refused job p out other why does refuses = absurd does

-- ---- of a run

tries : (words : List (List ℕ)) (o : Outsides) (a : Answer) (job : Job) (p : Printer) → Outcome words o a
    → AsksFor words o.shelf.told verb.Trial job (Ok p) → HasProfile words verb.Trial job p o a
tries words o a job p outcome asks = has_profile words verb.Trial job p o a (λ e. cc) asks outcome

pub trial_promises : (words : List (List ℕ)) (o : Outsides) (err : Outside) (a : Answer)
    → Outcome words o a → Told err a → TrialPromises words o err (status_of a)
trial_promises words o err a outcome told =
    let unread = λ (job : Job). reads_nothing words verb.Trial job o a (λ e. cc) (λ p does. (does.0, trial_read job p o.out a does.2)) outcome in
    record {
      tried = λ job p asks zero.
          let done = (at_work answer.Done tt (is_done a zero) (tries words o a job p outcome asks)).2 in
          (done.0, done.1, length-made_pages job.seed job.pages (job_form job));
      part_tried = λ job p asks five.
          let is = is_write a five in
          let part = (at_work (answer.Write is.0) tt is.1 (tries words o a job p outcome asks)).2 in
          (part.1, part.3, told_line (answer.Write 0) (is.1 ∙ ap answer.Write part.0) told);
      refused_made = λ job p asks three.
          let is = is_input a three in
          let fault = (at_work (answer.Input is.0 is.1 is.2) tt is.3 (tries words o a job p outcome asks)).2.0 in
          let page = fault.2 in
          let line = fault.3 in
          let found = fault.4 in
          let given = is.3 in
          (fault.0, fault.1, told_line (answer.Input 1 0 (cause.Header fault.0)) (cc) told);
      none_tried = λ job p asks which. elim (tries words o a job p outcome asks) [
        | HasNone why none ↦ none.untouched.1
        | Does does ↦ trial_none job p o.out a does.2 which
      ];
      valid_trial = λ job p asks takes calm calm_out.
          calm_work 0 (tries words o a job p outcome asks) calm (λ does. trial_valid job p o.out a does.2 takes calm_out);
      refused_trial = λ job p why asks refuses calm.
          calm_work 3 (tries words o a job p outcome asks) calm (λ does. trial_refused job p o.out a why does.2 refuses);
      untried = λ job means command_is. (unread job means command_is).0;
      of_shelf = λ job means command_is. (unread job means command_is).1;
    }
