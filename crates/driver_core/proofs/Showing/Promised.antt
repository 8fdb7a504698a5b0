-- The promises of a run for the command `profile`.
use Rattle.std.proofs.Common.{◌≡◌, ℕ, ◌⊎◌, List, Ok, inl, inr, refl, ◌∙◌, ap, subst}
use Rattle.driver_answer.specs.Answers.{status_of}
use Rattle.driver_answer.specs.declared.answer.Answer.TheVariants as answer
use Rattle.driver_answer.specs.declared.answer.Answer.{Answer}
use Rattle.job_words.specs.declared.reading.Job.{Job}
use Rattle.job_words.specs.declared.table.Verb.TheVariants as verb
use Rattle.printer_definitions.specs.Printer.{Printer}
use Rattle.driver_core.specs.Outside.{IsCalm, Outside, Outsides}
use Rattle.driver_core.specs.Runs.Asking.{AsksFor}
use Rattle.driver_core.specs.Runs.Outcome.{Outcome, Told}
use Rattle.driver_core.specs.Showing.Outcome.{ShowOutcome}
use Rattle.driver_core.specs.Showing.Promises.{ProfilePromises}
use Rattle.driver_core.proofs.Runs.Asked.{HasProfile, at_work, calm_work, has_profile, reads_nothing, told_line}
use Rattle.driver_core.proofs.Runs.Asked.HasProfile.{HasNone, Does}
use Rattle.driver_core.proofs.Runs.Statuses.{is_done, is_memory, is_read, is_write}

show_read : (p : Printer) (out : Outside) (a : Answer) → ShowOutcome p out a → status_of a ≡ 4 → ⊥
show_read p out a does four = subst (ShowOutcome p out) (is_read a four) does

show_valid : (p : Printer) (out : Outside) (a : Answer) → ShowOutcome p out a → IsCalm out → (status_of a ≡ 0) ⊎ (status_of a ≡ 7)
show_valid p out answer.Done does calm = inl refl
show_valid p out (answer.Write page) does calm = absurd (calm does.1)
show_valid p out answer.Memory does calm = inr refl
show_valid p out other does calm = absurd does

shows : (words : List (List ℕ)) (o : Outsides) (a : Answer) (job : Job) (p : Printer) → Outcome words o a
    → AsksFor words o.shelf.told verb.Profile job (Ok p) → HasProfile words verb.Profile job p o a
shows words o a job p outcome asks = has_profile words verb.Profile job p o a (λ e. cc) asks outcome

pub profile_promises : (words : List (List ℕ)) (o : Outsides) (err : Outside) (a : Answer)
    → Outcome words o a → Told err a → ProfilePromises words o err (status_of a)
profile_promises words o err a outcome told =
    let unread = λ (job : Job). reads_nothing words verb.Profile job o a (λ e. cc) (λ p does. (does.0, show_read p o.out a does.2)) outcome in
    record {
      valid_profile = λ job p asks calm calm_out. calm_work 0 (shows words o a job p outcome asks) calm (λ does. show_valid p o.out a does.2 calm_out);
      shown = λ job p asks zero. (at_work answer.Done tt (is_done a zero) (shows words o a job p outcome asks)).2;
      part_shown = λ job p asks five.
          let is = is_write a five in
          let part = (at_work (answer.Write is.0) tt is.1 (shows words o a job p outcome asks)).2 in
          (part.2, told_line (answer.Write 0) (is.1 ∙ ap answer.Write part.0) told);
      none_shown = λ job p asks which. elim (shows words o a job p outcome asks) [
        | HasNone why none ↦ none.untouched.1
        | Does does ↦ elim which [
          | inl four ↦ absurd (show_read p o.out a does.2 four)
          | inr seven ↦ subst (ShowOutcome p o.out) (is_memory a seven) does.2
        ]
      ];
      unread = λ job means command_is. (unread job means command_is).0;
      shown_of_shelf = λ job means command_is. (unread job means command_is).1;
    }
