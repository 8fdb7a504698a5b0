-- The promises of a run for the command `dots`.
use Rattle.std.proofs.Common.{◌≡◌, ℕ, ◌⊎◌, List, [], Option, None, Some, Ok, inl, inr, refl, subst, IfSome}
use Rattle.driver_answer.specs.Answers.{status_of}
use Rattle.driver_answer.specs.declared.answer.Answer.TheVariants as answer
use Rattle.driver_answer.specs.declared.answer.Answer.{Answer}
use Rattle.escp2_definitions.specs.declared.stops.JobStop.{JobStop}
use Rattle.escp2_definitions.specs.JobEnds.{job_end, stopped}
use Rattle.job_player.specs.Outcome.{sheets_of}
use Rattle.job_player.proofs.Playing.{plays_untaken}
use Rattle.job_words.specs.declared.reading.Job.{Job}
use Rattle.job_words.specs.declared.table.Verb.TheVariants as verb
use Rattle.printer_definitions.specs.Printer.{Printer}
use Rattle.driver_core.specs.Outside.{IsCalm, Outside, Outsides}
use Rattle.driver_core.specs.Playing.Outcome.{PlayOutcome}
use Rattle.driver_core.specs.Playing.Promises.{DotsPromises}
use Rattle.driver_core.specs.Runs.Asking.{AsksFor}
use Rattle.driver_core.specs.Runs.Outcome.{Outcome, Told}
use Rattle.driver_core.proofs.Runs.Asked.{HasProfile, at_work, calm_work, has_profile, told_line}
use Rattle.driver_core.proofs.Runs.Asked.HasProfile.{HasNone, Does}
use Rattle.driver_core.proofs.Runs.Nothing.{appends_none, consumes_none}
use Rattle.driver_core.proofs.Runs.Statuses.{is_done, is_job, is_memory, is_read, is_write}
use Rattle.driver_core.proofs.Runs.WholeJobs.{told_whole}

module _ (p : Printer) (most : ℕ) (input out : Outside) where
  play_valid : (a : Answer) (bytes : List ℕ) → PlayOutcome p most input out a → input.before ≡ Some bytes
      → job_end bytes most (Some p) ≡ None → IsCalm input → IsCalm out → (status_of a ≡ 0) ⊎ (status_of a ≡ 7)
  play_valid answer.Done bytes does told whole calm_in calm_out = inl refl
  play_valid (answer.Job offset cause) bytes does told whole calm_in calm_out =
      let S : Option (List ℕ) → Type 0 = λ b. IfSome b (λ bytes. (sheets_of p most bytes ≡ does.sheets)
      × (job_end bytes most (Some p) ≡ stopped offset cause)) in
      let stop = (subst S told does.told).1 in absurd (cc)
  play_valid answer.Read bytes does told whole calm_in calm_out = absurd (calm_in does.0)
  play_valid (answer.Write number) bytes does told whole calm_in calm_out = absurd (calm_out does.0)
  play_valid answer.Memory bytes does told whole calm_in calm_out = inr refl
  play_valid other bytes does told whole calm_in calm_out = absurd does

  play_refused : (a : Answer) (bytes : List ℕ) (offset : ℕ) (cause : JobStop) → PlayOutcome p most input out a → input.before ≡ Some bytes
      → job_end bytes most (Some p) ≡ stopped offset cause → IsCalm input → IsCalm out → (status_of a ≡ 8) ⊎ (status_of a ≡ 7)
  play_refused answer.Done bytes offset cause does told stops calm_in calm_out =
      let all = told_whole input.before bytes does.bytes input.now told does.taken does.end in
      let E : List ℕ → Type 0 = λ bs. job_end bs most (Some p) ≡ None in
      let whole = subst E all does.whole in absurd (cc)
  play_refused (answer.Job offset' cause') bytes offset cause does told stops calm_in calm_out = inl refl
  play_refused answer.Read bytes offset cause does told stops calm_in calm_out = absurd (calm_in does.0)
  play_refused (answer.Write number) bytes offset cause does told stops calm_in calm_out = absurd (calm_out does.0)
  play_refused answer.Memory bytes offset cause does told stops calm_in calm_out = inr refl
  play_refused other bytes offset cause does told stops calm_in calm_out = absurd does

plays : (words : List (List ℕ)) (o : Outsides) (a : Answer) (job : Job) (p : Printer) → Outcome words o a
    → AsksFor words o.shelf.told verb.Dots job (Ok p) → HasProfile words verb.Dots job p o a
plays words o a job p outcome asks = has_profile words verb.Dots job p o a (λ e. cc) asks outcome

pub dots_promises : (words : List (List ℕ)) (o : Outsides) (err : Outside) (a : Answer)
    → Outcome words o a → Told err a → DotsPromises words o err (status_of a)
dots_promises words o err a outcome told = record {
  played = λ job p asks zero. (at_work answer.Done tt (is_done a zero) (plays words o a job p outcome asks)).1;
  played_to_stop = λ job p asks eight.
      let is = is_job a eight in
      let stop = at_work (answer.Job is.0 is.1) tt is.2 (plays words o a job p outcome asks) in
      (is.0, is.1, stop.1, told_line (answer.Job is.0 is.1) is.2 told);
  played_taken = λ job p asks four. elim (plays words o a job p outcome asks) [
    | HasNone why none ↦ plays_untaken p job.most o.input o.out (consumes_none o.input.before o.input.now none.untouched.0)
        (appends_none o.out.before o.out.now none.untouched.1)
    | Does does ↦ (subst (PlayOutcome p job.most o.input o.out) (is_read a four) does.1).1
  ];
  played_some = λ job p asks seven. elim (plays words o a job p outcome asks) [
    | HasNone why none ↦ record {
      sheets = [];
      takes = record {
        bytes = [];
        taken = consumes_none o.input.before o.input.now none.untouched.0;
        others = sheets_of p job.most [];
        are = refl;
      };
      writes = appends_none o.out.before o.out.now none.untouched.1;
    }
    | Does does ↦ subst (PlayOutcome p job.most o.input o.out) (is_memory a seven) does.1
  ];
  played_part = λ job p asks five.
      let is = is_write a five in
      let part = at_work (answer.Write is.0) tt is.1 (plays words o a job p outcome asks) in
      (is.0, part.1.1, told_line (answer.Write is.0) is.1 told);
  valid_dots = λ job p bytes asks before whole calm calm_in calm_out. calm_work 0 (plays words o a job p outcome asks) calm
      (λ does. play_valid p job.most o.input o.out a bytes does.1 before whole calm_in calm_out);
  refused_dots = λ job p bytes offset cause asks before stops calm calm_in calm_out. calm_work 8 (plays words o a job p outcome asks) calm
      (λ does. play_refused p job.most o.input o.out a bytes offset cause does.1 before stops calm_in calm_out);
}
