-- All promises of a run, by the outcome of its work.
use Rattle.std.proofs.Common.{◌≡◌, ℕ, List, sym, subst}
use Rattle.driver_answer.specs.declared.answer.Answer.{Answer}
use Rattle.driver_answer.specs.Answers.{status_of}
use Rattle.driver_core.specs.Outside.{Outside, Outsides}
use Rattle.driver_core.specs.Runs.AllPromises.{AllPromises}
use Rattle.driver_core.specs.Runs.Outcome.{Outcome, Told}
use Rattle.driver_core.proofs.Listing.Promised.{list_promises}
use Rattle.driver_core.proofs.Playing.Promised.{dots_promises}
use Rattle.driver_core.proofs.Printing.Promised.{print_promises}
use Rattle.driver_core.proofs.Runs.Promised.{promises}
use Rattle.driver_core.proofs.Showing.Promised.{profile_promises}
use Rattle.driver_core.proofs.Trying.Promised.{trial_promises}

pub all_promises : (words : List (List ℕ)) (o : Outsides) (err : Outside) (worked a : Answer) (s : ℕ)
    → Outcome words o worked → a ≡ worked → Told err a → s ≡ status_of a → AllPromises words o err s
all_promises words o err worked a s outcome same told is =
    let own : Outcome words o a = subst (Outcome words o) (sym same) outcome in
    subst (AllPromises words o err) (sym is) (record {
      run = promises words o err a own told;
      print = print_promises words o err a own told;
      dots = dots_promises words o err a own told;
      list = list_promises words o err a own told;
      profile = profile_promises words o err a own told;
      trial = trial_promises words o err a own told;
    })
