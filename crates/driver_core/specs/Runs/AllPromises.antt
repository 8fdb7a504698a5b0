-- All that a run promises.
use Rattle.std.specs.Prelude.{ℕ, List}
use Rattle.driver_core.specs.Listing.Promises.{ListPromises}
use Rattle.driver_core.specs.Outside.{Outside, Outsides}
use Rattle.driver_core.specs.Playing.Promises.{DotsPromises}
use Rattle.driver_core.specs.Printing.Promises.{PrintPromises}
use Rattle.driver_core.specs.Runs.Promises.{Promises}
use Rattle.driver_core.specs.Showing.Promises.{ProfilePromises}
use Rattle.driver_core.specs.Trying.Promises.{TrialPromises}

-- The promises of a run whatever its command, and those for each command.
pub record AllPromises (words : List (List ℕ)) (o : Outsides) (err : Outside) (status : ℕ) : Type 0 where
  pub run : Promises words o err status
  pub print : PrintPromises words o err status
  pub dots : DotsPromises words o err status
  pub list : ListPromises words o err status
  pub profile : ProfilePromises words o err status
  pub trial : TrialPromises words o err status
