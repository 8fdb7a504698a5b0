-- What the values of a job keep to.
use Rattle.std.specs.Prelude.{◌≡◌, ℕ, ◌<◌, ◌≤◌, List, [], length, true}
use Rattle.std.specs.List.{AllByRecursion}
use Rattle.base_definitions.specs.Limits.{most_columns, most_rows}
use Rattle.dead_nozzles.specs.Dead.{IsRising}
use Rattle.separation_definitions.specs.Grain.{most_grain}
use Rattle.job_words.specs.Values.{greatest_most}
use Rattle.job_words.specs.declared.reading.Job.{Job}

-- the numbers of a job are those that its words may give
pub record IsWithinBounds (job : Job) : Type 0 where
  pub most_grain : job.grain ≤ most_grain
  pub some_workers : 1 ≤ job.workers
  pub most_workers : job.workers ≤ 64
  pub most_bytes : job.most ≤ greatest_most
  pub most_seed : job.seed ≤ 4294967295
  pub some_pages : 1 ≤ job.pages
  pub most_pages : job.pages ≤ 16
  pub some_width : 1 ≤ job.width
  pub most_width : job.width ≤ most_columns
  pub some_height : 1 ≤ job.height
  pub most_height : job.height ≤ most_rows

-- numbers in rising order, each of them from 0 to 254, so that there are at most 255
pub record AreNozzles (numbers : List ℕ) : Type 0 where
  pub rising : IsRising numbers
  pub small : AllByRecursion (λ number. number < 255) numbers
  pub few : length numbers ≤ 255

-- no job has both shingled passes and dead nozzles
abbrev pub IsOneWay : Job → Type 0
IsOneWay job = job.shingle ≡ true → job.dead.items ≡ []
