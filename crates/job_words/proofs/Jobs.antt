-- The numbers of a job.
use Rattle.std.proofs.Common.{◌≡◌, ℕ, ◌≤◌, List, drop, Ok, subst, arith}
use Rattle.base_definitions.specs.Limits.{most_columns, most_rows}
use Rattle.separation_definitions.specs.Grain.{most_grain}
use Rattle.job_words.specs.declared.reading.Job.{Job}
use Rattle.job_words.specs.Jobs.{IsWithinBounds}
use Rattle.job_words.specs.Meaning.{given, job_meaning}
use Rattle.job_words.specs.Table.{grain_key, height_key, most_key, pages_key, seed_key, width_key, workers_key}
use Rattle.job_words.specs.Values.{greatest_most}
use Rattle.job_words.proofs.Accepted.{words_accepted}
use Rattle.job_words.proofs.Bounds.{given_between}

pub within_bounds : (words : List (List ℕ)) (job : Job) → job_meaning words ≡ Ok job → IsWithinBounds job
within_bounds words job means =
    let all = words_accepted words job means in
    let others : List (List ℕ) = drop 1 words in
    let grain = given_between 0 most_grain 0 (given grain_key others) (record { least = omega arith; most = omega arith }) in
    let workers = given_between 1 64 1 (given workers_key others) (record { least = omega arith; most = omega arith }) in
    let most = given_between 0 17179869184 17179869184 (given most_key others) (record { least = omega arith; most = omega arith }) in
    let seed = given_between 0 4294967295 1 (given seed_key others) (record { least = omega arith; most = omega arith }) in
    let pages = given_between 1 16 1 (given pages_key others) (record { least = omega arith; most = omega arith }) in
    let width = given_between 1 most_columns 256 (given width_key others) (record { least = omega arith; most = omega arith }) in
    let height = given_between 1 most_rows 300 (given height_key others) (record { least = omega arith; most = omega arith }) in
    subst (λ (j : Job). IsWithinBounds j) all.1.job_is (record {
      most_grain = grain.most;
      some_workers = workers.least;
      most_workers = workers.most;
      most_bytes = most.most;
      most_seed = seed.most;
      some_pages = pages.least;
      most_pages = pages.most;
      some_width = width.least;
      most_width = width.most;
      some_height = height.least;
      most_height = height.most;
    })

-- a job is taken up to the greatest number of bytes that a word may give
pub most_of_job : (words : List (List ℕ)) (job : Job) → job_meaning words ≡ Ok job → job.most ≤ greatest_most
most_of_job words job means = (within_bounds words job means).most_bytes
