-- A trial of one small page.
use Rattle.std.specs.Prelude.{ℕ, List, [], ◌∷◌, codes}
use Rattle.job_words.specs.declared.reading.Job.{Job}
use Rattle.job_words.specs.declared.table.Verb.TheVariants as verb
use Rattle.job_words.specs.Examples.{plain_job}

-- its words, and the job that they mean
abbrev pub small_words : List (List ℕ)
small_words = codes "trial" ∷ codes "profile=tiny1" ∷ codes "seed=0" ∷ codes "width=4" ∷ codes "height=2" ∷ []

abbrev pub small_trial : Job
small_trial = record (plain_job verb.Trial) { profile_word = 2; seed = 0; width = 4; height = 2 }
