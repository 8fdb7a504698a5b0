use Rattle.std.proofs.Common.{List, ℕ, refl}
use Rattle.job_words.specs.Meaning.{given}
use Rattle.job_words.specs.Table.{grain_key, kernel_key, workers_key}
use Rattle.job_words.specs.Values.{grain_value, kernel_named, worker_count}
use Rattle.job_words.proofs.Given.{read_of}
use Rattle.spool_words.proofs.reading.request_given.Goals as goal

pub returns : goal.returns
returns c =
    let words : List (List ℕ) = c.args.words.now in
    let kernel = read_of kernel_named (given kernel_key words) _ _ c.value_given.ensures c.and_then.ensures in
    let grain = read_of grain_value (given grain_key words) _ _ c.value_given-2.ensures c.and_then-2.ensures in
    let workers = read_of worker_count (given workers_key words) _ _ c.value_given-3.ensures c.and_then-3.ensures in
    rw (
      c.profile_word.ensures,
      c.unwrap_or.ensures,
      c.unwrap_or-2.ensures,
      c.unwrap_or-3.ensures,
      kernel,
      grain,
      workers,
      c.requires,
    )
    refl
