use Rattle.std.proofs.Common.{List, ℕ, drop, refl}
use Rattle.job_words.specs.Meaning.{given}
use Rattle.job_words.specs.Table.{cap_key, grain_key, height_key, kernel_key, kind_key, most_key, pages_key, seed_key}
use Rattle.job_words.specs.Table.{shingle_key, width_key, workers_key}
use Rattle.job_words.specs.Values.{cap_value, grain_value, height_value, kernel_named, kind_named, most_value}
use Rattle.job_words.specs.Values.{page_count, seed_value, shingle_value, width_value, worker_count}
use Rattle.job_words.proofs.Given.{read_of, same_items, verb_of}
use Rattle.job_words.proofs.reading.job_given.Goals as goal

pub returns : goal.returns
returns c =
    let words : List (List ℕ) = drop 1 c.args.words.now in
    let dead = same_items c.dead_given.result _ c.dead_given.ensures in
    let kernel = read_of kernel_named (given kernel_key words) _ _ c.value_given.ensures c.and_then.ensures in
    let grain = read_of grain_value (given grain_key words) _ _ c.value_given-2.ensures c.and_then-2.ensures in
    let workers = read_of worker_count (given workers_key words) _ _ c.value_given-3.ensures c.and_then-3.ensures in
    let cap = read_of cap_value (given cap_key words) _ _ c.value_given-4.ensures c.and_then-4.ensures in
    let most = read_of most_value (given most_key words) _ _ c.value_given-5.ensures c.and_then-5.ensures in
    let shingle = read_of shingle_value (given shingle_key words) _ _ c.value_given-6.ensures c.and_then-6.ensures in
    let seed = read_of seed_value (given seed_key words) _ _ c.value_given-7.ensures c.and_then-7.ensures in
    let pages = read_of page_count (given pages_key words) _ _ c.value_given-8.ensures c.and_then-8.ensures in
    let width = read_of width_value (given width_key words) _ _ c.value_given-9.ensures c.and_then-9.ensures in
    let height = read_of height_value (given height_key words) _ _ c.value_given-10.ensures c.and_then-10.ensures in
    let kind = read_of kind_named (given kind_key words) _ _ c.value_given-11.ensures c.and_then-11.ensures in
    rw (
      verb_of c.args.verb,
      c.profile_word.ensures,
      dead,
      c.unwrap_or.ensures,
      c.unwrap_or-2.ensures,
      c.unwrap_or-3.ensures,
      c.unwrap_or-4.ensures,
      c.unwrap_or-5.ensures,
      c.unwrap_or-6.ensures,
      c.unwrap_or-7.ensures,
      c.unwrap_or-8.ensures,
      c.unwrap_or-9.ensures,
      c.unwrap_or-10.ensures,
      kernel,
      grain,
      workers,
      cap,
      most,
      shingle,
      seed,
      pages,
      width,
      height,
      kind,
    )
    refl
