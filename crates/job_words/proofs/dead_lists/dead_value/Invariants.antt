use Rattle.std.proofs.Common.{◌≡◌, ◌≤◌, drop, length}
use Rattle.std.specs.List.{slice_split}
use Rattle.key_values.specs.Lists.{is_comma}
use Rattle.job_words.specs.DeadLists.{dead_value}
use Rattle.job_words.proofs.DeadLists.{with_front}
use Rattle.job_words.proofs.dead_lists.dead_value.Given as goal

abbrev pub invariant-numbers : goal.invariant-numbers
invariant-numbers l = record {
  read : dead_value l.fn.text ≡ with_front l.dead.items l.least (drop (length l.yielded) (slice_split is_comma l.fn.text));
  few : length l.dead.items ≤ l.least;
  least : l.least ≤ 255;
}
