use Rattle.std.proofs.Common.{◌≡◌, ◌<◌, take}
use Rattle.std.specs.List.{count_by}
use Rattle.job_words.specs.Meaning.{gives}
use Rattle.spool_words.specs.Keys.{send_key}
use Rattle.spool_words.proofs.names.sent_by.Given as goal

abbrev pub invariant-loop-i : goal.invariant-loop-i
invariant-loop-i l = record {
  count : l.senders ≡ count_by (gives send_key) (take l.i l.words);
  fewer : l.senders < l.sender;
}
