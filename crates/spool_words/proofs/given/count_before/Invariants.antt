use Rattle.std.proofs.Common.{◌≡◌, take}
use Rattle.std.specs.List.{count_by}
use Rattle.job_words.specs.Meaning.{gives}
use Rattle.spool_words.specs.Rows.{key_row}
use Rattle.spool_words.proofs.given.count_before.Given as goal

abbrev pub invariant-loop-i : goal.invariant-loop-i
invariant-loop-i l = l.count ≡ count_by (gives (key_row l.key).row) (take l.i l.words)
