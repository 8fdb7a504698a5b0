use Rattle.std.proofs.Common.{◌≡◌, ◌+◌, drop}
use Rattle.std.specs.List.{position_from}
use Rattle.job_words.specs.Meaning.{gives}
use Rattle.job_words.specs.Table.{profile_key}
use Rattle.spool_words.proofs.given.profile_word.Given as goal

abbrev pub invariant-loop-i : goal.invariant-loop-i
invariant-loop-i l =
    position_from (gives profile_key) 1 l.words ≡ position_from (gives profile_key) (l.i + 1) (drop l.i l.words)
