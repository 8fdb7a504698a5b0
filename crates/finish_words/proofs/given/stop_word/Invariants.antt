use Rattle.std.proofs.Common.{◌≡◌, ◌+◌, drop}
use Rattle.std.specs.List.{position_from}
use Rattle.job_words.specs.Meaning.{gives}
use Rattle.finish_words.specs.Keys.{stop_key}
use Rattle.finish_words.proofs.given.stop_word.Given as goal

abbrev pub invariant-loop-i : goal.invariant-loop-i
invariant-loop-i l =
    position_from (gives stop_key) 1 l.words ≡ position_from (gives stop_key) (l.i + 1) (drop l.i l.words)
