use Rattle.std.proofs.Common.{◌≡◌, drop}
use Rattle.std.specs.List.{find}
use Rattle.job_words.specs.Meaning.{gives}
use Rattle.finish_words.specs.Rows.{key_row}
use Rattle.finish_words.proofs.given.value_given.Given as goal

abbrev pub invariant-loop-i : goal.invariant-loop-i
invariant-loop-i l = find (gives (key_row l.key)) l.words ≡ find (gives (key_row l.key)) (drop l.i l.words)
