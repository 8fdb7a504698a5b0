use Rattle.std.proofs.Common.{◌≡◌, ◌-◌, drop, take}
use Rattle.std.specs.List.{list_any}
use Rattle.job_words.specs.Meaning.{gives}
use Rattle.finish_words.specs.Rows.{key_row}
use Rattle.finish_words.proofs.given.is_given_before.Given as goal

abbrev pub invariant-loop-i : goal.invariant-loop-i
invariant-loop-i l =
    list_any (gives (key_row l.key)) (take l.place l.words) ≡ list_any (gives (key_row l.key)) (take (l.place - l.i) (drop l.i l.words))
