use Rattle.std.proofs.Common.{drop, ◌-◌}
use Rattle.job_words.specs.Meaning.{faults_on}
use Rattle.job_words.specs.Rows.{command_row}
use Rattle.job_words.proofs.Steps.{AreAccepted}
use Rattle.job_words.proofs.reading.check_words.Given as goal

-- the words before number i + 1 are accepted
abbrev pub invariant-loop-i : goal.invariant-loop-i
invariant-loop-i l = AreAccepted (faults_on (command_row l.verb).keys) (drop 1 l.words) (l.i - 1)
