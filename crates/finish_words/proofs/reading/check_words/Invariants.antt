use Rattle.job_words.proofs.Steps.{AreAccepted}
use Rattle.finish_words.specs.Meaning.{faults_on}
use Rattle.finish_words.proofs.reading.check_words.Given as goal

-- the words before number i + 1 are accepted
abbrev pub invariant-loop-i : goal.invariant-loop-i
invariant-loop-i l = AreAccepted faults_on l.words l.i
