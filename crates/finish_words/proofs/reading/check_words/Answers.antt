use Rattle.std.proofs.Common.{refl, arith}
use Rattle.job_words.proofs.FirstWords.{count_taken}
use Rattle.job_words.proofs.Steps.{all_accepted, first_refused, one_more}
use Rattle.finish_words.proofs.reading.check_words.Goals as goal

pub returns-in-Some-clause-fault : goal.returns-in-Some-clause-fault
returns-in-Some-clause-fault c =
    first_refused _ _ c.loop-i.i _ _ c.loop-i.invariant c.get.ensures
    (rw (count_taken c.args.words.now c.loop-i.i _ c.get.ensures, ← c.in-Some.ensures) refl)

pub loop-i-preserved : goal.loop-i-preserved
loop-i-preserved c =
    one_more _ c.args.words.now c.loop-i.i _ _ refl c.loop-i.invariant c.get.ensures (rw (← c.in_default.ensures) refl)

pub returns-clause-accepted : goal.returns-clause-accepted
returns-clause-accepted c = all_accepted _ c.args.words.now c.loop-i.i c.loop-i.invariant (omega arith)
