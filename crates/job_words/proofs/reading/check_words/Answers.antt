use Rattle.std.proofs.Common.{◌≡◌, ◌+◌, ◌-◌, drop, length-drop, refl, arith}
use Rattle.job_words.proofs.FirstWords.{count_taken, word_behind}
use Rattle.job_words.proofs.Steps.{all_accepted, first_refused, one_more}
use Rattle.job_words.proofs.reading.check_words.Goals as goal

pub returns-in-Some-clause-fault : goal.returns-in-Some-clause-fault
returns-in-Some-clause-fault c =
    let here = word_behind c.args.words.now c.loop-i.i _ c.loop-i.auto.i c.get.ensures in
    let number : c.loop-i.i - 1 + 2 ≡ c.loop-i.i + 1 = omega (arith, c.loop-i.auto.i) in
    first_refused _ _ (c.loop-i.i - 1) _ _ c.loop-i.invariant here
    (rw (count_taken (drop 1 c.args.words.now) (c.loop-i.i - 1) _ here, ← c.in-Some.ensures, number) refl)

pub loop-i-preserved : goal.loop-i-preserved
loop-i-preserved c =
    one_more _ (drop 1 c.args.words.now) (c.loop-i.i - 1) (c.loop-i.i + 1 - 1) _ (omega arith) c.loop-i.invariant
    (word_behind c.args.words.now c.loop-i.i _ c.loop-i.auto.i c.get.ensures) (rw (← c.in_default.ensures) refl)

pub returns-clause-accepted : goal.returns-clause-accepted
returns-clause-accepted c =
    all_accepted _ (drop 1 c.args.words.now) (c.loop-i.i - 1) c.loop-i.invariant (omega (arith, length-drop 1 c.args.words.now))
