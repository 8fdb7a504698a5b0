use Rattle.pwg_lines.specs.declared.answers.Fill.{Fill}
use Rattle.pwg_lines.specs.Reading.{IsLine, OnLine}
use Rattle.std.proofs.Common.{arith, length-drop, subst, sym}
use Rattle.std.proofs.lemmas.List.{take_all}
use Rattle.pwg_lines.proofs.Feeding.{again-open, feed_fault, feed_line, feed_more, feed_step, still_open}
use Rattle.pwg_lines.proofs.reader.LineReader.feed.Goals as goal

pub returns-in-Failed-clause-fault : goal.returns-in-Failed-clause-fault
returns-in-Failed-clause-fault c = feed_fault _ _ _ _ _ c.steps.invariant c.in-Failed.is

pub returns-then-used-piece-clause-more : goal.returns-then-used-piece-clause-more
returns-then-used-piece-clause-more c =
    feed_more _ _ _ _ c.steps.invariant (still_open c.steps.self.state c.in_default.not-Full c.in_default.not-Failed) c.if-used-piece.true

pub returns-then-used-piece-clause-again : goal.returns-then-used-piece-clause-again
returns-then-used-piece-clause-again c = λ fault e. absurd
    (again-open _ _ _ _ fault c.steps.invariant (still_open c.steps.self.state c.in_default.not-Full c.in_default.not-Failed) e)

pub steps-preserved : goal.steps-preserved
steps-preserved c =
    feed_step _ c.steps.invariant (still_open c.steps.self.state c.in_default.not-Full c.in_default.not-Failed)
    (take_all _ _ (omega (arith, length-drop c.steps.used c.args.piece.now))) c.step-used.ensures.most c.step-used.ensures.takes

pub returns-in-Full-clause-line : goal.returns-in-Full-clause-line
returns-in-Full-clause-line c =
    let P : Fill → Type 0 = λ answer. OnLine answer
    (λ repeats. IsLine c.args.self.now c.end_group.new.self c.args.piece.now c.steps.used repeats) in
    subst P (sym c.end_group.ensures.answer_is) (feed_line c.steps.invariant c.in-Full.is c.end_group.ensures)
