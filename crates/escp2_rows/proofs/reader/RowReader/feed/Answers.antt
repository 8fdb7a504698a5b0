use Rattle.std.proofs.Common.{arith, length-drop, sym, ◌∙◌}
use Rattle.std.proofs.lemmas.List.{take_all}
use Rattle.escp2_rows.proofs.Feeding.{fed_begin, fed_fault, fed_more, fed_step, fed_whole}
use Rattle.escp2_rows.proofs.reader.RowReader.feed.Goals as goal

pub steps-init : goal.steps-init
steps-init c = record {
  fed = fed_begin _ _ _ _ _ c.requires.is_open c.requires.room;
  kept = omega arith;
  some = λ none. c.requires.is_open;
}

pub returns-then-used-piece-clause-more : goal.returns-then-used-piece-clause-more
returns-then-used-piece-clause-more c =
    fed_more c.steps.invariant.fed (sym c.is_done.ensures ∙ c.steps-test.true) c.if-used-piece.true

pub steps-preserved : goal.steps-preserved
steps-preserved c = record {
  fed = fed_step c.steps.invariant.fed
      (take_all _ _ (omega (arith, length-drop c.steps.used c.args.piece.now))) c.step-used.ensures.least c.step-used.ensures.most
      c.step-used.ensures.takes
      c.step-used.ensures.room;
  kept = omega arith;
  some = λ none. absurd (omega (arith, c.step-used.ensures.least));
}

pub returns-in-Failed-clause-fault : goal.returns-in-Failed-clause-fault
returns-in-Failed-clause-fault c = fed_fault c.steps.invariant.fed c.in-Failed.is

pub returns-in_default-clause-whole : goal.returns-in_default-clause-whole
returns-in_default-clause-whole c =
    fed_whole c.steps.invariant.fed (sym c.is_done.ensures ∙ c.steps-test.false) c.in_default.not-Failed
