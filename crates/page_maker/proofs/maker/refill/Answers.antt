use Rattle.std.proofs.Common.{◌∙◌, arith, sym}
use Rattle.std.proofs.lemmas.Bool.{eqb-true}
use Rattle.page_maker.proofs.Making.{to_come-done}
use Rattle.page_maker.proofs.maker.refill.Goals as goal
use Rattle.page_maker.proofs.maker.refill.Goals.{then-given-len-via-then-given-len, then-given-len-via-else-given-len+then-is_done}

pub returns-then-given-len-clause-end : goal.returns-then-given-len-clause-end
returns-then-given-len-clause-end c =
    let pieces = c.args.pieces.now in
    elim c.then-given-len.branch [
      | then-given-len-via-then-given-len w ↦ λ all. absurd (omega arith)
      | then-given-len-via-else-given-len+then-is_done w ↦ λ all. to_come-done pieces.form pieces.hdpi pieces.vdpi pieces.pages pieces.lines
          pieces.draws.state (eqb-true _ _ (sym w.is_done.ensures ∙ w.if-is_done.true))
    ]
