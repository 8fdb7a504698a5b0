use Rattle.std.proofs.Common.{arith, ◌∙◌}
use Rattle.escp2_rows.proofs.Ends.{equal_more, equal_one}
use Rattle.escp2_rows.proofs.costs.equal_from.Goals.{else-row-gt1-via-then-row-gt1+else-row, else-row-gt1-via-else-row-gt1}
use Rattle.escp2_rows.proofs.costs.equal_from.Goals as goal

pub returns-then-row : goal.returns-then-row
returns-then-row c = c.min.ensures ∙ equal_more c.args.row.now c.args.behind c.if-row-gt1.true c.requires.behind c.if-row.true

pub returns-else-row-gt1 : goal.returns-else-row-gt1
returns-else-row-gt1 c = elim c.else-row-gt1.branch [
  | else-row-gt1-via-then-row-gt1+else-row w ↦ equal_one c.args.row.now c.requires.some (λ some. w.if-row.false)
  | else-row-gt1-via-else-row-gt1 w ↦ equal_one c.args.row.now c.requires.some (λ some. absurd (omega arith))
]
