use Rattle.std.proofs.Common.{arith}
use Rattle.std.proofs.lemmas.Bool.{eqb-false, not-true}
use Rattle.escp2_rows.proofs.Triples.{pair_more, pair_two}
use Rattle.escp2_rows.proofs.literals.is_pair.Goals as goal

pub returns-then-row-eq2 : goal.returns-then-row-eq2
returns-then-row-eq2 c = λ yes. pair_two _ c.if-row-eq2.true c.if-row.false

pub returns-else-row-eq2 : goal.returns-else-row-eq2
returns-else-row-eq2 c = λ yes. pair_more _ (omega (arith, c.if-row-lt2.false, c.if-row-eq2.false)) c.if-row.false (eqb-false _ _ (not-true _ yes))
