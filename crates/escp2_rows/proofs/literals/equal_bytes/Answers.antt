use Rattle.escp2_rows.proofs.Writing.{equal_counted}
use Rattle.escp2_rows.proofs.literals.equal_bytes.Goals as goal

pub returns-clause-is : goal.returns-clause-is
returns-clause-is c = equal_counted _ _ _ c.min.ensures c.copies.ensures
