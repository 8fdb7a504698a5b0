use Rattle.escp2_rows.specs.Literals.{LongestSoFar}
use Rattle.escp2_rows.proofs.writer.literal_bytes.Given as goal

abbrev pub invariant-counts : goal.invariant-counts
invariant-counts l = LongestSoFar l.row l.count

abbrev pub decreases-counts : goal.decreases-counts
decreases-counts l = l.count
