use Rattle.std.proofs.Common.{arith}
use Rattle.escp2_rows.proofs.Passing.{equal_some}
use Rattle.escp2_rows.proofs.writer.write_packet.Goals as goal

pub literal_bytes-requires-clause-alone : goal.literal_bytes-requires-clause-alone
literal_bytes-requires-clause-alone c = omega (arith, equal_some _ c.requires.some, c.equal_bytes-equal.ensures.is, c.if-equal-ge-LEAST_RUN.false)

pub write_literal-requires-clause-alone : goal.write_literal-requires-clause-alone
write_literal-requires-clause-alone c = omega (arith, equal_some _ c.requires.some, c.equal_bytes-equal.ensures.is, c.if-equal-ge-LEAST_RUN.false)
