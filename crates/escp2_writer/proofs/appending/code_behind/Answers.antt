use Rattle.std.proofs.Common.{◌-◌, arith, drop, length, length-drop, length-take}
use Rattle.escp2_writer.proofs.Coding.{row_behind}
use Rattle.escp2_writer.proofs.appending.code_behind.Goals as goal

pub returns-clause-code : goal.returns-clause-code
returns-clause-code c = row_behind _ _ c.args.row.now _ (omega arith)
    (omega (
      arith,
      c.code_row.auto.out,
      c.code_row.ensures.short,
      length-drop c.args.begin c.args.out.now,
      length-take (length c.args.out.now - c.args.begin) (drop c.args.begin c.args.out.now),
    )) c.code_row.ensures.code
