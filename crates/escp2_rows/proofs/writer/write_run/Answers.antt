use Rattle.std.proofs.Common.{◌-◌, arith}
use Rattle.std.proofs.lemmas.List.{length-set}
use Rattle.escp2_laws.proofs.Fewest.{equal_within}
use Rattle.escp2_rows.proofs.Writing.{run_first}
use Rattle.escp2_rows.proofs.writer.write_run.Goals as goal

pub overflow_sub-out : goal.overflow_sub-out
overflow_sub-out c = omega (arith, c.requires.equal, (equal_within c.args.row.now).0)

pub bounds-out-0 : goal.bounds-out-0
bounds-out-0 c = omega (arith, c.requires.equal, c.requires.some, c.requires.room, (equal_within c.args.row.now).1)

pub bounds-row-0 : goal.bounds-row-0
bounds-row-0 c = omega (arith, c.requires.equal, c.requires.some, (equal_within c.args.row.now).1)

pub bounds-out-1 : goal.bounds-out-1
bounds-out-1 c =
    omega (arith, length-set c.args.out.now 0 (257 - c.args.equal), c.requires.equal, c.requires.some, c.requires.room, (equal_within c.args.row.now).1)

pub returns : goal.returns
returns c = run_first _ _ _ c.requires.equal c.requires.some c.requires.room
