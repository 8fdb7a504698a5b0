use Rattle.std.proofs.Common.{arith}
use Rattle.dot_planes.proofs.PutAmounts.{copies_more}
use Rattle.dot_planes.proofs.ink_rows.InkRows.copy_row.Goals as goal

pub loop-ink-init : goal.loop-ink-init
loop-ink-init c = omega arith

pub loop-ink-preserved : goal.loop-ink-preserved
loop-ink-preserved c = copies_more c.args.self.now c.loop-ink.self c.copy_ink_row.new.self c.loop-ink.ink c.args.from c.args.y
    c.requires.from c.requires.y c.loop-ink.invariant c.copy_ink_row.ensures

pub returns : goal.returns
returns c = omega arith
