use Rattle.std.proofs.Common.{◌<◌, arith, length, sym}
use Rattle.page_maker.proofs.Drawing.{draws_step, drawn-none, state_after-none}
use Rattle.page_maker.proofs.draws.Draws.fill.Goals as goal

pub loop-byte-init : goal.loop-byte-init
loop-byte-init c = record { filled = sym (drawn-none c.args.self.now.state); state = sym (state_after-none c.args.self.now.state) }

pub loop-byte-preserved : goal.loop-byte-preserved
loop-byte-preserved c =
    let within : c.loop-byte.byte-index < length c.loop-byte.bytes = omega arith in
    let step = draws_step c.args.self.now.state c.loop-byte.byte-index c.loop-byte.self.state c.next.new.self.state c.next.result
    c.loop-byte.bytes within
    c.loop-byte.invariant.filled c.loop-byte.invariant.state c.next.ensures.byte c.next.ensures.state in
    record { filled = step.0; state = step.1 }
