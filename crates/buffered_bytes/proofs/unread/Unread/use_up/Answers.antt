use Rattle.std.proofs.Common.{arith, ap, length, sym, ◌∙◌}
use Rattle.buffered_bytes.proofs.Filling.{unread-long, used_up}
use Rattle.buffered_bytes.proofs.unread.Unread.use_up.Goals as goal

pub returns : goal.returns
returns c =
    let u = c.self.inside in
    let long = ap length (sym c.self.view_is)
    ∙ unread-long u.buffer.items u.start u.end (omega (arith, c.self.invariant)) (omega (arith, c.self.invariant, u.buffer.ok)) in
    used_up u.buffer.items c.args.self.now u.start u.end c.args.count c.self.view_is (omega (arith, c.requires, long, c.self.invariant))
