use Rattle.std.proofs.Common.{arith}
use Rattle.weave_definitions.proofs.Rounds.{Inverse, inverse}
use Rattle.weave_definitions.proofs.inverse.inverse_of.Goals as goal

pub unreachable-requires : goal.unreachable-requires
unreachable-requires c =
    let found : Inverse c.args.nozzles c.args.pitch = inverse c.args.nozzles c.args.pitch c.requires.some_nozzles c.requires.some_pitch
    c.requires.coprime in
    c.loop-inverse.invariant found.number (omega arith) found.is
