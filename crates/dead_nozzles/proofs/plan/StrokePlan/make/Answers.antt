use Rattle.std.proofs.Common.{◌≡◌, arith}
use Rattle.dead_nozzles.proofs.Strokes.{plan-small}
use Rattle.dead_nozzles.proofs.Tables.{head-of}
use Rattle.dead_nozzles.proofs.plan.StrokePlan.make.Goals as goal

pub pass_owners-requires-clause-head : goal.pass_owners-requires-clause-head
pass_owners-requires-clause-head c =
    head-of c.args.nozzles c.args.pitch c.args.height c.args.dead.now c.make-head.result c.requires.some_nozzles c.requires.some_pitch
    c.requires.coprime c.requires.checked c.make-head.ensures

pub find_starts-requires-clause-head : goal.find_starts-requires-clause-head
find_starts-requires-clause-head c =
    head-of c.args.nozzles c.args.pitch c.args.height c.args.dead.now c.make-head.result c.requires.some_nozzles c.requires.some_pitch
    c.requires.coprime c.requires.checked c.make-head.ensures

pub returns-clause-small : goal.returns-clause-small
returns-clause-small c = grind (arith, plan-small)
