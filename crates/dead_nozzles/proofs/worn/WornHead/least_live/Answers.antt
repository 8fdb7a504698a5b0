use Rattle.std.proofs.Common.{◌<◌, sym, ◌∙◌, ap, arith}
use Rattle.dead_nozzles.specs.Strokes.{Head}
use Rattle.dead_nozzles.proofs.Tables.{dead-here, live-here, none-left, view-read}
use Rattle.dead_nozzles.proofs.worn.WornHead.least_live.Goals as goal

pub returns-then-not-self-from : goal.returns-then-not-self-from
returns-then-not-self-from c =
    let few : c.loop-nozzle.nozzle < c.self.inside.nozzles = omega (arith, c.loop-nozzle-test.true) in
    live-here c.args.self.now.dead c.args.self.now.nozzles c.loop-nozzle.nozzle (omega (arith, few, ap (λ (h : Head). h.nozzles) c.self.view_is))
    (view-read c.self.inside.dead c.self.inside.nozzles c.self.inside.pitch c.self.inside.height c.args.self.now
    c.loop-nozzle.nozzle c.from.result c.self.view_is few c.from.ensures ∙ c.if-not-self-from.true)
    ∙ sym c.loop-nozzle.invariant

pub loop-nozzle-preserved : goal.loop-nozzle-preserved
loop-nozzle-preserved c =
    let few : c.loop-nozzle.nozzle < c.self.inside.nozzles = omega (arith, c.loop-nozzle-test.true) in
    c.loop-nozzle.invariant
    ∙ dead-here c.args.self.now.dead c.args.self.now.nozzles c.loop-nozzle.nozzle (omega (arith, few, ap (λ (h : Head). h.nozzles) c.self.view_is))
    (view-read c.self.inside.dead c.self.inside.nozzles c.self.inside.pitch c.self.inside.height c.args.self.now
    c.loop-nozzle.nozzle c.from.result c.self.view_is few c.from.ensures ∙ c.if-not-self-from.false)

pub unreachable-requires : goal.unreachable-requires
unreachable-requires c = grind (arith, none-left)
