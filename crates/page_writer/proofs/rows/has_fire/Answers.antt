use Rattle.std.proofs.Common.{◌≡◌, ◌-◌, ◌+◌, suc, arith}
use Rattle.page_writer.specs.Heads.{HeadStrokes}
use Rattle.page_writer.proofs.Nozzles.{nozzle_blank, nozzle_fires, nozzles_none}
use Rattle.page_writer.proofs.rows.has_fire.Goals as goal

pub returns-then-not-fires_blank : goal.returns-then-not-fires_blank
returns-then-not-fires_blank g c =
    let head : HeadStrokes = g.H.Head.strokes c.args.head.now in
    let left : head.nozzles - c.loop-nozzle.nozzle ≡ suc (head.nozzles - (c.loop-nozzle.nozzle + 1)) = omega (arith, c.requires.nozzles) in
    nozzle_fires _ _ _ left c.loop-nozzle.invariant c.fires_blank.ensures c.if-not-fires_blank.true

pub loop-nozzle-preserved : goal.loop-nozzle-preserved
loop-nozzle-preserved g c =
    let head : HeadStrokes = g.H.Head.strokes c.args.head.now in
    let left : head.nozzles - c.loop-nozzle.nozzle ≡ suc (head.nozzles - (c.loop-nozzle.nozzle + 1)) = omega (arith, c.requires.nozzles) in
    nozzle_blank _ _ _ left c.loop-nozzle.invariant c.fires_blank.ensures c.if-not-fires_blank.false

pub returns : goal.returns
returns g c =
    let head : HeadStrokes = g.H.Head.strokes c.args.head.now in
    let none : head.nozzles - c.loop-nozzle.nozzle ≡ 0 = omega (arith, c.requires.nozzles) in
    nozzles_none _ _ _ _ none c.loop-nozzle.invariant
