use Rattle.std.proofs.Common.{◌≡◌, ap, arith}
use Rattle.dot_planes.specs.Tables.{DotTable}
use Rattle.dot_planes.proofs.PutBands.{all_band_inks}
use Rattle.dot_planes.proofs.planes.Planes.put_band.Goals as goal

pub returns : goal.returns
returns c =
    let inks : c.self.inside.inks ≡ c.args.self.now.inks = ap (λ (t : DotTable). t.inks) c.self.view_is in
    all_band_inks c.args.self.now c.loop-ink.self c.args.at c.args.height c.args.j c.min-rows.result c.loop-ink.ink c.args.tiles.now
    (omega (arith, inks, c.loop-ink.auto.ink-end)) (omega (arith, c.min-rows.ensures)) c.requires.band c.loop-ink.invariant
