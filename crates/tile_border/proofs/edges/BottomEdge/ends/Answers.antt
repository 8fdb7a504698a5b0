use Rattle.std.proofs.Common.{arith, refl}
use Rattle.tile_border.proofs.Ends.{ends_cut, ends_read, no_ends}
use Rattle.tile_border.proofs.Zeros.{some_zeros}
use Rattle.tile_border.proofs.edges.BottomEdge.ends.Goals as goal

pub loop-n-init : goal.loop-n-init
loop-n-init c = no_ends c.ink-errors.result.now _ refl (some_zeros 12)

pub loop-n-preserved : goal.loop-n-preserved
loop-n-preserved c = ends_read c.ink-errors.result.now c.loop-n.ends c.loop-n.n c.loop-n-test.true c.ink-errors.ensures.fits
    c.loop-n.invariant

pub returns-clause-is : goal.returns-clause-is
returns-clause-is c = ends_cut _ _ _ c.loop-n.n c.ink-errors.ensures.is (omega (arith, c.loop-n-test.false)) c.loop-n.invariant

pub returns-clause-fits : goal.returns-clause-fits
returns-clause-fits c = c.loop-n.invariant.fits
