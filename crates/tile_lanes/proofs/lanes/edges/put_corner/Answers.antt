use Rattle.std.proofs.Common.{arith, refl, ◌%◌, ◌/◌}
use Rattle.tile_lanes.specs.Paces.{cell_of}
use Rattle.tile_lanes.proofs.HeldBlocks.{none_put}
use Rattle.tile_lanes.proofs.PaceCells.{put_cell}
use Rattle.tile_lanes.proofs.lanes.edges.put_corner.Goals as goal

pub loop-n-init : goal.loop-n-init
loop-n-init c = none_put (λ n. cell_of c.args.pace (n / 6) (n % 6)) (λ n. n) 0 _ _ (omega arith) c.requires.field

pub loop-n-preserved : goal.loop-n-preserved
loop-n-preserved c = put_cell c.args.pace (λ n. n / 6) (λ n. n % 6) c.loop-n.n _ _ _ _ c.loop-n.field
    refl refl refl c.cell.ensures.is c.cell.ensures.few
    (λ i below. omega arith) (λ i below row place. omega arith)
    c.requires.corner c.hold.ensures.most c.hold.ensures.is c.loop-n.invariant

pub returns-clause-there : goal.returns-clause-there
returns-clause-there c = λ n small. c.loop-n.invariant.there n (omega arith) (omega arith)

pub returns-clause-kept : goal.returns-clause-kept
returns-clause-kept c = λ m off. c.loop-n.invariant.kept m (λ i from below. off i (omega arith))
