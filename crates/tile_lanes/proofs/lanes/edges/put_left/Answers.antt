use Rattle.std.proofs.Common.{ℕ, arith, ◌%◌, ◌*◌, ◌+◌, ◌/◌}
use Rattle.tile_lanes.specs.Paces.{cell_of}
use Rattle.tile_lanes.specs.declared.lanes.pace.Pace.{Pace}
use Rattle.tile_lanes.proofs.HeldBlocks.{IsPut, none_put}
use Rattle.tile_lanes.proofs.PaceCells.{put_cell}
use Rattle.tile_lanes.proofs.lanes.edges.put_left.Goals as goal

abbrev at : Pace → ℕ → ℕ
at pace n = cell_of pace (2 + n / 6) (n % 6)

pub loop-t-init : goal.loop-t-init
loop-t-init c = none_put (at c.args.pace) (λ n. n) 0 _ _ (omega arith) c.requires.field

pub loop-i-init : goal.loop-i-init
loop-i-init c = grind (arith, IsPut)

pub loop-i-preserved : goal.loop-i-preserved
loop-i-preserved c =
    let t : ℕ = c.loop-t.t in
    let i : ℕ = c.loop-i.i in
    put_cell c.args.pace (λ n. 2 + n / 6) (λ n. n % 6) (6 * t + i) (6 * t + (i + 1)) (2 + t) i
    _ c.loop-i.field (omega arith) (omega arith) (omega arith) c.cell.ensures.is c.cell.ensures.few
    (λ m below. omega arith) (λ m below row place. omega arith)
    c.requires.left c.hold.ensures.most c.hold.ensures.is c.loop-i.invariant

pub loop-t-preserved : goal.loop-t-preserved
loop-t-preserved c = grind (arith, IsPut)

pub returns-clause-there : goal.returns-clause-there
returns-clause-there c = λ n small. c.loop-t.invariant.there n (omega arith) (omega arith)

pub returns-clause-kept : goal.returns-clause-kept
returns-clause-kept c = λ m off. c.loop-t.invariant.kept m (λ i from below. off i (omega arith))
