use Rattle.std.proofs.lemmas.Grind.{common_steps}
use Rattle.std.proofs.Common.{ℕ, arith, ◌%◌, ◌*◌, ◌+◌, ◌/◌}
use Rattle.tile_lanes.specs.Paces.{cell_of}
use Rattle.tile_lanes.specs.declared.lanes.pace.Pace.{Pace}
use Rattle.tile_lanes.proofs.HeldBlocks.{none_taken, taken_in_range}
use Rattle.tile_lanes.proofs.PaceCells.{take_cell}
use Rattle.tile_lanes.proofs.lanes.edges.take_right.Goals as goal

abbrev at : Pace → ℕ → ℕ
at pace n = cell_of pace (2 + n / 6) (64 + n % 6)

pub loop-t-init : goal.loop-t-init
loop-t-init c = none_taken (at c.args.pace) 192 _ _ (omega arith)

pub loop-i-init : goal.loop-i-init
loop-i-init c = omega arith

pub loop-i-preserved : goal.loop-i-preserved
loop-i-preserved c = grind (arith, common_steps, take_cell)

pub loop-t-preserved : goal.loop-t-preserved
loop-t-preserved c = omega arith

pub returns-clause-in_range : goal.returns-clause-in_range
returns-clause-in_range c = taken_in_range (at c.args.pace) (6 * c.loop-t.t) 192 _ _
    c.requires.field (omega arith) c.loop-t.invariant

pub returns-clause-there : goal.returns-clause-there
returns-clause-there c = λ n small. c.loop-t.invariant.there n (omega arith)
