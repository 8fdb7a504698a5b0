use Rattle.std.proofs.Common.{arith}
use Rattle.dot_planes.proofs.GatheredRows.{none_gathers, part_gathers}
use Rattle.dot_planes.proofs.ink_rows.InkRows.gather_row.Goals as goal

pub returns-then-rows-y : goal.returns-then-rows-y
returns-then-rows-y c = none_gathers _ _ _ _ _ (λ offset x y pixel at. omega (arith, pixel.down, at.down))

pub returns-then-from-to : goal.returns-then-from-to
returns-then-from-to c = grind (arith, part_gathers)

pub returns-else-from-to : goal.returns-else-from-to
returns-else-from-to c = none_gathers _ _ _ _ _ (λ offset x y pixel at.
    omega (arith, c.saturating_sub-from.ensures, c.saturating_sub.ensures, c.min-to.ensures, c.row-row.ensures.len, pixel.across, at.across, at.in_tile))
