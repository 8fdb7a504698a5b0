use Rattle.std.proofs.Common.{◌+◌, ◌&&◌, ℕ, List, ap, ◌∙◌}
use Rattle.std.specs.List.{list_any}
use Rattle.base_definitions.specs.Counting.{count_from}
use Rattle.dot_planes.specs.Tables.{dot, row_dot}
use Rattle.dot_planes.proofs.planes.Planes.meets.Goals as goal

pub returns : goal.returns
unfolding dot
returns c =
    c.row_meets.ensures
    ∙ ap (λ (other : List ℕ). list_any (λ k. row_dot c.args.row.now k && row_dot other (c.args.x + k)) (count_from 0 c.args.dots))
    c.bytes_of_row.ensures.is
