use Rattle.std.proofs.Common.{List, ap, map, ℕ, ◌∙◌}
use Rattle.base_definitions.specs.Packed.{packed}
use Rattle.base_definitions.specs.Counting.{count_from}
use Rattle.dot_planes.specs.Tables.{DotTable, dot, row_dot}
use Rattle.dot_planes.proofs.PackedRows.{row_packed}
use Rattle.dot_planes.proofs.planes.Planes.row.Goals as goal

pub returns : goal.returns
unfolding dot
returns c =
    let t : DotTable = c.args.self.now in
    row_packed t.width c.bytes_of_row.result.now c.bytes_of_row.ensures.len c.bytes_of_row.ensures.bytes c.bytes_of_row.ensures.spare
    ∙ ap (λ (bs : List ℕ). packed (map (row_dot bs) (count_from 0 t.width))) c.bytes_of_row.ensures.is
