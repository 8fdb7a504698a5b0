use Rattle.std.proofs.Common.{◌+◌, ◌*◌}
use Rattle.dot_planes.specs.Tables.{amount}
use Rattle.dot_planes.proofs.RowBytes.{blank_row}
use Rattle.dot_planes.proofs.ink_rows.InkRows.make.Goals as goal

pub returns-clause-none : goal.returns-clause-none
unfolding amount
returns-clause-none c = λ i y x. blank_row c.args.width _
    (i * c.args.rows + y) x c.in_ok-bytes.bytes.items (c.in_ok-bytes.ensures.items_if_clones_equal (λ _ e. e))
