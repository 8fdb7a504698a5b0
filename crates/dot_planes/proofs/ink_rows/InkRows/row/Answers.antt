use Rattle.std.proofs.Common.{◌+◌, ◌*◌, ℕ, List, ap, ◌∙◌, get_or}
use Rattle.dot_planes.specs.Tables.{AmountTable, amount, row_at}
use Rattle.dot_planes.proofs.ink_rows.InkRows.row.Goals as goal

pub returns-clause-amounts : goal.returns-clause-amounts
unfolding amount
returns-clause-amounts c = λ x.
    let n : ℕ = c.args.ink * c.self.inside.rows + c.args.y in
    ap (λ (row : List ℕ). get_or row x 0) (
    c.row_of.ensures.row n c.row_start-start.ensures.is
    ∙ ap (λ (bytes : List ℕ). row_at c.self.inside.width bytes n) c.deref.ensures.value)
    ∙ ap (λ (t : AmountTable). amount t c.args.ink c.args.y x) c.self.view_is
