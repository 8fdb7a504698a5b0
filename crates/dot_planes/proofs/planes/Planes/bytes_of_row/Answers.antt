use Rattle.std.proofs.Common.{◌≡◌, ◌+◌, ◌*◌, ℕ, List, ap, arith, ◌∙◌}
use Rattle.std.proofs.lemmas.Bool.{lt-ltb}
use Rattle.dot_planes.specs.Planes.{all_bytes}
use Rattle.dot_planes.specs.Tables.{DotTable, row_at, row_dot, row_len}
use Rattle.dot_planes.proofs.RowBytes.{bytes_inside, row_inside_across}
use Rattle.dot_planes.proofs.Reached.{whole_row}
use Rattle.dot_planes.proofs.planes.Planes.bytes_of_row.Goals as goal

pub row_or_blank-requires-clause-whole : goal.row_or_blank-requires-clause-whole
row_or_blank-requires-clause-whole c = grind (arith, whole_row)

-- the row by its place in the bytes
row_is : (c : goal.After-row_or_blank) → c.row_or_blank.result.now
    ≡ row_at (row_len c.self.inside.width) (all_bytes c.self.inside) (c.args.y * c.self.inside.inks + c.args.ink)
row_is c = grind (arith, bytes_inside, row_inside_across)

pub returns-clause-is : goal.returns-clause-is
returns-clause-is c = grind (arith, lt-ltb)

pub returns-clause-spare : goal.returns-clause-spare
returns-clause-spare c = λ x past.
    let inks : c.self.inside.inks ≡ c.args.self.now.inks = ap (λ (t : DotTable). t.inks) c.self.view_is in
    let rows : c.self.inside.rows ≡ c.args.self.now.rows = ap (λ (t : DotTable). t.rows) c.self.view_is in
    let width : c.self.inside.width ≡ c.args.self.now.width = ap (λ (t : DotTable). t.width) c.self.view_is in
    ap (λ (bs : List ℕ). row_dot bs x) (row_is c)
    ∙ c.self.invariant.spare (c.args.y * c.self.inside.inks + c.args.ink) x
    (row_inside_across c.self.inside.inks c.self.inside.rows c.args.ink c.args.y (omega (arith, inks)) (omega (arith, rows)))
    (omega (arith, past, width))

pub returns-clause-len : goal.returns-clause-len
returns-clause-len c =
    c.row_or_blank.ensures.len ∙ c.row_len-len.ensures.is ∙ ap (λ (t : DotTable). row_len t.width) c.self.view_is
