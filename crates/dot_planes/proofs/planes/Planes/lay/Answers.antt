use Rattle.std.proofs.Common.{◌≡◌, ◌+◌, ◌-◌, ◌||◌, ℕ, List, ap, arith, ◌∙◌}
use Rattle.dot_planes.specs.Planes.{all_bytes, table_of}
use Rattle.dot_planes.specs.Laying.{laid_dot}
use Rattle.dot_planes.specs.Tables.{DotTable, IsPackedRow, row_dot}
use Rattle.dot_planes.proofs.PlaneWrites.{IsRowThere, is-reached, row-before, row-before-len, row-before-spare, row-put, row-table, row-there, with_row}
use Rattle.dot_planes.proofs.PutLaid.{IsLaidOver, laid-packed, lays}
use Rattle.dot_planes.proofs.planes.Planes.lay.Goals as goal

abbrev many : goal.After-self-1 → ℕ
many c = c.row_start_across-start.result + c.row_len-len.result - c.row_start_across-start.result

is_there : (c : goal.After-self-1)
    → IsRowThere c.self.inside c.reach.new.bytes c.args.ink c.args.y c.row_start_across-start.result (many c) c.deref_mut.result.now
is_there c = grind (arith, is-reached, row-there)

is_laid : (c : goal.After-self-1)
    → IsLaidOver (table_of c.self.inside) c.args.ink c.args.y c.args.x c.args.row.now c.args.dots c.lay_row.new.over
is_laid c = record {
  inside = let width : c.self.inside.width ≡ c.args.self.now.width = ap (λ (t : DotTable). t.width) c.self.view_is in omega (arith, width);
  is = λ d. c.lay_row.ensures.dots d
      ∙ ap (λ (bytes : List ℕ). row_dot bytes d || laid_dot c.args.row.now c.args.dots c.args.x d) (row-before _ _ c.args.ink c.args.y _ _ _ (is_there c));
}

put_is_packed : (c : goal.After-self-1) → IsPackedRow c.self.inside.width c.lay_row.new.over
put_is_packed c = laid-packed (table_of c.self.inside) c.args.ink c.args.y c.args.x c.args.row.now c.args.dots c.lay_row.new.over
    (is_laid c) (c.lay_row.ensures.len ∙ row-before-len _ _ c.args.ink c.args.y _ _ _ (is_there c)) c.lay_row.ensures.bytes
    (row-before-spare _ _ c.args.ink c.args.y _ _ _ (is_there c))

pub returns : goal.returns
returns c = lays _ _ c.args.ink c.args.y c.args.x c.args.row.now c.args.dots _ _ c.lay_row.new.over
    (all_bytes (with_row c.self.inside c.reach.new.bytes c.row_start_across-start.result (many c) c.deref_mut.result.now c.lay_row.new.over))
    c.self.view_is
    (row-put _ _ _ _ _ _ _ c.lay_row.new.over (is_there c) (put_is_packed c)) (is_laid c)

pub invariant_of-self : goal.invariant_of-self
invariant_of-self c = row-table _ _ _ _ _ _ _ c.lay_row.new.over (is_there c) (put_is_packed c)
