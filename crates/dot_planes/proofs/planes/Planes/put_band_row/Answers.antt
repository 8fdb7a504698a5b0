use Rattle.std.proofs.Common.{◌+◌, ◌-◌, ℕ, refl, subst, ◌∙◌}
use Rattle.dot_planes.specs.Planes.{table_of}
use Rattle.dot_planes.specs.Bands.{PutsBandRow}
use Rattle.dot_planes.specs.Tables.{DotTable, IsPackedRow}
use Rattle.dot_planes.proofs.PlaneWrites.{IsRowThere, is-reached, row-before-len, row-put, row-table, row-there, with_row}
use Rattle.dot_planes.proofs.PutBands.{puts_band_row, wide_packed}
use Rattle.dot_planes.proofs.PutDots.{puts_row}
use Rattle.dot_planes.proofs.planes.Planes.put_band_row.Goals as goal

abbrev many : goal.After-self-1 → ℕ
many c = c.row_start_across-start.result + c.row_len-len.result - c.row_start_across-start.result

is_there : (c : goal.After-self-1)
    → IsRowThere c.self.inside c.reach.new.bytes c.args.ink c.args.y c.row_start_across-start.result (many c) c.deref_mut.result.now
is_there c = row-there _ _ c.args.ink c.args.y _ _ _
    (is-reached _ _ _ c.args.ink c.args.y _ _ c.self.invariant c.self.view_is c.requires.ink c.requires.y
    c.row_start_across-start.ensures.is c.row_len-len.ensures.is c.reach.ensures.items c.reach.ensures.capacity) c.deref_mut.ensures.value

put_is_packed : (c : goal.After-self-1) → IsPackedRow c.self.inside.width c.put_wide.new.row
put_is_packed c = wide_packed c.self.inside.width c.put_wide.new.row
    (c.put_wide.ensures.len ∙ row-before-len _ _ c.args.ink c.args.y _ _ _ (is_there c)) c.put_wide.ensures.bytes c.put_wide.ensures.spare

pub returns : goal.returns
returns c =
    let t : DotTable = table_of c.self.inside in
    let new : DotTable = table_of (with_row c.self.inside c.reach.new.bytes c.row_start_across-start.result (many c) c.deref_mut.result.now c.put_wide.new.row) in
    let Q : DotTable → Type 0 = λ old. PutsBandRow old new c.args.ink c.args.y c.args.r c.args.wide.now in
    subst Q c.self.view_is (puts_band_row t new c.args.ink c.args.y c.args.r c.args.wide.now c.put_wide.new.row
    (puts_row t t c.args.ink c.args.y _ _ c.put_wide.new.row new.bytes refl
    (row-put _ _ _ _ _ _ _ c.put_wide.new.row (is_there c) (put_is_packed c)))
    (put_is_packed c) c.put_wide.ensures.dots)

pub invariant_of-self : goal.invariant_of-self
invariant_of-self c = row-table _ _ _ _ _ _ _ c.put_wide.new.row (is_there c) (put_is_packed c)
