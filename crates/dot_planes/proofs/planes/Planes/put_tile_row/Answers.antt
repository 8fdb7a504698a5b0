use Rattle.std.proofs.Common.{◌≡◌, ◌+◌, ◌-◌, ◌*◌, ℕ, List, ap, drop, refl, subst, sym, take, ◌∙◌}
use Rattle.dot_planes.specs.Planes.{all_bytes, table_of}
use Rattle.dot_planes.specs.Tables.{DotTable, IsPackedRow, dot, row_at, row_dot, row_len}
use Rattle.dot_planes.specs.Tiles.{PutsTileRow}
use Rattle.dot_planes.proofs.PlaneWrites.{IsRowThere, is-reached, place_of, row-before, row-before-len, row-before-spare, row-put, row-table, row-there, with_row}
use Rattle.dot_planes.proofs.PutDots.{dot-in, puts_row}
use Rattle.dot_planes.proofs.PutTiles.{puts_tile_row, taken_packed}
use Rattle.dot_planes.proofs.planes.Planes.put_tile_row.Goals as goal

-- the row of the planes
abbrev y_of : goal.After-self-1 → ℕ
y_of c = c.args.at + (32 * c.args.place.j + c.args.r)

abbrev many : goal.After-self-1 → ℕ
many c = c.row_start_across-start.result + c.row_len-len.result - c.row_start_across-start.result

is_there : (c : goal.After-self-1)
    → IsRowThere c.self.inside c.reach.new.bytes c.args.ink (y_of c) c.row_start_across-start.result (many c) c.deref_mut.result.now
is_there c = row-there _ _ c.args.ink (y_of c) _ _ _
    (is-reached _ _ _ c.args.ink (y_of c) _ _ c.self.invariant c.self.view_is c.requires.ink c.requires.row
    c.row_start_across-start.ensures.is c.row_len-len.ensures.is c.reach.ensures.items c.reach.ensures.capacity) c.deref_mut.ensures.value

abbrev row_before : goal.After-self-1 → List ℕ
row_before c = take (many c) (drop c.row_start_across-start.result c.deref_mut.result.now)

before_is : (c : goal.After-self-1) (x : ℕ)
    → row_dot (row_before c) x ≡ row_dot (row_at (row_len c.self.inside.width) (all_bytes c.self.inside) (place_of c.self.inside c.args.ink (y_of c))) x
before_is c x = ap (λ (row : List ℕ). row_dot row x) (row-before _ _ c.args.ink (y_of c) _ _ _ (is_there c))

put_is_packed : (c : goal.After-self-1) → IsPackedRow c.self.inside.width c.put_dots.new.row
put_is_packed c = taken_packed c.self.inside.width c.args.place.c c.args.r c.args.dots.now
    (row_before c) c.put_dots.new.row (row-before-len _ _ c.args.ink (y_of c) _ _ _ (is_there c)) c.put_dots.ensures.bytes
    (λ x past. before_is c x ∙ row-before-spare _ _ c.args.ink (y_of c) _ _ _ (is_there c) x past)
    c.put_dots.ensures.dots

dot_before : (c : goal.After-self-1) (x : ℕ) → dot (table_of c.self.inside) c.args.ink (y_of c) x ≡ row_dot (row_before c) x
dot_before c x = dot-in (table_of c.self.inside) c.args.ink (y_of c) x (is_there c).reached.ink ∙ sym (before_is c x)

pub returns : goal.returns
returns c =
    let t : DotTable = table_of c.self.inside in
    let new : DotTable = table_of (with_row c.self.inside c.reach.new.bytes c.row_start_across-start.result (many c) c.deref_mut.result.now c.put_dots.new.row) in
    let Q : DotTable → Type 0 = λ old. PutsTileRow old new c.args.ink (y_of c) c.args.place.c c.args.r c.args.dots.now in
    subst Q c.self.view_is (puts_tile_row t new c.args.ink
    (y_of c) c.args.place.c c.args.r c.args.dots.now (row_before c) c.put_dots.new.row
    (puts_row t t c.args.ink (y_of c) _ _ c.put_dots.new.row new.bytes refl
    (row-put _ _ _ _ _ _ _ c.put_dots.new.row (is_there c) (put_is_packed c)))
    (put_is_packed c) (dot_before c) c.put_dots.ensures.dots)

pub invariant_of-self : goal.invariant_of-self
invariant_of-self c = row-table _ _ _ _ _ _ _ c.put_dots.new.row (is_there c) (put_is_packed c)
