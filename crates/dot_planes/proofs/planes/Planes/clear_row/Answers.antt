use Rattle.std.proofs.Common.{◌≡◌, ◌+◌, ◌-◌, ◌*◌, ◌≤◌, ◌<◌, ℕ, arith, length, refl, replicate, subst, sym, ◌∙◌, ap}
use Rattle.std.specs.Vec.{vec_capacity}
use Rattle.dot_planes.specs.Planes.{all_bytes, table_of}
use Rattle.dot_planes.specs.Bands.{ClearsRows}
use Rattle.dot_planes.specs.Tables.{DotTable, IsPackedRow, row_at, row_len}
use Rattle.dot_planes.proofs.PlaneWrites.{IsRowThere, is-reached, row-before-len, row-put, row-table, row-there, with_row}
use Rattle.dot_planes.proofs.PutBands.{clears_put, clears_unstored, wide_packed}
use Rattle.dot_planes.proofs.PutDots.{puts_row}
use Rattle.dot_planes.proofs.Reached.{blank_behind, padded-there, whole_row}
use Rattle.dot_planes.proofs.RowBytes.{bytes_inside, row_inside_across}
use Rattle.dot_planes.proofs.planes.Planes.clear_row.Goals as goal

pub slice_bounds-clear_dots-end : goal.slice_bounds-clear_dots-end
slice_bounds-clear_dots-end c = grind (arith, whole_row)

abbrev many : goal.After-self-1 → ℕ
many c = c.row_start_across-start.result + c.row_len-len.result - c.row_start_across-start.result

stored : (c : goal.After-self-1) → c.row_start_across-start.result + c.row_len-len.result ≤ length c.self.inside.bytes.items
stored c = grind (arith, whole_row)

is_there : (c : goal.After-self-1)
    → IsRowThere c.self.inside c.self.inside.bytes c.args.ink c.args.y c.row_start_across-start.result (many c) c.deref_mut.result.now
is_there c =
    let room : vec_capacity c.self.inside.bytes ≤ vec_capacity c.self.inside.bytes = omega arith in
    row-there _ _ c.args.ink c.args.y _ _ _
    (is-reached _ _ _ c.args.ink c.args.y _ _ c.self.invariant c.self.view_is c.requires.ink c.requires.y
    c.row_start_across-start.ensures.is c.row_len-len.ensures.is (sym (padded-there _ c.self.inside.bytes.items (stored c))) room)
    c.deref_mut.ensures.value

put_is_packed : (c : goal.After-self-1) → IsPackedRow c.self.inside.width c.clear_dots.new.row
put_is_packed c = wide_packed c.self.inside.width c.clear_dots.new.row
    (c.clear_dots.ensures.len ∙ row-before-len _ _ c.args.ink c.args.y _ _ _ (is_there c)) c.clear_dots.ensures.bytes
    (λ x past. c.clear_dots.ensures.none x)

pub invariant_of-self : goal.invariant_of-self
invariant_of-self c = row-table _ _ _ _ _ _ _ c.clear_dots.new.row (is_there c) (put_is_packed c)

pub returns-then-start-len : goal.returns-then-start-len
returns-then-start-len c =
    let t : DotTable = table_of c.self.inside in
    let new : DotTable =
    table_of (with_row c.self.inside c.self.inside.bytes c.row_start_across-start.result (many c) c.deref_mut.result.now c.clear_dots.new.row) in
    let Q : DotTable → Type 0 = λ old. ClearsRows old new c.args.ink c.args.y 1 in
    subst Q c.self.view_is (clears_put t new c.args.ink c.args.y c.clear_dots.new.row
    (puts_row t t c.args.ink c.args.y _ _ c.clear_dots.new.row new.bytes refl
    (row-put _ _ _ _ _ _ _ c.clear_dots.new.row (is_there c) (put_is_packed c)))
    (put_is_packed c) c.clear_dots.ensures.none)

blank_row : (c : goal.Else-start-len) → c.args.ink < c.self.inside.inks → c.args.y < c.self.inside.rows
    → row_at (row_len c.self.inside.width) (all_bytes c.self.inside) (c.args.y * c.self.inside.inks + c.args.ink)
    ≡ replicate (row_len c.self.inside.width) 0
blank_row c ink down =
    let n : ℕ = c.args.y * c.self.inside.inks + c.args.ink in
    let len : ℕ = row_len c.self.inside.width in
    let first : c.row_start_across-start.result ≡ n * len = grind arith in
    let inside : n * len + len ≤ c.self.inside.inks * c.self.inside.rows * len =
    bytes_inside len (c.self.inside.inks * c.self.inside.rows) n (row_inside_across c.self.inside.inks c.self.inside.rows c.args.ink c.args.y ink down) in
    blank_behind len n (c.self.inside.inks * c.self.inside.rows * len - length c.self.inside.bytes.items) c.self.inside.bytes.items
    (grind (arith, first)) (omega (arith, inside))

pub returns-else-start-len : goal.returns-else-start-len
returns-else-start-len c =
    let Q : DotTable → Type 0 = λ t. ClearsRows t t c.args.ink c.args.y 1 in
    let inks : c.self.inside.inks ≡ c.args.self.now.inks = ap (λ (t : DotTable). t.inks) c.self.view_is in
    let rows : c.self.inside.rows ≡ c.args.self.now.rows = ap (λ (t : DotTable). t.rows) c.self.view_is in
    let ink : c.args.ink < c.self.inside.inks = omega (arith, inks, c.requires.ink) in
    let down : c.args.y < c.self.inside.rows = omega (arith, rows, c.requires.y) in
    subst Q c.self.view_is (clears_unstored (table_of c.self.inside) c.args.ink c.args.y (blank_row c ink down) ink)
