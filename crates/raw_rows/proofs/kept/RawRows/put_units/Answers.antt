use Rattle.std.proofs.Common.{◌+◌, ◌*◌, List, ℕ, arith, subst}
use Rattle.tile_shape.specs.Geometry.{IsWhole}
use Rattle.tile_shape.specs.declared.tiles.Shape.{Shape}
use Rattle.raw_rows.specs.Squares.{HasColumns}
use Rattle.raw_rows.proofs.TileRows.{columns_of, part_in_lines, start_inside}
use Rattle.raw_rows.proofs.kept.RawRows.put_units.Goals as goal

pub put_columns-requires-clause-rows : goal.put_columns-requires-clause-rows
put_columns-requires-clause-rows c =
    let raw = c.args.self.now in
    let Whole : Shape → Type 0 = λ s. IsWhole s c.args.place in
    let whole = subst Whole c.shape.ensures.is (c.has_all.ensures.0 c.if-has_all.true) in
    record {
      row = λ r low. omega (
        arith,
        c.starts.ensures r low,
        start_inside raw c.args.place r c.args.unit c.requires whole low,
        raw.there (32 * c.args.place.j + r),
        c.deref.ensures.len,
      );
    }

pub returns-then-has_all : goal.returns-then-has_all
returns-then-has_all c =
    let raw = c.args.self.now in
    let Whole : Shape → Type 0 = λ s. IsWhole s c.args.place in
    let whole = subst Whole c.shape.ensures.is (c.has_all.ensures.0 c.if-has_all.true) in
    let Has : List ℕ → Type 0 = λ bs. HasColumns bs c.starts.result (16 * (4 * c.args.unit)) c.put_columns.new.columns in
    columns_of raw c.args.place (16 * (4 * c.args.unit)) raw.bytes.items c.starts.result c.put_columns.new.columns (omega (arith, c.requires.is))
    (λ r low. part_in_lines raw c.args.place r c.args.unit _ c.requires whole low (c.starts.ensures r low))
    (subst Has c.deref.ensures.value c.put_columns.ensures)
