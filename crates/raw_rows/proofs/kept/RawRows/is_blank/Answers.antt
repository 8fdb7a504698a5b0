use Rattle.std.proofs.Common.{subst}
use Rattle.tile_shape.specs.Geometry.{IsWhole}
use Rattle.tile_shape.specs.declared.tiles.Shape.{Shape}
use Rattle.raw_rows.proofs.WhiteTiles.{white_band, white_tile}
use Rattle.raw_rows.proofs.kept.RawRows.is_blank.Goals as goal

pub returns-then-has_white_rows : goal.returns-then-has_white_rows
returns-then-has_white_rows c = λ yes. white_band _ _ (c.has_white_rows.ensures c.if-has_white_rows.true)

pub returns-then-has_all : goal.returns-then-has_all
returns-then-has_all c =
    let Whole : Shape → Type 0 = λ s. IsWhole s c.args.place in
    let whole = subst Whole c.shape.ensures.is (c.has_all.ensures.0 c.if-has_all.true) in
    λ yes. white_tile c.args.self.now c.args.place whole (c.is_white.ensures.0 yes)
