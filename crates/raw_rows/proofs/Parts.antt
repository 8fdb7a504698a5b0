-- Parts of lines.
use Rattle.std.proofs.Common.{ℕ, ◌≡◌, ◌+◌, ◌*◌, ◌/◌, ◌%◌, ◌<◌, ◌≤◌, List, [], ◌∷◌, ◌⊎◌, ap, arith, get_or, inl, inr, length, subst, sym, ◌∙◌}
use Rattle.std.proofs.lemmas.Bool.{cases_eq}
use Rattle.base_definitions.specs.Packed.{bit_at, worth}
use Rattle.pwg_definitions.specs.Header.{line_bytes, row_of}
use Rattle.pwg_definitions.specs.declared.pages.Kind.{Kind}
use Rattle.pwg_definitions.specs.declared.pages.Kind.TheVariants.{Gray8, Black8, Rgb8, Black1, Cmyk8}
use Rattle.separation_definitions.specs.Amounts.{pixel_at}
use Rattle.tile_shape.specs.declared.tiles.Place.{Place}
use Rattle.ink_separation.proofs.Chunks.{fewer_bytes}
use Rattle.raw_rows.specs.Gathering.{HasPart, HasParts, IsPart, PutsPart, part_bytes, first_pixel}
use Rattle.raw_rows.specs.Lines.{first_byte, kept_bytes, pixels_before}
use Rattle.raw_rows.specs.Raw.{line_in, table_of}
use Rattle.dot_planes.specs.Gathered.{shape_of}
use Rattle.tile_shape.specs.Geometry.{IsWhole}
use Rattle.tile_shape.proofs.Wholes.{inside_of}
use Rattle.raw_rows.specs.declared.kept.RawRows.{RawRows}

-- 64 pixels need no more than 256 bytes
pub few_bytes : (kind : Kind) (x : ℕ) → line_bytes (pixels_before kind x + 64) (row_of kind).bits_per_pixel ≤ 256
few_bytes Gray8 x = omega arith
few_bytes Black8 x = omega arith
few_bytes Rgb8 x = omega arith
few_bytes Black1 x = omega arith
few_bytes Cmyk8 x = omega arith

-- the part of 64 pixels ends where the line's pixels do
pub part_inside : (kind : Kind) (x : ℕ)
    → first_byte kind x + line_bytes (pixels_before kind x + 64) (row_of kind).bits_per_pixel
    ≤ line_bytes (x + 64) (row_of kind).bits_per_pixel
part_inside Gray8 x = omega arith
part_inside Black8 x = omega arith
part_inside Rgb8 x = omega arith
part_inside Black1 x = omega arith
part_inside Cmyk8 x = omega arith

-- the part of a row that the window has is inside of what is kept of its line
pub part_kept : (raw : RawRows) (p : Place) (r : ℕ) → IsWhole (shape_of (table_of raw)) p → r < 32
    → first_byte raw.separator.kind (first_pixel raw p r) + part_bytes raw (first_pixel raw p r) ≤ kept_bytes raw.separator
part_kept raw p r whole few =
    let s = raw.separator in
    let x : ℕ = first_pixel raw p r in
    let fewer = fewer_bytes s.kind (x + 64) (s.window.left + s.window.width) (let inside = inside_of _ _ whole in omega (arith, inside.left, inside.right)) in
    omega (arith, part_inside s.kind x, fewer)
