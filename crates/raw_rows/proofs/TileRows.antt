-- The pixels of tiles: in lines, in bytes row by row, and in bytes by columns.
use Rattle.std.proofs.Common.{ℕ, ◌≡◌, ◌+◌, ◌-◌, ◌*◌, ◌/◌, ◌%◌, ◌<◌, ◌≤◌, List, [], ◌∷◌, Some, ap, arith, get_or, inl, inr, length, min, refl, slice_get, subst, sym, ◌∙◌}
use Rattle.std.proofs.Math.Nat.{mul-le-mul_left}
use Rattle.std.proofs.lemmas.Bool.{cases_eq}
use Rattle.std.proofs.lemmas.Option.{slice_get-get_or}
use Rattle.base_definitions.specs.Packed.{bit_at, worth}
use Rattle.dot_planes.specs.Gathered.{HasTile, shape_of}
use Rattle.dot_planes.proofs.RowBytes.{row_byte}
use Rattle.dot_planes.specs.Tables.{amount}
use Rattle.ink_separation.specs.Columns.{pixel_in}
use Rattle.ink_separation.specs.Separated.{tile_amount}
use Rattle.ink_separation.specs.Separators.{printer_in}
use Rattle.ink_separation.specs.declared.separator.Separator.{Separator}
use Rattle.printer_definitions.specs.Inks.{inks_of}
use Rattle.printer_definitions.specs.declared.inks.Ink.{Ink}
use Rattle.printer_definitions.specs.declared.inks.Ink.TheVariants.{Black}
use Rattle.pwg_definitions.specs.Header.{line_bytes, row_of}
use Rattle.pwg_definitions.specs.declared.pages.Kind.{Kind}
use Rattle.pwg_definitions.specs.declared.pages.Kind.TheVariants.{Gray8, Black8, Rgb8, Black1, Cmyk8}
use Rattle.separation_definitions.specs.Amounts.{amount as amount_of, pixel_at}
use Rattle.tile_shape.specs.Geometry.{IsAt, IsPixel, IsWhole}
use Rattle.tile_shape.specs.declared.tiles.Place.{Place}
use Rattle.tile_shape.proofs.Wholes.{inside_of}
use Rattle.raw_rows.specs.Gathering.{HasPart, HasParts, HasPixelColumns, HasUnit, IsInRow, IsSpan, PutsPart, first_pixel, pixel_from, row_pixel}
use Rattle.raw_rows.specs.Lines.{kept_bytes}
use Rattle.raw_rows.specs.Raw.{ink_at, line_in, table_of}
use Rattle.raw_rows.specs.Squares.{HasColumns}
use Rattle.raw_rows.specs.declared.kept.RawRows.{RawRows}
use Rattle.raw_rows.specs.declared.spans.Span.{Span}
use Rattle.raw_rows.proofs.Cells.{amount_is}

pub in_row_of : (raw : RawRows) (p : Place) (row offset x y : ℕ) → IsPixel (shape_of (table_of raw)) x y → IsAt p row offset x y
    → IsInRow raw p row offset x
in_row_of raw p row offset x y pixel at = record {
  down = omega (arith, pixel.down, at.down);
  across = pixel.across;
  in_tile = at.in_tile;
  at = at.across;
}

-- ---- units

-- a kind of pixel of so many bytes
pub unit_is : (kind k : Kind) (unit : ℕ) → kind ≡ k → HasUnit k unit → HasUnit kind unit
unit_is kind k unit same has = let Has : Kind → Type 0 = λ k. HasUnit k unit in subst Has (sym same) has

pub few_units : (kind : Kind) → ((row_of kind).unit ≤ 4) × (1 ≤ (row_of kind).unit)
few_units Gray8 = (omega arith, omega arith)
few_units Black8 = (omega arith, omega arith)
few_units Rgb8 = (omega arith, omega arith)
few_units Black1 = (omega arith, omega arith)
few_units Cmyk8 = (omega arith, omega arith)

kept_units : (kind : Kind) (pixels : ℕ) → (kind ≡ Black1 → ⊥) → line_bytes pixels (row_of kind).bits_per_pixel ≡ (row_of kind).unit * pixels
kept_units Gray8 pixels not = omega arith
kept_units Black8 pixels not = omega arith
kept_units Rgb8 pixels not = omega arith
kept_units Black1 pixels not = absurd (not refl)
kept_units Cmyk8 pixels not = omega arith

-- what is kept of a line is its pixels' bytes
pub kept_is : (s : Separator) (unit : ℕ) → HasUnit s.kind unit → kept_bytes s ≡ unit * (s.window.left + s.window.width)
kept_is s unit has =
    kept_units s.kind (s.window.left + s.window.width) has.whole ∙ ap (λ n. n * (s.window.left + s.window.width)) (sym has.is)

-- where the bytes of a pixel are those of a line's pixel, they are that pixel
same_pixel : (kind : Kind) (bytes line : List ℕ) (start o x : ℕ) → (kind ≡ Black1 → ⊥)
    → ((d : ℕ) → d < (row_of kind).unit → get_or bytes (start + ((row_of kind).unit * o + d)) 0 ≡ get_or line ((row_of kind).unit * x + d) 0)
    → pixel_from kind bytes start o ≡ pixel_at kind line x
same_pixel Gray8 bytes line start o x not same =
    let e : start + o ≡ start + (1 * o + 0) = omega arith in
    let f : 1 * x + 0 ≡ x = omega arith in
    ap (λ b. b ∷ []) (ap (λ n. get_or bytes n 0) e ∙ same 0 (omega arith) ∙ ap (λ n. get_or line n 0) f)
same_pixel Black8 bytes line start o x not same =
    let e : start + o ≡ start + (1 * o + 0) = omega arith in
    let f : 1 * x + 0 ≡ x = omega arith in
    ap (λ b. b ∷ []) (ap (λ n. get_or bytes n 0) e ∙ same 0 (omega arith) ∙ ap (λ n. get_or line n 0) f)
same_pixel Rgb8 bytes line start o x not same =
    let e : start + 3 * o ≡ start + (3 * o + 0) = omega arith in
    let f : 3 * x + 0 ≡ 3 * x = omega arith in
    let red = ap (λ n. get_or bytes n 0) e ∙ same 0 (omega arith) ∙ ap (λ n. get_or line n 0) f in
    let green = same 1 (omega arith) in
    let blue = same 2 (omega arith) in
    cc
same_pixel Black1 bytes line start o x not same = absurd (not refl)
same_pixel Cmyk8 bytes line start o x not same =
    let e : start + 4 * o ≡ start + (4 * o + 0) = omega arith in
    let f : 4 * x + 0 ≡ 4 * x = omega arith in
    let cyan = ap (λ n. get_or bytes n 0) e ∙ same 0 (omega arith) ∙ ap (λ n. get_or line n 0) f in
    let magenta = same 1 (omega arith) in
    let yellow = same 2 (omega arith) in
    let black = same 3 (omega arith) in
    cc

-- The same with the unit as a number.
unit_pixel : (kind : Kind) (unit : ℕ) (bytes line : List ℕ) (start o x : ℕ) → HasUnit kind unit
    → ((d : ℕ) → d < unit → get_or bytes (start + (unit * o + d)) 0 ≡ get_or line (unit * x + d) 0)
    → pixel_from kind bytes start o ≡ pixel_at kind line x
unit_pixel kind unit bytes line start o x has same =
    let Same : ℕ → Type 0 = λ u. (d : ℕ) → d < u → get_or bytes (start + (u * o + d)) 0 ≡ get_or line (u * x + d) 0 in
    same_pixel kind bytes line start o x has.whole (subst Same has.is same)

-- ---- rows of bytes

-- a pixel of a row is one of its bytes' pixels, as long as these bytes are the same
same_from : (kind : Kind) (old new : List ℕ) (start o : ℕ) → o < 64
    → ((n : ℕ) → n < start + 64 * (row_of kind).unit → get_or new n 0 ≡ get_or old n 0)
    → pixel_from kind new start o ≡ pixel_from kind old start o
same_from Gray8 old new start o low same = ap (λ b. b ∷ []) (same (start + o) (omega arith))
same_from Black8 old new start o low same = ap (λ b. b ∷ []) (same (start + o) (omega arith))
same_from Rgb8 old new start o low same =
    let red = same (start + 3 * o) (omega arith) in
    let green = same (start + (3 * o + 1)) (omega arith) in
    let blue = same (start + (3 * o + 2)) (omega arith) in
    cc
same_from Black1 old new start o low same = ap (λ b. min 1 b ∷ []) (same (start + o) (omega arith))
same_from Cmyk8 old new start o low same =
    let cyan = same (start + 4 * o) (omega arith) in
    let magenta = same (start + (4 * o + 1)) (omega arith) in
    let yellow = same (start + (4 * o + 2)) (omega arith) in
    let black = same (start + (4 * o + 3)) (omega arith) in
    cc

-- one more row
pub parts_more : (raw : RawRows) (p : Place) (step n : ℕ) (old new : List ℕ) → 64 * (row_of raw.separator.kind).unit ≤ step
    → HasParts raw p step n old → PutsPart raw p n (step * n) old new → HasParts raw p step (n + 1) new
parts_more raw p step n old new room has puts r low = elim (cases_eq r n) [
  | inl here ↦ let Has : ℕ → Type 0 = λ m. HasPart raw p m new (step * m) in subst Has (sym here) puts.part
  | inr other ↦
      let below : step * (r + 1) ≤ step * n = mul-le-mul_left step (omega arith) in
      record {
        pixel = λ offset x in_row.
            same_from raw.separator.kind old new (step * r) offset in_row.in_tile (λ m few. puts.above m (omega arith))
            ∙ (has r (omega arith)).pixel offset x in_row;
      }
]

-- the pixels of a row whose bytes were copied from its line
pub part_copied : (raw : RawRows) (p : Place) (r unit start : ℕ) (span : Span) (new : List ℕ) → HasUnit raw.separator.kind unit
    → IsSpan raw p r span
    → ((k : ℕ) → k < unit * span.many → get_or new (start + unit * span.offset + k) 0 ≡ get_or (line_in raw (32 * p.j + r)) (unit * span.first + k) 0)
    → HasPart raw p r new start
part_copied raw p r unit start span new has is same = record {
  pixel = λ offset x in_row.
      let line : List ℕ = line_in raw (32 * p.j + r) in
      let q : ℕ = offset - span.offset in
      let is_offset : span.offset + q ≡ offset = omega (arith, is.from offset x in_row) in
      let is_x : span.first + q ≡ raw.separator.window.left + x = omega (arith, is.from offset x in_row, is.at offset x in_row) in
      let inside : unit * (q + 1) ≤ unit * span.many = mul-le-mul_left unit (omega (arith, is.from offset x in_row, is.to offset x in_row)) in
      unit_pixel raw.separator.kind unit new line start offset (raw.separator.window.left + x) has (λ d few.
      let place : unit * offset ≡ unit * span.offset + unit * q = omega (arith, ap (λ n. unit * n) is_offset) in
      let column : unit * (raw.separator.window.left + x) ≡ unit * span.first + unit * q = omega (arith, ap (λ n. unit * n) is_x) in
      let to : start + (unit * offset + d) ≡ start + unit * span.offset + (unit * q + d) = omega arith in
      let from : unit * span.first + (unit * q + d) ≡ unit * (raw.separator.window.left + x) + d = omega arith in
      ap (λ n. get_or new n 0) to ∙ same (unit * q + d) (omega arith) ∙ ap (λ n. get_or line n 0) from);
}

-- the pixels of a row of one bit, whose bits became bytes
pub part_of_bits : (raw : RawRows) (p : Place) (r start : ℕ) (span : Span) (new : List ℕ) → raw.separator.kind ≡ Black1
    → IsSpan raw p r span
    → ((k : ℕ) → k < span.many → min 1 (get_or new (start + span.offset + k) 0)
    ≡ worth (bit_at (get_or (line_in raw (32 * p.j + r)) ((span.first + k) / 8) 0) ((span.first + k) % 8)) 1)
    → HasPart raw p r new start
part_of_bits raw p r start span new kind is same = record {
  pixel = λ offset x in_row.
      let line : List ℕ = line_in raw (32 * p.j + r) in
      let q : ℕ = offset - span.offset in
      let place : start + offset ≡ start + span.offset + q = omega (arith, is.from offset x in_row) in
      let is_x : span.first + q ≡ raw.separator.window.left + x = omega (arith, is.from offset x in_row, is.at offset x in_row) in
      ap (λ k. pixel_from k new start offset) kind
      ∙ ap (λ n. min 1 (get_or new n 0) ∷ []) place
      ∙ ap (λ n. n ∷ []) (same q (omega (arith, is.from offset x in_row, is.to offset x in_row)))
      ∙ ap (λ n. pixel_at Black1 line n) is_x
      ∙ ap (λ k. pixel_at k line (raw.separator.window.left + x)) (sym kind);
}

-- where the window has no pixel of a row, nothing is put
pub no_part : (raw : RawRows) (p : Place) (r start : ℕ) (bytes : List ℕ) → ((offset x : ℕ) → IsInRow raw p r offset x → ⊥)
    → PutsPart raw p r start bytes bytes
no_part raw p r start bytes none = record {
  part = record { pixel = λ offset x in_row. absurd (none offset x in_row) };
  above = λ n low. refl;
}

-- a row's place is a number
pub part_at : (raw : RawRows) (p : Place) (r at start : ℕ) (bytes : List ℕ) → at ≡ start → HasPart raw p r bytes start → HasPart raw p r bytes at
part_at raw p r at start bytes same has = let Has : ℕ → Type 0 = λ n. HasPart raw p r bytes n in subst Has (sym same) has

-- the bytes of a row of a whole tile, where they stand among those of all lines
pub part_in_lines : (raw : RawRows) (p : Place) (r unit start : ℕ) → HasUnit raw.separator.kind unit → IsWhole (shape_of (table_of raw)) p
    → r < 32 → start ≡ get_or raw.index (32 * p.j + r) 0 * raw.len + unit * first_pixel raw p r
    → HasPart raw p r raw.bytes.items start
part_in_lines raw p r unit start has whole low is_start = record {
  pixel = λ offset x in_row.
      let s = raw.separator in
      let y : ℕ = 32 * p.j + r in
      let n : ℕ = get_or raw.index y 0 in
      let first : ℕ = first_pixel raw p r in
      let inside = inside_of _ _ whole in
      let is_x : s.window.left + x ≡ first + offset = omega (arith, inside.left, low, in_row.at) in
      let long = kept_is s unit has in
      let room : unit * (s.window.left + x + 1) ≤ unit * (s.window.left + s.window.width) = mul-le-mul_left unit (omega (arith, in_row.across)) in
      unit_pixel s.kind unit raw.bytes.items (line_in raw y) start offset (s.window.left + x) has (λ d few.
      let column : unit * (s.window.left + x) ≡ unit * first + unit * offset = omega (arith, ap (λ n. unit * n) is_x) in
      let place : start + (unit * offset + d) ≡ n * raw.len + (unit * (s.window.left + x) + d) = omega arith in
      ap (λ m. get_or raw.bytes.items m 0) place
      ∙ sym (row_byte raw.len n (unit * (s.window.left + x) + d) raw.bytes.items (omega (arith, raw.long, long, room))));
}

-- such a row is inside of the bytes of all lines
pub start_inside : (raw : RawRows) (p : Place) (r unit : ℕ) → HasUnit raw.separator.kind unit → IsWhole (shape_of (table_of raw)) p
    → r < 32 → unit * first_pixel raw p r + 64 * unit ≤ raw.len
start_inside raw p r unit has whole low =
    let s = raw.separator in
    let inside = inside_of _ _ whole in
    let room : unit * (first_pixel raw p r + 64) ≤ unit * (s.window.left + s.window.width) = mul-le-mul_left unit (omega (arith, inside.left, inside.right, low)) in
    omega (arith, raw.long, kept_is s unit has, room)

-- ---- columns

-- a pixel in columns is that of the row
turned : (kind : Kind) (bytes columns : List ℕ) (start o r : ℕ) → o < 64
    → ((k : ℕ) → k < 64 * (row_of kind).unit → get_or columns (32 * k + r) 0 ≡ get_or bytes (start + k) 0)
    → pixel_in kind columns o r ≡ pixel_from kind bytes start o
turned Gray8 bytes columns start o r low same = ap (λ b. b ∷ []) (same o (omega arith))
turned Black8 bytes columns start o r low same = ap (λ b. b ∷ []) (same o (omega arith))
turned Rgb8 bytes columns start o r low same =
    let red = same (3 * o) (omega arith) in
    let green = same (3 * o + 1) (omega arith) in
    let blue = same (3 * o + 2) (omega arith) in
    cc
turned Black1 bytes columns start o r low same = ap (λ b. min 1 b ∷ []) (same o (omega arith))
turned Cmyk8 bytes columns start o r low same =
    let cyan = same (4 * o) (omega arith) in
    let magenta = same (4 * o + 1) (omega arith) in
    let yellow = same (4 * o + 2) (omega arith) in
    let black = same (4 * o + 3) (omega arith) in
    cc

-- A tile's rows, turned into columns, are its columns.
pub columns_of : (raw : RawRows) (p : Place) (many : ℕ) (bytes starts columns : List ℕ) → many ≡ 64 * (row_of raw.separator.kind).unit
    → ((r : ℕ) → r < 32 → HasPart raw p r bytes (get_or starts r 0))
    → HasColumns bytes starts many columns → HasPixelColumns raw p columns
columns_of raw p many bytes starts columns is_many parts has = record {
  pixel = λ r offset x low in_row.
      turned raw.separator.kind bytes columns (get_or starts r 0) offset r in_row.in_tile (λ k few. has.at k r (omega arith) low)
      ∙ (parts r low).pixel offset x in_row;
}

-- The amounts of a tile's columns are those of the tile.
pub tile_of : (raw : RawRows) (p : Place) (columns : List ℕ) (inks : List (List ℕ)) → HasPixelColumns raw p columns
    → ((i : ℕ) (ink : Ink) → slice_get (inks_of raw.separator.inks) i ≡ Some ink → (o r : ℕ) → o < 64 → r < 32
    → tile_amount inks i (32 * o + r)
    ≡ amount_of (printer_in raw.separator) raw.separator.kind (pixel_in raw.separator.kind columns o r) ink)
    → HasTile (table_of raw) p inks
tile_of raw p columns inks has put = record {
  ink = λ i low. record {
    pixel = λ row offset x y few pixel at.
        let s = raw.separator in
        let ink : Ink = ink_at s.inks i in
        put i ink (slice_get-get_or (inks_of s.inks) i Black low) offset row at.in_tile at.in_band
        ∙ ap (λ px. amount_of (printer_in s) s.kind px ink) (has.pixel row offset x few (in_row_of raw p row offset x y pixel at))
        ∙ sym (ap (λ n. amount_of (printer_in s) s.kind (pixel_at s.kind (line_in raw n) (s.window.left + x)) ink) at.down)
        ∙ sym (amount_is raw i y x low pixel.down pixel.across);
  };
}
