-- Tiles that are white: all their pixels have the same amounts.
use Rattle.std.proofs.Common.{Bool, IsTrue, ◌↔◌, ℕ, ◌≡◌, ◌+◌, ◌-◌, ◌*◌, ◌/◌, ◌%◌, ◌<◌, ◌≤◌, List, [], ◌∷◌, ap, arith, get_or, length, subst, sym, ◌∙◌}
use Rattle.std.proofs.lemmas.Option.{slice_get-get_or}
use Rattle.base_definitions.specs.Packed.{bit_at, worth}
use Rattle.dot_planes.specs.Gathered.{HasNoAmounts, shape_of}
use Rattle.dot_planes.proofs.PackedRows.{no_bit}
use Rattle.ink_separation.specs.Columns.{white_pixel}
use Rattle.ink_separation.specs.Separators.{printer_in}
use Rattle.printer_definitions.specs.Inks.{inks_of}
use Rattle.printer_definitions.specs.declared.inks.Ink.{Ink}
use Rattle.printer_definitions.specs.declared.inks.Ink.TheVariants.{Black}
use Rattle.pwg_definitions.specs.Header.{line_bytes, row_of}
use Rattle.pwg_definitions.specs.declared.pages.Kind.{Kind}
use Rattle.pwg_definitions.specs.declared.pages.Kind.TheVariants.{Gray8, Black8, Rgb8, Black1, Cmyk8}
use Rattle.separation_definitions.specs.Amounts.{amount as amount_of, pixel_at}
use Rattle.tile_shape.specs.Geometry.{IsWhole}
use Rattle.tile_shape.specs.declared.tiles.Place.{Place}
use Rattle.tile_shape.proofs.Wholes.{inside_of}
use Rattle.raw_rows.specs.Gathering.{AreWhiteBand, AreWhiteRows, HasWhitePixels, IsInRow, IsPart, IsWhiteRow, first_pixel, part_bytes}
use Rattle.raw_rows.specs.Lines.{IsFree, first_byte, pixels_before, white_byte}
use Rattle.raw_rows.specs.Raw.{ink_at, line_in, table_of}
use Rattle.raw_rows.specs.declared.kept.RawRows.{RawRows}
use Rattle.raw_rows.proofs.Cells.{amount_is}
use Rattle.raw_rows.proofs.TileRows.{in_row_of}

-- the bytes of 64 pixels from pixel x on are white
abbrev pub AreWhite : Kind → ℕ → List ℕ → Type 0
AreWhite kind x part =
    (k : ℕ) → k < line_bytes (pixels_before kind x + 64) (row_of kind).bits_per_pixel → get_or part k 0 ≡ white_byte kind

-- A test of the bytes of a row is one of the row. The kind is that of the rows.
pub row_test : (raw : RawRows) (p : Place) (r : ℕ) (kind : Kind) (part : List ℕ) (b : Bool) → kind ≡ raw.separator.kind → IsPart raw p r part
    → (IsTrue b ↔ AreWhite kind (first_pixel raw p r) part) → (IsTrue b ↔ IsWhiteRow raw p r)
row_test raw p r kind part b same is test =
    let White : Kind → Type 0 = λ kind. AreWhite kind (first_pixel raw p r) part in (
      λ yes. record { byte = λ k low. sym (is.byte k low) ∙ (subst White same (test.0 yes)) k low },
      λ white. test.1 (subst White (sym same) (λ k low. is.byte k low ∙ white.byte k low)),
    )

-- a part is as long as the 64 pixels of its kind
pub part_long : (raw : RawRows) (p : Place) (r : ℕ) (kind : Kind) (part : List ℕ) → kind ≡ raw.separator.kind
    → length part ≡ part_bytes raw (first_pixel raw p r)
    → length part ≡ line_bytes (pixels_before kind (first_pixel raw p r) + 64) (row_of kind).bits_per_pixel
part_long raw p r kind part same long =
    long ∙ ap (λ kind. line_bytes (pixels_before kind (first_pixel raw p r) + 64) (row_of kind).bits_per_pixel) (sym same)

-- a pixel whose bytes are white is white
white_at : (kind : Kind) (line : List ℕ) (x : ℕ)
    → ((d : ℕ) → d < (row_of kind).unit → get_or line (first_byte kind x + d) 0 ≡ white_byte kind)
    → pixel_at kind line x ≡ white_pixel kind
white_at Gray8 line x white = ap (λ b. b ∷ []) (ap (λ n. get_or line n 0) (let e : x ≡ x + 0 = omega arith in e) ∙ white 0 (omega arith))
white_at Black8 line x white = ap (λ b. b ∷ []) (ap (λ n. get_or line n 0) (let e : x ≡ x + 0 = omega arith in e) ∙ white 0 (omega arith))
white_at Rgb8 line x white =
    let first : 3 * x ≡ 3 * x + 0 = omega arith in
    let red = ap (λ n. get_or line n 0) first ∙ white 0 (omega arith) in
    let green = white 1 (omega arith) in
    let blue = white 2 (omega arith) in
    cc
white_at Black1 line x white =
    let first : x / 8 ≡ x / 8 + 0 = omega arith in
    ap (λ b. worth (bit_at b (x % 8)) 1 ∷ []) (ap (λ n. get_or line n 0) first ∙ white 0 (omega arith))
    ∙ ap (λ b. worth b 1 ∷ []) (no_bit (x % 8))
white_at Cmyk8 line x white =
    let first : 4 * x ≡ 4 * x + 0 = omega arith in
    let cyan = ap (λ n. get_or line n 0) first ∙ white 0 (omega arith) in
    let magenta = white 1 (omega arith) in
    let yellow = white 2 (omega arith) in
    let black = white 3 (omega arith) in
    cc

-- the bytes of one of 64 pixels are among the bytes of these
among : (kind : Kind) (x k d : ℕ) → k < 64 → d < (row_of kind).unit
    → (first_byte kind x ≤ first_byte kind (x + k) + d)
    × (first_byte kind (x + k) + d < first_byte kind x + line_bytes (pixels_before kind x + 64) (row_of kind).bits_per_pixel)
among Gray8 x k d low few = (omega arith, omega arith)
among Black8 x k d low few = (omega arith, omega arith)
among Rgb8 x k d low few = (omega arith, omega arith)
among Black1 x k d low few = (omega arith, omega arith)
among Cmyk8 x k d low few = (omega arith, omega arith)

-- the bytes of a pixel are among those that are kept of a line
kept_among : (kind : Kind) (pixels x d : ℕ) → x < pixels → d < (row_of kind).unit
    → first_byte kind x + d < line_bytes pixels (row_of kind).bits_per_pixel
kept_among Gray8 pixels x d low few = omega arith
kept_among Black8 pixels x d low few = omega arith
kept_among Rgb8 pixels x d low few = omega arith
kept_among Black1 pixels x d low few = omega arith
kept_among Cmyk8 pixels x d low few = omega arith

-- the pixels of a white tile are white
pub white_tile : (raw : RawRows) (p : Place) → IsWhole (shape_of (table_of raw)) p → AreWhiteRows raw p 32 → HasWhitePixels raw p
white_tile raw p whole white = record {
  pixel = λ r offset x low in_row.
      let s = raw.separator in
      let first : ℕ = first_pixel raw p r in
      let inside = inside_of _ _ whole in
      let column : s.window.left + x ≡ first + offset = omega (arith, inside.left, low, in_row.at) in
      let line : List ℕ = line_in raw (32 * p.j + r) in
      ap (λ n. pixel_at s.kind line n) column ∙ white_at s.kind line (first + offset) (λ d few.
      let span = among s.kind first offset d in_row.in_tile few in
      let n : ℕ = first_byte s.kind (first + offset) + d - first_byte s.kind first in
      let place : first_byte s.kind (first + offset) + d ≡ first_byte s.kind first + n = omega (arith, span.0) in
      ap (λ m. get_or line m 0) place ∙ (white r low).byte n (omega (arith, span.0, span.1)));
}

-- and so are those of a band whose rows are flagged
pub white_band : (raw : RawRows) (p : Place) → AreWhiteBand raw p.j → HasWhitePixels raw p
white_band raw p band = record {
  pixel = λ r offset x low in_row.
      let s = raw.separator in
      let line : List ℕ = line_in raw (32 * p.j + r) in
      let white = raw.flagged (32 * p.j + r) (omega (arith, band.room, low)) (band.row r low) in
      white_at s.kind line (s.window.left + x) (λ d few.
      let inside = kept_among s.kind (s.window.left + s.window.width) (s.window.left + x) d (omega (arith, in_row.across)) few in
      white (first_byte s.kind (s.window.left + x) + d) (omega (arith, inside, raw.long)));
}

-- white pixels that are free have no amounts
pub no_amounts : (raw : RawRows) (p : Place) → IsFree raw.separator → HasWhitePixels raw p → HasNoAmounts (table_of raw) p
no_amounts raw p free white = record {
  ink = λ i low. record {
    pixel = λ row offset x y pixel at.
        let s = raw.separator in
        let ink : Ink = ink_at s.inks i in
        let in_row : IsInRow raw p row offset x = in_row_of raw p row offset x y pixel at in
        amount_is raw i y x low pixel.down pixel.across
        ∙ ap (λ n. amount_of (printer_in s) s.kind (pixel_at s.kind (line_in raw n) (s.window.left + x)) ink) at.down
        ∙ ap (λ px. amount_of (printer_in s) s.kind px ink) (white.pixel row offset x at.in_band in_row)
        ∙ free i ink (slice_get-get_or (inks_of s.inks) i Black low);
  };
}
