-- The loop over the bands: each step puts the tiles of one more into the planes.
use Rattle.std.proofs.Common.{◌≡◌, ℕ, ◌+◌, ◌*◌, ◌<◌, ◌≤◌, List, get_or, length, take, drop, inl, inr, refl, ◌∙◌, ap, arith}
use Rattle.std.proofs.Math.Nat.{mul-le-mul_right}
use Rattle.std.proofs.lemmas.Bool.{cases_lt}
use Rattle.std.proofs.lemmas.List.{get_or-drop, get_or-take}
use Rattle.board_core.proofs.Numbers.{row_more}
use Rattle.dot_planes.specs.Bands.{PutsBand}
use Rattle.dot_planes.specs.Tables.{DotTable}
use Rattle.dot_planes.specs.Tiles.{tile_dot}
use Rattle.dot_planes.specs.declared.tiles.TileDots.{TileDots}
use Rattle.tile_shape.specs.Geometry.{bands_of, columns_of}
use Rattle.tile_shape.specs.declared.tiles.Shape.{Shape}
use Rattle.wavefront_team.specs.Dots.{dots_of}
use Rattle.wavefront_team.specs.Laying.{AreTilesOf, LaysTiles}

-- ---- the tiles of a band

-- a band ends before the tiles do
pub band_inside : (s : Shape) (tiles : List TileDots) (j : ℕ)
    → AreTilesOf s tiles → j < bands_of s → j * columns_of s + columns_of s ≤ length tiles
band_inside s tiles j are inside =
    let rows : (j + 1) * columns_of s ≤ bands_of s * columns_of s = mul-le-mul_right (columns_of s) (omega arith) in
    omega (arith, rows, row_more (columns_of s) j, are.count)

part_at : (tiles : List TileDots) (first many c : ℕ) (d : TileDots)
    → c < many → get_or (take many (drop first tiles)) c d ≡ get_or tiles (first + c) d
part_at tiles first many c d inside = get_or-take many (drop first tiles) c d inside ∙ get_or-drop first tiles c d

-- ---- the loop

pub lays_none : (s : Shape) (first : ℕ) (tiles : List TileDots) (t : DotTable) → LaysTiles s first (0 * columns_of s) tiles (dots_of t) (dots_of t)
lays_none s first tiles t = record {
  size = record { width = refl; rows = refl; inks = refl };
  pixels = λ i row offset x y p d ink tile low. absurd (omega arith);
  others = λ i y x low beside. refl;
}

pub lays_more : (s : Shape) (at j first many : ℕ) (tiles : List TileDots) (old mid new : DotTable)
    → old.width ≡ s.width → at + s.height ≤ old.rows → first ≡ j * columns_of s → many ≡ columns_of s
    → LaysTiles s at (j * columns_of s) tiles (dots_of old) (dots_of mid)
    → PutsBand mid new at s.height j (take many (drop first tiles))
    → LaysTiles s at ((j + 1) * columns_of s) tiles (dots_of old) (dots_of new)
lays_more s at j first many tiles old mid new wide tall first_is many_is lays puts =
    let more : (j + 1) * columns_of s ≡ j * columns_of s + columns_of s = row_more (columns_of s) j in
    record {
      size = record {
        width = puts.size.width ∙ lays.size.width;
        rows = puts.size.rows ∙ lays.size.rows;
        inks = puts.size.inks ∙ lays.size.inks;
      };
      pixels = λ i row offset x y p d ink tile before pixel place. elim (cases_lt p.j j) [
        | inl above ↦
            let rows : (p.j + 1) * columns_of s ≤ j * columns_of s = mul-le-mul_right (columns_of s) (omega arith) in
            puts.others i (at + y) x (omega (arith, pixel.down, lays.size.rows)) (inl (omega (arith, place.down, place.in_band)))
            ∙ lays.pixels i row offset x y p d ink tile
            (omega (arith, rows, row_more (columns_of s) p.j, tile.column)) pixel place
        | inr not_above ↦ elim (cases_lt j p.j) [
          | inl below ↦
              let rows : (j + 1) * columns_of s ≤ p.j * columns_of s = mul-le-mul_right (columns_of s) (omega arith) in
              absurd (omega (arith, rows, more))
          | inr not_below ↦
              let same : j ≡ p.j = omega arith in
              puts.pixels i row offset p.c (at + y) x d (omega (arith, lays.size.inks)) (record {
                slab_row = y;
                down = refl;
                pixel = record { across = omega (arith, pixel.across, lays.size.width); down = pixel.down };
                place = record {
                  in_band = place.in_band;
                  in_tile = place.in_tile;
                  down = omega (arith, place.down);
                  across = place.across;
                };
              })
              ∙ ap (λ (t : TileDots). tile_dot t.bits i row offset)
              (part_at tiles first many p.c d (omega (arith, tile.column))
              ∙ ap (λ m. get_or tiles (m + p.c) d) (first_is ∙ ap (λ m. m * columns_of s) same))
        ]
      ];
      others = λ i y x down beside. puts.others i y x (omega (arith, lays.size.rows)) (elim beside [
        | inl above ↦ inl (omega arith)
        | inr below ↦ inr (inr below)
      ]) ∙ lays.others i y x down beside;
    }
