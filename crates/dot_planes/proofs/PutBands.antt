-- Planes take the dots of a band of tiles, row by row and ink by ink.
use Rattle.std.proofs.Common.{◌≡◌, ◌⊎◌, ℕ, ◌+◌, ◌-◌, ◌*◌, ◌<◌, ◌≤◌, false, List, length, get_or, map, min, refl, replicate, sym, ◌∙◌, ap, arith, inl, inr}
use Rattle.std.proofs.lemmas.Bool.{cases_eq}
use Rattle.base_definitions.specs.Counting.{count_from}
use Rattle.dot_planes.specs.Bands.{ClearsRows, HasTileRows, HaveNoDots, PutsBand, PutsBandInk, PutsBandRow}
use Rattle.dot_planes.specs.Tables.{DotTable, HasSizeOf, IsPackedRow, PutsRow, dot, row_at, row_dot, row_len}
use Rattle.dot_planes.specs.Tiles.{tile_dot}
use Rattle.dot_planes.specs.declared.tiles.TileDots.{TileDots}
use Rattle.dot_planes.proofs.PackedRows.{counted-len, dot_of_packed, row_packed}
use Rattle.dot_planes.proofs.PutDots.{dot-in}
use Rattle.dot_planes.proofs.PutTiles.{blank_bytes, same_size}

-- ---- a row

-- a row without spare dots is packed
pub wide_packed : (width : ℕ) (row : List ℕ) → length row ≡ row_len width → ((k : ℕ) → get_or row k 0 < 256)
    → ((x : ℕ) → width ≤ x → row_dot row x ≡ false) → IsPackedRow width row
wide_packed width row len bytes spare = record {
  dots = map (row_dot row) (count_from 0 width);
  width_is = counted-len (row_dot row) 0 width;
  is = row_packed width row len bytes spare;
}

-- So planes in which it is put have the band's dots.
pub puts_band_row : (old new : DotTable) (i y r : ℕ) (wide put : List ℕ) → PutsRow old new i y put → IsPackedRow old.width put
    → ((x : ℕ) → x < old.width → row_dot put x ≡ row_dot wide (x + 2 * r)) → PutsBandRow old new i y r wide
puts_band_row old new i y r wide put p packed_row is = record {
  size = p.size;
  pixels = λ x inside. p.row packed_row.dots packed_row.width_is packed_row.is x
      ∙ sym (dot_of_packed packed_row.dots put x packed_row.is) ∙ is x inside;
  others = λ k m x low other. p.others k m other low x;
}

-- ---- the rows of an ink

pub band_rows_more : (old mid new : DotTable) (first r i : ℕ) (tiles : List TileDots) (wide : List ℕ)
    → r < 32 → first + r < old.rows → old.width + 62 ≤ 64 * length tiles → HasTileRows wide tiles i r (length tiles)
    → PutsBandInk old mid first r i tiles → PutsBandRow mid new i (first + r) r wide → PutsBandInk old new first (r + 1) i tiles
band_rows_more old mid new first r i tiles wide low room enough has before now = grind (arith, cases_eq, same_size)

-- ---- the inks of a band

-- The inks before one have the first `rows` rows of a band, which begins at row `first`.
pub record PutsBandInks (old new : DotTable) (first rows end : ℕ) (tiles : List TileDots) : Type 0 where
  pub size : HasSizeOf old new
  pub pixels : (i row offset c x : ℕ) (d : TileDots) → i < end → row < rows → offset < 64 → x < old.width
      → x + 2 * row ≡ 64 * c + offset → dot new i (first + row) x ≡ tile_dot (get_or tiles c d).bits i row offset
  pub others : (i y x : ℕ) → y < old.rows → (end ≤ i) ⊎ ((y < first) ⊎ (first + rows ≤ y)) → dot new i y x ≡ dot old i y x

-- all inks
pub all_band_inks : (old new : DotTable) (at height j rows end : ℕ) (tiles : List TileDots) → end ≡ old.inks
    → rows ≡ min (height - 32 * j) 32 → 32 * j < height
    → PutsBandInks old new (at + 32 * j) rows end tiles → PutsBand old new at height j tiles
all_band_inks old new at height j rows end tiles end_is rows_is some r = record {
  size = r.size;
  pixels = λ i row offset c y x d ink q.
      let y_is : y ≡ at + 32 * j + row = omega (arith, q.down, q.place.down) in
      ap (λ n. dot new i n x) y_is
      ∙ r.pixels i row offset c x d (omega arith) (omega (arith, q.place.in_band, q.place.down, q.pixel.down))
      q.place.in_tile q.pixel.across q.place.across;
  others = λ i y x down where_is. r.others i y x down (inr (elim where_is [
    | inl above ↦ inl above
    | inr rest ↦ inr (elim rest [ inl below ↦ omega arith | inr past ↦ omega arith ])
  ]));
}

-- ---- rows without dots

-- a row more
pub clears_more : (old mid new : DotTable) (i first r : ℕ) → first + r < old.rows
    → ClearsRows old mid i first r → ClearsRows mid new i (first + r) 1 → ClearsRows old new i first (r + 1)
clears_more old mid new i first r room before now = grind (arith, cases_eq, same_size)

-- Where no tile has a dot, the rows of a band have none.
pub clears_band : (old new : DotTable) (first rows i : ℕ) (tiles : List TileDots) → rows ≤ 32 → old.width + 62 ≤ 64 * length tiles
    → HaveNoDots tiles i (length tiles) → ClearsRows old new i first rows → PutsBandInk old new first rows i tiles
clears_band old new first rows i tiles low enough dotless it = record {
  size = it.size;
  pixels = λ row offset c x d down in_tile across place.
      it.none (first + row) x (omega arith) (omega (arith, down)) across
      ∙ sym (dotless.none c (64 * row + offset) d (omega (arith, down, low, across, place, enough)));
  others = it.others;
}

-- a row that is put without dots
pub clears_put : (old new : DotTable) (i y : ℕ) (put : List ℕ) → PutsRow old new i y put → IsPackedRow old.width put
    → ((x : ℕ) → row_dot put x ≡ false) → ClearsRows old new i y 1
clears_put old new i y put p packed_row none_on = record {
  size = p.size;
  none = λ r x from to inside.
      ap (λ n. dot new i n x) (omega (arith, from, to))
      ∙ p.row packed_row.dots packed_row.width_is packed_row.is x
      ∙ sym (dot_of_packed packed_row.dots put x packed_row.is) ∙ none_on x;
  others = λ k m x low other. p.others k m (elim other [
    | inl ink ↦ inl ink
    | inr rest ↦ inr (elim rest [ inl above ↦ (λ same. absurd (omega (arith, same, above))) | inr past ↦ (λ same. absurd (omega (arith, same, past))) ])
  ]) low x;
}

-- a row that is blank already
pub clears_unstored : (t : DotTable) (i y : ℕ) → row_at (row_len t.width) t.bytes (y * t.inks + i) ≡ replicate (row_len t.width) 0
    → i < t.inks → ClearsRows t t i y 1
clears_unstored t i y blank ink = record {
  size = record { width = refl; rows = refl; inks = refl };
  none = λ r x from to inside.
      ap (λ n. dot t i n x) (omega (arith, from, to)) ∙ dot-in t i y x ink ∙ ap (λ (row : List ℕ). row_dot row x) blank
      ∙ blank_bytes (row_len t.width) x;
  others = λ k m x low other. refl;
}
