-- Planes take the dots of a tile, row by row and ink by ink.
use Rattle.std.proofs.Common.{◌≡◌, ◌≢◌, ◌⊎◌, ℕ, ◌+◌, ◌-◌, ◌*◌, ◌/◌, ◌%◌, ◌<◌, ◌≤◌, false, List, [], length, get_or, map, min}
use Rattle.std.proofs.Common.{replicate, slice_index_or, sym, ◌∙◌, ap, arith, inl, inr, refl}
use Rattle.std.proofs.lemmas.Bool.{cases_eq, cases_lt}
use Rattle.base_definitions.specs.Packed.{bit_at}
use Rattle.base_definitions.specs.Counting.{count_from}
use Rattle.std.proofs.lemmas.List.{get_or-replicate, get_or_past, length-replicate}
use Rattle.tile_shape.specs.declared.tiles.Place.{Place}
use Rattle.dot_planes.specs.Tables.{DotTable, HasSizeOf, IsPackedRow, PutsRow, dot, row_at, row_dot, row_len}
use Rattle.dot_planes.specs.Tiles.{IsInRow, IsTilePixel, PutsDots, PutsInk, PutsTile, PutsTileRow, tile_dot}
use Rattle.dot_planes.proofs.PackedRows.{no_bit, counted-len, dot_of_packed, row_packed}
use Rattle.dot_planes.proofs.RowBytes.{row_byte, zero_at}

-- ---- a row of a tile

-- the row that has taken them is a packed row
pub taken_packed : (width c r : ℕ) (dots old new : List ℕ) → length old ≡ row_len width → ((k : ℕ) → get_or new k 0 < 256)
    → ((x : ℕ) → width ≤ x → row_dot old x ≡ false) → PutsDots width c r width dots old new → IsPackedRow width new
taken_packed width c r dots old new len bytes spare p = record {
  dots = map (row_dot new) (count_from 0 width);
  width_is = counted-len (row_dot new) 0 width;
  is = row_packed width new (p.len ∙ len) bytes (λ x past. p.others x (λ offset before q. let no : ⊥ = omega arith in no) ∙ spare x past);
}

-- So planes in which it is put have the tile's dots.
pub puts_tile_row : (old new : DotTable) (i y c r : ℕ) (dots row put : List ℕ) → PutsRow old new i y put → IsPackedRow old.width put
    → ((x : ℕ) → dot old i y x ≡ row_dot row x) → PutsDots old.width c r old.width dots row put → PutsTileRow old new i y c r dots
puts_tile_row old new i y c r dots row put p packed_row before t =
    let has : (x : ℕ) → dot new i y x ≡ row_dot put x = λ x. p.row packed_row.dots packed_row.width_is packed_row.is x
    ∙ sym (dot_of_packed packed_row.dots put x packed_row.is) in
    record {
      size = p.size;
      pixels = λ offset x q. has x ∙ t.pixels offset x q.in_window q;
      beside = λ x none. has x ∙ t.others x (λ offset _. none offset) ∙ sym (before x);
      others = p.others;
    }

-- ---- the rows of a tile, in one ink

-- An ink has the pixels of a tile in its rows before row `end`.
pub record PutsRows (old new : DotTable) (first height : ℕ) (p : Place) (i end : ℕ) (bytes : List ℕ) : Type 0 where
  pub size : HasSizeOf old new
  pub pixels : (row offset y x : ℕ)
      → row < end → IsTilePixel old first height p row offset y x → dot new i y x ≡ row_dot bytes (64 * row + offset)
  pub others : (j y x : ℕ) → y < old.rows → (j ≢ i) ⊎ ((row offset : ℕ)
      → row < end → ¬ IsTilePixel old first height p row offset y x) → dot new j y x ≡ dot old j y x

-- the bytes of a row of a tile
pub row_of_tile : (bytes row : List ℕ) (r offset : ℕ)
    → row ≡ row_at 8 bytes r → offset < 64 → row_dot row offset ≡ row_dot bytes (64 * r + offset)
row_of_tile bytes row r offset is inside =
    let byte : r * 8 + offset / 8 ≡ (64 * r + offset) / 8 = omega arith in
    let bit : offset % 8 ≡ (64 * r + offset) % 8 = omega arith in
    ap (λ (bs : List ℕ). row_dot bs offset) is
    ∙ ap (λ b. bit_at b (offset % 8)) (row_byte 8 r (offset / 8) bytes (omega arith) ∙ ap (λ k. get_or bytes k 0) byte)
    ∙ ap (bit_at (get_or bytes ((64 * r + offset) / 8) 0)) bit

pub same_size : (a b c : DotTable) → HasSizeOf a b → HasSizeOf b c → HasSizeOf a c
same_size a b c p q = record { width = q.width ∙ p.width; rows = q.rows ∙ p.rows; inks = q.inks ∙ p.inks }

pub rows_more : (old mid new : DotTable) (first height : ℕ) (p : Place) (i r : ℕ) (bytes dots : List ℕ)
    → 32 * p.j + r < height → r < 32 → first + height ≤ old.rows → dots ≡ row_at 8 bytes r
    → PutsRows old mid first height p i r bytes
    → PutsTileRow mid new i (first + (32 * p.j + r)) p.c r dots → PutsRows old new first height p i (r + 1) bytes
rows_more old mid new first height p i r bytes dots inside low room is before now =
    let y0 : ℕ = first + (32 * p.j + r) in
    let kept : (j y x : ℕ) → y < old.rows → (j ≢ i) ⊎ (y ≢ y0) → dot new j y x ≡ dot mid j y x =
    λ j y x down other. now.others j y other (omega (arith, before.size.rows)) x in
    let width : mid.width ≡ old.width = before.size.width in
    record {
      size = same_size old mid new before.size now.size;
      pixels = λ row offset y x upto q.
          let down : y < old.rows = omega (arith, q.down, q.pixel.down) in
          elim (cases_eq row r) [
            | inl here ↦
                let y_is : y ≡ y0 = omega (arith, q.down, q.place.down) in
                let row_is : 64 * r + offset ≡ 64 * row + offset = omega arith in
                let in_here : IsInRow mid.width p.c r offset x = record {
                  in_tile = q.place.in_tile;
                  in_window = omega (arith, q.pixel.across);
                  across = omega (arith, q.place.across);
                } in
                ap (λ n. dot new i n x) y_is ∙ now.pixels offset x in_here
                ∙ row_of_tile bytes dots r offset is q.place.in_tile ∙ ap (row_dot bytes) row_is
            | inr differs ↦
                let y_differs : y ≢ y0 = omega (arith, q.down, q.place.down) in
                kept i y x down (inr y_differs) ∙ before.pixels row offset y x (omega arith) q
          ];
      others = λ j y x down where_is. elim where_is [
        | inl ink ↦ kept j y x down (inl ink) ∙ before.others j y x down (inl ink)
        | inr none ↦
            let fewer : (row offset : ℕ) → row < r → ¬ IsTilePixel old first height p row offset y x =
            λ row offset low q. none row offset (omega arith) q in
            let past : dot mid j y x ≡ dot old j y x = before.others j y x down (inr fewer) in
            elim (cases_eq y y0) [
              | inr differs ↦ kept j y x down (inr differs) ∙ past
              | inl row_here ↦ elim (cases_eq j i) [
                | inr ink ↦ kept j y x down (inl ink) ∙ past
                | inl ink_here ↦
                    let beside : (offset : ℕ) → ¬ IsInRow mid.width p.c r offset x = λ offset q. none r offset (omega arith) (record {
                      slab_row = 32 * p.j + r;
                      down = row_here;
                      pixel = record { across = omega (arith, q.in_window); down = inside };
                      place = record { in_band = low; in_tile = q.in_tile; down = refl; across = q.across };
                    }) in
                    ap (λ k. dot new k y x) ink_here ∙ ap (λ n. dot new i n x) row_here ∙ now.beside x beside
                    ∙ ap (λ n. dot mid i n x) (sym row_here) ∙ ap (λ k. dot mid k y x) (sym ink_here) ∙ past
              ]
            ]
      ];
    }

-- all rows of a tile that the slab has
pub all_rows : (old new : DotTable) (first height : ℕ) (p : Place) (i : ℕ) (bytes : List ℕ) (end : ℕ) → end ≡ min (height - 32 * p.j) 32
    → PutsRows old new first height p i end bytes → PutsInk old new first height p i bytes
all_rows old new first height p i bytes end end_is r = record {
  size = r.size;
  pixels = λ row offset y x q. r.pixels row offset y x (omega (arith, q.place.in_band, q.place.down, q.pixel.down)) q;
  others = λ j y x down where_is. r.others j y x down (elim where_is [
    | inl ink ↦ inl ink
    | inr none ↦ inr (λ row offset _. none row offset)
  ]);
}

-- ---- the inks of a tile

-- The inks before one have the pixels of a tile.
pub record PutsInks (old new : DotTable) (first height : ℕ) (p : Place) (end : ℕ) (bits : List (List ℕ)) : Type 0 where
  pub size : HasSizeOf old new
  pub pixels : (i row offset y x : ℕ) → i < end → IsTilePixel old first height p row offset y x → dot new i y x ≡ tile_dot bits i row offset
  pub others : (i y x : ℕ) → y < old.rows → (end ≤ i)
      ⊎ ((row offset : ℕ) → ¬ IsTilePixel old first height p row offset y x) → dot new i y x ≡ dot old i y x

same_pixel : (t u : DotTable) (first height : ℕ) (p : Place) (row offset y x : ℕ)
    → u.width ≡ t.width → IsTilePixel t first height p row offset y x → IsTilePixel u first height p row offset y x
same_pixel t u first height p row offset y x same q = grind arith

pub inks_more : (old mid new : DotTable) (first height : ℕ) (p : Place) (n : ℕ) (bytes : List ℕ) (bits : List (List ℕ))
    → first + height ≤ old.rows → ((k : ℕ) → row_dot bytes k ≡ row_dot (slice_index_or bits n []) k)
    → PutsInks old mid first height p n bits → PutsInk mid new first height p n bytes → PutsInks old new first height p (n + 1) bits
inks_more old mid new first height p n bytes bits room is before now =
    let width : mid.width ≡ old.width = before.size.width in
    let back : old.width ≡ mid.width = sym width in
    let kept : (i y x : ℕ) → y < old.rows → i ≢ n → dot new i y x ≡ dot mid i y x =
    λ i y x down other. now.others i y x (omega (arith, before.size.rows)) (inl other) in
    record {
      size = same_size old mid new before.size now.size;
      pixels = λ i row offset y x upto q.
          let down : y < old.rows = omega (arith, q.down, q.pixel.down) in
          elim (cases_eq i n) [
            | inl here ↦
                ap (λ k. dot new k y x) here
                ∙ now.pixels row offset y x (same_pixel old mid first height p row offset y x width q)
                ∙ is (64 * row + offset)
                ∙ ap (λ k. tile_dot bits k row offset) (sym here)
            | inr differs ↦ kept i y x down differs ∙ before.pixels i row offset y x (omega arith) q
          ];
      others = λ i y x down where_is. elim where_is [
        | inl past ↦ kept i y x down (omega arith) ∙ before.others i y x down (inl (omega arith))
        | inr none ↦
            now.others i y x (omega (arith, before.size.rows))
            (inr (λ row offset q. none row offset (same_pixel mid old first height p row offset y x back q)))
            ∙ before.others i y x down (inr none)
      ];
    }

pub all_inks : (old new : DotTable) (first height : ℕ) (p : Place) (bits : List (List ℕ)) (end : ℕ) → end ≡ old.inks
    → PutsInks old new first height p end bits → PutsTile old new first height p bits
all_inks old new first height p bits end end_is r = grind arith

-- ---- no dots

-- bytes that are all 0
pub blank_bytes : (many n : ℕ) → row_dot (replicate {A = ℕ} many 0) n ≡ false
blank_bytes many n = ap (λ b. bit_at b (n % 8)) (zero_at many (n / 8)) ∙ no_bit (n % 8)

pub no_dot : (n : ℕ) → row_dot [] n ≡ false
no_dot n = no_bit (n % 8)

pub blank_bits : (many : ℕ) (bits : List (List ℕ)) (ink row offset : ℕ)
    → bits ≡ replicate many (replicate {A = ℕ} 256 0) → tile_dot bits ink row offset ≡ false
blank_bits many bits ink row offset is = elim (cases_lt ink many) [
  | inl low ↦
      ap (λ (bs : List (List ℕ)). row_dot (slice_index_or bs ink []) (64 * row + offset)) is
      ∙ ap (λ (bs : List ℕ). row_dot bs (64 * row + offset)) (get_or-replicate many ink (replicate {A = ℕ} 256 0) [] low)
      ∙ blank_bytes 256 (64 * row + offset)
  | inr high ↦
      ap (λ (bs : List (List ℕ)). row_dot (slice_index_or bs ink []) (64 * row + offset)) is
      ∙ ap (λ (bs : List ℕ). row_dot bs (64 * row + offset)) (get_or_past (replicate many (replicate {A = ℕ} 256 0))
      ink [] (omega (arith, length-replicate many (replicate {A = ℕ} 256 0))))
      ∙ no_dot (64 * row + offset)
]
