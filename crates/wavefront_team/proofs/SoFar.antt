-- The dots of planes and of a slab that waits.
use Rattle.std.proofs.Common.{◌≡◌, ℕ, zero, suc, ◌+◌, ◌-◌, ◌*◌, ◌/◌, ◌%◌, ◌<◌, ◌≤◌, Bool, true, false, ltb, leb, ◌&&◌, if◌then◌else◌}
use Rattle.std.proofs.Common.{List, [], ◌∷◌, get_or, length, slice_get, None, Some, inl, inr, refl, sym, ◌∙◌, ap, arith}
use Rattle.std.proofs.lemmas.Bool.{cases_lt, le-leb, le-ltb, lt-leb, lt-ltb}
use Rattle.board_core.specs.Numbers.{number_of}
use Rattle.board_core.proofs.Numbers.{number_below}
use Rattle.dot_planes.specs.Tables.{DotTable, dot}
use Rattle.dot_planes.specs.Tiles.{tile_dot}
use Rattle.dot_planes.specs.declared.tiles.TileDots.{TileDots}
use Rattle.tile_shape.specs.Geometry.{IsAt, IsTile}
use Rattle.tile_shape.specs.declared.tiles.Place.{Place}
use Rattle.tile_shape.specs.declared.tiles.Shape.{Shape}
use Rattle.wavefront_team.specs.Dots.{IsSameDots, dots_of}
use Rattle.wavefront_team.specs.Laying.{AreTilesOf, LaysTiles}
use Rattle.wavefront_team.specs.SoFar.{CanBeLaid, bits_in, dot_so_far, dots_so_far, has_row, slab_dot}
use Rattle.wavefront_team.specs.declared.waiting.Waiting.{Waiting}
use Rattle.wavefront_team.proofs.Numbers.{Stands, stands}

-- ---- inks and columns that the planes have

none_right : (b : Bool) → b && false ≡ false
none_right true = refl
none_right false = refl

none_left : (c a b : Bool) → c ≡ false → c && a ≡ c && b
none_left c a b is = ap (λ d. d && a) is ∙ sym (ap (λ d. d && b) is)

-- what agrees in each ink and column of the planes agrees everywhere, since there is none elsewhere
agree : (i n x m : ℕ) (a b : Bool) → (i < n → x < m → a ≡ b) → (ltb i n && ltb x m) && a ≡ (ltb i n && ltb x m) && b
agree i n x m a b same = elim (cases_lt i n) [
  | inl ink ↦ elim (cases_lt x m) [
    | inl across ↦ ap (λ c. (ltb i n && ltb x m) && c) (same ink across)
    | inr past ↦
        none_left (ltb i n && ltb x m) a b (ap (λ c. ltb i n && c) (le-ltb x m (omega arith)) ∙ none_right (ltb i n))
  ]
  | inr past ↦ none_left (ltb i n && ltb x m) a b (ap (λ c. c && ltb x m) (le-ltb i n (omega arith)))
]

-- an ink and a column that the planes have
pub has : (i n x m : ℕ) (a : Bool) → i < n → x < m → (ltb i n && ltb x m) && a ≡ a
has i n x m a ink across =
    ap (λ c. (c && ltb x m) && a) (lt-ltb i n ink) ∙ ap (λ c. (true && c) && a) (lt-ltb x m across)

-- ---- rows of the slab

row_in : (w : Waiting) (y : ℕ) → w.first ≤ y → y < w.first + w.shape.height → has_row w y ≡ true
row_in w y from before =
    ap (λ c. c && ltb y (w.first + w.shape.height)) (le-leb w.first y from)
    ∙ ap (λ c. true && c) (lt-ltb y (w.first + w.shape.height) before)

row_above : (w : Waiting) (y : ℕ) → y < w.first → has_row w y ≡ false
row_above w y above = ap (λ c. c && ltb y (w.first + w.shape.height)) (lt-leb w.first y above)

row_below : (w : Waiting) (y : ℕ) → w.first + w.shape.height ≤ y → has_row w y ≡ false
row_below w y below =
    ap (λ c. leb w.first y && c) (le-ltb y (w.first + w.shape.height) below) ∙ none_right (leb w.first y)

-- ---- tiles of the slab

bits_at : (tiles : List TileDots) (n : ℕ) (d : TileDots) → n < length tiles → bits_in (slice_get tiles n) ≡ (get_or tiles n d).bits
bits_at [] n d low = absurd (omega arith)
bits_at (t ∷ tiles) zero d low = refl
bits_at (t ∷ tiles) (suc n) d low = bits_at tiles n d (omega arith)

-- the dot of a pixel of a tile
pixel_dot : (s : Shape) (tiles : List TileDots) (i row offset x y : ℕ) (p : Place) (d : TileDots) → AreTilesOf s tiles → IsTile s p
    → IsAt p row offset x y → slab_dot s tiles i y x ≡ tile_dot (get_or tiles (number_of s p) d).bits i row offset
pixel_dot s tiles i row offset x y p d are tile place =
    let r : y % 32 ≡ row = omega (arith, place.in_band, place.down) in
    let band : y / 32 ≡ p.j = omega (arith, place.in_band, place.down) in
    let across : x + 2 * (y % 32) ≡ 64 * p.c + offset = omega (arith, r, place.across) in
    let column : (x + 2 * (y % 32)) / 64 ≡ p.c = omega (arith, across, place.in_tile) in
    let o : (x + 2 * (y % 32)) % 64 ≡ offset = omega (arith, across, place.in_tile) in
    let T : ℕ → ℕ → ℕ → ℕ → Bool = λ c j m k. tile_dot (bits_in (slice_get tiles (number_of s (record { c = c; j = j })))) i m k in
    ap (λ c. T c (y / 32) (y % 32) ((x + 2 * (y % 32)) % 64)) column
    ∙ ap (λ j. T p.c j (y % 32) ((x + 2 * (y % 32)) % 64)) band
    ∙ ap (λ k. T p.c p.j (y % 32) k) o
    ∙ ap (λ m. T p.c p.j m offset) r
    ∙ ap (λ bits. tile_dot bits i row offset) (bits_at tiles (number_of s p) d (omega (arith, number_below s p tile, are.count)))

-- ---- a slab that waits

-- once it is laid the dots are the same
pub waiting_laid : (t u : DotTable) (w : Waiting) → CanBeLaid t w
    → LaysTiles w.shape w.first (length w.tiles.items) w.tiles.items (dots_of t) (dots_of u)
    → IsSameDots (dots_so_far t (Some w)) (dots_so_far u None)
waiting_laid t u w fits lays = record {
  size = record { width = lays.size.width; rows = lays.size.rows; inks = lays.size.inks };
  dots = λ i y x low.
      ap (λ n. (ltb i n && ltb x u.width) && dot u i y x) lays.size.inks
      ∙ ap (λ m. (ltb i t.inks && ltb x m) && dot u i y x) lays.size.width
      ∙ agree i t.inks x t.width (dot u i y x) (dot_so_far t (Some w) i y x) (λ ink across. in_row i y x low ink across);
}
  where
    in_row : (i y x : ℕ) → y < t.rows → i < t.inks → x < t.width → dot u i y x ≡ dot_so_far t (Some w) i y x
    in_row i y x low ink across =
        let S : Bool = slab_dot w.shape w.tiles.items i (y - w.first) x in
        let outside : has_row w y ≡ false → dot t i y x ≡ dot_so_far t (Some w) i y x =
        λ is. sym (ap (λ c. if c then S else dot t i y x) is) in
        elim (cases_lt y w.first) [
          | inl above ↦ lays.others i y x low (inl above) ∙ outside (row_above w y above)
          | inr from ↦ elim (cases_lt y (w.first + w.shape.height)) [
            | inl before ↦
                let n : ℕ = y - w.first in
                let row : w.first + n ≡ y = omega (arith, from) in
                let here : Stands w.shape x n = stands w.shape x n (omega (arith, fits.width)) (omega (arith, from)) in
                let d : TileDots = record { place = here.p; bits = [] } in
                ap (λ m. dot u i m x) (sym row)
                ∙ lays.pixels i here.row here.offset x n here.p d ink here.tile
                (omega (arith, number_below w.shape here.p here.tile, fits.tiles.count))
                (record { across = omega (arith, fits.width); down = omega (arith, from) }) here.place
                ∙ sym (pixel_dot w.shape w.tiles.items i here.row here.offset x n here.p d fits.tiles here.tile here.place)
                ∙ sym (ap (λ c. if c then S else dot t i y x) (row_in w y (omega (arith, from)) before))
            | inr past ↦ lays.others i y x low (inr (omega (arith, past))) ∙ outside (row_below w y (omega (arith, past)))
          ]
        ]

-- from when on it waits, its rows have its dots
pub slab_waits : (t : DotTable) (w : Waiting) → CanBeLaid t w
    → LaysTiles w.shape w.first (length w.tiles.items) w.tiles.items (dots_so_far t None) (dots_so_far t (Some w))
slab_waits t w fits = record {
  size = record { width = refl; rows = refl; inks = refl };
  pixels = λ i row offset x y p d ink tile low pixel place.
      let S : ℕ → Bool = λ n. slab_dot w.shape w.tiles.items i n x in
      let here : w.first + y - w.first ≡ y = omega arith in
      has i t.inks x t.width (dot_so_far t (Some w) i (w.first + y) x) ink (omega (arith, pixel.across, fits.width))
      ∙ ap (λ c. if c then S (w.first + y - w.first) else dot t i (w.first + y) x)
      (row_in w (w.first + y) (omega arith) (omega (arith, pixel.down)))
      ∙ ap S here
      ∙ pixel_dot w.shape w.tiles.items i row offset x y p d fits.tiles tile place;
  others = λ i y x low beside.
      let S : Bool = slab_dot w.shape w.tiles.items i (y - w.first) x in
      ap (λ c. (ltb i t.inks && ltb x t.width) && (if c then S else dot t i y x)) (elim beside [
        | inl above ↦ row_above w y above
        | inr below ↦ row_below w y below
      ]);
}
