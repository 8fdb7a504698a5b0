-- Rows of a tile, gathered one after the other.
use Rattle.std.proofs.Common.{ℕ, ◌≡◌, ◌≢◌, ◌+◌, ◌*◌, ◌<◌, ◌≤◌, ◌∙◌, List, ap, arith, get_or, length, refl, set, sym}
use Rattle.std.proofs.Common.{get_or-set_other, get_or-set_same}
use Rattle.std.proofs.lemmas.Bool.{cases_eq}
use Rattle.tile_shape.specs.Geometry.{IsAt, IsPixel}
use Rattle.tile_shape.specs.declared.tiles.Place.{Place}
use Rattle.tile_shape.specs.declared.tiles.Shape.{Shape}
use Rattle.dot_planes.specs.Gathered.{GathersRow, HasInks, HasPixels, HasRows, shape_of}
use Rattle.dot_planes.specs.Tables.{AmountTable, amount}

-- no rows
pub no_rows : (s : Shape) (f : ℕ → ℕ → ℕ) (p : Place) (tile : List ℕ) → HasRows s f p 0 tile
no_rows s f p tile = record { pixel = λ row offset x y low pixel at. absurd (omega arith) }

-- one more row
pub row_more : (s : Shape) (f : ℕ → ℕ → ℕ) (p : Place) (n : ℕ) (old new : List ℕ) → n < 32 → HasRows s f p n old
    → GathersRow s f p n old new → HasRows s f p (n + 1) new
row_more s f p n old new low has gathers = grind (arith, cases_eq)

-- one more ink
pub ink_more : (a : AmountTable) (p : Place) (n at : ℕ) (inks : List (List ℕ)) (tile : List ℕ) → at ≡ n → at < length inks
    → HasPixels (shape_of a) (amount a n) p tile → HasInks a p n inks → HasInks a p (n + 1) (set inks at tile)
ink_more a p n at inks tile is_at room here has = grind (arith, cases_eq, get_or-set_other, get_or-set_same)

-- The row of a window that is scattered, at offsets from `from` to before `to`.
pub record Scatters (row old new : List ℕ) (c r from to : ℕ) : Type 0 where
  pub part : (o x : ℕ) → from ≤ o → o < to → x + 2 * r ≡ 64 * c + o → get_or new (32 * o + r) 0 ≡ get_or row x 0
  pub others : (s o : ℕ) → s < 32 → s ≢ r → get_or new (32 * o + s) 0 ≡ get_or old (32 * o + s) 0

-- one offset more
pub offset_more : (row old now : List ℕ) (c r from to x : ℕ) → r < 32 → from ≤ to → x + 2 * r ≡ 64 * c + to
    → 32 * to + r < length now → Scatters row old now c r from to
    → Scatters row old (set now (32 * to + r) (get_or row x 0)) c r from (to + 1)
offset_more row old now c r from to x low order is room has =
    grind (arith, cases_eq, get_or-set_other, get_or-set_same)

-- a row that is scattered as far as the window goes
pub part_gathers : (s : Shape) (f : ℕ → ℕ → ℕ) (p : Place) (r from to : ℕ) (row old new : List ℕ)
    → ((x : ℕ) → get_or row x 0 ≡ f (32 * p.j + r) x)
    → ((o x : ℕ) → o < 64 → x < s.width → x + 2 * r ≡ 64 * p.c + o → from ≤ o)
    → ((o x : ℕ) → o < 64 → x < s.width → x + 2 * r ≡ 64 * p.c + o → o < to)
    → Scatters row old new p.c r from to → GathersRow s f p r old new
part_gathers s f p r from to row old new is low high scatters = record {
  pixel = λ offset x y pixel at.
      scatters.part offset x (low offset x at.in_tile pixel.across at.across) (high offset x at.in_tile pixel.across at.across) at.across
      ∙ is x ∙ ap (λ m. f m x) (sym at.down);
  others = scatters.others;
}

-- a row of which the window has no pixel
pub none_gathers : (s : Shape) (f : ℕ → ℕ → ℕ) (p : Place) (r : ℕ) (tile : List ℕ)
    → ((offset x y : ℕ) → IsPixel s x y → IsAt p r offset x y → ⊥) → GathersRow s f p r tile tile
none_gathers s f p r tile none = record {
  pixel = λ offset x y pixel at. absurd (none offset x y pixel at);
  others = λ row offset low differs. refl;
}
