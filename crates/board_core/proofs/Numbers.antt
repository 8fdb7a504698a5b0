-- The tiles of a window by their numbers.
use Rattle.std.proofs.Common.{◌≡◌, ◌⊎◌, ℕ, zero, suc, ◌+◌, ◌-◌, ◌*◌, ◌/◌, ◌%◌, ◌<◌, ◌≤◌, ap, arith, inl, inr, sym, ◌∙◌, get_or-set_other}
use Rattle.std.proofs.Common.{div-add-mod', get_or-set_same, mod-lt}
use Rattle.std.proofs.Math.Nat.{div-lt_iff_lt-mul, mul-le-mul_right}
use Rattle.std.proofs.lemmas.Bool.{cases_eq}
use Rattle.std.proofs.lemmas.Nat.{div-mul-add, mod-mul-add}
use Rattle.tile_shape.specs.Geometry.{IsReceiver, IsTile, bands_of, columns_of}
use Rattle.tile_shape.specs.declared.tiles.Dir.{Dir}
use Rattle.tile_shape.specs.declared.tiles.Dir.TheVariants.{Right, Bottom, Corner}
use Rattle.tile_shape.specs.declared.tiles.Place.{Place}
use Rattle.tile_shape.specs.declared.tiles.Shape.{Shape}
use Rattle.board_core.specs.declared.tiles.TileState.{TileState}
use Rattle.board_core.specs.Numbers.{number_of, place_of}
use Rattle.board_core.specs.States.{CoreState, IsCore, fresh, tile_at}
use Rattle.board_core.specs.Steps.{IsBefore, with_tile}

pub number_inside : (s : Shape) (p : Place) → IsTile s p → number_of s p < columns_of s * bands_of s
number_inside s p t =
    let column = t.column in
    let rows : (p.j + 1) * columns_of s ≤ bands_of s * columns_of s = mul-le-mul_right (columns_of s) (omega (arith, t.band)) in
    omega arith

-- the same, as the board counts its tiles
pub number_below : (s : Shape) (p : Place) → IsTile s p → number_of s p < bands_of s * columns_of s
number_below s p t = omega (arith, number_inside s p t)

-- ---- places

pub same_parts : (p q : Place) → p.c ≡ q.c → p.j ≡ q.j → p ≡ q
same_parts p q c j = λ i. record { c = c i; j = j i }

pub row_is : (s : Shape) (p : Place) → IsTile s p → number_of s p / columns_of s ≡ p.j
row_is s p tile = div-mul-add p.j (columns_of s) p.c tile.column

pub column_is : (s : Shape) (p : Place) → IsTile s p → number_of s p % columns_of s ≡ p.c
column_is s p tile = mod-mul-add p.j (columns_of s) p.c tile.column

-- the place of a tile's number is its own
pub place_is : (s : Shape) (p : Place) → IsTile s p → place_of s (number_of s p) ≡ p
place_is s p tile = same_parts (place_of s (number_of s p)) p (column_is s p tile) (row_is s p tile)

-- each number below the count of tiles is that of one
pub place_tile : (s : Shape) (n : ℕ) → n < bands_of s * columns_of s → IsTile s (place_of s n)
place_tile s n inside =
    let some : 0 < columns_of s = let w : ℕ = s.width in omega arith in
    record { column = mod-lt n some; band = (div-lt_iff_lt-mul some).1 inside }

pub place_number : (s : Shape) (n : ℕ) → number_of s (place_of s n) ≡ n
place_number s n = div-add-mod' n (columns_of s)

-- no two tiles have one number
pub same_place : (s : Shape) (p q : Place) → IsTile s p → IsTile s q → number_of s p ≡ number_of s q → p ≡ q
same_place s p q tp tq same = sym (place_is s p tp) ∙ ap (place_of s) same ∙ place_is s q tq

-- the tiles of the next band, and of the band above
pub row_more : (C j : ℕ) → (j + 1) * C ≡ j * C + C
row_more C j = grind (arith)

pub row_less : (C j : ℕ) → 0 < j → j * C ≡ (j - 1) * C + C
row_less C zero h = absurd (omega arith)
row_less C (suc j) h = let e : suc j - 1 ≡ j = omega arith in grind (arith)

-- an edge goes to a tile further on
pub goes_on : (s : Shape) (d : Dir) (from to : Place) → IsTile s from → IsReceiver d from to → number_of s from < number_of s to
goes_on s Right from to tile goes =
    let rows : to.j * columns_of s ≡ from.j * columns_of s = ap (λ n. n * columns_of s) goes.1 in
    omega (arith, goes.0)
goes_on s Bottom from to tile goes =
    let rows : to.j * columns_of s ≡ (from.j + 1) * columns_of s = ap (λ n. n * columns_of s) goes.1 in
    omega (arith, goes.0, tile.column)
goes_on s Corner from to tile goes =
    let rows : to.j * columns_of s ≡ (from.j + 1) * columns_of s = ap (λ n. n * columns_of s) goes.1 in
    omega (arith, goes.0, tile.column)

-- a tile in a band above or left in its band has the smaller number
pub before_less : (s : Shape) (q p : Place) → IsTile s q → IsBefore q p → number_of s q < number_of s p
before_less s q p t (inl above) =
    let rows : (q.j + 1) * columns_of s ≤ p.j * columns_of s = mul-le-mul_right (columns_of s) (omega arith) in
    omega (arith, t.column)
before_less s q p t (inr left) =
    let rows : q.j * columns_of s ≡ p.j * columns_of s = ap (λ n. n * columns_of s) left.0 in
    omega (arith, left.1)

-- ---- a tile that is changed

pub at_same : (core : CoreState) (p : Place) (t : TileState) → IsCore core → IsTile core.shape p → tile_at (with_tile core p t) p ≡ t
unfolding tile_at
at_same core p t whole tile =
    get_or-set_same core.tiles (number_of core.shape p) t fresh (omega (arith, whole.count, number_inside core.shape p tile))

-- every tile is the changed one, or unchanged
pub changed : (core : CoreState) (p q : Place) (t : TileState) → IsCore core → IsTile core.shape p → IsTile core.shape q
    → ((q ≡ p) × (tile_at (with_tile core p t) q ≡ t)) ⊎ (tile_at (with_tile core p t) q ≡ tile_at core q)
unfolding tile_at
changed core p q t whole tile other = elim (cases_eq (number_of core.shape q) (number_of core.shape p)) [
  | inl same ↦
      let is : q ≡ p = same_place core.shape q p other tile same in
      inl (is, ap (tile_at (with_tile core p t)) is ∙ at_same core p t whole tile)
  | inr differs ↦ inr (get_or-set_other core.tiles (number_of core.shape p) (number_of core.shape q) t fresh differs)
]
