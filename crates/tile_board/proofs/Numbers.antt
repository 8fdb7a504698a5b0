-- How many tiles there are, and which tile an edge comes from or goes to.
use Rattle.std.proofs.Common.{◌≡◌, ℕ, ◌+◌, ◌-◌, ◌*◌, ◌^◌, ◌/◌, ◌<◌, ◌≤◌, ◌⊎◌, Option, Some, None, refl, sym, ◌∙◌, ap, arith, inl, inr, subst}
use Rattle.std.proofs.Math.Nat.{mul-le-mul_left}
use Rattle.base_definitions.specs.Limits.{most_columns, most_rows}
use Rattle.tile_shape.specs.Geometry.{IsNeeded, IsReceiver, IsShape, IsTile, bands_of, columns_of}
use Rattle.tile_shape.specs.declared.tiles.Dir.{Dir}
use Rattle.tile_shape.specs.declared.tiles.Dir.TheVariants.{Right, Bottom, Corner}
use Rattle.tile_shape.specs.declared.tiles.Place.{Place}
use Rattle.tile_shape.specs.declared.tiles.Shape.{Shape}
use Rattle.tile_edges.specs.Edges.{IsOnBoard}
use Rattle.board_core.specs.Numbers.{number_of, place_of}
use Rattle.board_core.proofs.Numbers.{number_below, place_number, place_tile}
use Rattle.board_steps.specs.Graph.{graph_of}
use Rattle.board_steps.specs.Steps.{index_of}
use Rattle.board_steps.proofs.Places.{gives_next, next_gives, window_graph}

pub few-tiles : (s : Shape) → IsShape s → bands_of s * columns_of s < 2 ^ 32
few-tiles s sizes =
    let b : ℕ = bands_of s in
    let c : ℕ = columns_of s in
    let few_bands : b ≤ (most_rows + 31) / 32 = let h = sizes.most_height in omega arith in
    let few_columns : c ≤ (most_columns + 125) / 64 = let h = sizes.most_width in omega arith in
    let product = mul-le-mul_left b few_columns in
    let all : ℕ = b * c in
    let product' : all ≤ b * ((most_columns + 125) / 64) = product in
    let answer : all < 2 ^ 32 = omega arith in
    answer

pub some-tiles : (s : Shape) → IsShape s → 0 < bands_of s * columns_of s
some-tiles s sizes =
    let b : ℕ = bands_of s in
    let c : ℕ = columns_of s in
    let some_bands : 1 ≤ b = let h = sizes.some_height in omega arith in
    let some_columns : 1 ≤ c = let h = sizes.some_width in omega arith in
    let product = mul-le-mul_left b some_columns in
    let all : ℕ = b * c in
    let product' : b * 1 ≤ all = product in
    let answer : 0 < all = omega arith in
    answer

-- ---- sources

-- The tile from which an edge comes.
pub record IsSource (s : Shape) (d : Dir) (p from : Place) : Type 0 where
  pub tile : IsTile s from
  pub receiver : IsReceiver d from p
  pub number : (graph_of s).from (number_of s p) (index_of d) ≡ Some (number_of s from)
  pub needed : IsNeeded s d p
  pub board : IsOnBoard d p

source-of : (s : Shape) (d : Dir) (p from : Place) → IsTile s p → IsTile s from → IsReceiver d from p → IsNeeded s d p → IsOnBoard d p
    → IsSource s d p from
source-of s d p from tile there goes needed board =
    let next = gives_next s from p d (record { source = there; receiver = tile; goes = goes }) in
    let back = (window_graph s).there (number_of s from) (index_of d) (number_of s p) (number_below s from there) next in
    record { tile = there; receiver = goes; number = back.3; needed = needed; board = board }

pub left-source : (s : Shape) (p : Place) → IsTile s p → 0 < p.c → IsSource s Right p (record { c = p.c - 1; j = p.j })
left-source s p tile some =
    let c : ℕ = p.c in
    let C : ℕ = columns_of s in
    let from : Place = record { c = p.c - 1; j = p.j } in
    let there : IsTile s from = record { column = (let h : c < C = tile.column in omega arith); band = tile.band } in
    source-of s Right p from tile there (omega arith, refl) some tt

pub above-source : (s : Shape) (p : Place) → IsTile s p → 0 < p.j → p.c + 1 < columns_of s
    → IsSource s Bottom p (record { c = p.c + 1; j = p.j - 1 })
above-source s p tile below inside =
    let B : ℕ = bands_of s in
    let from : Place = record { c = p.c + 1; j = p.j - 1 } in
    let there : IsTile s from = record { column = inside; band = (let h : p.j < B = tile.band in omega arith) } in
    source-of s Bottom p from tile there (refl, omega arith) (below, inside) below

pub corner-source : (s : Shape) (p : Place) → IsTile s p → 0 < p.j → IsSource s Corner p (record { c = p.c; j = p.j - 1 })
corner-source s p tile below =
    let B : ℕ = bands_of s in
    let from : Place = record { c = p.c; j = p.j - 1 } in
    let there : IsTile s from = record { column = tile.column; band = (let h : p.j < B = tile.band in omega arith) } in
    source-of s Corner p from tile there (refl, omega arith) below below

-- where no tile gives it an edge, none is its source
no-source : (s : Shape) (d : Dir) (p : Place) → IsTile s p → ((from : Place) → IsTile s from → IsReceiver d from p → ⊥)
    → (graph_of s).from (number_of s p) (index_of d) ≡ None
no-source s d p tile none = by-case ((graph_of s).from (number_of s p) (index_of d)) refl
  where
    by-case : (o : Option ℕ) → (graph_of s).from (number_of s p) (index_of d) ≡ o → o ≡ None
    by-case None is = refl
    by-case (Some n) is =
        let back = (window_graph s).back (number_of s p) (index_of d) n (number_below s p tile) is in
        let N : ℕ → Type 0 = λ m. (graph_of s).next m (index_of d) ≡ Some (number_of s p) in
        let there : IsTile s (place_of s n) = place_tile s n back.0 in
        absurd (none (place_of s n) there (next_gives s (place_of s n) p d there tile (subst N (sym (place_number s n)) back.2)).goes)

pub no-left : (s : Shape) (p : Place) → IsTile s p → p.c ≡ 0 → (graph_of s).from (number_of s p) 0 ≡ None
no-left s p tile first = no-source s Right p tile (λ from there goes. omega (arith, goes.0))

pub no-above : (s : Shape) (p : Place) → IsTile s p → (p.j ≡ 0) ⊎ (columns_of s ≤ p.c + 1) → (graph_of s).from (number_of s p) 1 ≡ None
no-above s p tile (inl first) = no-source s Bottom p tile (λ from there goes. omega (arith, goes.1))
no-above s p tile (inr last) =
    let C : ℕ = columns_of s in
    no-source s Bottom p tile (λ from there goes. let h : from.c < C = there.column in omega (arith, goes.0))

pub no-corner : (s : Shape) (p : Place) → IsTile s p → p.j ≡ 0 → (graph_of s).from (number_of s p) 2 ≡ None
no-corner s p tile first = no-source s Corner p tile (λ from there goes. omega (arith, goes.1))

-- ---- receivers

-- where no tile receives its edge, none is next
pub next-none : (s : Shape) (d : Dir) (p : Place) → IsTile s p → ((to : Place) → IsTile s to → IsReceiver d p to → ⊥)
    → (graph_of s).next (number_of s p) (index_of d) ≡ None
next-none s d p tile none = by-case ((graph_of s).next (number_of s p) (index_of d)) refl
  where
    by-case : (o : Option ℕ) → (graph_of s).next (number_of s p) (index_of d) ≡ o → o ≡ None
    by-case None is = refl
    by-case (Some n) is =
        let next = (window_graph s).there (number_of s p) (index_of d) n (number_below s p tile) is in
        let there : IsTile s (place_of s n) = place_tile s n next.0 in
        absurd (none (place_of s n) there (next_gives s p (place_of s n) d tile there (is ∙ ap Some (sym (place_number s n)))).goes)
