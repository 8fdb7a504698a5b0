-- The window of a board, its counts and what its tiles need.
use Rattle.std.proofs.Common.{◌≡◌, ℕ, ℤ, List, [], get_or, length, ap, sym, ◌∙◌, subst}
use Rattle.std.specs.Prelude.{IsTrue, ◌↔◌}
use Rattle.dot_planes.specs.Tables.{AmountTable}
use Rattle.dot_planes.specs.declared.amounts.TileRows.{Ghosts}
use Rattle.tile_lanes.specs.Done.{window_of}
use Rattle.tile_shape.specs.Geometry.{IsNeeded, IsReceiver, IsShape, IsTile, columns_of}
use Rattle.tile_shape.specs.declared.tiles.Dir.{Dir}
use Rattle.tile_shape.specs.declared.tiles.Dir.TheVariants.{Right, Bottom, Corner}
use Rattle.tile_shape.specs.declared.tiles.Needs.{Needs}
use Rattle.tile_shape.specs.declared.tiles.Place.{Place}
use Rattle.tile_shape.specs.declared.tiles.Shape.{Shape}
use Rattle.tile_board.specs.declared.kinds.Board.{Board}
use Rattle.tile_board.specs.Board.{slab}
use Rattle.tile_board.proofs.Claims.{NeedsOf}
use Rattle.tile_board.specs.Slabs.{amounts_of, shape_of, top_edges}
use Rattle.tile_border.specs.Tops.{IsTopOf}

pub shape-is : {A : Type 0} {G : Ghosts A} (b : Board A G) (s : Shape) → s ≡ window_of (G.table b.rows.now) → s ≡ shape_of (slab b)
shape-is b s is = is ∙ ap (λ (rows : AmountTable). window_of rows) (sym b.made_for.0)

pub columns-is : {A : Type 0} {G : Ghosts A} (b : Board A G) (s : Shape) (columns : ℕ) → s ≡ window_of (G.table b.rows.now) → columns ≡ columns_of s
    → columns ≡ columns_of (shape_of (slab b))
columns-is b s columns is count = count ∙ ap (λ (t : Shape). columns_of t) (shape-is b s is)

pub is-shape : {A : Type 0} {G : Ghosts A} (b : Board A G) (s : Shape) → s ≡ window_of (G.table b.rows.now) → IsShape s → IsShape (shape_of (slab b))
is-shape b s is sizes = let Q : Shape → Type 0 = λ t. IsShape t in subst Q (shape-is b s is) sizes

-- the top is one of the slab, which has an edge for each column
pub top-of : {A : Type 0} {G : Ghosts A} (b : Board A G) → IsTopOf (amounts_of (slab b)).width (amounts_of (slab b)).inks (top_edges (slab b))
top-of b = record {
  columns = ap length b.made_for.2 ∙ b.topped.0;
  edge_inks = λ c inside.
      ap (λ (top : List (List (List ℤ))). length (get_or top c [])) b.made_for.2 ∙ b.topped.1 c inside
      ∙ ap (λ (rows : AmountTable). rows.inks) (sym b.made_for.0);
}

pub tile-there : {A : Type 0} {G : Ghosts A} (b : Board A G) (s : Shape) (p : Place) → s ≡ window_of (G.table b.rows.now) → IsTile s p → IsTile (shape_of (slab b)) p
tile-there b s p is tile = let Q : Shape → Type 0 = λ t. IsTile t p in subst Q (shape-is b s is) tile

pub none-there : {A : Type 0} {G : Ghosts A} (b : Board A G) (s : Shape) (d : Dir) (p : Place) → s ≡ window_of (G.table b.rows.now)
    → ((to : Place) → IsTile s to → IsReceiver d p to → ⊥)
    → (to : Place) → IsTile (shape_of (slab b)) to → IsReceiver d p to → ⊥
none-there b s d p is none = let Q : Shape → Type 0 = λ t. (to : Place) → IsTile t to → IsReceiver d p to → ⊥ in
    subst Q (shape-is b s is) none

pub needs-of : {A : Type 0} {G : Ghosts A} (b : Board A G) {s : Shape} {p : Place} {needs : Needs} → s ≡ window_of (G.table b.rows.now) → (IsTrue needs.left ↔ IsNeeded s Right p)
    → (IsTrue needs.above ↔ IsNeeded s Bottom p) → (IsTrue needs.corner ↔ IsNeeded s Corner p) → NeedsOf (shape_of (slab b)) p needs
needs-of b {s} {p} {needs} is left above corner =
    let Q : Shape → Type 0 = λ t. NeedsOf t p needs in
    subst Q (shape-is b s is) (record { left = left; above = above; corner = corner })
