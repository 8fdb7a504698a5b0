-- What a tile gives and is handed is right.
use Rattle.std.proofs.Common.{◌≡◌, ℕ, ℤ, zero, suc, pos, ◌+◌, ◌*◌, ◌<◌, List, [], get_or, length, map, replicate, sym, ◌∙◌, ap, subst, refl}
use Rattle.std.proofs.Common.{lit<, arith}
use Rattle.std.proofs.lemmas.List.{get_or-map, get_or-replicate, length-map}
use Rattle.diffusion_definitions.specs.Diffusion.{Errors}
use Rattle.diffusion_definitions.proofs.Solve.{errors_solve, errors_top}
use Rattle.diffusion_kernel.specs.Tables.{table_of}
use Rattle.diffusion_kernel.specs.declared.tables.Kernel.{Kernel}
use Rattle.dot_planes.specs.Tables.{AmountTable}
use Rattle.tile_shape.specs.Geometry.{IsTile, columns_of}
use Rattle.tile_shape.specs.declared.tiles.Dir.{Dir}
use Rattle.tile_shape.specs.declared.tiles.Dir.TheVariants.{Right, Bottom, Corner}
use Rattle.tile_shape.specs.declared.tiles.Place.{Place}
use Rattle.tile_edges.specs.Edges.{Holds, IsGiven, edge_length}
use Rattle.tile_edges.specs.Handed.{IsHanded}
use Rattle.tile_edges.specs.Tops.{AreBottoms, IsBelow, top_of}
use Rattle.tile_lanes.specs.Done.{HasDots, plane_of, window_of}
use Rattle.tile_border.specs.Inks.{errors_of}
use Rattle.tile_border.specs.Tops.{edges_of}
use Rattle.tile_border.specs.Worked.{edge_of}
use Rattle.tile_border.specs.Works.{Border, HasInks, Works, IsWhole}
use Rattle.tile_border.proofs.Worked.{HandedLaw}
use Rattle.tile_border.specs.Content.{block, bottom_of, bottoms, corner_of, dots_of, errors_below, given, list_of, right_of}
use Rattle.tile_border.specs.Tiles.{AreDone, AreHanded, AreReady, IsHandedTo}
use Rattle.tile_border.proofs.Bits.{dots-are, dots-is}
use Rattle.tile_border.proofs.Blocks.{block-holds, block-is}
use Rattle.tile_border.proofs.Lists.{list-at, list-is, list-len}

abbrev Top : Type 0
Top = List (List (List ℤ))

-- ---- what is given is right

pub given-inks : (k : Kernel) (rows : AmountTable) (top : Top) (p : Place) → HasInks rows.inks (given k rows top p)
unfolding given
given-inks k rows top p = record {
  side = list-len (λ i. right_of (errors_below k rows top i) p) rows.inks;
  bottom = list-len (λ i. bottom_of (errors_below k rows top i) p) rows.inks;
  corner = list-len (λ i. corner_of (errors_below k rows top i) p) rows.inks;
  bits = list-len (λ i. dots_of (table_of k) (plane_of rows i) (errors_below k rows top i) p) rows.inks;
}

-- an ink of a list of blocks
listed : (e : ℕ → Errors) (j p u rows wide inks i : ℕ) → i < inks
    → Holds (e i) j p u rows wide (get_or (list_of (λ n. block (e n) j p u rows wide) inks) i [])
listed e j p u rows wide inks i low =
    let Q : List ℤ → Type 0 = λ xs. Holds (e i) j p u rows wide xs in
    subst Q (sym (list-at (λ n. block (e n) j p u rows wide) inks i [] low)) (block-holds (e i) j p u rows wide)

pub given-done : (k : Kernel) (rows : AmountTable) (top : Top) (p : Place) → AreDone k rows top p (given k rows top p)
unfolding given
given-done k rows top p i low =
    let e : ℕ → Errors = errors_below k rows top in
    let D : List ℕ → Type 0 = λ xs. HasDots (table_of k) (plane_of rows i) (e i) p xs in
    record {
      has_right = listed e p.j 2 (64 * p.c + 64) 32 6 rows.inks i low;
      has_bottom = listed e p.j 32 (64 * p.c + 6) 2 64 rows.inks i low;
      has_corner = listed e p.j 32 (64 * p.c + 64) 2 6 rows.inks i low;
      has_dots =
          subst D (sym (list-at (λ n. dots_of (table_of k) (plane_of rows n) (e n) p) rows.inks i [] low))
          (dots-are (table_of k) (plane_of rows i) (e i) p);
    }

-- ---- what is right is what is given

blocks-is : (e : ℕ → Errors) (j p u rows wide inks : ℕ) (xs : List (List ℤ)) → 0 < wide → length xs ≡ inks
    → ((i : ℕ) → i < length xs → length (get_or xs i []) ≡ rows * wide)
    → ((i : ℕ) → i < inks → Holds (e i) j p u rows wide (get_or xs i []))
    → xs ≡ list_of (λ i. block (e i) j p u rows wide) inks
blocks-is e j p u rows wide inks xs some len long holds =
    list-is [] xs (λ i. block (e i) j p u rows wide) inks len
    (λ i low. block-is (e i) j p u rows wide (get_or xs i []) some (long i (omega arith)) (holds i low))

border_same : (a b : Border) → a.side ≡ b.side → a.bottom ≡ b.bottom → a.corner ≡ b.corner → a.bits ≡ b.bits → a ≡ b
border_same a b side bottom corner bits = λ i. record { side = side i; bottom = bottom i; corner = corner i; bits = bits i }

pub given-is : (k : Kernel) (rows : AmountTable) (top : Top) (p : Place) (b : Border) → HasInks rows.inks b → IsWhole b
    → AreDone k rows top p b → b ≡ given k rows top p
unfolding given
given-is k rows top p b has whole done =
    let e : ℕ → Errors = errors_below k rows top in
    border_same b (given k rows top p)
    (blocks-is e p.j 2 (64 * p.c + 64) 32 6 rows.inks b.side (lit< tt) has.side whole.side (λ i low. (done i low).has_right))
    (blocks-is e p.j 32 (64 * p.c + 6) 2 64 rows.inks b.bottom (lit< tt) has.bottom whole.bottom (λ i low. (done i low).has_bottom))
    (blocks-is e p.j 32 (64 * p.c + 64) 2 6 rows.inks b.corner (lit< tt) has.corner whole.corner (λ i low. (done i low).has_corner))
    (list-is [] b.bits (λ i. dots_of (table_of k) (plane_of rows i) (e i) p) rows.inks has.bits (λ i low.
    let room : i < length b.bits = omega (arith, has.bits) in
    dots-is (table_of k) (plane_of rows i) (e i) p (get_or b.bits i []) (whole.bits i room) (whole.bytes i room) (done i low).has_dots))

-- ---- what is handed is right

below : (k : Kernel) (rows : AmountTable) (top : Top) (i : ℕ) → IsBelow (edges_of top i) (errors_below k rows top i)
below k rows top i t n low = elim_row t low
  where
    elim_row : (t : ℕ) → t < 2 → errors_below k rows top i t n ≡ top_of (edges_of top i) t n
    elim_row zero low = (errors_top (table_of k) (plane_of rows i) (top_of (edges_of top i)) n).0
    elim_row (suc zero) low = (errors_top (table_of k) (plane_of rows i) (top_of (edges_of top i)) n).1
    elim_row (suc (suc t)) low = absurd (omega arith)

given-edge : (k : Kernel) (rows : AmountTable) (top : Top) (p : Place) (d : Dir) (i : ℕ) → i < rows.inks
    → IsGiven (errors_below k rows top i) d p (errors_of (edge_of (given k rows top p) d) i)
given-edge k rows top p Right i low = (given-done k rows top p i low).has_right
given-edge k rows top p Bottom i low = (given-done k rows top p i low).has_bottom
given-edge k rows top p Corner i low = (given-done k rows top p i low).has_corner

handed-in : (k : Kernel) (rows : AmountTable) (top : Top) (d : Dir) (p : Place) (edge : List (List ℤ)) (i : ℕ) → i < rows.inks
    → IsHandedTo k rows top d p edge
    → IsHanded (window_of rows) (edges_of top i) (λ way from. errors_of (edge_of (given k rows top from) way) i) d p (errors_of edge i)
handed-in k rows top d p edge i low handed = record {
  given = λ from there receiver. ap (λ (xs : List (List ℤ)). errors_of xs i) (handed.given from there receiver);
  none = λ board none. ap (λ (xs : List (List ℤ)). errors_of xs i) (handed.none board none)
      ∙ get_or-replicate rows.inks i (replicate (edge_length d) (pos 0)) [] low;
  above = λ off. handed.above off i low;
}

pub handed-ready : HandedLaw → (k : Kernel) (rows : AmountTable) (top : Top) (p : Place) (b : Border) → IsTile (window_of rows) p
    → AreHanded k rows top p b → AreReady k rows top p b
handed-ready law k rows top p b tile handed = λ i low.
    let e : Errors = errors_below k rows top i in
    let comes = λ (d : Dir). law (table_of k) (plane_of rows i) e (window_of rows) (edges_of top i) _ d p (errors_of (edge_of b d) i)
    (errors_solve (table_of k) (plane_of rows i) (top_of (edges_of top i))) (record { width = refl; height = refl }) (below k rows top i)
    tile (handed-in k rows top d p (edge_of b d) i low (handed d))
    (λ from there receiver. given-edge k rows top from d i low) in
    record { has_left = comes Right; has_above = comes Bottom; has_corner = comes Corner }

pub worked-done : (k : Kernel) (rows : AmountTable) (top : Top) (p : Place) (old new : Border)
    → ((i : ℕ) → i < rows.inks → Works k rows p i old new)
    → AreReady k rows top p old → AreDone k rows top p new
worked-done k rows top p old new works ready i low =
    works i low (errors_below k rows top i) (errors_solve (table_of k) (plane_of rows i) (top_of (edges_of top i))) (ready i low)

-- ---- the bottom edges of a band

pub bottoms-are : (k : Kernel) (rows : AmountTable) (top : Top) (j i : ℕ) → i < rows.inks
    → AreBottoms (window_of rows) (errors_below k rows top i) j (edges_of (bottoms k rows top j (columns_of (window_of rows))) i)
unfolding bottoms
bottoms-are k rows top j i low =
    let columns : ℕ = columns_of (window_of rows) in
    let at : ℕ → List (List ℤ) = λ c. (given k rows top (record { c = c; j = j })).bottom in
    let ink : List (List ℤ) → List ℤ = λ edge. errors_of edge i in
    record {
      count = length-map (list_of at columns) ink ∙ list-len at columns;
      at = λ c inside.
          let Q : List ℤ → Type 0 = λ xs. IsGiven (errors_below k rows top i) Bottom (record { c = c; j = j }) xs in
          let same : get_or (map ink (list_of at columns)) c [] ≡ ink (at c) =
          get_or-map ink (list_of at columns) c [] [] (omega (arith, list-len at columns)) ∙ ap ink (list-at at columns c [] inside) in
          subst Q (sym same) (given-edge k rows top (record { c = c; j = j }) Bottom i low);
    }
