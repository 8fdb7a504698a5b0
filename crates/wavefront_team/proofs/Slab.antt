-- What a closed board leaves are the dots of its slab, and once they are laid into planes the slab is diffused.
use Rattle.std.proofs.Common.{◌≡◌, ℕ, ℤ, zero, suc, ◌+◌, ◌<◌, ◌≤◌, List, [], ◌∷◌, get_or, length, sym, ◌∙◌, ap, arith, subst}
use mathlib.Core.Option.{some}
use lib.ListN.{get_elem?}
use Rattle.board_core.proofs.Numbers.{number_below}
use Rattle.board_steps.specs.declared.rule.Slab.{Slab}
use Rattle.diffusion_definitions.specs.Diffusion.{Errors, Table, errors, on}
use Rattle.diffusion_kernel.specs.Tables.{table_of}
use Rattle.diffusion_kernel.specs.declared.tables.Kernel.{Kernel}
use Rattle.diffusion_definitions.proofs.Solve.{errors_solve}
use Rattle.diffusion_definitions.proofs.Unique.{unique}
use Rattle.dot_planes.specs.Tables.{AmountTable}
use Rattle.dot_planes.specs.Tiles.{tile_dot}
use Rattle.dot_planes.specs.declared.tiles.TileDots.{TileDots}
use Rattle.tile_shape.specs.Geometry.{IsPixel}
use Rattle.wavefront_team.specs.Dots.{Dots, IsSameDots, IsSameSize}
use Rattle.wavefront_team.specs.Slabs.{AreSlabErrors, ClosesSlab, DiffusesSlab}
use Rattle.tile_board.specs.Closing.{Closes}
use Rattle.tile_board.specs.Slabs.{amounts_of, number_in, shape_of, top_edges}
use Rattle.tile_board.specs.declared.kinds.Closed.{Closed}
use Rattle.tile_border.specs.Tops.{edges_of}
use Rattle.tile_border.specs.Content.{errors_below}
use Rattle.tile_edges.specs.Tops.{top_of}
use Rattle.tile_lanes.specs.Done.{plane_of, window_of}
use Rattle.tile_shape.specs.declared.tiles.Shape.{Shape}
use Rattle.wavefront_team.specs.Laying.{AreTilesOf, LaysTiles}
use Rattle.wavefront_team.proofs.Numbers.{Stands, stands}

-- ---- tiles

pub at_index : {X : Type 0} (xs : List X) (n : ℕ) (x d : X) → get_elem? xs n ≡ some x → get_or xs n d ≡ x
at_index [] n x d is = absurd (cc)
at_index (y ∷ ys) zero x d is = cc
at_index (y ∷ ys) (suc n) x d is = at_index ys n x d is

tiles_are : (b : Slab) (r : Closed) → Closes b r → AreTilesOf (shape_of b) r.dots.items
tiles_are b r closes = record {
  count = closes.count;
  places = λ p d tile.
      let it = closes.dots p tile in
      ap (λ (t : TileDots). t.place) (at_index r.dots.items (number_in b p) it.0 d it.1) ∙ it.2.place;
}

-- ---- sizes

same_size : (a b c : Dots) → IsSameSize a b → IsSameSize b c → IsSameSize a c
same_size a b c one two = record {
  width = two.width ∙ one.width;
  rows = two.rows ∙ one.rows;
  inks = two.inks ∙ one.inks;
}

-- ---- errors

-- errors that solve the rule below the top are those that the definition has
pub errors_are : (k : Kernel) (rows : AmountTable) (top : List (List (List ℤ))) (i : ℕ) (e : Errors)
    → AreSlabErrors (table_of k) rows top i e → errors_below k rows top i ≡ e
unfolding errors
errors_are k rows top i e are =
    let f : Errors = errors_below k rows top i in
    let solves = errors_solve (table_of k) (plane_of rows i) (top_of (edges_of top i)) in
    let same = unique (table_of k) (plane_of rows i) f e solves are.solves
    (λ n. sym (are.below 0 n (omega arith))) (λ n. sym (are.below 1 n (omega arith))) in
    λ t y n. same y n t

pub slab_closed : (b : Slab) (r : Closed) (k : Kernel) (rows : AmountTable) (top : List (List (List ℤ)))
    → amounts_of b ≡ rows → b.kernel ≡ k → top_edges b ≡ top → Closes b r → ClosesSlab (table_of k) rows top r.bottom r.dots.items
slab_closed b r k rows top amounts kernel edges closes =
    let C : AmountTable → Kernel → List (List (List ℤ)) → Type 0 = λ a m u. ClosesSlab (table_of m) a u r.bottom r.dots.items in
    let A : AmountTable → Type 0 = λ a. C a k top in
    let K : Kernel → Type 0 = λ m. C (amounts_of b) m top in
    let T : List (List (List ℤ)) → Type 0 = λ u. C (amounts_of b) b.kernel u in
    subst A amounts (subst K kernel (subst T edges (on_board b r closes)))
  where
    on_board : (b : Slab) (r : Closed) → Closes b r
        → ClosesSlab (table_of b.kernel) (amounts_of b) (top_edges b) r.bottom r.dots.items
    on_board b r closes = record {
      tiles_are = tiles_are b r closes;
      dots = λ i e are p row offset x y d tile pixel place.
          let it = closes.dots p tile in
          let same = errors_are b.kernel (amounts_of b) (top_edges b) i e are in
          ap (λ (t : TileDots). tile_dot t.bits i row offset) (at_index r.dots.items (number_in b p) it.0 d it.1)
          ∙ (it.2.dots i are.ink).pixel row offset x y place
          ∙ ap (λ (f : Errors). on (table_of b.kernel) (plane_of (amounts_of b) i) f y x) same;
      bottom_is = record {
        is_top = closes.is_top;
        bottoms = λ i e are. rw (errors_are b.kernel (amounts_of b) (top_edges b) i e are) at (closes.bottoms i are.ink);
      };
    }

-- ---- planes

-- Where the tiles of a slab are laid, the slab is diffused.
pub slab_laid : (k : Table) (rows : AmountTable) (top bottom : List (List (List ℤ))) (tiles : List TileDots) (first : ℕ) (old new : Dots)
    → old.inks ≡ rows.inks → ClosesSlab k rows top bottom tiles
    → LaysTiles (window_of rows) first (length tiles) tiles old new
    → DiffusesSlab k rows top bottom first old new
slab_laid k rows top bottom tiles first old new inks closes lays = record {
  size = lays.size;
  dots = λ i e are y x low inside.
      let s : Shape = window_of rows in
      let here : Stands s x y = stands s x y inside low in
      let d : TileDots = record { place = here.p; bits = [] } in
      let ink : i < rows.inks = are.ink in
      let pixel : IsPixel s x y = record { across = inside; down = low } in
      lays.pixels i here.row here.offset x y here.p d (omega (arith, inks)) here.tile
      (omega (arith, number_below s here.p here.tile, closes.tiles_are.count)) pixel here.place
      ∙ closes.dots i e are here.p here.row here.offset x y d here.tile pixel here.place;
  others = lays.others;
  bottom_is = closes.bottom_is;
}

-- dots that are the same as those that were laid
pub laid_same : (s : Shape) (first n : ℕ) (tiles : List TileDots) (start old new : Dots)
    → IsSameDots start old → LaysTiles s first n tiles old new → LaysTiles s first n tiles start new
laid_same s first n tiles start old new same lays = record {
  size = same_size start old new same.size lays.size;
  pixels = λ i row offset x y p d ink tile low pixel place.
      lays.pixels i row offset x y p d (omega (arith, same.size.inks)) tile low pixel place;
  others = λ i y x low beside. lays.others i y x (omega (arith, same.size.rows)) beside ∙ same.dots i y x low;
}

-- and dots that are the same as these
pub same_laid : (s : Shape) (first n : ℕ) (tiles : List TileDots) (old new end : Dots)
    → first + s.height ≤ old.rows → LaysTiles s first n tiles old new → IsSameDots new end → LaysTiles s first n tiles old end
same_laid s first n tiles old new end inside lays same = record {
  size = same_size old new end lays.size same.size;
  pixels = λ i row offset x y p d ink tile low pixel place.
      same.dots i (first + y) x (omega (arith, inside, pixel.down, lays.size.rows))
      ∙ lays.pixels i row offset x y p d ink tile low pixel place;
  others = λ i y x low beside. same.dots i y x (omega (arith, lays.size.rows)) ∙ lays.others i y x low beside;
}
