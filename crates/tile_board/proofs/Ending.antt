-- What a closed board leaves.
use Rattle.std.proofs.Common.{◌≡◌, ℕ, ℤ, ◌+◌, ◌-◌, ◌*◌, ◌<◌, ◌≤◌, List, [], get_or, length, refl, sym, ◌∙◌, ap, subst, arith}
use Rattle.std.proofs.Common.{None}
use Rattle.std.proofs.lemmas.List.{get_or-map, length-map}
use mathlib.Core.Option.{some}
use lib.ListN.{get_elem?}
use Rattle.tile_shape.specs.Geometry.{IsShape, IsTile, bands_of, columns_of}
use Rattle.tile_shape.specs.declared.tiles.Dir.TheVariants.{Bottom}
use Rattle.tile_shape.specs.declared.tiles.Place.{Place}
use Rattle.tile_edges.specs.Edges.{IsBottom}
use Rattle.tile_border.specs.Inks.{errors_of}
use Rattle.tile_border.specs.Content.{errors_below}
use Rattle.tile_border.proofs.Given.{given-done, given-inks}
use Rattle.board_steps.specs.Rule.{setting_of, times}
use Rattle.board_steps.specs.declared.rule.Cell.{Cell}
use Rattle.board_steps.specs.declared.rule.Cell.TheVariants as cell
use Rattle.board_steps.specs.declared.rule.Slab.{Slab}
use Rattle.board_steps.specs.declared.rule.View.{View}
use Rattle.board_core.specs.Numbers.{place_of}
use Rattle.tile_board.specs.declared.kinds.Closed.{Closed}
use Rattle.tile_board.specs.Closing.{Closes}
use Rattle.tile_board.specs.Emptying.{EmptiedBefore, HasDotsAt}
use Rattle.tile_board.specs.Slabs.{amounts_of, number_in, shape_of, top_edges}
use Rattle.tile_board.proofs.Handed.{content-is, gives}
use Rattle.board_core.proofs.Numbers.{number_below, place_number, place_tile}
use Rattle.tile_board.proofs.Numbers.{next-none}

-- the slots that no tile receives have what their tiles give
abbrev pub Gives : Slab → List Cell → Type 0
Gives b items =
    (t d : ℕ) → t < (setting_of b).graph.tiles → d < 4 → (setting_of b).graph.next t d ≡ None
    → get_elem? items (4 * t + d) ≡ some ((setting_of b).content t d)

-- what holds of the number of each tile holds of each number below their count
pub each-number : (b : Slab) (v : View) → ((p : Place) → IsTile (shape_of b) p → 1 ≤ times (number_in b p) v.mine)
    → (t : ℕ) → t < bands_of (shape_of b) * columns_of (shape_of b) → 1 ≤ times t v.mine
each-number b v all t inside =
    let Q : ℕ → Type 0 = λ n. 1 ≤ times n v.mine in
    subst Q (place_number (shape_of b) t) (all _ (place_tile (shape_of b) t inside))

dots-at : (b : Slab) (items : List Cell) → Gives b items → (p : Place) → IsTile (shape_of b) p
    → get_elem? items (4 * number_in b p + 3) ≡ some (cell.Dots (gives b p).bits)
dots-at b items has p tile = has (number_in b p) 3 (number_below (shape_of b) p tile) (omega arith) refl ∙ ap some (content-is b 3 p tile)

pub has-dots : (b : Slab) (items : List Cell) → Gives b items → (t : ℕ)
    → t < bands_of (shape_of b) * columns_of (shape_of b) → HasDotsAt items (4 * t + 3)
has-dots b items has t inside =
    let p : Place = place_of (shape_of b) t in (
      (gives b p).bits,
      ap (λ n. get_elem? items (4 * n + 3)) (sym (place_number (shape_of b) t))
          ∙ dots-at b items has p (place_tile (shape_of b) t inside),
    )

bottom-at : (b : Slab) (items : List Cell) → Gives b items → (p : Place) → IsTile (shape_of b) p → p.j + 1 ≡ bands_of (shape_of b)
    → get_elem? items (4 * number_in b p + 1) ≡ some (cell.Bottom (gives b p).bottom)
bottom-at b items has p tile last =
    has (number_in b p) 1 (number_below (shape_of b) p tile) (omega arith) (next-none (shape_of b) Bottom p tile (λ to there receiver.
    let j : ℕ = to.j in let h : j < bands_of (shape_of b) = there.band in omega (arith, receiver.1)))
    ∙ ap some (content-is b 1 p tile)

pub closes : (b : Slab) (items : List Cell) (r : Closed) → IsShape (shape_of b) → Gives b items
    → EmptiedBefore (shape_of b) (bands_of (shape_of b) * columns_of (shape_of b)) items r → Closes b r
closes b items r sizes has is =
    let last : ℕ = bands_of (shape_of b) - 1 in
    let at-last : last + 1 ≡ bands_of (shape_of b) = let h = sizes.some_height in omega arith in
    let below : (c : ℕ) → c < columns_of (shape_of b) → IsTile (shape_of b) (record { c = c; j = last }) =
    λ c inside. record { column = inside; band = omega arith } in
    let band : (c : ℕ) → c < columns_of (shape_of b) → get_or r.bottom c [] ≡ (gives b (record { c = c; j = last })).bottom = λ c inside.
    let p : Place = record { c = c; j = last } in
    is.bottoms p (gives b p).bottom (below c inside) at-last (number_below (shape_of b) p (below c inside))
    (bottom-at b items has p (below c inside) at-last) in
    record {
      count = is.count;
      dots = λ p tile. (
        record { place = p; bits = (gives b p).bits },
        is.dots p (gives b p).bits tile (number_below (shape_of b) p tile) (dots-at b items has p tile),
        record {
          place = refl;
          inks = (given-inks b.kernel (amounts_of b) (top_edges b) p).bits;
          dots = λ i low. (given-done b.kernel (amounts_of b) (top_edges b) p i low).has_dots;
        },
      );
      is_top = record {
        columns = is.columns;
        edge_inks =
            λ c inside. ap length (band c inside) ∙ (given-inks b.kernel (amounts_of b) (top_edges b) (record { c = c; j = last })).bottom;
      };
      bottoms = λ i low. record {
        count = length-map r.bottom (λ (edge : List (List ℤ)). errors_of edge i) ∙ is.columns;
        at = λ c inside.
            let ink : List (List ℤ) → List ℤ = λ edge. errors_of edge i in
            let Q : List ℤ → Type 0 =
            λ xs. IsBottom (errors_below b.kernel (amounts_of b) (top_edges b) i) (record { c = c; j = last }) xs in
            subst Q (sym (get_or-map ink r.bottom c [] [] (let k = is.columns in omega arith) ∙ ap ink (band c inside)))
            (given-done b.kernel (amounts_of b) (top_edges b) (record { c = c; j = last }) i low).has_bottom;
      };
    }
