-- The graph of a window's tiles, by their places.
use Rattle.std.proofs.lemmas.Grind.{common_steps}
use Rattle.std.proofs.Common.{◌≡◌, ℕ, ◌+◌, ◌-◌, ◌*◌, ◌<◌, ◌&&◌, ltb, refl, sym, ap, ◌∙◌, arith, Some}
use Rattle.std.proofs.lemmas.Bool.{ltb-true, lt-ltb}
use Rattle.board_core.specs.Numbers.{number_of}
use Rattle.board_core.specs.Steps.{Gives}
use Rattle.board_core.proofs.Numbers.{row_more}
use Rattle.tile_shape.specs.Geometry.{IsReceiver, IsTile, bands_of, columns_of}
use Rattle.tile_shape.specs.declared.tiles.Dir.{Dir}
use Rattle.tile_shape.specs.declared.tiles.Dir.TheVariants.{Right, Bottom, Corner}
use Rattle.tile_shape.specs.declared.tiles.Place.{Place}
use Rattle.tile_shape.specs.declared.tiles.Shape.{Shape}
use Rattle.board_steps.specs.Graph.{IsGraph, graph_of, next_in}
use Rattle.board_steps.specs.Steps.{index_of}
use Rattle.board_steps.proofs.Grid.{only-inv, only-yes, both, and-yes, At, at-div, at-mod, next-at, grid}

some_column : (s : Shape) → 0 < columns_of s
some_column s = let w : ℕ = s.width in omega arith

pub window_graph : (s : Shape) → IsGraph (graph_of s)
window_graph s = grid (columns_of s) (bands_of s) (some_column s)

tile_at : (s : Shape) (p : Place) → IsTile s p → At (columns_of s) (bands_of s) p.c p.j (number_of s p)
tile_at s p tile = record { is = refl; column = tile.column; band = tile.band }

-- a number is that of one place
one_place : (C B c j c' j' n : ℕ) → At C B c j n → At C B c' j' n → (c' ≡ c) × (j' ≡ j)
one_place C B c j c' j' n a b = (sym (at-mod C B c' j' n b) ∙ at-mod C B c j n a, sym (at-div C B c' j' n b) ∙ at-div C B c j n a)

-- ---- edges

receives : (C B : ℕ) (d : Dir) (p q : Place) (t n : ℕ) → At C B p.c p.j t → At C B q.c q.j n → IsReceiver d p q
    → next_in C B t (index_of d) ≡ Some n
receives C B Right p q t n a b g =
    let row : q.j * C ≡ p.j * C = ap (λ (x : ℕ). x * C) g.1 in let i = a.is in let k = b.is in let l = b.column in let h = g.0 in
    next-at C B p.c p.j t 0 a ∙ only-yes (ltb (p.c + 1) C) (t + 1) n (lt-ltb (p.c + 1) C (omega arith)) (omega arith)
receives C B Bottom p q t n a b g = grind (arith, common_steps, and-yes, lt-ltb, next-at, only-yes, row_more)
receives C B Corner p q t n a b g = grind (arith, common_steps, lt-ltb, next-at, only-yes, row_more)

goes : (C B : ℕ) (d : Dir) (p q : Place) (t n : ℕ) → At C B p.c p.j t → At C B q.c q.j n → next_in C B t (index_of d) ≡ Some n
    → IsReceiver d p q
goes C B Right p q t n a b e =
    let i = only-inv (ltb (p.c + 1) C) (t + 1) n (sym (next-at C B p.c p.j t 0 a) ∙ e) in
    let more = ltb-true (p.c + 1) C i.0 in let f = a.is in let k = i.1 in
    one_place C B (p.c + 1) p.j q.c q.j n record { is = omega arith; column = more; band = a.band } b
goes C B Bottom p q t n a b e =
    let i = only-inv (ltb 0 p.c && ltb (p.j + 1) B) (t + C - 1) n (sym (next-at C B p.c p.j t 1 a) ∙ e) in
    let two = both (ltb 0 p.c) (ltb (p.j + 1) B) i.0 in let pos = ltb-true 0 p.c two.0 in let more = ltb-true (p.j + 1) B two.1 in
    let f = a.is in let k = i.1 in let row = row_more C p.j in let col = a.column in
    let o = one_place C B (p.c - 1) (p.j + 1) q.c q.j n record { is = omega arith; column = omega arith; band = more } b in
    let h = o.0 in (omega arith, o.1)
goes C B Corner p q t n a b e =
    let i = only-inv (ltb (p.j + 1) B) (t + C) n (sym (next-at C B p.c p.j t 2 a) ∙ e) in
    let more = ltb-true (p.j + 1) B i.0 in let f = a.is in let k = i.1 in let row = row_more C p.j in
    one_place C B p.c (p.j + 1) q.c q.j n record { is = omega arith; column = a.column; band = more } b

pub gives_next : (s : Shape) (p q : Place) (d : Dir) → Gives s p d q → (graph_of s).next (number_of s p) (index_of d) ≡ Some (number_of s q)
gives_next s p q d g = receives (columns_of s) (bands_of s) d p q (number_of s p) (number_of s q) (tile_at s p g.source)
    (tile_at s q g.receiver) g.goes

pub next_gives : (s : Shape) (p q : Place) (d : Dir) → IsTile s p → IsTile s q
    → (graph_of s).next (number_of s p) (index_of d) ≡ Some (number_of s q) → Gives s p d q
next_gives s p q d tile tile' e = grind (arith, goes, tile_at)
