-- The edges of the first band are the top's, and the bottom edges of a band are the top of the rows below it.
use Rattle.std.proofs.Common.{ℕ, ℤ, pos, ◌≡◌, ◌+◌, ◌-◌, ◌*◌, ◌/◌, ◌%◌, ◌<◌, ◌∙◌, ap, refl, sym, arith, List, [], get_or, replicate, inl}
use Rattle.std.proofs.Common.{inr}
use Rattle.std.proofs.lemmas.Bool.{cases_lt}
use Rattle.std.proofs.lemmas.List.{get_or_past}
use Rattle.diffusion_definitions.specs.Diffusion.{Errors, Plane, Solves, Table, errors, on, rest}
use Rattle.diffusion_definitions.proofs.Slab.{slab}
use Rattle.diffusion_definitions.proofs.SlabDots.{slab_dots}
use Rattle.diffusion_definitions.proofs.Solve.{errors_solve, errors_top}
use Rattle.diffusion_definitions.proofs.Unique.{unique}
use Rattle.tile_shape.specs.Geometry.{columns_of}
use Rattle.tile_shape.specs.declared.tiles.Shape.{Shape}
use Rattle.tile_edges.specs.Edges.{IsAbove, IsCorner, IsPlaneOf}
use Rattle.tile_edges.specs.Tops.{AreBottoms, IsBelow, IsCut, top_of}
use Rattle.tile_edges.proofs.Places.{moved, nothing}

-- an error of a top, by its column and offset
top_at : (edges : List (List ℤ)) (t n c o : ℕ) → n + 56 + 2 * t ≡ 64 * c + o → o < 64
    → top_of edges t n ≡ get_or (get_or edges c []) (64 * t + o) (pos 0)
top_at edges t n c o same offset_in =
    let u : ℕ = n + 56 + 2 * t in
    let column : u / 64 ≡ c = omega arith in
    let offset : u % 64 ≡ o = omega arith in
    ap (λ m. get_or (get_or edges m []) (64 * t + u % 64) (pos 0)) column
    ∙ ap (λ m. get_or (get_or edges c []) (64 * t + m) (pos 0)) offset

pub top_above : (e : Errors) (edges : List (List ℤ)) (c : ℕ) → IsBelow edges e
    → IsAbove e (record { c = c; j = 0 }) (get_or edges (c + 1) [])
top_above e edges c below = record {
  at = λ t i a b.
      let n : ℕ = 64 * c + 6 + i + 2 - 2 * t in
      sym (moved e _ t _ n (omega arith) (omega arith) ∙ below t n a ∙ top_at edges t n (c + 1) i (omega arith) b);
}

pub top_corner : (e : Errors) (edges : List (List ℤ)) (c : ℕ) (xs : List ℤ) → IsBelow edges e → IsCut (get_or edges c []) xs
    → IsCorner e (record { c = c; j = 0 }) xs
top_corner e edges c xs below cut = record {
  at = λ t i a b.
      let n : ℕ = 64 * c + i + 2 - 2 * t in
      cut.at t i a b
      ∙ ap (λ m. get_or (get_or edges c []) m (pos 0)) (let same : 64 * t + 58 + i ≡ 64 * t + (58 + i) = omega arith in same)
      ∙ sym (moved e _ t _ n (omega arith) (omega arith) ∙ below t n a ∙ top_at edges t n c (58 + i) (omega arith) (omega arith));
}

-- where the top has no edge, its errors are 0
pub no_top_above : (e : Errors) (edges : List (List ℤ)) (c : ℕ) → IsBelow edges e → get_or edges (c + 1) [] ≡ []
    → IsAbove e (record { c = c; j = 0 }) (replicate 128 (pos 0))
no_top_above e edges c below none = record {
  at = λ t i a b.
      nothing 128 (64 * t + i) ∙ ap (λ xs. get_or xs (64 * t + i) (pos 0)) (sym none) ∙ (top_above e edges c below).at t i a b;
}

pub no_top_corner : (e : Errors) (edges : List (List ℤ)) (c : ℕ) → IsBelow edges e → get_or edges c [] ≡ []
    → IsCorner e (record { c = c; j = 0 }) (replicate 12 (pos 0))
no_top_corner e edges c below none = top_corner e edges c (replicate 12 (pos 0)) below (record {
  at = λ t i a b. nothing 12 (6 * t + i) ∙ ap (λ xs. get_or xs (64 * t + 58 + i) (pos 0)) (sym none);
})

-- the bottom edges of band j are the two rows above band j + 1
pub bottoms_are_top : (k : Table) (p : Plane) (e : Errors) (s : Shape) (edges : List (List ℤ)) (j : ℕ) → Solves k p e → IsPlaneOf s p
    → AreBottoms s e j edges → IsBelow edges (λ t. e (32 * (j + 1) + t))
bottoms_are_top k p e s edges j solves sized bottoms = λ t n two.
    let u : ℕ = n + 56 + 2 * t in
    let c : ℕ = u / 64 in
    let o : ℕ = u % 64 in
    let parts : u ≡ 64 * c + o = omega arith in
    let small : o < 64 = omega arith in
    let top : top_of edges t n ≡ get_or (get_or edges c []) (64 * t + o) (pos 0) = top_at edges t n c o parts small in
    elim (cases_lt c (columns_of s)) [
      | inl inside ↦ sym (top ∙ (bottoms.at c inside).at t o two small ∙ moved e _ _ _ _ (omega arith) (omega arith))
      | inr past ↦
          let y : ℕ = 32 * j + 30 + t in
          let x : ℕ = n - 4 in
          moved e _ (y + 2) _ (x + 4) (omega arith) (omega (arith, sized.width))
          ∙ solves.right y x (omega (arith, sized.width))
          ∙ sym (top ∙ ap (λ xs. get_or xs (64 * t + o) (pos 0)) (get_or_past edges c [] (omega (arith, bottoms.count))))
    ]

-- So the rows below a band are diffused as a plane of their own, below its bottom edges.
pub slab_below : (k : Table) (p : Plane) (top : Errors) (s : Shape) (edges : List (List ℤ)) (j : ℕ) → IsPlaneOf s p
    → AreBottoms s (errors k p top) j edges
    → (y n : ℕ) → errors k (rest (32 * (j + 1)) p) (top_of edges) y n ≡ errors k p top (32 * (j + 1) + y) n
slab_below k p top s edges j sized bottoms y n =
    let e : Errors = errors k p top in
    let r : Plane = rest (32 * (j + 1)) p in
    let above : Errors = λ t. e (32 * (j + 1) + t) in
    let are : IsBelow edges above = bottoms_are_top k p e s edges j (errors_solve k p top) sized bottoms in
    unique k r (errors k r (top_of edges)) (errors k r above) (errors_solve k r (top_of edges)) (errors_solve k r above)
    (λ m. (errors_top k r (top_of edges) m).0 ∙ sym (are 0 m (omega arith)) ∙ sym (errors_top k r above m).0)
    (λ m. (errors_top k r (top_of edges) m).1 ∙ sym (are 1 m (omega arith)) ∙ sym (errors_top k r above m).1)
    y n
    ∙ ap (λ (row : ℕ → ℤ). row n) (slab k p top (32 * (j + 1)) y)

pub slab_dots_below : (k : Table) (p : Plane) (top : Errors) (s : Shape) (edges : List (List ℤ)) (j : ℕ) → IsPlaneOf s p
    → AreBottoms s (errors k p top) j edges
    → (y x : ℕ) → on k (rest (32 * (j + 1)) p) (errors k (rest (32 * (j + 1)) p) (top_of edges)) y x
    ≡ on k p (errors k p top) (32 * (j + 1) + y) x
slab_dots_below k p top s edges j sized bottoms =
    slab_dots k p (errors k p top) (errors k (rest (32 * (j + 1)) p) (top_of edges)) (32 * (j + 1))
    (slab_below k p top s edges j sized bottoms)

-- a page has no errors above it
pub no_edges : (t n : ℕ) → top_of [] t n ≡ pos 0
no_edges t n = refl
