-- The places of tiles in a table of errors.
use Rattle.std.proofs.Common.{ℕ, ℤ, pos, suc, zero, ◌≡◌, ◌+◌, ◌-◌, ◌*◌, ◌<◌, ◌∙◌, ap, refl, arith, List, get_or, replicate, inl, inr}
use Rattle.std.proofs.lemmas.Bool.{cases_lt}
use Rattle.diffusion_definitions.specs.Diffusion.{Errors, Plane, Solves, Table}
use Rattle.tile_shape.specs.Geometry.{IsAt, IsPixel}
use Rattle.tile_shape.specs.declared.tiles.Place.{Place}
use Rattle.tile_shape.specs.declared.tiles.Shape.{Shape}
use Rattle.tile_edges.specs.Edges.{Holds, IsPlaneOf, skewed}

-- the same place by other numbers
pub moved : (e : Errors) (y y' n n' : ℕ) → y ≡ y' → n ≡ n' → e y n ≡ e y' n'
moved e y y' n n' a b = ap (λ m. e m n) a ∙ ap (e y') b

-- the same block by other numbers
pub held : (e : Errors) (j p u j' p' u' rows wide : ℕ) (xs : List ℤ) → 32 * j + p ≡ 32 * j' + p' → u + 2 * p' ≡ u' + 2 * p
    → Holds e j p u rows wide xs → Holds e j' p' u' rows wide xs
held e j p u j' p' u' rows wide xs same_row same_place h = record {
  at = λ t i a b. h.at t i a b ∙ moved e _ _ _ _ (omega arith) (omega arith);
}

-- an error of a list of zeros
pub nothing : (n i : ℕ) → get_or (replicate n (pos 0)) i (pos 0) ≡ pos 0
nothing zero i = refl
nothing (suc n) zero = refl
nothing (suc n) (suc i) = nothing n i

-- the error of a pixel is at its place in its tile
pub place_has : (e : Errors) (p : Place) (r o x y : ℕ) → IsAt p r o x y → skewed e p.j (r + 2) (64 * p.c + o + 6) ≡ e (y + 2) (x + 4)
place_has e p r o x y at = moved e _ _ _ _ (omega (arith, at.down)) (omega (arith, at.across))

-- where a place has no pixel of the plane, the error is 0
pub place_without : (k : Table) (plane : Plane) (e : Errors) (s : Shape) (p : Place) (r o : ℕ) → Solves k plane e → IsPlaneOf s plane
    → r < 32 → o < 64
    → ((x y : ℕ) → IsAt p r o x y → IsPixel s x y → ⊥) → skewed e p.j (r + 2) (64 * p.c + o + 6) ≡ pos 0
place_without k plane e s p r o solves sized row_in offset_in none =
    let y : ℕ = 32 * p.j + r in
    let n : ℕ = 64 * p.c + o + 4 - 2 * r in
    moved e _ (y + 2) _ n (omega arith) (omega arith)
    ∙ elim (cases_lt n 4) [
      | inl left ↦ solves.left y n left
      | inr here ↦
          let x : ℕ = n - 4 in
          let there : x + 4 ≡ n = omega arith in
          ap (λ m. e (y + 2) m) (let back : n ≡ x + 4 = omega arith in back)
          ∙ elim (cases_lt x plane.width) [
            | inr right ↦ solves.right y x right
            | inl across ↦ elim (cases_lt y plane.height) [
              | inr below ↦ solves.below y (x + 4) below
              | inl down ↦
                  let no : ⊥ = none x y
                  (record { in_band = row_in; in_tile = offset_in; down = refl; across = omega arith })
                  (record { across = omega (arith, sized.width); down = omega (arith, sized.height) }) in
                  absurd no
            ]
          ]
    ]
