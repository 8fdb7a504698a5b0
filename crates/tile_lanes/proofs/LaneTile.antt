-- A tile with its rows in step, from its edges to its edges.
use Rattle.std.proofs.Common.{ℕ, ℤ, pos, ◌≡◌, ◌≢◌, ◌+◌, ◌-◌, ◌*◌, ◌/◌, ◌%◌, ◌<◌, ◌≤◌, ◌∙◌, ap, arith, inl, inr, List, get_or, replicate}
use Rattle.std.proofs.Common.{zero, suc}
use Rattle.std.proofs.lemmas.Bool.{cases_lt}
use Rattle.diffusion_definitions.specs.Diffusion.{Errors, Plane}
use Rattle.diffusion_kernel.specs.Tables.{table_of}
use Rattle.diffusion_kernel.specs.declared.tables.Kernel.{Kernel}
use Rattle.tile_edges.specs.Edges.{Holds, skewed}
use Rattle.tile_lanes.specs.Held.{HeldInRange, error_held}
use Rattle.tile_lanes.specs.Lanes.{HasBits, IsFilled}
use Rattle.tile_lanes.specs.Paces.{cell_of, end_of, pace_of}
use Rattle.tile_lanes.specs.declared.lanes.pace.Pace.{Pace}
use Rattle.tile_lanes.proofs.PaceCells.{cell_done, cells_apart, cells_same, dots_end}
use Rattle.tile_lanes.proofs.Paces.{group_of}
use Rattle.tile_lanes.proofs.RowTile.{DotsSoFar}

pub zeros_held : (n : ℕ) → HeldInRange (replicate n 0)
zeros_held zero i = omega arith
zeros_held (suc n) zero = omega arith
zeros_held (suc n) (suc i) = zeros_held n i

-- The errors of the two rows above a tile are right.
pub record IsLoaded (pace : Pace) (e : Errors) (c j : ℕ) (xs : List ℕ) : Type 0 where
  pub at : (p l : ℕ) → p < 2 → l < 70 → error_held (get_or xs (cell_of pace p l) 0) ≡ skewed e j p (64 * c + l)

-- Two rows of errors above the tile were put into a field.
pub loaded_above : (pace : Pace) (e : Errors) (c j : ℕ) (f1 f2 : List ℕ) (above corner : List ℤ)
    → ((n : ℕ) → n < 128 → error_held (get_or f1 (cell_of pace (n / 64) (6 + n % 64)) 0) ≡ get_or above n (pos 0))
    → ((n : ℕ) → n < 12 → error_held (get_or f2 (cell_of pace (n / 6) (n % 6)) 0) ≡ get_or corner n (pos 0))
    → ((m : ℕ) → ((n : ℕ) → n < 12 → m ≢ cell_of pace (n / 6) (n % 6)) → get_or f2 m 0 ≡ get_or f1 m 0)
    → Holds e j 0 (64 * c + 6) 2 64 above → Holds e j 0 (64 * c) 2 6 corner → IsLoaded pace e c j f2
loaded_above pace e c j f1 f2 above corner put1 put2 kept2 is_above is_corner = record { at = both }
  where
    both : (p l : ℕ) → p < 2 → l < 70 → error_held (get_or f2 (cell_of pace p l) 0) ≡ skewed e j p (64 * c + l)
    both p l up small = elim (cases_lt l 6) [
      | inl beside ↦
          let n : ℕ = 6 * p + l in
          let here : cell_of pace p l ≡ cell_of pace (n / 6) (n % 6) =
          cells_same pace p l _ _ (omega arith) (omega arith) in
          let row : 0 + p ≡ p = omega arith in
          ap (λ m. error_held (get_or f2 m 0)) here ∙ put2 n (omega arith) ∙ is_corner.at p l up beside
          ∙ ap (λ q. skewed e j q (64 * c + l)) row
      | inr from ↦
          let n : ℕ = 64 * p + (l - 6) in
          let here : cell_of pace p l ≡ cell_of pace (n / 64) (6 + n % 64) =
          cells_same pace p l _ _ (omega arith) (omega arith) in
          let row : 0 + p ≡ p = omega arith in
          let place : 64 * c + 6 + (l - 6) ≡ 64 * c + l = omega arith in
          ap error_held (kept2 (cell_of pace p l)
          (λ m few. cells_apart pace p l (m / 6) (m % 6) (omega arith) (omega arith) (λ same beside. omega arith)))
          ∙ ap (λ m. error_held (get_or f1 m 0)) here ∙ put1 n (omega arith) ∙ is_above.at p (l - 6) up (omega arith)
          ∙ ap (λ q. skewed e j q (64 * c + 6 + (l - 6))) row ∙ ap (skewed e j p) place
    ]

-- Then those left of it were: all groups before its first pixel are right.
pub loaded_left : (pace : Pace) (e : Errors) (c j : ℕ) (f1 f2 : List ℕ) (left : List ℤ) → IsLoaded pace e c j f1
    → Holds e j 2 (64 * c) 32 6 left
    → ((n : ℕ) → n < 192 → error_held (get_or f2 (cell_of pace (2 + n / 6) (n % 6)) 0) ≡ get_or left n (pos 0))
    → ((m : ℕ) → ((n : ℕ) → n < 192 → m ≢ cell_of pace (2 + n / 6) (n % 6)) → get_or f2 m 0 ≡ get_or f1 m 0)
    → IsFilled pace e c j 8 f2
loaded_left pace e c j f1 f2 left loaded is_left there kept = record {
  before = λ p l band small visited. elim (cases_lt p 2) [
    | inl up ↦ above p l up small
    | inr down ↦ let group = group_of pace p down in beside p l down band (omega (arith, group))
  ];
  above = above;
  left = λ p l band small. elim (cases_lt p 2) [
    | inl up ↦ above p l up (omega arith)
    | inr down ↦ beside p l down band small
  ];
}
  where
    above : (p l : ℕ) → p < 2 → l < 70 → error_held (get_or f2 (cell_of pace p l) 0) ≡ skewed e j p (64 * c + l)
    above p l up small = ap error_held (kept (cell_of pace p l)
        (λ n few. cells_apart pace p l (2 + n / 6) (n % 6) (omega arith) (omega arith) (λ same beside. omega arith)))
        ∙ loaded.at p l up small

    beside : (p l : ℕ) → 2 ≤ p → p < 34 → l < 6 → error_held (get_or f2 (cell_of pace p l) 0) ≡ skewed e j p (64 * c + l)
    beside p l down band small =
        let n : ℕ = 6 * (p - 2) + l in
        let here : cell_of pace p l ≡ cell_of pace (2 + n / 6) (n % 6) =
        cells_same pace p l _ _ (omega arith) (omega arith) in
        let row : 2 + (p - 2) ≡ p = omega arith in
        ap (λ m. error_held (get_or f2 m 0)) here ∙ there n (omega arith) ∙ is_left.at (p - 2) l (omega arith) small
        ∙ ap (λ q. skewed e j q (64 * c + l)) row

-- The edges of a field that is done.
pub right_of : (pace : Pace) (e : Errors) (c j : ℕ) (f : List ℕ) (right : List ℤ) → IsFilled pace e c j (end_of pace) f
    → ((n : ℕ) → n < 192 → get_or right n (pos 0) ≡ error_held (get_or f (cell_of pace (2 + n / 6) (64 + n % 6)) 0))
    → Holds e j 2 (64 * c + 64) 32 6 right
right_of pace e c j f right done taken = grind (arith, cell_done, cells_same)

pub bottom_of : (pace : Pace) (e : Errors) (c j : ℕ) (f : List ℕ) (bottom : List ℤ)
    → IsFilled pace e c j (end_of pace) f
    → ((n : ℕ) → n < 128 → get_or bottom n (pos 0) ≡ error_held (get_or f (cell_of pace (32 + n / 64) (6 + n % 64)) 0))
    → Holds e j 32 (64 * c + 6) 2 64 bottom
bottom_of pace e c j f bottom done taken = grind (arith, cell_done, cells_same)

pub corner_of : (pace : Pace) (e : Errors) (c j : ℕ) (f : List ℕ) (corner : List ℤ)
    → IsFilled pace e c j (end_of pace) f
    → ((n : ℕ) → n < 12 → get_or corner n (pos 0) ≡ error_held (get_or f (cell_of pace (32 + n / 6) (64 + n % 6)) 0))
    → Holds e j 32 (64 * c + 64) 2 6 corner
corner_of pace e c j f corner done taken = grind (arith, cell_done, cells_same)

pub all_bits : (kernel : Kernel) (p : Plane) (e : Errors) (c j : ℕ) (bits : List ℕ)
    → HasBits kernel p e c j (end_of (pace_of kernel)) bits → DotsSoFar (table_of kernel) p e c j 32 bits
all_bits kernel p e c j bits f = grind (arith, dots_end)
