-- What the examples are written with.
use Rattle.std.specs.Prelude.{ℕ, ℤ, pos, suc, zero, ◌+◌, ◌-ℤ◌, Bool, List, [], ◌∷◌, length, map, replicate, slice_index, slice_index_or}
use Rattle.diffusion_definitions.specs.Diffusion.{Table, Plane, value, errors, no_top, on}

-- the plane with these rows of amounts, each as long as the first
abbrev pub plane_of : List (List ℕ) → Plane
plane_of rows =
    record {
      width = length (slice_index_or rows 0 []);
      height = length rows;
      amount = λ y x. slice_index (slice_index_or rows y []) x;
    }

-- one row of n pixels of amount 128
abbrev pub row_of_halves : ℕ → Plane
row_of_halves n = plane_of (replicate n 128 ∷ [])

-- two rows of four pixels, of which only the second gets dots
abbrev pub two_rows : Plane
two_rows = plane_of ((46 ∷ 46 ∷ 46 ∷ 46 ∷ []) ∷ (96 ∷ 96 ∷ 96 ∷ 92 ∷ []) ∷ [])

-- a number below 0
abbrev pub minus : ℕ → ℤ
minus n = pos 0 -ℤ pos n

-- n numbers from i on
abbrev pub numbers_from : ℕ → ℕ → List ℕ
numbers_from i zero = []
numbers_from i (suc n) = i ∷ numbers_from (i + 1) n

-- the errors of row y of a page with this plane
abbrev pub errors_of_row : Table → Plane → ℕ → List ℤ
errors_of_row k p y = map (λ x. errors k p no_top (y + 2) (x + 4)) (numbers_from 0 p.width)

-- the dots of row y of a page with this plane
abbrev pub dots_of_row : Table → Plane → ℕ → List Bool
dots_of_row k p y = map (λ x. on k p (errors k p no_top) y x) (numbers_from 0 p.width)

-- error e at one place of a list, and none at the places before it
abbrev pub only_at : ℤ → ℕ → List ℤ
only_at e zero = e ∷ []
only_at e (suc i) = pos 0 ∷ only_at e i

-- what a pixel of amount 0 gets from an error e at x - 1 and at x - 2 of its row
abbrev pub given_by_same : Table → ℤ → List ℤ
given_by_same k e = map (λ i. value k 0 (only_at e i) [] []) (numbers_from 0 2)

-- what it gets from an error e at x - 2 to x + 2, one row above
abbrev pub given_by_row : Table → ℤ → List ℤ
given_by_row k e = map (λ i. value k 0 [] (only_at e i) []) (numbers_from 0 5)

-- what it gets from an error e at x - 2 to x + 2, two rows above
abbrev pub given_by_row2 : Table → ℤ → List ℤ
given_by_row2 k e = map (λ i. value k 0 [] [] (only_at e i)) (numbers_from 0 5)
