-- What the definition of error diffusion has for a window, and how much of it is known.
use Rattle.std.specs.Prelude.{◌≡◌, ◌⊎◌, ℕ, ℤ, pos, ◌+◌, ◌+ℤ◌, ◌-◌, ◌*◌, ◌<◌, ◌≤◌, List, Bool, false, length, slice_index_or}
use Rattle.diffusion_definitions.specs.Diffusion.{EachInRange, Errors, InRange, Plane, Table, errors, on, weighted_from}
use Rattle.diffusion_kernel.specs.Tables.{table_of}
use Rattle.plain_diffusion.specs.Fills.{AboveInRange, above_of, amount_of}
use Rattle.plain_diffusion.specs.declared.fills.InkWindow.{InkWindow}

-- the amounts of a window
abbrev pub plane_of : InkWindow → Plane
plane_of w = record { width = w.width; height = w.height; amount = λ y x. amount_of w.fill x y }

-- its errors, by y + 2 and x + 4
abbrev pub errors_of : InkWindow → Errors
errors_of w = errors (table_of w.kernel) (plane_of w) (λ t n. above_of w.above w.width t n)

-- These are the errors of the first pixels of a window, by row and then column.
pub record AreErrors (w : InkWindow) (es : List ℤ) : Type 0 where
  pub above : AboveInRange w.above
  pub fits : EachInRange es
  pub pixels : (y x : ℕ) → y < w.height → x < w.width → y * w.width + x < length es
      → slice_index_or es (y * w.width + x) (pos 0) ≡ errors_of w (y + 2) (x + 4)

-- These are their dots.
pub record AreDots (w : InkWindow) (dots : List Bool) : Type 0 where
  pub pixels : (y x : ℕ) → y < w.height → x < w.width → y * w.width + x < length dots
      → slice_index_or dots (y * w.width + x) false ≡ on (table_of w.kernel) (plane_of w) (errors_of w) y x

-- a place above the window, beside it, or among its first `many` pixels
abbrev pub IsReached : InkWindow → ℕ → ℕ → ℕ → Type 0
IsReached w many t n = (t < w.height + 2) × (2 ≤ t → 4 ≤ n → n < w.width + 4 → (t - 2) * w.width + (n - 4) < many)

-- the number of the pixel at column x and row y
pub record IsIndex (w : InkWindow) (x y : ℤ) (index : ℕ) : Type 0 where
  pub n : ℕ
  pub t : ℕ
  pub column : x ≡ pos n
  pub row : y ≡ pos t
  pub across : n < w.width
  pub down : t < w.height
  pub is : index ≡ t * w.width + n

-- no pixel is there
abbrev pub IsOutside : InkWindow → ℤ → ℤ → Type 0
IsOutside w x y = (n t : ℕ) → pos n ≡ x → pos t ≡ y → (w.width ≤ n) ⊎ (w.height ≤ t)

-- what the errors near the pixel at column x and row y give to it, in parts
abbrev pub given_of : InkWindow → ℕ → ℕ → ℤ
given_of w y x =
    let k : Table = table_of w.kernel in
    let e : Errors = errors_of w in
    weighted_from 0 k.right (λ i. e (y + 2) (x + 3 - i))
    +ℤ (weighted_from 0 k.below (λ i. e (y + 1) (x + 6 - i)) +ℤ weighted_from 0 k.below2 (λ i. e y (x + 6 - i)))

-- these errors are in range
pub record GivesInRange (w : InkWindow) (y x : ℕ) : Type 0 where
  pub same : (i : ℕ) → i < 2 → InRange (errors_of w (y + 2) (x + 3 - i))
  pub up1 : (i : ℕ) → i < 5 → InRange (errors_of w (y + 1) (x + 6 - i))
  pub up2 : (i : ℕ) → i < 5 → InRange (errors_of w y (x + 6 - i))
