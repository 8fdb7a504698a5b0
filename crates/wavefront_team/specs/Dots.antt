-- The dots of a page's window, whatever keeps them.
use Rattle.std.specs.Prelude.{◌≡◌, ℕ, ◌<◌, Bool}
use Rattle.dot_planes.specs.Tables.{DotTable, dot}

-- How many columns, rows and inks there are, and whether an ink has a dot in row y at column x.
pub record Dots : Type 0 where
  pub width : ℕ
  pub rows : ℕ
  pub inks : ℕ
  pub dot : ℕ → ℕ → ℕ → Bool

-- the dots of a table
abbrev pub dots_of : DotTable → Dots
dots_of t = record { width = t.width; rows = t.rows; inks = t.inks; dot = dot t }

-- both have the same size
pub record IsSameSize (old new : Dots) : Type 0 where
  pub width : new.width ≡ old.width
  pub rows : new.rows ≡ old.rows
  pub inks : new.inks ≡ old.inks

-- both have the same size, and the same dots in each row
pub record IsSameDots (old new : Dots) : Type 0 where
  pub size : IsSameSize old new
  pub dots : (i y x : ℕ) → y < old.rows → new.dot i y x ≡ old.dot i y x
