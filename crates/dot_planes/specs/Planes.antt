-- The invariant of planes.
use Rattle.std.specs.Prelude.{◌≡◌, ℕ, ◌-◌, ◌*◌, ◌++◌, ◌<◌, ◌≤◌, List, false, length, replicate, vec_capacity}
use Rattle.dot_planes.specs.Tables.{DotTable, IsSize, row_at, row_dot, row_len}
use Rattle.dot_planes.specs.declared.planes.Planes.TheInside.{Inside}

-- how many bytes all rows have
abbrev pub all_len : Inside → ℕ
all_len p = p.inks * p.rows * row_len p.width

-- the bytes of all rows: those that are there, and 0 for the rest
abbrev pub all_bytes : Inside → List ℕ
all_bytes p = p.bytes.items ++ replicate (all_len p - length p.bytes.items) 0

-- planes as a table
abbrev pub table_of : Inside → DotTable
table_of p = record { width = p.width; rows = p.rows; inks = p.inks; bytes = all_bytes p }

-- Whole rows are there, with room for the rest, and spare bits are 0.
pub record IsTable (p : Inside) : Type 0 where
  pub size : IsSize p.width p.rows p.inks
  pub there : ℕ
  pub some : there ≤ p.inks * p.rows
  pub len : length p.bytes.items ≡ there * row_len p.width
  pub room : all_len p ≤ vec_capacity p.bytes
  pub spare : (n x : ℕ) → n < p.inks * p.rows → p.width ≤ x → row_dot (row_at (row_len p.width) (all_bytes p) n) x ≡ false
