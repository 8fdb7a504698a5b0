-- Packed rows laid over rows of planes, from a column on.
use Rattle.std.specs.Prelude.{◌≡◌, ℕ, ◌+◌, ◌-◌, ◌*◌, ◌<◌, ◌≤◌, ◌⊎◌, ◌≢◌, Bool, nat_lt, nat_le, ◌&&◌, ◌||◌, List}
use Rattle.std.specs.List.{list_any}
use Rattle.base_definitions.specs.Counting.{count_from}
use Rattle.dot_planes.specs.Tables.{DotTable, HasSizeOf, dot, row_dot}

-- whether one of the row's first `dots` dots is on
abbrev pub has_dot : List ℕ → ℕ → Bool
has_dot row dots = list_any (row_dot row) (count_from 0 dots)

-- whether one of the row's first `dots` dots is on where the ink has a dot in row y, with the row's first at column x
abbrev pub meets : DotTable → ℕ → ℕ → ℕ → List ℕ → ℕ → Bool
meets t ink y x row dots = list_any (λ k. row_dot row k && dot t ink y (x + k)) (count_from 0 dots)

-- Row y of an ink also has the first `dots` dots of a packed row, from column x on; all others are unchanged.
pub record Lays (old new : DotTable) (i y x : ℕ) (row : List ℕ) (dots : ℕ) : Type 0 where
  pub size : HasSizeOf old new
  pub part : (k : ℕ) → k < dots → dot new i y (x + k) ≡ (dot old i y (x + k) || row_dot row k)
  pub beside : (c : ℕ) → (c < x) ⊎ (x + dots ≤ c) → dot new i y c ≡ dot old i y c
  pub others : (j r : ℕ) → (j ≢ i) ⊎ (r ≢ y) → r < old.rows → (c : ℕ) → dot new j r c ≡ dot old j r c

-- the dot at column c of the row's first `dots` dots, laid from column x on
abbrev pub laid_dot : List ℕ → ℕ → ℕ → ℕ → Bool
laid_dot row dots x c = nat_le x c && (nat_lt (c - x) dots && row_dot row (c - x))

-- whether column c is in bytes `from` to `to` - 1 of a row
abbrev pub is_in_bytes : ℕ → ℕ → ℕ → Bool
is_in_bytes from to c = nat_le (8 * from) c && nat_lt c (8 * to)
