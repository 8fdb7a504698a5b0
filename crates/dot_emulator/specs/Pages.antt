-- The rows of a page.
use Rattle.std.specs.Prelude.{ℕ, ◌+◌, ◌-◌, ◌/◌, Option, unwrap_or}

-- the rows of a sheet of the page's length
abbrev pub sheet_rows : Option ℕ → ℕ → ℕ
sheet_rows page row = (unwrap_or page 0 + row - 1) / row
