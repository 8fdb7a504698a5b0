-- The size of the largest page, which this project bounds.
use Rattle.std.specs.Prelude.{ℕ, ◌+◌, ◌*◌, ◌/◌}

-- the most columns of a page: as many as a raster command prints
abbrev pub most_columns : ℕ
most_columns = 8191

-- the most bytes of a row of dots, with eight columns a byte
abbrev pub most_row_bytes : ℕ
most_row_bytes = (most_columns + 7) / 8

-- the most lines of a page: 22 inches at 720 lines an inch
abbrev pub most_rows : ℕ
most_rows = 15840

-- the longest page in units of 1/3600 inch, five of which are a line at 720 lines an inch
abbrev pub longest_page : ℕ
longest_page = 5 * most_rows
