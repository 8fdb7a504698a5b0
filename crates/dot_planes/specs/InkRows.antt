-- The invariant of rows of amounts.
use Rattle.std.specs.Prelude.{◌≡◌, ◌*◌, length}
use Rattle.dot_planes.specs.Tables.{AmountTable, IsSize}
use Rattle.dot_planes.specs.declared.ink_rows.InkRows.TheInside.{Inside}

-- rows of amounts as a table
abbrev pub table_of : Inside → AmountTable
table_of r = record { width = r.width; rows = r.rows; inks = r.inks; bytes = r.bytes.items }

-- The table has an amount at each place.
pub record IsTable (r : Inside) : Type 0 where
  pub size : IsSize r.width r.rows r.inks
  pub len : length r.bytes.items ≡ r.inks * r.rows * r.width
