-- Lists of dots and their counts.
use Rattle.std.specs.Prelude.{ℕ, ◌*◌, ◌^◌, ◌≤◌, List, count_by}
use Rattle.base_definitions.specs.Limits.{most_columns}
use Rattle.escp2_definitions.specs.Machine.{Dot, is_at}
use Rattle.printer_definitions.specs.declared.inks.InkCounts.{InkCounts}

-- the most dots of an ink on a sheet, which has less than 2^32 rows
abbrev pub most_sheet_dots : ℕ
most_sheet_dots = most_columns * 2 ^ 32

-- so many sheets have no more dots of each ink
abbrev pub AreFew : ℕ → InkCounts → Type 0
AreFew sheets n =
    (n.k ≤ sheets * most_sheet_dots) × (n.c ≤ sheets * most_sheet_dots) × (n.m ≤ sheets * most_sheet_dots) × (n.y ≤ sheets * most_sheet_dots)

-- each dot is listed once
abbrev pub AreDistinct : List Dot → Type 0
AreDistinct dots = (d : Dot) → count_by (is_at d) dots ≤ 1
