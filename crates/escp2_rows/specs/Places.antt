-- Where in a row a reader stands, and what it reads the bytes that follow as.
use Rattle.std.specs.Prelude.{◌≡◌, ℕ, ◌+◌, ◌-◌, ◌*◌, ◌≤◌, ◌==◌, nat_lt, if◌then◌else◌, Bool, true, false, List, [], ◌∷◌, ◌++◌, length, take}
use Rattle.std.specs.Prelude.{drop, replicate}
use Rattle.escp2_definitions.specs.RowCode.{Control, RowsRead, plain_at, row_at, rows_at, with_front}
use Rattle.escp2_definitions.specs.RowCode.Control.{Follow, Again, Refused}
use Rattle.escp2_definitions.specs.RowCode.RowsRead.{RowsAre, RowsPart, RowsWrong}
use Rattle.escp2_rows.specs.declared.reader.Place.{Place}
use Rattle.escp2_rows.specs.declared.reader.Place.TheVariants.{Packet, Literal, Repeated, Failed}

-- ---- the rows as a whole

-- Rows somewhere in a stream: plain (0) or coded, their width in bytes, their number, and the place of
-- their first byte.
pub record RowsForm : Type 0 where
  pub c : ℕ
  pub width : ℕ
  pub rows : ℕ
  pub at : ℕ

-- what the bytes begin with, read as rows of this form
abbrev pub rows_read : RowsForm → List ℕ → RowsRead
rows_read form bytes =
    if form.c == 0 then plain_at (form.rows * form.width) form.at bytes else rows_at form.rows form.width form.at bytes

-- ---- a place in a row

-- how many bytes of the row the current packet still gives
abbrev pub pending : Place → ℕ
pending Packet = 0
pending (Literal n) = n
pending (Repeated n) = n
pending Failed = 0

-- the least of these
abbrev pub least_pending : Place → ℕ
least_pending Packet = 0
least_pending (Literal n) = 1
least_pending (Repeated n) = 1
least_pending Failed = 0

-- a control byte was refused
abbrev pub is_failed : Place → Bool
is_failed Packet = false
is_failed (Literal n) = false
is_failed (Repeated n) = false
is_failed Failed = true

-- where a reader stands after a control byte, where the row has `left` bytes left
abbrev pub behind_control : Control → ℕ → Place
behind_control (Follow n) left = if nat_lt left n then Failed else Literal n
behind_control (Again n) left = if nat_lt left n then Failed else Repeated n
behind_control Refused left = Failed

-- ---- what is read from a place on

-- the rest of a row, and then m rows
abbrev pub then_rows : ℕ → ℕ → ℕ → List ℕ → RowsRead → RowsRead
then_rows m width at bytes (RowsAre row next) = with_front row (rows_at m width next (drop (next - at) bytes))
then_rows m width at bytes RowsPart = RowsPart
then_rows m width at bytes (RowsWrong place) = RowsWrong place

-- the rest of a row that has `left` bytes left, in at most `most` packets, and then m rows
unfoldable pub rest_at : ℕ → ℕ → ℕ → ℕ → ℕ → List ℕ → RowsRead
rest_at most left m width at bytes = then_rows m width at bytes (row_at most left at bytes)

-- what the bytes that follow are read as, from a place on
abbrev pub read_on : Place → ℕ → ℕ → ℕ → ℕ → ℕ → List ℕ → RowsRead
read_on Packet most left m width at bytes = rest_at most left m width at bytes
read_on (Literal n) most left m width at bytes =
    if nat_lt (length bytes) n then RowsPart else with_front (take n bytes) (rest_at most (left - n) m width (at + n) (drop n bytes))
read_on (Repeated n) most left m width at [] = RowsPart
read_on (Repeated n) most left m width at (byte ∷ bytes) =
    with_front (replicate n byte) (rest_at most (left - n) m width (at + 1) bytes)
read_on Failed most left m width at bytes = RowsWrong (at - 1)

-- At this place, with `given` of the rows given, what follows is read as the rows are read that `sofar` begins.
pub record Stands (form : RowsForm) (place : Place) (left m width : ℕ) (sofar given : List ℕ) : Type 0 where
  pub most : ℕ
  pub enough : is_failed place ≡ false → left - pending place ≤ most
  pub is : (rest : List ℕ) → rows_read form (sofar ++ rest)
      ≡ with_front given (read_on place most left m width (form.at + length sofar) rest)
