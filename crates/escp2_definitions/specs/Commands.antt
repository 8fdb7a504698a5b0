-- The command table: what bytes spell a command, and which commands the bytes of a job are
-- (ESC/P Reference Manual, graphics commands; the ranges are this project's own).
use Rattle.std.specs.Prelude.{◌≡◌, ℕ, zero, suc, ◌+◌, ◌*◌, ◌/◌, ◌%◌, Bool, true, ◌==◌, nat_le, ◌&&◌, ◌||◌, if◌then◌else◌}
use Rattle.std.specs.Prelude.{MatchBool, List, [], ◌∷◌, ◌++◌, length, drop}
use Rattle.base_definitions.specs.Limits.{most_columns}
use Rattle.printer_definitions.specs.declared.inks.Ink.{Ink}
use Rattle.printer_definitions.specs.declared.inks.Ink.TheVariants.{Black, Cyan, Magenta, Yellow}
use Rattle.escp2_definitions.specs.declared.command.RasterHead.{RasterHead}
use Rattle.escp2_definitions.specs.declared.command.Command.{Command}
use Rattle.escp2_definitions.specs.declared.command.Command.TheVariants as c
use Rattle.escp2_definitions.specs.declared.stops.JobCause.{JobCause}
use Rattle.escp2_definitions.specs.declared.stops.JobCause.TheVariants.{Unknown, BadLength, BadValue, RunCode}
use Rattle.escp2_definitions.specs.RowCode.{RowsCode, RowsRead, plain_at, rows_at}
use Rattle.escp2_definitions.specs.RowCode.RowsRead.{RowsAre, RowsPart, RowsWrong}

-- ---- the ranges of the table

-- whether a number is in a range
abbrev pub is_between : ℕ → ℕ → ℕ → Bool
is_between low high n = nat_le low n && nat_le n high

-- a unit, the steps of a raster and its number of rows are at least 1
abbrev pub is_some : ℕ → Bool
is_some n = nat_le 1 n

-- MicroWeave is off alone
abbrev pub is_off : ℕ → Bool
is_off n = n == 0

-- a switch is 0 or 1
abbrev pub is_switch : ℕ → Bool
is_switch n = nat_le n 1

-- the most units of a length or a position: a number of 15 bits
abbrev pub most_units : ℕ
most_units = 32767

-- a length is 1 to 32,767 units
abbrev pub is_length : ℕ → Bool
is_length n = is_between 1 most_units n

-- a position is at most 32,767 units
abbrev pub is_position : ℕ → Bool
is_position n = nat_le n most_units

-- a bottom margin is below its top margin
abbrev pub is_bottom : ℕ → ℕ → Bool
is_bottom top n = is_between (top + 1) most_units n

-- the most columns of a sheet, and so of a raster's row: those of a page
abbrev pub last_column : ℕ
last_column = most_columns

-- a raster has a column or more
abbrev pub is_width : ℕ → Bool
is_width n = is_between 1 last_column n

-- the code of an ink in `ESC r`
abbrev pub colour_code : Ink → ℕ
colour_code Black = 0
colour_code Magenta = 1
colour_code Cyan = 2
colour_code Yellow = 4

-- a colour code is 0, 1, 2 or 4
abbrev pub is_colour : ℕ → Bool
is_colour n = nat_le n 2 || (n == 4)

-- the ink of a colour code
abbrev pub ink_of : ℕ → Ink
ink_of n = if n == 0 then Black else (if n == 1 then Magenta else (if n == 2 then Cyan else Yellow))

-- The numbers of a command are in the table's ranges.
abbrev pub in_table : Command → Bool
in_table c.Init = true
in_table c.Graphics = true
in_table (c.Unit m) = is_some m
in_table (c.MicroWeave n) = is_off n
in_table (c.OneWay n) = is_switch n
in_table (c.Length n) = is_length n
in_table (c.Margins top bottom) = is_position top && is_bottom top bottom
in_table (c.DownTo n) = is_position n
in_table (c.DownBy n) = is_position n
in_table (c.Across n) = is_position n
in_table c.Return = true
in_table c.Eject = true
in_table (c.Colour ink) = true
in_table (c.Raster header) = is_switch header.c && is_some header.v && is_some header.h && is_some header.m && is_width header.n

-- ---- what spells a command

-- a number in two bytes, the low one first
abbrev pub two_bytes : ℕ → List ℕ
two_bytes n = n % 256 ∷ n / 256 ∷ []

-- the bytes of a command, but for the rows of a raster
abbrev pub command_bytes : Command → List ℕ
command_bytes c.Init = 0x1B ∷ 0x40 ∷ []
command_bytes c.Graphics = 0x1B ∷ 0x28 ∷ 0x47 ∷ 1 ∷ 0 ∷ 1 ∷ []
command_bytes (c.Unit m) = 0x1B ∷ 0x28 ∷ 0x55 ∷ 1 ∷ 0 ∷ m ∷ []
command_bytes (c.MicroWeave n) = 0x1B ∷ 0x28 ∷ 0x69 ∷ 1 ∷ 0 ∷ n ∷ []
command_bytes (c.OneWay n) = 0x1B ∷ 0x55 ∷ n ∷ []
command_bytes (c.Length n) = 0x1B ∷ 0x28 ∷ 0x43 ∷ 2 ∷ 0 ∷ two_bytes n
command_bytes (c.Margins top bottom) = 0x1B ∷ 0x28 ∷ 0x63 ∷ 4 ∷ 0 ∷ (two_bytes top ++ two_bytes bottom)
command_bytes (c.DownTo n) = 0x1B ∷ 0x28 ∷ 0x56 ∷ 2 ∷ 0 ∷ two_bytes n
command_bytes (c.DownBy n) = 0x1B ∷ 0x28 ∷ 0x76 ∷ 2 ∷ 0 ∷ two_bytes n
command_bytes (c.Across n) = 0x1B ∷ 0x24 ∷ two_bytes n
command_bytes c.Return = 0x0D ∷ []
command_bytes c.Eject = 0x0C ∷ []
command_bytes (c.Colour ink) = 0x1B ∷ 0x72 ∷ colour_code ink ∷ []
command_bytes (c.Raster header) = 0x1B ∷ 0x2E ∷ header.c ∷ header.v ∷ header.h ∷ header.m ∷ two_bytes header.n

-- the bytes of one row of a raster
abbrev pub row_bytes : RasterHead → ℕ
row_bytes header = (header.n + 7) / 8

-- how many bytes of rows go with a command
abbrev pub rows_len : Command → ℕ
rows_len (c.Raster header) = header.m * row_bytes header
rows_len other = 0

-- the bytes that spell the rows of a command: plain, or each row by its code
abbrev pub IsRowsText : Command → List ℕ → List ℕ → Type 0
IsRowsText (c.Raster header) rows text = MatchBool (header.c == 0) (text ≡ rows) (RowsCode header.m (row_bytes header) text rows)
IsRowsText other rows text = text ≡ rows

-- These bytes spell the command, with the rows of a raster.
pub record Spells (command : Command) (rows bytes : List ℕ) : Type 0 where
  pub in_range : in_table command ≡ true
  pub rows_fit : length rows ≡ rows_len command
  pub text : List ℕ
  pub rows_are : IsRowsText command rows text
  pub spelled : bytes ≡ command_bytes command ++ text

-- ---- how a command is read

-- What the bytes begin with: a whole command, with its rows and its length; a part of a command;
-- or a fault at this place of the bytes.
pub data Heard : Type 0 where
  One : Command → List ℕ → ℕ → Heard
  Part : Heard
  Wrong : ℕ → JobCause → Heard

-- a whole command of this length, without rows
abbrev pub whole : Command → ℕ → List ℕ → Heard
whole command len rest = One command [] len

-- A number of one byte at a place: refused where it is out of range, else the command goes on with `next`.
abbrev pub number : (ℕ → Bool) → ℕ → (ℕ → List ℕ → Heard) → List ℕ → Heard
number in_range at next [] = Part
number in_range at next (n ∷ rest) = if in_range n then next n rest else Wrong at BadValue

-- A number of two bytes, the low one first: refused as soon as both are there.
abbrev pub wide_number : (ℕ → Bool) → ℕ → (ℕ → List ℕ → Heard) → List ℕ → Heard
wide_number in_range at next [] = Part
wide_number in_range at next (low ∷ []) = Part
wide_number in_range at next (low ∷ high ∷ rest) = if in_range (low + 256 * high) then next (low + 256 * high) rest else Wrong at BadValue

-- The two bytes of a length after `ESC ( x`, which is below 256 for each command.
abbrev pub sized : ℕ → (List ℕ → Heard) → List ℕ → Heard
sized len next [] = Part
sized len next (low ∷ []) = if low == len then Part else Wrong 3 BadLength
sized len next (low ∷ high ∷ rest) = if low == len then (if high == 0 then next rest else Wrong 4 BadLength) else Wrong 3 BadLength

-- a raster with the rows that were read
abbrev pub with_rows : RasterHead → RowsRead → Heard
with_rows header (RowsAre rows at) = One (c.Raster header) rows at
with_rows header RowsPart = Part
with_rows header (RowsWrong at) = Wrong at RunCode

-- the rows after a raster's numbers, which take eight bytes
abbrev pub raster_rows : RasterHead → List ℕ → Heard
raster_rows header rest =
    with_rows header (if header.c == 0 then plain_at (header.m * row_bytes header) 8 rest else rows_at header.m (row_bytes header) 8 rest)

-- the numbers of a raster, and then its rows
abbrev pub raster_at : List ℕ → Heard
raster_at = number is_switch 2 (λ c. number is_some 3 (λ v. number is_some 4 (λ h. number is_some 5 (λ m.
    wide_number is_width 6 (λ n. raster_rows (record { c = c; v = v; h = h; m = m; n = n }))))))

-- what follows `ESC (`
abbrev pub paren : List ℕ → Heard
paren [] = Part
paren (b ∷ rest) =
    if b == 0x47 then sized 1 (number (λ n. n == 1) 5 (λ n. whole c.Graphics 6)) rest else
    (if b == 0x55 then sized 1 (number is_some 5 (λ m. whole (c.Unit m) 6)) rest else
    (if b == 0x69 then sized 1 (number is_off 5 (λ n. whole (c.MicroWeave n) 6)) rest else
    (if b == 0x43 then sized 2 (wide_number is_length 5 (λ n. whole (c.Length n) 7)) rest else
    (if b == 0x63 then sized 4
    (wide_number is_position 5 (λ top. wide_number (is_bottom top) 7 (λ bottom. whole (c.Margins top bottom) 9))) rest else
    (if b == 0x56 then sized 2 (wide_number is_position 5 (λ n. whole (c.DownTo n) 7)) rest else
    (if b == 0x76 then sized 2 (wide_number is_position 5 (λ n. whole (c.DownBy n) 7)) rest else
    Wrong 2 Unknown))))))

-- what follows `ESC`
abbrev pub escape : List ℕ → Heard
escape [] = Part
escape (b ∷ rest) =
    if b == 0x40 then whole c.Init 2 rest else
    (if b == 0x55 then number is_switch 2 (λ n. whole (c.OneWay n) 3) rest else
    (if b == 0x24 then wide_number is_position 2 (λ n. whole (c.Across n) 4) rest else
    (if b == 0x72 then number is_colour 2 (λ n. whole (c.Colour (ink_of n)) 3) rest else
    (if b == 0x2E then raster_at rest else
    (if b == 0x28 then paren rest else
    Wrong 1 Unknown)))))

-- the command that the bytes begin with
unfoldable pub command_at : List ℕ → Heard
command_at [] = Part
command_at (b ∷ rest) =
    if b == 0x1B then escape rest else
    (if b == 0x0D then whole c.Return 1 rest else
    (if b == 0x0C then whole c.Eject 1 rest else
    Wrong 0 Unknown))

-- ---- the commands of a job

-- A whole command of a job: the offset of its first byte, the command, and a raster's rows.
pub record Entry : Type 0 where
  pub at : ℕ
  pub command : Command
  pub rows : List ℕ

-- How the commands of a job end: with its last byte, inside the command that begins at an offset, or at a fault.
pub data ListEnd : Type 0 where
  Whole : ListEnd
  Cut : ℕ → ListEnd
  Fault : ℕ → JobCause → ListEnd

-- The whole commands at the beginning of bytes, and how they end.
pub record CommandList : Type 0 where
  pub entries : List Entry
  pub end : ListEnd

-- the commands with this one before them
abbrev pub with_entry : Entry → CommandList → CommandList
with_entry entry job = record { entries = entry ∷ job.entries; end = job.end }

-- The commands from `at` on. Each takes a byte at least, so there are at most `most`.
unfoldable pub commands_from : ℕ → ℕ → List ℕ → CommandList
commands_from most at [] = record { entries = []; end = Whole }
commands_from zero at (b ∷ bytes) = record { entries = []; end = Cut at }
commands_from (suc most) at (b ∷ bytes) = elim (command_at (b ∷ bytes)) [
  | One command rows len ↦
      with_entry (record { at = at; command = command; rows = rows }) (commands_from most (at + len) (drop len (b ∷ bytes)))
  | Part ↦ record { entries = []; end = Cut at }
  | Wrong place cause ↦ record { entries = []; end = Fault (at + place) cause }
]

-- what the bytes of a job are read as
abbrev pub commands : List ℕ → CommandList
commands bytes = commands_from (length bytes) 0 bytes
