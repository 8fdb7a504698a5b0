-- What a reader of rows stands for, and what its answers mean.
use Rattle.std.specs.Prelude.{◌≡◌, ℕ, ◌+◌, ◌-◌, ◌*◌, ◌≤◌, ◌==◌, ◌||◌, Bool, true, false, List, ◌++◌, length, take, drop}
use Rattle.escp2_definitions.specs.RowCode.RowsRead.{RowsAre, RowsPart, RowsWrong}
use Rattle.escp2_rows.specs.declared.reader.RowReader.{RowReader}
use Rattle.escp2_rows.specs.declared.reader.Place.TheVariants as place
use Rattle.escp2_rows.specs.declared.reader.RowState.{RowState}
use Rattle.escp2_rows.specs.declared.reader.RowState.TheVariants.{More, Whole, Fault}
use Rattle.escp2_rows.specs.Places.{RowsForm, Stands, is_failed, rest_at, rows_read}

-- how many bytes of the rows are not yet given
abbrev pub bytes_left_of : RowReader → ℕ
bytes_left_of reader = reader.row_left + reader.rows_left * reader.row_bytes

-- whether all rows are given, or a fault was found
abbrev pub is_done_of : RowReader → Bool
is_done_of reader = is_failed reader.place || (bytes_left_of reader == 0)

-- The reader has read these bytes of rows of this form, which gave these bytes of the rows.
abbrev pub StandsFor : RowsForm → RowReader → List ℕ → List ℕ → Type 0
StandsFor form reader sofar given =
    Stands form reader.place reader.row_left reader.rows_left reader.row_bytes sofar given

-- The reader has read these bytes after those before, which gave these more bytes of the rows.
pub record Gives (old new : RowReader) (bytes gave : List ℕ) : Type 0 where
  pub left : bytes_left_of new + length gave ≡ bytes_left_of old
  pub stands : (form : RowsForm) (sofar given : List ℕ) → StandsFor form old sofar given
      → StandsFor form new (sofar ++ bytes) (given ++ gave)

-- The reader has read these bytes, and what they gave is appended.
pub record Takes (old new : RowReader) (bytes before after : List ℕ) : Type 0 where
  pub gave : List ℕ
  pub appended : after ≡ before ++ gave
  pub gives : Gives old new bytes gave

-- The packet, which gave `count` bytes, is ended.
pub record EndsPacket (old new : RowReader) (count : ℕ) : Type 0 where
  pub place : new.place ≡ place.Packet
  pub left : bytes_left_of new + count ≡ bytes_left_of old
  pub reads : (most : ℕ) → old.row_left - count ≤ most → (most' : ℕ) × (new.row_left ≤ most')
      × ((at : ℕ) (bytes : List ℕ) → rest_at most (old.row_left - count) old.rows_left old.row_bytes at bytes
      ≡ rest_at most' new.row_left new.rows_left new.row_bytes at bytes)

-- ---- answers

-- a fact where the rows are not yet read
abbrev pub OnMore : RowState → Type 0 → Type 0
OnMore More P = P
OnMore Whole P = Unit {0}
OnMore (Fault at) P = Unit {0}

-- a fact where the rows are read
abbrev pub OnWhole : RowState → Type 0 → Type 0
OnWhole More P = Unit {0}
OnWhole Whole P = P
OnWhole (Fault at) P = Unit {0}

-- a fact where a fault is found, of its place in the piece
abbrev pub OnFault : RowState → (ℕ → Type 0) → Type 0
OnFault More P = Unit {0}
OnFault Whole P = Unit {0}
OnFault (Fault at) P = P at

-- The whole piece is used, and the rows do not end in it.
pub record IsMore (old new : RowReader) (piece : List ℕ) (used : ℕ) : Type 0 where
  pub all : used ≡ length piece
  pub is_open : is_done_of new ≡ false
  pub part : (form : RowsForm) (sofar given : List ℕ) → StandsFor form old sofar given
      → rows_read form (sofar ++ piece) ≡ RowsPart

-- The rows end with the last byte that was used, whatever follows, and all of them are given.
pub record IsWhole (old new : RowReader) (piece : List ℕ) (used : ℕ) (before after : List ℕ) : Type 0 where
  pub none_left : bytes_left_of new ≡ 0
  pub whole : (form : RowsForm) (sofar given rest : List ℕ) → StandsFor form old sofar given
      → rows_read form (sofar ++ take used piece ++ rest)
      ≡ RowsAre (given ++ drop (length before) after) (form.at + length sofar + used)

-- The last byte that was used is a control byte that is refused, whatever follows.
pub record IsFault (old new : RowReader) (piece : List ℕ) (used at : ℕ) : Type 0 where
  pub last : used ≡ at + 1
  pub done : is_done_of new ≡ true
  pub wrong : (form : RowsForm) (sofar given rest : List ℕ) → StandsFor form old sofar given
      → rows_read form (sofar ++ take used piece ++ rest) ≡ RowsWrong (form.at + length sofar + at)
