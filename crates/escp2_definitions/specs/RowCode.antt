-- The code of raster rows (ESC/P Reference Manual, run length encoding of `ESC .`).
use Rattle.std.specs.Prelude.{◌≡◌, ℕ, zero, suc, ◌+◌, ◌-◌, ◌≤◌, ◌==◌, nat_lt, if◌then◌else◌, List, [], ◌∷◌, ◌++◌, length, take, drop}
use Rattle.std.specs.Prelude.{replicate}
use Rattle.std.specs.List.{flat_map, AllByRecursion}

-- ---- what a code says

-- A packet of a row's code: bytes as they are, or one byte that is repeated.
pub data RowPacket : Type 0 where
  Bytes : List ℕ → RowPacket
  Repeat : ℕ → ℕ → RowPacket

-- a packet has 1 to 128 bytes as they are, or one byte 2 to 128 times
abbrev pub IsRowPacket : RowPacket → Type 0
IsRowPacket (Bytes bytes) = (1 ≤ length bytes) × (length bytes ≤ 128)
IsRowPacket (Repeat n byte) = (2 ≤ n) × (n ≤ 128)

-- the code of a packet: a control byte, and what it controls
abbrev pub packet_code : RowPacket → List ℕ
packet_code (Bytes bytes) = (length bytes - 1) ∷ bytes
packet_code (Repeat n byte) = (257 - n) ∷ byte ∷ []

-- the bytes of the row that a packet stands for
abbrev pub packet_row : RowPacket → List ℕ
packet_row (Bytes bytes) = bytes
packet_row (Repeat n byte) = replicate n byte

-- The code is one of this row: its packets end with the row.
pub record RowCode (code row : List ℕ) : Type 0 where
  pub packets : List RowPacket
  pub allowed : AllByRecursion IsRowPacket packets
  pub coded : code ≡ flat_map packet_code packets
  pub gives : row ≡ flat_map packet_row packets

-- The code is one of m rows of this width in bytes, each by a code of its own, one after another.
abbrev pub RowsCode : ℕ → ℕ → List ℕ → List ℕ → Type 0
RowsCode zero width code rows = (code ≡ []) × (rows ≡ [])
RowsCode (suc m) width code rows =
    (front row code' rows' : List ℕ) × (code ≡ front ++ code') × (rows ≡ row ++ rows')
    × (length row ≡ width) × RowCode front row × RowsCode m width code' rows'

-- ---- how it is read

-- What a control byte says: this many bytes follow; one byte follows, which is repeated this often; or nothing (128).
pub data Control : Type 0 where
  Follow : ℕ → Control
  Again : ℕ → Control
  Refused : Control

-- the meaning of a control byte
abbrev pub control_of : ℕ → Control
control_of n = if nat_lt n 128 then Follow (n + 1) else (if n == 128 then Refused else Again (257 - n))

-- What bytes begin with, read as rows: bytes of rows, and the place after their code; a part of a code; or
-- the place of a control byte that is refused.
pub data RowsRead : Type 0 where
  RowsAre : List ℕ → ℕ → RowsRead
  RowsPart : RowsRead
  RowsWrong : ℕ → RowsRead

-- what is read, with these bytes of rows before it
abbrev pub with_front : List ℕ → RowsRead → RowsRead
with_front front (RowsAre rows at) = RowsAre (front ++ rows) at
with_front front RowsPart = RowsPart
with_front front (RowsWrong at) = RowsWrong at

-- `count` bytes as they are
abbrev pub plain_at : ℕ → ℕ → List ℕ → RowsRead
plain_at count at bytes = if nat_lt (length bytes) count then RowsPart else RowsAre (take count bytes) (at + count)

-- one byte, `count` times
abbrev pub again_at : ℕ → ℕ → List ℕ → RowsRead
again_at count at [] = RowsPart
again_at count at (byte ∷ bytes) = RowsAre (replicate count byte) (at + 1)

-- what a control byte at a place gives, where its row has `left` bytes left
abbrev pub controlled : Control → ℕ → ℕ → List ℕ → RowsRead
controlled (Follow n) left at bytes = if nat_lt left n then RowsWrong at else plain_at n (at + 1) bytes
controlled (Again n) left at bytes = if nat_lt left n then RowsWrong at else again_at n (at + 1) bytes
controlled Refused left at bytes = RowsWrong at

-- the packet at a place, where its row has `left` bytes left
abbrev pub packet_at : ℕ → ℕ → List ℕ → RowsRead
packet_at left at [] = RowsPart
packet_at left at (n ∷ bytes) = controlled (control_of n) left at bytes

-- The rest of a row that has `left` bytes left, in at most `most` packets: each gives a byte or more.
unfoldable pub row_at : ℕ → ℕ → ℕ → List ℕ → RowsRead
row_at most zero at bytes = RowsAre [] at
row_at zero (suc left) at bytes = RowsPart
row_at (suc most) (suc left) at bytes = elim (packet_at (suc left) at bytes) [
  | RowsAre front next ↦ with_front front (row_at most (suc left - length front) next (drop (next - at) bytes))
  | RowsPart ↦ RowsPart
  | RowsWrong place ↦ RowsWrong place
]

-- m rows of this width, one after another
unfoldable pub rows_at : ℕ → ℕ → ℕ → List ℕ → RowsRead
rows_at zero width at bytes = RowsAre [] at
rows_at (suc m) width at bytes = elim (row_at width width at bytes) [
  | RowsAre row next ↦ with_front row (rows_at m width next (drop (next - at) bytes))
  | RowsPart ↦ RowsPart
  | RowsWrong place ↦ RowsWrong place
]
