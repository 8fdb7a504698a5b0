-- Whole packets: what a packet gives, and what a reader stands for after some of them.
use Rattle.std.specs.Prelude.{◌≡◌, ℕ, ◌+◌, ◌-◌, ◌*◌, ◌<◌, ◌≤◌, List, ◌++◌, length, take, replicate, slice_index}
use Rattle.escp2_definitions.specs.RowCode.{packet_at}
use Rattle.escp2_definitions.specs.RowCode.RowsRead.{RowsAre}
use Rattle.escp2_rows.specs.declared.reader.Place.TheVariants.{Packet}
use Rattle.escp2_rows.specs.Places.{RowsForm, Stands}

-- The packet with this control byte gives `count` bytes: the first `kept` of the bytes that follow as they are, and
-- then the next one, repeated. A literal ends with one byte, once. At 128, which is refused, `count` is 129.
pub record IsShape (control kept count : ℕ) : Type 0 where
  pub literal : control < 128 → (kept ≡ control) × (count ≡ control + 1)
  pub repeated : 128 ≤ control → (kept ≡ 0) × (count + control ≡ 257)

-- what such a packet gives, of the bytes that follow its control byte
abbrev pub gave_of : ℕ → ℕ → List ℕ → List ℕ
gave_of kept count bytes = take kept bytes ++ replicate (count - kept) (slice_index bytes kept)

-- The piece begins with a packet of `code` bytes, whatever follows them. It gives `count` bytes of a row that has
-- `left` bytes left, which are put after the filled bytes.
pub record Puts (left filled : ℕ) (piece before after : List ℕ) (code count : ℕ) : Type 0 where
  pub gave : List ℕ
  pub some : 1 ≤ count
  pub counted : length gave ≡ count
  pub is : (at : ℕ) (rest : List ℕ) → packet_at left at (take code piece ++ rest) ≡ RowsAre gave (at + code)
  pub put : take (filled + count) after ≡ take filled before ++ gave

-- Before a packet, a reader of rows of this width reads these bytes, and stands before a packet again. What they give
-- is put after the filled bytes, of which there are `filled'` then.
pub record ReadsRows (width left m left' m' filled filled' : ℕ) (bytes before after : List ℕ) : Type 0 where
  pub gave : List ℕ
  pub put : take filled' after ≡ take filled before ++ gave
  pub fewer : left' + m' * width + length gave ≡ left + m * width
  pub counted : filled' ≡ filled + length gave
  pub stands : (form : RowsForm) (sofar given : List ℕ) → Stands form Packet left m width sofar given
      → Stands form Packet left' m' width (sofar ++ bytes) (given ++ gave)
