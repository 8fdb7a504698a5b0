-- Rows of dots in bytes, as the rows of a raster have them (ESC/P Reference Manual, `ESC .`), and bytes as dots.
use Rattle.std.specs.Prelude.{ℕ, zero, suc, ◌+◌, ◌-◌, ◌/◌, ◌%◌, ◌^◌, ◌==◌, Bool, true, false, List, [], ◌∷◌, ◌++◌, length, drop, slice_index_or}

-- ---- dots into bytes

-- the value of a dot in its byte
abbrev pub worth : Bool → ℕ → ℕ
worth true n = n
worth false n = 0

-- the dot at a place of a row, none past its end
abbrev pub at : List Bool → ℕ → Bool
at row k = slice_index_or row k false

-- eight dots in a byte, the first in its highest bit
abbrev pub packed_byte : List Bool → ℕ
packed_byte row =
    worth (at row 0) 128 + worth (at row 1) 64 + worth (at row 2) 32 + worth (at row 3) 16
    + worth (at row 4) 8 + worth (at row 5) 4 + worth (at row 6) 2 + worth (at row 7) 1

-- n bytes of dots
abbrev pub packed_bytes : ℕ → List Bool → List ℕ
packed_bytes zero row = []
packed_bytes (suc n) row = packed_byte row ∷ packed_bytes n (drop 8 row)

-- A row of dots in bytes; bits past the row are 0.
abbrev pub packed : List Bool → List ℕ
packed row = packed_bytes ((length row + 7) / 8) row

-- ---- bytes into dots

-- the bit of a byte at a place, the highest at place 0
abbrev pub bit_at : ℕ → ℕ → Bool
bit_at byte k = (byte / 2 ^ (7 - k)) % 2 == 1

-- the bits of a byte, the highest first
abbrev pub byte_bits : ℕ → List Bool
byte_bits b = bit_at b 0 ∷ bit_at b 1 ∷ bit_at b 2 ∷ bit_at b 3 ∷ bit_at b 4 ∷ bit_at b 5 ∷ bit_at b 6 ∷ bit_at b 7 ∷ []

-- the bits of bytes, from the left
abbrev pub bits : List ℕ → List Bool
bits [] = []
bits (b ∷ bytes) = byte_bits b ++ bits bytes
