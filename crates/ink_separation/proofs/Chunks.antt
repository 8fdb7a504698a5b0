-- Pixels of a part of a line.
use Rattle.std.proofs.Common.{◌≡◌, ℕ, ◌+◌, ◌*◌, ◌/◌, ◌%◌, ◌<◌, ◌≤◌, List, get_or, ◌∙◌, ◌-◌, arith, drop}
use Rattle.std.proofs.Common.{length, take}
use Rattle.std.proofs.lemmas.List.{get_or-drop, get_or-take}
use Rattle.pwg_definitions.specs.declared.pages.Kind.{Kind}
use Rattle.pwg_definitions.specs.declared.pages.Kind.TheVariants.{Gray8, Black8, Rgb8, Black1, Cmyk8}
use Rattle.pwg_definitions.specs.Header.{line_bytes, row_of}
use Rattle.base_definitions.specs.Packed.{bit_at, worth}
use Rattle.separation_definitions.specs.Amounts.{pixel_at}

-- a line from a byte on, as it is cut off
abbrev pub cut_off : List ℕ → ℕ → List ℕ
cut_off line at = take (length line - at) (drop at line)

-- a byte of the part
pub cut_off-byte : (line : List ℕ) (at k : ℕ) → at + k < length line → get_or (cut_off line at) k 0 ≡ get_or line (at + k) 0
cut_off-byte line at k inside =
    get_or-take (length line - at) (drop at line) k 0 (omega arith) ∙ get_or-drop at line k 0

-- a pixel of three bytes
pub three_bytes : (line : List ℕ) (first many k : ℕ) → 3 * (first + many) ≤ length line → k < many
    → pixel_at Rgb8 (cut_off line (3 * first)) k ≡ pixel_at Rgb8 line (first + k)
three_bytes line first many k fits low = grind (arith, cut_off, cut_off-byte)

-- a pixel of four bytes
pub four_bytes : (line : List ℕ) (first many k : ℕ) → 4 * (first + many) ≤ length line → k < many
    → pixel_at Cmyk8 (cut_off line (4 * first)) k ≡ pixel_at Cmyk8 line (first + k)
four_bytes line first many k fits low = grind (arith, cut_off, cut_off-byte)

-- a pixel of one bit
pub one_bit : (line : List ℕ) (first many k : ℕ) → (first + many + 7) / 8 ≤ length line → k < many
    → 255 * worth (bit_at (get_or (cut_off line (first / 8)) ((first % 8 + k) / 8) 0) ((first % 8 + k) % 8)) 1
    ≡ 255 * worth (bit_at (get_or line ((first + k) / 8) 0) ((first + k) % 8)) 1
one_bit line first many k fits low = grind (arith, cut_off-byte)

-- fewer pixels have no more bytes
pub fewer_bytes : (kind : Kind) (few many : ℕ) → few ≤ many
    → line_bytes few (row_of kind).bits_per_pixel ≤ line_bytes many (row_of kind).bits_per_pixel
fewer_bytes Gray8 few many most = omega arith
fewer_bytes Black8 few many most = omega arith
fewer_bytes Rgb8 few many most = omega arith
fewer_bytes Black1 few many most = omega arith
fewer_bytes Cmyk8 few many most = omega arith
