-- How many bytes a part of a command has at most: a packet of a coded row has at most two for each byte of the row.
use Rattle.std.proofs.Common.{◌≡◌, ℕ, zero, suc, ◌+◌, ◌-◌, ◌*◌, ◌<◌, ◌≤◌, ◌==◌, nat_lt, nat_le, Bool, true, false, if◌then◌else◌}
use Rattle.std.proofs.Common.{List, [], ◌∷◌, length, take, drop, refl, sym, subst, arith, length-drop, replicate, ◌&&◌}
use Rattle.std.proofs.lemmas.Bool.{leb-true, ltb-false, ltb-true}
use Rattle.std.proofs.lemmas.List.{get_or-drop, length-replicate, length-take-le}
use Rattle.std.proofs.Math.Nat.{mul-le-mul_left}
use Rattle.base_definitions.specs.Limits.{most_row_bytes}
use Rattle.escp2_definitions.specs.declared.command.Command.{Command}
use Rattle.escp2_definitions.specs.declared.command.Command.TheVariants as c
use Rattle.escp2_definitions.specs.declared.command.RasterHead.{RasterHead}
use Rattle.escp2_definitions.specs.declared.stops.JobCause.TheVariants.{BadLength, BadValue, RunCode, Unknown}
use Rattle.escp2_definitions.specs.Commands.{Heard, command_at, escape, ink_of, is_bottom, is_colour, is_length, is_off, is_position, is_some}
use Rattle.escp2_definitions.specs.Commands.{is_switch, is_width, last_column, number, paren, raster_at, raster_rows, row_bytes, sized, whole}
use Rattle.escp2_definitions.specs.Commands.{wide_number, with_rows}
use Rattle.escp2_definitions.specs.Commands.Heard.{One, Part, Wrong}
use Rattle.escp2_definitions.specs.RowCode.{RowsRead, again_at, controlled, packet_at, plain_at, row_at, rows_at, with_front}
use Rattle.escp2_definitions.specs.RowCode.Control.{Follow, Again, Refused}
use Rattle.escp2_definitions.specs.RowCode.RowsRead.{RowsAre, RowsPart, RowsWrong}
use Rattle.escp2_laws.proofs.Grammar.{AreBytes, row-part, row-step, row-wrong}

bytes-drop : (n : ℕ) (bytes : List ℕ) → AreBytes bytes → AreBytes (drop n bytes)
bytes-drop n bytes are k = let P : ℕ → Type 0 = λ b. b < 256 in subst P (sym (get_or-drop n bytes k 0)) (are (n + k))

-- ---- rows

-- what is read of a packet, where its row has `left` bytes left: its code has two bytes at most for each byte that it
-- gives
abbrev PacketBound : ℕ → ℕ → List ℕ → RowsRead → Type 0
PacketBound left at bytes (RowsAre row next) = (1 ≤ length row) × (length row ≤ left) × (at ≤ next) × (next ≤ at + 2 * length row)
PacketBound left at bytes RowsPart = length bytes < 2 * left
PacketBound left at bytes (RowsWrong place) = Unit {0}

-- `count` bytes as they are, or a part of them
plain-bound : (count left at n : ℕ) (bytes : List ℕ) → 1 ≤ count → count ≤ left
    → PacketBound left at (n ∷ bytes) (plain_at count (at + 1) bytes)
plain-bound count left at n bytes some fits = by_test (nat_lt (length bytes) count) refl
  where
    by_test : (b : Bool) → nat_lt (length bytes) count ≡ b
        → PacketBound left at (n ∷ bytes) (if b then RowsPart else RowsAre (take count bytes) (at + 1 + count))
    by_test true e = omega (arith, ltb-true _ _ e, some, fits)
    by_test false e =
        let sized : length (take count bytes) ≡ count = length-take-le count bytes (ltb-false _ _ e) in
        (omega (arith, sized, some), omega (arith, sized, fits), omega arith, omega (arith, sized, some))

again-bound : (count left at n : ℕ) (bytes : List ℕ) → 2 ≤ count → count ≤ left
    → PacketBound left at (n ∷ bytes) (again_at count (at + 1) bytes)
again-bound count left at n [] some fits = omega (arith, some, fits)
again-bound count left at n (b ∷ bytes) some fits =
    let sized : length (replicate count b) ≡ count = length-replicate {A = ℕ} count b in
    (omega (arith, sized, some), omega (arith, sized, fits), omega arith, omega (arith, sized, some))

packet-bound : (left at : ℕ) (bytes : List ℕ) → 1 ≤ left → AreBytes bytes → PacketBound left at bytes (packet_at left at bytes)
packet-bound left at [] some are = omega (arith, some)
packet-bound left at (n ∷ bytes) some are = by_low (nat_lt n 128) refl
  where
    byte : n < 256
    byte = are 0

    by_literal : (b : Bool) → nat_lt left (n + 1) ≡ b
        → PacketBound left at (n ∷ bytes) (if b then RowsWrong at else plain_at (n + 1) (at + 1) bytes)
    by_literal true e = tt
    by_literal false e = plain-bound (n + 1) left at n bytes (omega arith) (ltb-false _ _ e)

    by_repeat : 2 ≤ 257 - n → (b : Bool) → nat_lt left (257 - n) ≡ b
        → PacketBound left at (n ∷ bytes) (if b then RowsWrong at else again_at (257 - n) (at + 1) bytes)
    by_repeat two true e = tt
    by_repeat two false e = again-bound (257 - n) left at n bytes two (ltb-false _ _ e)

    by_128 : (b : Bool) → PacketBound left at (n ∷ bytes) (controlled (if b then Refused else Again (257 - n)) left at bytes)
    by_128 true = tt
    by_128 false = by_repeat (omega (arith, byte)) (nat_lt left (257 - n)) refl

    by_low : (b : Bool) → nat_lt n 128 ≡ b
        → PacketBound left at (n ∷ bytes) (controlled (if b then Follow (n + 1) else (if n == 128 then Refused else Again (257 - n))) left at bytes)
    by_low true e = by_literal (nat_lt left (n + 1)) refl
    by_low false e = by_128 (n == 128)

-- what is read of the rest of a row, or of rows, that have `left` bytes left
abbrev RowsBound : ℕ → ℕ → List ℕ → RowsRead → Type 0
RowsBound left at bytes (RowsAre rows next) = (at ≤ next) × (next ≤ at + 2 * left)
RowsBound left at bytes RowsPart = length bytes < 2 * left
RowsBound left at bytes (RowsWrong place) = Unit {0}

-- with rows before them
front-bound : (some left at next : ℕ) (front bytes : List ℕ) → at ≤ next → next ≤ at + 2 * some → (r : RowsRead)
    → RowsBound left next (drop (next - at) bytes) r → RowsBound (some + left) at bytes (with_front front r)
front-bound some left at next front bytes first last (RowsAre rows end) bound = (omega (arith, first, bound.0), omega (arith, last, bound.1))
front-bound some left at next front bytes first last RowsPart bound = omega (arith, first, last, bound, length-drop (next - at) bytes)
front-bound some left at next front bytes first last (RowsWrong place) bound = tt

row-bound : (most left at : ℕ) (bytes : List ℕ) → AreBytes bytes → left ≤ most → RowsBound left at bytes (row_at most left at bytes)
unfolding row_at
row-bound most zero at bytes are fits = (omega arith, omega arith)
row-bound zero (suc left) at bytes are fits = absurd (omega arith)
row-bound (suc most) (suc left) at bytes are fits =
    by_packet (λ left at bytes are fits. row-bound most left at bytes are fits) (packet_at (suc left) at bytes) refl
    (packet-bound (suc left) at bytes (omega arith) are)
  where
    by_packet : ((left at : ℕ) (bytes : List ℕ) → AreBytes bytes → left ≤ most → RowsBound left at bytes (row_at most left at bytes))
        → (p : RowsRead) → packet_at (suc left) at bytes ≡ p → PacketBound (suc left) at bytes p
        → RowsBound (suc left) at bytes (row_at (suc most) (suc left) at bytes)
    by_packet next_bound (RowsAre front next) is bound =
        let rest : ℕ = suc left - length front in
        let all : length front + rest ≡ suc left = omega (arith, bound.1) in
        let P : RowsRead → Type 0 = RowsBound (suc left) at bytes in
        let Q : ℕ → Type 0 = λ n. RowsBound n at bytes (with_front front (row_at most rest next (drop (next - at) bytes))) in
        subst P (sym (row-step most left at bytes front next is))
        (subst Q all (front-bound (length front) rest at next front bytes bound.2 bound.3 (row_at most rest next (drop (next - at) bytes))
        (next_bound rest next (drop (next - at) bytes) (bytes-drop (next - at) bytes are) (omega (arith, bound.0, fits)))))
    by_packet next_bound RowsPart is bound =
        let P : RowsRead → Type 0 = RowsBound (suc left) at bytes in subst P (sym (row-part most left at bytes is)) bound
    by_packet next_bound (RowsWrong place) is bound =
        let P : RowsRead → Type 0 = RowsBound (suc left) at bytes in subst P (sym (row-wrong most left at bytes place is)) tt

rows-step : (m width at : ℕ) (bytes row : List ℕ) (next : ℕ) → row_at width width at bytes ≡ RowsAre row next
    → rows_at (suc m) width at bytes ≡ with_front row (rows_at m width next (drop (next - at) bytes))
unfolding rows_at
rows-step m width at bytes row next e = cc

rows-part : (m width at : ℕ) (bytes : List ℕ) → row_at width width at bytes ≡ RowsPart → rows_at (suc m) width at bytes ≡ RowsPart
unfolding rows_at
rows-part m width at bytes e = cc

rows-wrong : (m width at : ℕ) (bytes : List ℕ) (place : ℕ) → row_at width width at bytes ≡ RowsWrong place
    → rows_at (suc m) width at bytes ≡ RowsWrong place
unfolding rows_at
rows-wrong m width at bytes place e = cc

rows-bound : (m width at : ℕ) (bytes : List ℕ) → AreBytes bytes → RowsBound (m * width) at bytes (rows_at m width at bytes)
unfolding rows_at
rows-bound zero width at bytes are = (omega arith, omega arith)
rows-bound (suc m) width at bytes are =
    by_row (λ at bytes are. rows-bound m width at bytes are) (row_at width width at bytes) refl (row-bound width width at bytes are (omega arith))
  where
    all : width + m * width ≡ suc m * width
    all = omega arith

    by_row : ((at : ℕ) (bytes : List ℕ) → AreBytes bytes → RowsBound (m * width) at bytes (rows_at m width at bytes))
        → (r : RowsRead) → row_at width width at bytes ≡ r → RowsBound width at bytes r
        → RowsBound (suc m * width) at bytes (rows_at (suc m) width at bytes)
    by_row next_bound (RowsAre row next) is bound =
        let P : RowsRead → Type 0 = RowsBound (suc m * width) at bytes in
        let Q : ℕ → Type 0 = λ n. RowsBound n at bytes (with_front row (rows_at m width next (drop (next - at) bytes))) in
        subst P (sym (rows-step m width at bytes row next is))
        (subst Q all (front-bound width (m * width) at next row bytes bound.0 bound.1 (rows_at m width next (drop (next - at) bytes))
        (next_bound next (drop (next - at) bytes) (bytes-drop (next - at) bytes are))))
    by_row next_bound RowsPart is bound =
        let P : RowsRead → Type 0 = RowsBound (suc m * width) at bytes in
        subst P (sym (rows-part m width at bytes is)) (omega (arith, bound, all))
    by_row next_bound (RowsWrong place) is bound =
        let P : RowsRead → Type 0 = RowsBound (suc m * width) at bytes in subst P (sym (rows-wrong m width at bytes place is)) tt

-- ---- a command

-- a part of what is read so has at most `most` bytes
abbrev Short : ℕ → (List ℕ → Heard) → Type 0
Short most read = (bytes : List ℕ) → AreBytes bytes → read bytes ≡ Part → length bytes ≤ most

short-more : (most more : ℕ) (read : List ℕ → Heard) → most ≤ more → Short most read → Short more read
short-more most more read fits short bytes are part = omega (arith, fits, short bytes are part)

short-whole : (most len : ℕ) (command : Command) → Short most (whole command len)
short-whole most len command bytes are part = absurd (let no : One command [] len ≡ Part = part in cc)

short-wrong : (most place : ℕ) → Short most (λ bytes. Wrong place Unknown)
short-wrong most place bytes are part = absurd (let no : Wrong place Unknown ≡ Part = part in cc)

short-if : (most : ℕ) (b : Bool) (one other : List ℕ → Heard) → Short most one → Short most other
    → Short most (λ bytes. if b then one bytes else other bytes)
short-if most true one other first second = first
short-if most false one other first second = second

short-number : (most at : ℕ) (in_range : ℕ → Bool) (next : ℕ → List ℕ → Heard)
    → ((n : ℕ) → n < 256 → in_range n ≡ true → Short most (next n)) → Short (most + 1) (number in_range at next)
short-number most at in_range next short [] are part = omega arith
short-number most at in_range next short (n ∷ rest) are part = by_test (in_range n) refl part
  where
    by_test : (b : Bool) → in_range n ≡ b → (if b then next n rest else Wrong at BadValue) ≡ Part → length (n ∷ rest) ≤ most + 1
    by_test true e part = omega (arith, short n (are 0) e rest (λ k. are (suc k)) part)
    by_test false e part = absurd (let no : Wrong at BadValue ≡ Part = part in cc)

short-wide : (most at : ℕ) (in_range : ℕ → Bool) (next : ℕ → List ℕ → Heard)
    → ((n : ℕ) → in_range n ≡ true → Short most (next n)) → Short (most + 2) (wide_number in_range at next)
short-wide most at in_range next short [] are part = omega arith
short-wide most at in_range next short (low ∷ []) are part = omega arith
short-wide most at in_range next short (low ∷ high ∷ rest) are part = by_test (in_range (low + 256 * high)) refl part
  where
    by_test : (b : Bool) → in_range (low + 256 * high) ≡ b
        → (if b then next (low + 256 * high) rest else Wrong at BadValue) ≡ Part → length (low ∷ high ∷ rest) ≤ most + 2
    by_test true e part = omega (arith, short (low + 256 * high) e rest (λ k. are (suc (suc k))) part)
    by_test false e part = absurd (let no : Wrong at BadValue ≡ Part = part in cc)

short-sized : (most len : ℕ) (next : List ℕ → Heard) → Short most next → Short (most + 2) (sized len next)
short-sized most len next short [] are part = omega arith
short-sized most len next short (low ∷ []) are part = omega arith
short-sized most len next short (low ∷ high ∷ rest) are part = by_low (low == len) part
  where
    by_high : (b : Bool) → (if b then next rest else Wrong 4 BadLength) ≡ Part → length (low ∷ high ∷ rest) ≤ most + 2
    by_high true part = omega (arith, short rest (λ k. are (suc (suc k))) part)
    by_high false part = absurd (let no : Wrong 4 BadLength ≡ Part = part in cc)

    by_low : (b : Bool) → (if b then (if high == 0 then next rest else Wrong 4 BadLength) else Wrong 3 BadLength) ≡ Part
        → length (low ∷ high ∷ rest) ≤ most + 2
    by_low true part = by_high (high == 0) part
    by_low false part = absurd (let no : Wrong 3 BadLength ≡ Part = part in cc)

-- a raster has at most 255 rows, of the widest
rows-fit : (m w : ℕ) → m < 256 → w ≤ most_row_bytes → m * w ≤ 255 * most_row_bytes
rows-fit m w few narrow =
    omega (arith, mul-le-mul_left m narrow, mul-le-mul_left most_row_bytes (let p : m ≤ 255 = omega arith in p))

-- the second of two tests
both : (a b : Bool) → (a && b) ≡ true → b ≡ true
both true b e = e
both false b e = let no : false ≡ true = e in cc

width-most : (n : ℕ) → is_width n ≡ true → n ≤ last_column
width-most n e = leb-true n last_column (both (nat_le 1 n) (nat_le n last_column) e)

short-rows : (header : RasterHead) → header.m < 256 → is_width header.n ≡ true → Short (2 * (255 * most_row_bytes)) (raster_rows header)
short-rows header few wide bytes are part = by_form (header.c == 0) part
  where
    narrow : row_bytes header ≤ most_row_bytes
    narrow = omega (arith, width-most header.n wide)

    by_form : (b : Bool)
        → with_rows header (if b then plain_at (header.m * row_bytes header) 8 bytes else rows_at header.m (row_bytes header) 8 bytes) ≡ Part
        → length bytes ≤ 2 * (255 * most_row_bytes)
    by_form true part = by_plain (nat_lt (length bytes) (header.m * row_bytes header)) refl part
      where
        by_plain : (b : Bool) → nat_lt (length bytes) (header.m * row_bytes header) ≡ b
            → with_rows header (if b then RowsPart else RowsAre (take (header.m * row_bytes header) bytes) (8 + header.m * row_bytes header)) ≡ Part
            → length bytes ≤ 2 * (255 * most_row_bytes)
        by_plain true e part = omega (arith, ltb-true _ _ e, rows-fit header.m (row_bytes header) few narrow)
        by_plain false e part =
            absurd (let no : One (c.Raster header) (take (header.m * row_bytes header) bytes) (8 + header.m * row_bytes header) ≡ Part = part in cc)
    by_form false part = by_rows (rows_at header.m (row_bytes header) 8 bytes) (rows-bound header.m (row_bytes header) 8 bytes are) part
      where
        by_rows : (r : RowsRead) → RowsBound (header.m * row_bytes header) 8 bytes r → with_rows header r ≡ Part
            → length bytes ≤ 2 * (255 * most_row_bytes)
        by_rows (RowsAre rows end) bound part = absurd (let no : One (c.Raster header) rows end ≡ Part = part in cc)
        by_rows RowsPart bound part = omega (arith, bound, rows-fit header.m (row_bytes header) few narrow)
        by_rows (RowsWrong place) bound part = absurd (let no : Wrong place RunCode ≡ Part = part in cc)

short-raster : (most : ℕ) → ((header : RasterHead) → header.m < 256 → is_width header.n ≡ true → Short most (raster_rows header))
    → Short (most + 6) raster_at
short-raster most rows =
    short-more (most + 2 + 1 + 1 + 1 + 1) (most + 6) raster_at (omega arith)
    (short-number (most + 2 + 1 + 1 + 1) 2 is_switch _ (λ c _ _.
    short-number (most + 2 + 1 + 1) 3 is_some _ (λ v _ _.
    short-number (most + 2 + 1) 4 is_some _ (λ h _ _.
    short-number (most + 2) 5 is_some _ (λ m few _.
    short-wide most 6 is_width _ (λ n wide. rows (record { c = c; v = v; h = h; m = m; n = n }) few wide))))))

-- the numbers after a length
short-one : (len at : ℕ) (in_range : ℕ → Bool) (next : ℕ → List ℕ → Heard) → ((n : ℕ) → Short 0 (next n))
    → Short 6 (sized len (number in_range at next))
short-one len at in_range next short =
    short-more (0 + 1 + 2) 6 _ (omega arith) (short-sized (0 + 1) len _ (short-number 0 at in_range next (λ n _ _. short n)))

short-two : (len at : ℕ) (in_range : ℕ → Bool) (next : ℕ → List ℕ → Heard) → ((n : ℕ) → Short 0 (next n))
    → Short 6 (sized len (wide_number in_range at next))
short-two len at in_range next short =
    short-more (0 + 2 + 2) 6 _ (omega arith) (short-sized (0 + 2) len _ (short-wide 0 at in_range next (λ n _. short n)))

short-margins : Short 6 (sized 4 (wide_number is_position 5 (λ top. wide_number (is_bottom top) 7 (λ bottom. whole (c.Margins top bottom) 9))))
short-margins =
    short-sized (0 + 2 + 2) 4 _ (short-wide (0 + 2) 5 is_position _ (λ top _.
    short-wide 0 7 (is_bottom top) _ (λ bottom _. short-whole 0 9 (c.Margins top bottom))))

-- what follows `ESC (` and a letter
short-letter : (b : ℕ) → Short 6 (λ rest. paren (b ∷ rest))
short-letter b =
    short-if 6 (b == 0x47) _ _ (short-one 1 5 (λ n. n == 1) _ (λ n. short-whole 0 6 c.Graphics))
    (short-if 6 (b == 0x55) _ _ (short-one 1 5 is_some _ (λ m. short-whole 0 6 (c.Unit m)))
    (short-if 6 (b == 0x69) _ _ (short-one 1 5 is_off _ (λ n. short-whole 0 6 (c.MicroWeave n)))
    (short-if 6 (b == 0x43) _ _ (short-two 2 5 is_length _ (λ n. short-whole 0 7 (c.Length n)))
    (short-if 6 (b == 0x63) _ _ short-margins
    (short-if 6 (b == 0x56) _ _ (short-two 2 5 is_position _ (λ n. short-whole 0 7 (c.DownTo n)))
    (short-if 6 (b == 0x76) _ _ (short-two 2 5 is_position _ (λ n. short-whole 0 7 (c.DownBy n)))
    (short-wrong 6 2)))))))

short-paren : Short 7 paren
short-paren [] are part = omega arith
short-paren (b ∷ rest) are part = omega (arith, short-letter b rest (λ k. are (suc k)) part)

-- what follows `ESC` and a byte
short-escape : (most b : ℕ) → 7 ≤ most → Short most raster_at → Short most (λ rest. escape (b ∷ rest))
short-escape most b fits raster =
    short-if most (b == 0x40) _ _ (short-whole most 2 c.Init)
    (short-if most (b == 0x55) _ _
    (short-more (0 + 1) most _ (omega arith) (short-number 0 2 is_switch _ (λ n _ _. short-whole 0 3 (c.OneWay n))))
    (short-if most (b == 0x24) _ _
    (short-more (0 + 2) most _ (omega arith) (short-wide 0 2 is_position _ (λ n _. short-whole 0 4 (c.Across n))))
    (short-if most (b == 0x72) _ _
    (short-more (0 + 1) most _ (omega arith) (short-number 0 2 is_colour _ (λ n _ _. short-whole 0 3 (c.Colour (ink_of n)))))
    (short-if most (b == 0x2E) _ _ raster
    (short-if most (b == 0x28) _ _ (short-more 7 most paren fits short-paren)
    (short-wrong most 1))))))

-- what follows the first byte
short-rest : (most b : ℕ) → 8 ≤ most → Short (most - 1) raster_at → Short most (λ rest. command_at (b ∷ rest))
unfolding command_at
short-rest most b fits raster =
    short-if most (b == 0x1B) _ _ by_escape
    (short-if most (b == 0x0D) _ _ (short-whole most 1 c.Return)
    (short-if most (b == 0x0C) _ _ (short-whole most 1 c.Eject)
    (short-wrong most 0)))
  where
    by_escape : Short most escape
    by_escape [] are part = omega arith
    by_escape (b ∷ rest) are part = omega (arith, fits, short-escape (most - 1) b (omega arith) raster rest (λ k. are (suc k)) part)

-- A part of a command has at most 8 bytes, and twice as many as the rows of the largest raster.
pub part-short : (bytes : List ℕ) → AreBytes bytes → command_at bytes ≡ Part → length bytes ≤ 8 + 2 * (255 * most_row_bytes)
part-short [] are part = omega arith
part-short (b ∷ rest) are part =
    let most : ℕ = 2 * (255 * most_row_bytes) in
    omega (arith, short-rest (most + 7) b (omega arith) (short-raster most short-rows) rest (λ k. are (suc k)) part)
