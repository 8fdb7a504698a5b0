-- The rows of a raster that are written are read.
use Rattle.std.proofs.Common.{◌≡◌, ℕ, zero, suc, ◌+◌, ◌-◌, ◌<◌, ◌≤◌, ◌==◌, if◌then◌else◌, List, [], ◌∷◌, ◌++◌, length}
use Rattle.std.proofs.Common.{replicate, sym, ◌∙◌, ap, arith, length-append, append_assoc, flat_map}
use Rattle.std.specs.List.{AllByRecursion}
use Rattle.std.proofs.lemmas.Bool.{le-ltb, lt-ltb}
use Rattle.std.proofs.lemmas.Bool.Decides.{nat_tests}
use Rattle.std.proofs.lemmas.List.{take_at, drop_at, length-replicate}
use Rattle.escp2_definitions.specs.RowCode.{IsRowPacket, RowCode, RowPacket, RowsCode, control_of}
use Rattle.escp2_definitions.specs.RowCode.{packet_at, packet_code, packet_row, plain_at, row_at, rows_at, with_front}
use Rattle.escp2_definitions.specs.RowCode.Control.{Follow, Again, Refused}
use Rattle.escp2_definitions.specs.RowCode.RowPacket.{Bytes, Repeat}
use Rattle.escp2_definitions.specs.RowCode.RowsRead.{RowsAre}

-- equal answers have equal rows
pub rows-same : (rs ss : List ℕ) (j k : ℕ) → RowsAre rs j ≡ RowsAre ss k → rs ≡ ss
rows-same rs ss j k e = cc

-- and equal places
pub places-same : (rs ss : List ℕ) (j k : ℕ) → RowsAre rs j ≡ RowsAre ss k → j ≡ k
places-same rs ss j k e = cc

-- ---- plain rows

-- n bytes are read as they are
pub plain-reads : (bytes rest : List ℕ) (n at : ℕ) → length bytes ≡ n → plain_at n at (bytes ++ rest) ≡ RowsAre bytes (at + n)
plain-reads bytes rest n at e = grind (arith, le-ltb, length-append, take_at)

-- ---- one packet

-- a control byte below 128
follow-control : (n : ℕ) → n < 128 → control_of n ≡ Follow (n + 1)
follow-control n few = ap (λ b. if b then Follow (n + 1) else (if n == 128 then Refused else Again (257 - n))) (lt-ltb n 128 few)

-- a control byte above 128
again-control : (n : ℕ) → 2 ≤ n → n ≤ 128 → control_of (257 - n) ≡ Again n
again-control n some few = grind (arith, le-ltb, nat_tests)

-- a packet is read from its code
packet-reads : (p : RowPacket) (left at : ℕ) (more : List ℕ) → IsRowPacket p → length (packet_row p) ≤ left
    → packet_at left at (packet_code p ++ more) ≡ RowsAre (packet_row p) (at + length (packet_code p))
packet-reads (Bytes bytes) left at more allowed fits = grind (arith, follow-control, le-ltb, plain-reads)
packet-reads (Repeat n byte) left at more allowed fits = grind (arith, again-control, le-ltb, length-replicate)

-- a packet gives a byte at least
packet-some : (p : RowPacket) → IsRowPacket p → 1 ≤ length (packet_row p)
packet-some (Bytes bytes) allowed = allowed.0
packet-some (Repeat n byte) allowed =
    let len : length (replicate n byte) ≡ n = length-replicate {A = ℕ} n byte in omega (arith, len, allowed.0)

-- ---- one row

-- a row is read by its next packet
row-step : (most left at : ℕ) (code more row : List ℕ) → packet_at (suc left) at (code ++ more) ≡ RowsAre row (at + length code)
    → row_at (suc most) (suc left) at (code ++ more) ≡ with_front row (row_at most (suc left - length row) (at + length code) more)
unfolding row_at
row-step most left at code more row e = grind (arith, drop_at)

-- a row is read from its packets
row-reads : (packets : List RowPacket) (most left at : ℕ) (rest : List ℕ) → AllByRecursion IsRowPacket packets
    → length (flat_map packet_row packets) ≡ left → left ≤ most
    → row_at most left at (flat_map packet_code packets ++ rest)
    ≡ RowsAre (flat_map packet_row packets) (at + length (flat_map packet_code packets))
unfolding row_at
row-reads [] most zero at rest allowed e fits = ap (RowsAre []) (omega arith)
row-reads [] most (suc left) at rest allowed e fits = absurd (omega arith)
row-reads (p ∷ packets) most zero at rest allowed e fits =
    absurd (omega (arith, packet-some p allowed.0, length-append (packet_row p) (flat_map packet_row packets)))
row-reads (p ∷ packets) zero (suc left) at rest allowed e fits = absurd (omega arith)
row-reads (p ∷ packets) (suc most) (suc left) at rest allowed e fits =
    let row : List ℕ = packet_row p in
    let code : List ℕ = packet_code p in
    let rows : List ℕ = flat_map packet_row packets in
    let codes : List ℕ = flat_map packet_code packets in
    let some : 1 ≤ length row = packet-some p allowed.0 in
    let sum : length (row ++ rows) ≡ length row + length rows = length-append row rows in
    let left_over : length rows ≡ suc left - length row = omega (arith, sum) in
    let there : at + length code + length codes ≡ at + length (code ++ codes) = omega (arith, length-append code codes) in
    ap (row_at (suc most) (suc left) at) (append_assoc code codes rest)
    ∙ row-step most left at code (codes ++ rest) row (packet-reads p (suc left) at (codes ++ rest) allowed.0 (omega (arith, sum)))
    ∙ ap (with_front row) (row-reads packets most (suc left - length row) (at + length code) rest allowed.1 left_over (omega (arith, some)))
    ∙ ap (RowsAre (row ++ rows)) there

-- ---- the rows of a raster

-- rows are read by the next row
rows-step : (m width at : ℕ) (code more row : List ℕ) → row_at width width at (code ++ more) ≡ RowsAre row (at + length code)
    → rows_at (suc m) width at (code ++ more) ≡ with_front row (rows_at m width (at + length code) more)
unfolding rows_at
rows-step m width at code more row e = grind (arith, drop_at)

-- rows are read from their code
pub rows-read : (m width at : ℕ) (code rows rest : List ℕ) → RowsCode m width code rows
    → rows_at m width at (code ++ rest) ≡ RowsAre rows (at + length code)
unfolding rows_at
rows-read zero width at code rows rest is = grind arith
rows-read (suc m) width at code rows rest is =
    let front : List ℕ = is.0 in
    let row : List ℕ = is.1 in
    let codes : List ℕ = is.2 in
    let row_code : RowCode front row = is.7 in
    let first : row_at width width at (front ++ (codes ++ rest)) ≡ RowsAre row (at + length front) =
    ap (λ c. row_at width width at (c ++ (codes ++ rest))) row_code.coded
    ∙ row-reads row_code.packets width width at (codes ++ rest) row_code.allowed (sym (ap length row_code.gives) ∙ is.6) (omega arith)
    ∙ ap (λ r. RowsAre r (at + length (flat_map packet_code row_code.packets))) (sym row_code.gives)
    ∙ ap (λ c. RowsAre row (at + length c)) (sym row_code.coded) in
    ap (λ c. rows_at (suc m) width at (c ++ rest)) is.4
    ∙ ap (rows_at (suc m) width at) (append_assoc front codes rest)
    ∙ rows-step m width at front (codes ++ rest) row first
    ∙ ap (with_front row) (rows-read m width (at + length front) codes is.3 rest is.8)
    ∙ ap (λ rs. RowsAre rs (at + length front + length codes)) (sym is.5)
    ∙ ap (RowsAre rows) (omega (arith, ap length is.4, length-append front codes))
