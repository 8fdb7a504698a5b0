-- Whole packets: what blocks put into a line, and what a reader stands for after a packet.
use Rattle.std.proofs.Common.{◌≡◌, ℕ, zero, suc, ◌+◌, ◌-◌, ◌*◌, ◌<◌, ◌≤◌, List, [], ◌∷◌, ◌++◌, length, take, drop, get_or, sym}
use Rattle.std.proofs.Common.{◌∙◌, ap, subst, arith, append_assoc}
use Rattle.std.proofs.lemmas.List.{length-take-le, take-take}
use Rattle.std.proofs.Math.Nat.{mul-le-mul_right}
use Rattle.std.proofs.Math.Seq.{take-append-add}
use Rattle.pwg_definitions.specs.declared.pages.Kind.{Kind}
use Rattle.pwg_definitions.specs.declared.pages.Kind.TheVariants.{Gray8, Black8, Rgb8, Black1, Cmyk8}
use Rattle.pwg_definitions.specs.Header.{KindRow, row_of}
use Rattle.pwg_definitions.specs.Groups.{copies}
use Rattle.pwg_lines.specs.declared.states.State.TheVariants as state
use Rattle.pwg_lines.specs.States.{Reads, Stands, behind_packet, block_units}
use Rattle.pwg_lines.proofs.Filling.{copies-add, take-copies}
use Rattle.pwg_lines.proofs.Steps.{literal-end, packet-literal, packet-run, run-end, snoc}

-- ---- sizes

-- a unit is within a vector
pub unit_within : (kind : Kind) → (row_of kind).unit ≤ 16
unit_within Gray8 = omega arith
unit_within Black8 = omega arith
unit_within Rgb8 = omega arith
unit_within Black1 = omega arith
unit_within Cmyk8 = omega arith

-- the units of a block are within it
pub block_within : (kind : Kind) → block_units kind * (row_of kind).unit ≤ 64
block_within Gray8 = omega arith
block_within Black8 = omega arith
block_within Rgb8 = omega arith
block_within Black1 = omega arith
block_within Cmyk8 = omega arith

-- and fewer units are too
pub fewer_within : (units : ℕ) (kind : Kind) → units ≤ block_units kind → units * (row_of kind).unit ≤ 64
fewer_within units kind short = omega (arith, block_within kind, mul-le-mul_right (row_of kind).unit short)

-- the line is whole after some of the units that were left
pub whole_again : (filled units left unit len : ℕ) → units < left → filled + left * unit ≡ len
    → filled + units * unit + (left - units) * unit ≡ len
whole_again filled units left unit len fewer whole =
    omega (arith, whole, ap (λ k. k * unit) (let e : left ≡ units + (left - units) = omega arith in e))

-- fewer units are within the bytes that are left
pub units_fewer : (units left unit len : ℕ) → units * unit ≤ len → len < left * unit → units < left
units_fewer units left unit len short long = grind (arith, mul-le-mul_right)

-- ---- the bytes of the line

-- a shorter prefix of what was put after the filled bytes
pub put_front : (filled many few : ℕ) (before after bytes : List ℕ) → filled ≤ length before
    → take (filled + many) after ≡ take filled before ++ bytes → few ≤ many
    → take (filled + few) after ≡ take filled before ++ take few bytes
put_front filled many few before after bytes within put fewer =
    sym (take-take (filled + few) (filled + many) after (omega arith))
    ∙ ap (take (filled + few)) put
    ∙ ap (λ k. take (k + few) (take filled before ++ bytes)) (sym (length-take-le filled before within))
    ∙ take-append-add (take filled before) bytes few

-- the first copies of a unit
pub copies_front : (few many len : ℕ) (unit : List ℕ) → few ≤ many → length unit ≡ len
    → take (few * len) (copies many unit) ≡ copies few unit
copies_front few many len unit fewer sized =
    ap (λ k. take (few * len) (copies k unit)) (let e : many ≡ few + (many - few) = omega arith in e)
    ∙ ap (take (few * len)) (copies-add few (many - few) unit)
    ∙ take-copies few len unit (copies (many - few) unit) sized

-- a packet's first byte and the bytes after it
pub first_and : (piece : List ℕ) (n : ℕ) → 0 < length piece → take (1 + n) piece ≡ get_or piece 0 0 ∷ take n (drop 1 piece)
first_and [] n some = absurd (omega arith)
first_and (b ∷ piece) n some = ap (λ k. take k (b ∷ piece)) (let e : 1 + n ≡ suc n = omega arith in e)

-- ---- what the reader stands for

-- these bytes and then more
pub reads_more : {unit left middle left' : ℕ} {line longer line' : List ℕ} (bytes more : List ℕ)
    → Reads unit left middle line longer bytes → Reads unit middle left' longer line' more
    → Reads unit left left' line line' (bytes ++ more)
reads_more {left'} {line'} bytes more first second row units lines repeats sofar same stands =
    let P : List ℕ → Type 0 = Stands row units lines state.Packet repeats line' [] left' in
    subst P (append_assoc sofar bytes more)
    (second row units lines repeats (sofar ++ bytes) same (first row units lines repeats sofar same stands))

-- a packet ends, and units are left
packet_again : {row : KindRow} {units lines repeats : ℕ} {line : List ℕ} (left : ℕ) (sofar : List ℕ) (n : ℕ) (bytes : List ℕ) → 1 ≤ left
    → Stands row units lines (behind_packet left) repeats line [] left (snoc sofar n ++ bytes)
    → Stands row units lines state.Packet repeats line [] left (sofar ++ n ∷ bytes)
packet_again zero sofar n bytes some stands = absurd (omega arith)
packet_again {row} {units} {lines} {repeats} {line} (suc left) sofar n bytes some stands =
    let P : List ℕ → Type 0 = Stands row units lines state.Packet repeats line [] (suc left) in
    subst P (append_assoc sofar (n ∷ []) bytes) stands

-- a run that ends before the line does
pub run_reads : {unit left left' : ℕ} (n : ℕ) {line line' : List ℕ} (bytes : List ℕ) → n < 128 → n + 1 < left → left' ≡ left - (n + 1) → 1 ≤ unit
    → length bytes ≡ unit → line' ≡ line ++ copies (n + 1) bytes → Reads unit left left' line line' (n ∷ bytes)
run_reads {left'} n bytes small fits less some sized grown row units lines repeats sofar same stands =
    packet_again left' sofar n bytes (omega arith)
    (run-end (snoc sofar n) (n + 1) 0 bytes (packet-run sofar n (omega arith) stands small (omega arith) less)
    (omega arith) grown)

-- and a literal
pub literal_reads : {unit left left' : ℕ} (n : ℕ) {line line' : List ℕ} (bytes : List ℕ) → 128 < n → n < 256 → 257 - n < left
    → left' ≡ left - (257 - n) → 1 ≤ unit → length bytes ≡ (257 - n) * unit → line' ≡ line ++ bytes
    → Reads unit left left' line line' (n ∷ bytes)
literal_reads {left'} n bytes large byte fits less some sized grown row units lines repeats sofar same stands =
    packet_again left' sofar n bytes (omega arith)
    (literal-end {part = []} (snoc sofar n) ((257 - n) * row.unit) bytes
    (packet-literal sofar n {part' = []} (omega arith) stands large byte (omega arith) less)
    (sized ∙ ap (λ k. (257 - n) * k) (sym same)) grown)
