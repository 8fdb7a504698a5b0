-- Whole packets: what blocks put into the output, and what a reader stands for after a packet.
use Rattle.std.proofs.Common.{◌≡◌, ℕ, zero, suc, ◌+◌, ◌-◌, ◌<◌, ◌≤◌, ◌==◌, if◌then◌else◌, List, [], ◌∷◌, ◌++◌, length, take, drop}
use Rattle.std.proofs.Common.{◌⊎◌, inl, inr, get_or, replicate, refl, sym, ◌∙◌, ap, subst, arith, append_assoc, append-nil, length-append}
use Rattle.std.proofs.lemmas.Bool.{cases_lt, lt-ltb, le-ltb, ne_eqb}
use Rattle.std.proofs.lemmas.List.{drop_at, length-drop, length-replicate, length-take-le, take-replicate, take-take, take_at, take_more}
use Rattle.std.proofs.Math.Seq.{take-add, take-append-add}
use Rattle.escp2_definitions.specs.RowCode.{again_at, controlled, packet_at, plain_at, with_front}
use Rattle.escp2_definitions.specs.RowCode.Control.{Follow, Again, Refused}
use Rattle.escp2_definitions.specs.RowCode.RowsRead.{RowsAre, RowsPart, RowsWrong}
use Rattle.escp2_rows.specs.declared.reader.Place.TheVariants.{Packet}
use Rattle.escp2_rows.specs.Packets.{IsShape, Puts, ReadsRows, gave_of}
use Rattle.escp2_rows.specs.Places.{RowsForm, Stands, rest_at}
use Rattle.escp2_rows.proofs.Steps.{Follows, Moves, next_left, rest-step, row_follows, stands_moved}

-- a shorter prefix of what was put after the filled bytes
pub put_front : (filled many few : ℕ) (before after bytes : List ℕ) → filled ≤ length before
    → take (filled + many) after ≡ take filled before ++ bytes → few ≤ many
    → take (filled + few) after ≡ take filled before ++ take few bytes
put_front filled many few before after bytes within put fewer =
    sym (take-take (filled + few) (filled + many) after (omega arith))
    ∙ ap (take (filled + few)) put
    ∙ ap (λ k. take (k + few) (take filled before ++ bytes)) (sym (length-take-le filled before within))
    ∙ take-append-add (take filled before) bytes few

-- what a packet of at most a block gives, of what is put of it: some bytes, and a block of copies
pub short_put : (filled kept count byte : ℕ) (before after bytes : List ℕ) → filled ≤ length before → kept ≤ length bytes
    → kept ≤ count → count ≤ 16
    → take (filled + kept + 16) after ≡ take filled before ++ (take kept bytes ++ replicate 16 byte)
    → take (filled + count) after ≡ take filled before ++ (take kept bytes ++ replicate (count - kept) byte)
short_put filled kept count byte before after bytes within fits some few put =
    put_front filled (kept + 16) count before after (take kept bytes ++ replicate 16 byte) within
    (ap (λ k. take k after) (let e : filled + (kept + 16) ≡ filled + kept + 16 = omega arith in e) ∙ put) (omega arith)
    ∙ ap (λ k. take filled before ++ take k (take kept bytes ++ replicate 16 byte))
    (let e : count ≡ length (take kept bytes) + (count - kept) = omega (arith, length-take-le kept bytes fits) in e)
    ∙ ap (λ bs. take filled before ++ bs) (take-append-add (take kept bytes) (replicate 16 byte) (count - kept))
    ∙ ap (λ bs. take filled before ++ (take kept bytes ++ bs)) (take-replicate (count - kept) 16 byte (omega arith))

-- a literal is its bytes but the last, and the last, once
pub literal_gives : (kept count : ℕ) (bytes : List ℕ) → count ≡ kept + 1 → kept < length bytes
    → take count bytes ≡ gave_of kept count bytes
literal_gives kept count bytes one fits =
    ap (λ k. take k bytes) one
    ∙ take_more bytes kept 0 fits
    ∙ ap (λ k. take kept bytes ++ replicate k (get_or bytes kept 0)) (let e : 1 ≡ count - kept = omega arith in e)

-- a packet's control byte and the bytes after it
first_and : (piece : List ℕ) (n : ℕ) → 0 < length piece → take (1 + n) piece ≡ get_or piece 0 0 ∷ take n (drop 1 piece)
first_and [] n some = absurd (omega arith)
first_and (b ∷ piece) n some = ap (λ k. take k (b ∷ piece)) (let e : 1 + n ≡ suc n = omega arith in e)

-- the first of some bytes
first_one : (bytes : List ℕ) → 0 < length bytes → take 1 bytes ≡ get_or bytes 0 0 ∷ []
first_one [] some = absurd (omega arith)
first_one (b ∷ bytes) some = refl

-- ---- a packet, whatever follows

-- bytes as they are
literal-at : (left at n : ℕ) (bytes rest : List ℕ) → n < 128 → n + 1 ≤ left → length bytes ≡ n + 1
    → packet_at left at (n ∷ (bytes ++ rest)) ≡ RowsAre bytes (at + (n + 2))
literal-at left at n bytes rest small fits sized =
    ap (λ b. controlled (if b then Follow (n + 1) else (if n == 128 then Refused else Again (257 - n))) left at (bytes ++ rest)) (lt-ltb n 128 small)
    ∙ ap (λ b. if b then RowsWrong at else plain_at (n + 1) (at + 1) (bytes ++ rest)) (le-ltb left (n + 1) fits)
    ∙ ap (λ b. if b then RowsPart else RowsAre (take (n + 1) (bytes ++ rest)) (at + 1 + (n + 1)))
    (le-ltb (length (bytes ++ rest)) (n + 1) (omega (arith, length-append bytes rest)))
    ∙ ap (λ bs. RowsAre bs (at + 1 + (n + 1))) (take_at bytes rest (n + 1) sized)
    ∙ ap (RowsAre bytes) (let p : at + 1 + (n + 1) ≡ at + (n + 2) = omega arith in p)

-- a byte that is repeated
repeated-at : (left at n count byte : ℕ) (rest : List ℕ) → 128 < n → count + n ≡ 257 → count ≤ left
    → packet_at left at (n ∷ byte ∷ rest) ≡ RowsAre (replicate count byte) (at + 2)
repeated-at left at n count byte rest large counted fits =
    ap (λ b. controlled (if b then Follow (n + 1) else (if n == 128 then Refused else Again (257 - n))) left at (byte ∷ rest))
    (le-ltb n 128 (omega arith))
    ∙ ap (λ b. controlled (if b then Refused else Again (257 - n)) left at (byte ∷ rest)) (ne_eqb n 128 (λ e. absurd (omega arith)))
    ∙ ap (λ k. controlled (Again k) left at (byte ∷ rest)) (let p : 257 - n ≡ count = omega arith in p)
    ∙ ap (λ b. if b then RowsWrong at else again_at count (at + 1) (byte ∷ rest)) (le-ltb left count fits)
    ∙ ap (RowsAre (replicate count byte)) (let p : at + 1 + 1 ≡ at + 2 = omega arith in p)

-- ---- what is put

pub packet_puts : (left filled n kept count : ℕ) (piece before after : List ℕ) → get_or piece 0 0 ≡ n → n < 256
    → IsShape n kept count → count ≤ 128 → count ≤ left → kept + 2 ≤ length piece
    → take (filled + count) after ≡ take filled before ++ gave_of kept count (drop 1 piece)
    → Puts left filled piece before after (kept + 2) count
packet_puts left filled n kept count piece before after first byte shape few fits within put = by_control (cases_lt n 128)
  where
    rest : List ℕ
    rest = drop 1 piece

    sized : length rest + 1 ≡ length piece
    sized = omega (arith, length-drop 1 piece)

    by_control : (n < 128) ⊎ (128 ≤ n) → Puts left filled piece before after (kept + 2) count
    by_control (inl small) =
        let all : length (take count rest) ≡ count = length-take-le count rest (omega (arith, (shape.literal small).0, (shape.literal small).1, sized)) in
        record {
          gave = take count rest;
          some = omega (arith, (shape.literal small).1);
          counted = all;
          is = λ at more.
              ap (λ k. packet_at left at (take k piece ++ more))
              (let p : kept + 2 ≡ 1 + count = omega (arith, (shape.literal small).0, (shape.literal small).1) in p)
              ∙ ap (λ bs. packet_at left at (bs ++ more)) (first_and piece count (omega arith) ∙ ap (λ b. b ∷ take count rest) first)
              ∙ literal-at left at n (take count rest) more small (omega (arith, (shape.literal small).1)) (omega (arith, all, (shape.literal small).1))
              ∙ ap (λ k. RowsAre (take count rest) (at + (k + 2))) (sym (shape.literal small).0);
          put = put ∙ ap (λ bs. take filled before ++ bs) (sym (literal_gives kept count rest
              (omega (arith, (shape.literal small).0, (shape.literal small).1)) (omega (arith, sized))));
        }
    by_control (inr large) =
        let none : kept ≡ 0 = (shape.repeated large).0 in
        let counted : count + n ≡ 257 = (shape.repeated large).1 in
        record {
          gave = replicate count (get_or rest 0 0);
          some = omega (arith, counted);
          counted = length-replicate {A = ℕ} count (get_or rest 0 0);
          is = λ at more.
              ap (λ k. packet_at left at (take (k + 2) piece ++ more)) none
              ∙ ap (λ bs. packet_at left at (bs ++ more))
              (first_and piece 1 (omega arith) ∙ ap (λ b. b ∷ take 1 rest) first
              ∙ ap (λ bs. n ∷ bs) (first_one rest (omega (arith, sized))))
              ∙ repeated-at left at n count (get_or rest 0 0) more (omega (arith, counted)) counted fits
              ∙ ap (λ k. RowsAre (replicate count (get_or rest 0 0)) (at + (k + 2))) (sym none);
          put = put ∙ ap (λ k. take filled before ++ gave_of k count rest) none
              ∙ ap (λ k. take filled before ++ replicate k (get_or rest 0 0)) (let p : count - 0 ≡ count = omega arith in p);
        }

-- ---- what a reader stands for

-- over a packet
packet_moves : {left m width left' m' count : ℕ} {bytes gave : List ℕ} → 1 ≤ count → count ≤ left → length gave ≡ count
    → ((at : ℕ) (rest : List ℕ) → packet_at left at (bytes ++ rest) ≡ RowsAre gave (at + length bytes))
    → Follows (left - count) m width left' m' width
    → Moves Packet left m width bytes gave Packet left' m' width
packet_moves {left = zero} some fits counted is follows = absurd (omega arith)
packet_moves {left = suc left} {m} {width} {left'} {m'} {count} {bytes} {gave} some fits counted is follows = record {
  on = λ most enough.
      let whole : suc left - 0 ≤ most = enough refl in
      let one_most : most ≡ suc (most - 1) = omega arith in
      let next : (most' : ℕ) × (left' ≤ most')
      × ((at : ℕ) (bytes : List ℕ) → rest_at (most - 1) (suc left - count) m width at bytes ≡ rest_at most' left' m' width at bytes)
      = follows (most - 1) (omega arith) in (
        next.0,
        λ still. omega (arith, next.1),
        λ at rest.
            let passed : at + length bytes - at ≡ length bytes = omega arith in
            ap (λ k. rest_at k (suc left) m width at (bytes ++ rest)) one_most
            ∙ rest-step (most - 1) left m width at (bytes ++ rest) gave (at + length bytes) (is at rest)
            ∙ ap (λ k. with_front gave (rest_at (most - 1) (suc left - k) m width (at + length bytes)
            (drop (at + length bytes - at) (bytes ++ rest)))) counted
            ∙ ap (λ k. with_front gave (rest_at (most - 1) (suc left - count) m width (at + length bytes) (drop k (bytes ++ rest)))) passed
            ∙ ap (λ bs. with_front gave (rest_at (most - 1) (suc left - count) m width (at + length bytes) bs))
            (drop_at bytes rest (length bytes) refl)
            ∙ ap (with_front gave) (next.2 (at + length bytes) rest),
      );
}

-- nothing is read
pub reads_none : (width left m filled : ℕ) (out : List ℕ) → ReadsRows width left m left m filled filled [] out out
reads_none width left m filled out = record {
  gave = [];
  put = sym (append-nil (take filled out));
  fewer = omega arith;
  counted = omega arith;
  stands = λ form sofar given stood.
      let P : List ℕ → Type 0 = λ bs. Stands form Packet left m width bs (given ++ []) in
      let Q : List ℕ → Type 0 = λ bs. Stands form Packet left m width sofar bs in
      subst P (sym (append-nil sofar)) (subst Q (sym (append-nil given)) stood);
}

-- more bytes of a piece are read
pub reads_more : {width left m left' m' left'' m'' filled filled' filled'' : ℕ} (used more : ℕ) (piece : List ℕ) {rest before middle after : List ℕ}
    → ReadsRows width left m left' m' filled filled' (take used piece) before middle → rest ≡ drop used piece
    → ReadsRows width left' m' left'' m'' filled' filled'' (take more rest) middle after
    → ReadsRows width left m left'' m'' filled filled'' (take (used + more) piece) before after
reads_more {width} {left} {m} {left'} {m'} {left''} {m''} {filled} {filled'} {filled''} used more piece {rest} {before} so_far behind next = record {
  gave = first ++ second;
  put = next.put ∙ ap (λ bs. bs ++ second) so_far.put ∙ append_assoc (take filled before) first second;
  fewer = omega (arith, next.fewer, so_far.fewer, length-append first second);
  counted = omega (arith, so_far.counted, next.counted, length-append first second);
  stands = λ form sofar given stood.
      let moved : Stands form Packet left'' m'' width ((sofar ++ take used piece) ++ take more rest) ((given ++ first) ++ second) =
      next.stands form (sofar ++ take used piece) (given ++ first) (so_far.stands form sofar given stood) in
      let joined : (sofar ++ take used piece) ++ take more rest ≡ sofar ++ take (used + more) piece =
      append_assoc sofar (take used piece) (take more rest) ∙ ap (λ bs. sofar ++ (take used piece ++ take more bs)) behind
      ∙ ap (λ bs. sofar ++ bs) (sym (take-add used more piece)) in
      let P : List ℕ → Type 0 = λ bs. Stands form Packet left'' m'' width bs (given ++ (first ++ second)) in
      let Q : List ℕ → Type 0 = λ bs. Stands form Packet left'' m'' width ((sofar ++ take used piece) ++ take more rest) bs in
      subst P joined (subst Q (append_assoc given first second) moved);
}
  where
    first : List ℕ
    first = so_far.gave

    second : List ℕ
    second = next.gave

-- a packet is read
packet_reads : {width left m filled code count : ℕ} {rest before after : List ℕ} → Puts left filled rest before after code count
    → count ≤ left → code ≤ length rest
    → ReadsRows width left m (left - count) m filled (filled + count) (take code rest) before after
packet_reads {width} {left} {m} {filled} {code} {count} {rest} puts fits within = record {
  gave = puts.gave;
  put = puts.put;
  fewer = omega (arith, puts.counted);
  counted = omega (arith, puts.counted);
  stands = λ form sofar given stood. stands_moved moves stood;
}
  where
    sized : length (take code rest) ≡ code
    sized = length-take-le code rest within

    moves : Moves Packet left m width (take code rest) puts.gave Packet (left - count) m width
    moves = packet_moves puts.some fits puts.counted (λ at more. puts.is at more ∙ ap (λ k. RowsAre puts.gave (at + k)) (sym sized))
        (λ most enough. (most, enough, λ at bytes. refl))

-- one more packet of a piece is read
pub reads_packet : {width left m left' m' filled filled' : ℕ} (kept count used : ℕ) (piece : List ℕ) {rest bytes before middle after : List ℕ}
    → ReadsRows width left m left' m' filled filled' (take used piece) before middle → rest ≡ drop used piece → bytes ≡ drop 1 rest
    → get_or rest 0 0 < 256 → IsShape (get_or rest 0 0) kept count → count ≤ 128 → count ≤ left' → kept + 2 ≤ length rest
    → take (filled' + count) after ≡ take filled' middle ++ gave_of kept count bytes
    → ReadsRows width left m (left' - count) m' filled (filled' + count) (take (used + (kept + 2)) piece) before after
reads_packet {left'} {filled'} kept count used piece {rest} {middle} {after} so_far behind second byte shape few fits within put =
    reads_more used (kept + 2) piece so_far behind (packet_reads
    (packet_puts left' filled' (get_or rest 0 0) kept count rest middle after refl byte shape few fits within
    (put ∙ ap (λ bs. take filled' middle ++ gave_of kept count bs) second))
    fits within)

-- the next row begins where one ends
pub reads_next : {width left m left' m' filled filled' : ℕ} (m'' : ℕ) {bytes before after : List ℕ}
    → ReadsRows width left m left' m' filled filled' bytes before after → left' ≡ 0 → m' ≡ suc m''
    → ReadsRows width left m width m'' filled filled' bytes before after
reads_next {width} {left} {m} {left'} {m'} {filled} {filled'} m'' {bytes} so_far none more = record {
  gave = so_far.gave;
  put = so_far.put;
  fewer = omega (arith, so_far.fewer, next_left left' m' width left' m'' refl more, none);
  counted = so_far.counted;
  stands = λ form sofar given stood. at_next form (sofar ++ bytes) (given ++ so_far.gave) (so_far.stands form sofar given stood);
}
  where
    at_next : (form : RowsForm) (sofar given : List ℕ) → Stands form Packet left' m' width sofar given
        → Stands form Packet width m'' width sofar given
    at_next form sofar given stood =
        let next : (most' : ℕ) × (width ≤ most')
        × ((at : ℕ) (bytes : List ℕ) → rest_at stood.most left' m' width at bytes ≡ rest_at most' width m'' width at bytes)
        = row_follows left' m' m'' width none more stood.most (omega (arith, none)) in
        record {
          most = next.0;
          enough = λ still. omega (arith, next.1);
          is = λ rest. stood.is rest ∙ ap (with_front given) (next.2 (form.at + length sofar) rest);
        }
