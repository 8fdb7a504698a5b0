-- What is read as whole rows is a code of these rows.
use Rattle.std.proofs.Common.{◌≡◌, ℕ, zero, suc, ◌+◌, ◌-◌, ◌<◌, ◌≤◌, ◌==◌, nat_lt, Bool, true, false, if◌then◌else◌, List, [], ◌∷◌, ◌++◌}
use Rattle.std.proofs.Common.{length, take, drop, replicate, get_or, refl, sym, ◌∙◌, ap, subst, arith, append_assoc, length-append}
use Rattle.std.specs.List.{flat_map, AllByRecursion}
use Rattle.std.proofs.lemmas.Bool.{ltb-true, ltb-false, eqb-false}
use Rattle.std.proofs.lemmas.List.{drop-drop, get_or-drop, length-replicate, length-take-le, take_at, take-append-drop}
use Rattle.escp2_definitions.specs.RowCode.{IsRowPacket, RowPacket, RowsCode, RowsRead, again_at, controlled, packet_at, packet_code}
use Rattle.escp2_definitions.specs.RowCode.{packet_row, plain_at, row_at, rows_at, with_front}
use Rattle.escp2_definitions.specs.RowCode.Control.{Follow, Again, Refused}
use Rattle.escp2_definitions.specs.RowCode.RowPacket.{Bytes, Repeat}
use Rattle.escp2_definitions.specs.RowCode.RowsRead.{RowsAre, RowsPart, RowsWrong}
use Rattle.escp2_laws.proofs.Rows.{places-same, rows-same}

-- each number is below 256
abbrev pub AreBytes : List ℕ → Type 0
AreBytes bytes = (k : ℕ) → get_or bytes k 0 < 256

-- so are those after a place
bytes-drop : (n : ℕ) (bytes : List ℕ) → AreBytes bytes → AreBytes (drop n bytes)
bytes-drop n bytes are k = let P : ℕ → Type 0 = λ b. b < 256 in subst P (sym (get_or-drop n bytes k 0)) (are (n + k))

-- The bytes begin with the code, which goes from one of these places to the other.
pub record Front (bytes code : List ℕ) (at next : ℕ) : Type 0 where
  pub place : next ≡ at + length code
  pub is : bytes ≡ code ++ drop (next - at) bytes

-- one code after another
front-join : (bytes code more : List ℕ) (at next last : ℕ) → Front bytes code at next → Front (drop (next - at) bytes) more next last
    → Front bytes (code ++ more) at last
front-join bytes code more at next last first second = grind (arith, append_assoc, drop-drop, length-append)

-- ---- a packet

-- A packet that is read.
record ReadPacket (left at : ℕ) (bytes row : List ℕ) (next : ℕ) : Type 0 where
  packet : RowPacket
  allowed : IsRowPacket packet
  within : length row ≤ left
  gives : row ≡ packet_row packet
  front : Front bytes (packet_code packet) at next

-- bytes as they are
literal-read : (count left at n : ℕ) (bytes row : List ℕ) (next : ℕ) → n + 1 ≡ count → count ≤ 128 → count ≤ left
    → plain_at count (at + 1) bytes ≡ RowsAre row next → ReadPacket left at (n ∷ bytes) row next
literal-read count left at n bytes row next one few fits = by_test (nat_lt (length bytes) count) refl
  where
    by_test : (b : Bool) → nat_lt (length bytes) count ≡ b
        → (if b then RowsPart else RowsAre (take count bytes) (at + 1 + count)) ≡ RowsAre row next
        → ReadPacket left at (n ∷ bytes) row next
    by_test true e is = absurd (let part : RowsPart ≡ RowsAre row next = is in cc)
    by_test false e is =
        let sized : length (take count bytes) ≡ count = length-take-le count bytes (ltb-false _ _ e) in
        let same : take count bytes ≡ row = rows-same _ _ _ _ is in
        let there : at + 1 + count ≡ next = places-same _ _ _ _ is in
        let passed : next - at ≡ suc count = omega arith in
        let control : n ≡ length (take count bytes) - 1 = omega arith in
        record {
          packet = Bytes (take count bytes);
          allowed = (omega arith, omega arith);
          within = omega (arith, ap length same);
          gives = sym same;
          front = record {
            place = omega arith;
            is = ap (λ bs. n ∷ bs) (sym (take-append-drop count bytes))
                ∙ ap (λ k. k ∷ (take count bytes ++ drop count bytes)) control
                ∙ ap (λ k. (length (take count bytes) - 1) ∷ (take count bytes ++ drop k (n ∷ bytes))) (sym passed);
          };
        }

-- a repeated byte
repeat-read : (count left at n : ℕ) (bytes row : List ℕ) (next : ℕ) → 257 - n ≡ count → 2 ≤ count → count ≤ 128 → count ≤ left
    → again_at count (at + 1) bytes ≡ RowsAre row next → ReadPacket left at (n ∷ bytes) row next
repeat-read count left at n [] row next control some few fits is = absurd (let part : RowsPart ≡ RowsAre row next = is in cc)
repeat-read count left at n (b ∷ bytes) row next control some few fits is =
    let same : replicate count b ≡ row = rows-same _ _ _ _ is in
    let there : at + 1 + 1 ≡ next = places-same _ _ _ _ is in
    let passed : next - at ≡ 2 = omega arith in
    let back : n ≡ 257 - count = omega arith in
    record {
      packet = Repeat count b;
      allowed = (some, few);
      within = omega (arith, ap length same, length-replicate {A = ℕ} count b);
      gives = sym same;
      front = record {
        place = omega arith;
        is = ap (λ k. k ∷ b ∷ bytes) back ∙ ap (λ k. (257 - count) ∷ b ∷ drop k (n ∷ b ∷ bytes)) (sym passed);
      };
    }

-- a packet that is read fits its row
packet-read : (left at : ℕ) (bytes row : List ℕ) (next : ℕ) → AreBytes bytes → packet_at left at bytes ≡ RowsAre row next
    → ReadPacket left at bytes row next
packet-read left at [] row next are is = absurd (let part : RowsPart ≡ RowsAre row next = is in cc)
packet-read left at (n ∷ bytes) row next are is = by_low (nat_lt n 128) refl is
  where
    byte : n < 256
    byte = are 0

    by_literal : n < 128 → (b : Bool) → nat_lt left (n + 1) ≡ b
        → (if b then RowsWrong at else plain_at (n + 1) (at + 1) bytes) ≡ RowsAre row next
        → ReadPacket left at (n ∷ bytes) row next
    by_literal low true e is = absurd (let wrong : RowsWrong at ≡ RowsAre row next = is in cc)
    by_literal low false e is = literal-read (n + 1) left at n bytes row next refl (omega arith) (ltb-false _ _ e) is

    by_repeat : 128 < n → (b : Bool) → nat_lt left (257 - n) ≡ b
        → (if b then RowsWrong at else again_at (257 - n) (at + 1) bytes) ≡ RowsAre row next
        → ReadPacket left at (n ∷ bytes) row next
    by_repeat high true e is = absurd (let wrong : RowsWrong at ≡ RowsAre row next = is in cc)
    by_repeat high false e is =
        repeat-read (257 - n) left at n bytes row next refl (omega (arith, byte)) (omega (arith, byte)) (ltb-false _ _ e) is

    by_128 : 128 ≤ n → (b : Bool) → (n == 128) ≡ b → controlled (if b then Refused else Again (257 - n)) left at bytes ≡ RowsAre row next
        → ReadPacket left at (n ∷ bytes) row next
    by_128 high true e is = absurd (let wrong : RowsWrong at ≡ RowsAre row next = is in cc)
    by_128 high false e is = by_repeat (omega (arith, eqb-false n 128 e)) (nat_lt left (257 - n)) refl is

    by_low : (b : Bool) → nat_lt n 128 ≡ b
        → controlled (if b then Follow (n + 1) else (if n == 128 then Refused else Again (257 - n))) left at bytes ≡ RowsAre row next
        → ReadPacket left at (n ∷ bytes) row next
    by_low true e is = by_literal (ltb-true _ _ e) (nat_lt left (n + 1)) refl is
    by_low false e is = by_128 (ltb-false _ _ e) (n == 128) refl is

-- ---- a row

-- a row is read by its next packet
pub row-step : (most left at : ℕ) (bytes front : List ℕ) (next : ℕ) → packet_at (suc left) at bytes ≡ RowsAre front next
    → row_at (suc most) (suc left) at bytes ≡ with_front front (row_at most (suc left - length front) next (drop (next - at) bytes))
unfolding row_at
row-step most left at bytes front next e = cc

-- a row is a part where its next packet is
pub row-part : (most left at : ℕ) (bytes : List ℕ) → packet_at (suc left) at bytes ≡ RowsPart
    → row_at (suc most) (suc left) at bytes ≡ RowsPart
unfolding row_at
row-part most left at bytes e = cc

-- a row is refused where its next packet is
pub row-wrong : (most left at : ℕ) (bytes : List ℕ) (place : ℕ) → packet_at (suc left) at bytes ≡ RowsWrong place
    → row_at (suc most) (suc left) at bytes ≡ RowsWrong place
unfolding row_at
row-wrong most left at bytes place e = cc

-- Packets that are read as the rest of a row.
record ReadRow (left at : ℕ) (bytes row : List ℕ) (next : ℕ) : Type 0 where
  packets : List RowPacket
  allowed : AllByRecursion IsRowPacket packets
  gives : row ≡ flat_map packet_row packets
  sized : length row ≡ left
  front : Front bytes (flat_map packet_code packets) at next

-- nothing is left of a row
none-read : (at : ℕ) (bytes row : List ℕ) (next : ℕ) → RowsAre [] at ≡ RowsAre row next → ReadRow 0 at bytes row next
none-read at bytes row next is = grind (arith, places-same, rows-same)

-- a packet, and the rest of the row
more-read : (left at : ℕ) (bytes first : List ℕ) (next : ℕ) (rows : List ℕ) (last : ℕ) → ReadPacket (suc left) at bytes first next
    → ReadRow (suc left - length first) next (drop (next - at) bytes) rows last → ReadRow (suc left) at bytes (first ++ rows) last
more-read left at bytes first next rows last packet rest = record {
  packets = packet.packet ∷ rest.packets;
  allowed = (packet.allowed, rest.allowed);
  gives = ap (λ bs. bs ++ rows) packet.gives ∙ ap (λ bs. packet_row packet.packet ++ bs) rest.gives;
  sized = omega (arith, length-append first rows, rest.sized, packet.within);
  front = front-join bytes (packet_code packet.packet) (flat_map packet_code rest.packets) at next last packet.front rest.front;
}

-- a row that is read has packets
row-read : (most left at : ℕ) (bytes row : List ℕ) (next : ℕ) → AreBytes bytes → row_at most left at bytes ≡ RowsAre row next
    → ReadRow left at bytes row next
unfolding row_at
row-read most zero at bytes row next are is = none-read at bytes row next is
row-read zero (suc left) at bytes row next are is = absurd (let part : RowsPart ≡ RowsAre row next = is in cc)
row-read (suc most) (suc left) at bytes row next are is =
    by_packet (λ left at bytes row next are is. row-read most left at bytes row next are is) (packet_at (suc left) at bytes) refl
  where
    by_rest : (first : List ℕ) (place : ℕ) (r : RowsRead) → packet_at (suc left) at bytes ≡ RowsAre first place
        → ((rows : List ℕ) (last : ℕ) → r ≡ RowsAre rows last → ReadRow (suc left - length first) place (drop (place - at) bytes) rows last)
        → with_front first r ≡ RowsAre row next → ReadRow (suc left) at bytes row next
    by_rest first place (RowsAre rows last) packet rest same =
        let P : RowsRead → Type 0 =
        λ r. elim r [ RowsAre row next ↦ ReadRow (suc left) at bytes row next | RowsPart ↦ Unit {0} | RowsWrong k ↦ Unit {0} ] in
        subst P same (more-read left at bytes first place rows last (packet-read (suc left) at bytes first place are packet)
        (rest rows last refl))
    by_rest first place RowsPart packet rest same = absurd (let part : RowsPart ≡ RowsAre row next = same in cc)
    by_rest first place (RowsWrong k) packet rest same = absurd (let wrong : RowsWrong k ≡ RowsAre row next = same in cc)

    by_packet : ((left at : ℕ) (bytes row : List ℕ) (next : ℕ) → AreBytes bytes → row_at most left at bytes ≡ RowsAre row next
        → ReadRow left at bytes row next)
        → (r : RowsRead) → packet_at (suc left) at bytes ≡ r → ReadRow (suc left) at bytes row next
    by_packet rest_read (RowsAre first place) packet =
        by_rest first place (row_at most (suc left - length first) place (drop (place - at) bytes)) packet
        (λ rows last. rest_read (suc left - length first) place (drop (place - at) bytes) rows last (bytes-drop (place - at) bytes are))
        (sym (row-step most left at bytes first place packet) ∙ is)
    by_packet rest_read RowsPart packet =
        absurd (let part : RowsPart ≡ RowsAre row next = sym (row-part most left at bytes packet) ∙ is in cc)
    by_packet rest_read (RowsWrong k) packet =
        absurd (let wrong : RowsWrong k ≡ RowsAre row next = sym (row-wrong most left at bytes k packet) ∙ is in cc)

-- ---- rows

-- A code of rows that is read.
pub record ReadRows (m width at : ℕ) (bytes rows : List ℕ) (next : ℕ) : Type 0 where
  pub code : List ℕ
  pub codes : RowsCode m width code rows
  pub front : Front bytes code at next

-- a row, and those after it
rows-more : (m width at : ℕ) (bytes row : List ℕ) (next : ℕ) (rows : List ℕ) (last : ℕ) → ReadRow width at bytes row next
    → ReadRows m width next (drop (next - at) bytes) rows last → ReadRows (suc m) width at bytes (row ++ rows) last
rows-more m width at bytes row next rows last first rest = record {
  code = flat_map packet_code first.packets ++ rest.code;
  codes = (
    flat_map packet_code first.packets,
    row,
    rest.code,
    rows,
    refl,
    refl,
    first.sized,
    record { packets = first.packets; allowed = first.allowed; coded = refl; gives = first.gives },
    rest.codes,
  );
  front = front-join bytes (flat_map packet_code first.packets) rest.code at next last first.front rest.front;
}

-- rows that are read have a code
pub rows-parsed : (m width at : ℕ) (bytes rows : List ℕ) (next : ℕ) → AreBytes bytes → rows_at m width at bytes ≡ RowsAre rows next
    → ReadRows m width at bytes rows next
unfolding rows_at
rows-parsed zero width at bytes rows next are is = grind (arith, none-read, places-same, rows-same)
rows-parsed (suc m) width at bytes rows next are is =
    by_row (λ at bytes rows next are is. rows-parsed m width at bytes rows next are is) (row_at width width at bytes) refl is
  where
    by_rest : (row : List ℕ) (place : ℕ) (r : RowsRead) → ReadRow width at bytes row place
        → ((rows : List ℕ) (last : ℕ) → r ≡ RowsAre rows last → ReadRows m width place (drop (place - at) bytes) rows last)
        → with_front row r ≡ RowsAre rows next → ReadRows (suc m) width at bytes rows next
    by_rest row place (RowsAre others last) first rest same =
        let P : RowsRead → Type 0 =
        λ r. elim r [ RowsAre rows next ↦ ReadRows (suc m) width at bytes rows next | RowsPart ↦ Unit {0} | RowsWrong k ↦ Unit {0} ] in
        subst P same (rows-more m width at bytes row place others last first (rest others last refl))
    by_rest row place RowsPart first rest same = absurd (let part : RowsPart ≡ RowsAre rows next = same in cc)
    by_rest row place (RowsWrong k) first rest same = absurd (let wrong : RowsWrong k ≡ RowsAre rows next = same in cc)

    by_row : ((at : ℕ) (bytes rows : List ℕ) (next : ℕ) → AreBytes bytes → rows_at m width at bytes ≡ RowsAre rows next
        → ReadRows m width at bytes rows next)
        → (r : RowsRead) → row_at width width at bytes ≡ r
        → (elim r [
          | RowsAre row next ↦ with_front row (rows_at m width next (drop (next - at) bytes))
          | RowsPart ↦ RowsPart
          | RowsWrong place ↦ RowsWrong place
        ]) ≡ RowsAre rows next → ReadRows (suc m) width at bytes rows next
    by_row rest_read (RowsAre row place) first same =
        by_rest row place (rows_at m width place (drop (place - at) bytes)) (row-read width width at bytes row place are first)
        (λ others last. rest_read place (drop (place - at) bytes) others last (bytes-drop (place - at) bytes are)) same
    by_row rest_read RowsPart first same = absurd (let part : RowsPart ≡ RowsAre rows next = same in cc)
    by_row rest_read (RowsWrong k) first same = absurd (let wrong : RowsWrong k ≡ RowsAre rows next = same in cc)

-- the code is the bytes up to the place after the rows
pub read_codes : (m width : ℕ) (bytes rows : List ℕ) (next : ℕ) → AreBytes bytes → rows_at m width 0 bytes ≡ RowsAre rows next
    → RowsCode m width (take next bytes) rows
read_codes m width bytes rows next are is =
    let read : ReadRows m width 0 bytes rows next = rows-parsed m width 0 bytes rows next are is in
    let front : take next bytes ≡ read.code = ap (take next) read.front.is
    ∙ take_at read.code (drop (next - 0) bytes) next (omega (arith, read.front.place)) in
    let P : List ℕ → Type 0 = λ code. RowsCode m width code rows in
    subst P (sym front) read.codes
