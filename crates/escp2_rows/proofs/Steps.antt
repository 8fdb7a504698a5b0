-- Each step of a reader: what it stands for after the bytes that it takes.
use Rattle.std.proofs.Common.{◌≡◌, ℕ, zero, suc, ◌+◌, ◌-◌, ◌*◌, ◌<◌, ◌≤◌, ◌==◌, nat_lt, Bool, true, false, if◌then◌else◌, List, [], ◌∷◌}
use Rattle.std.proofs.Common.{◌++◌, length, take, drop, replicate, refl, sym, ◌∙◌, ap, subst, arith, append_assoc, append-nil}
use Rattle.std.proofs.Common.{length-append}
use Rattle.std.proofs.lemmas.Bool.{ltb-true, ltb-false, lt-ltb, le-ltb, ne_eqb}
use Rattle.std.proofs.lemmas.List.{drop-drop, length-replicate, length-take-le}
use Rattle.std.proofs.Math.Seq.{take-append-add, drop-append-add}
use Rattle.escp2_definitions.specs.RowCode.{Control, RowsRead, again_at, control_of, controlled, packet_at, plain_at, row_at, rows_at}
use Rattle.escp2_definitions.specs.RowCode.{with_front}
use Rattle.escp2_definitions.specs.RowCode.Control.{Follow, Again, Refused}
use Rattle.escp2_definitions.specs.RowCode.RowsRead.{RowsAre, RowsPart, RowsWrong}
use Rattle.escp2_laws.proofs.Grammar.{row-part, row-step, row-wrong}
use Rattle.escp2_laws.proofs.RowsTold.{RowsTold, packet-told, row-told}
use Rattle.escp2_rows.specs.declared.reader.Place.{Place}
use Rattle.escp2_rows.specs.declared.reader.Place.TheVariants.{Packet, Literal, Repeated, Failed}
use Rattle.escp2_rows.specs.Places.{RowsForm, Stands, behind_control, is_failed, least_pending, pending, read_on, rest_at, rows_read}
use Rattle.escp2_rows.specs.Places.{then_rows}

-- ---- bytes before what is read

-- no bytes before it
front-nil : (r : RowsRead) → with_front [] r ≡ r
front-nil (RowsAre rows at) = refl
front-nil RowsPart = refl
front-nil (RowsWrong at) = refl

-- bytes before bytes before it
front-append : (a b : List ℕ) (r : RowsRead) → with_front a (with_front b r) ≡ with_front (a ++ b) r
front-append a b (RowsAre rows at) = ap (λ bs. RowsAre bs at) (sym (append_assoc a b rows))
front-append a b RowsPart = refl
front-append a b (RowsWrong at) = refl

-- ---- what is read ends after its place

passes : (read : List ℕ → RowsRead) (at : ℕ) (bytes row : List ℕ) (next : ℕ) (answer : RowsRead) → RowsTold read at bytes answer
    → answer ≡ RowsAre row next → at ≤ next
passes read at bytes row next answer told e = let P : RowsRead → Type 0 = RowsTold read at bytes in omega (arith, (subst P e told).there)

-- a packet
packet-passes : (left at : ℕ) (bytes row : List ℕ) (next : ℕ) → packet_at left at bytes ≡ RowsAre row next → at ≤ next
packet-passes left at bytes row next e = passes (packet_at left at) at bytes row next (packet_at left at bytes) (packet-told left at bytes) e

-- the rest of a row
row_at-passes : (most left at : ℕ) (bytes row : List ℕ) (next : ℕ) → row_at most left at bytes ≡ RowsAre row next → at ≤ next
row_at-passes most left at bytes row next e = passes (row_at most left at) at bytes row next (row_at most left at bytes) (row-told most left at bytes) e

-- ---- the rest of the rows

-- the rest of rows is read by the next packet
pub rest-step : (most left m width at : ℕ) (bytes front : List ℕ) (next : ℕ) → packet_at (suc left) at bytes ≡ RowsAre front next
    → rest_at (suc most) (suc left) m width at bytes
    ≡ with_front front (rest_at most (suc left - length front) m width next (drop (next - at) bytes))
unfolding rest_at
rest-step most left m width at bytes front next e =
    ap (then_rows m width at bytes) (row-step most left at bytes front next e)
    ∙ by_rest (row_at most (suc left - length front) next (drop (next - at) bytes)) refl
  where
    by_rest : (r : RowsRead) → row_at most (suc left - length front) next (drop (next - at) bytes) ≡ r
        → then_rows m width at bytes (with_front front r) ≡ with_front front (then_rows m width next (drop (next - at) bytes) r)
    by_rest (RowsAre rows behind) is =
        let passed : at ≤ next = packet-passes (suc left) at bytes front next e in
        let passed_rest : next ≤ behind = row_at-passes most (suc left - length front) next (drop (next - at) bytes) rows behind is in
        let both : next - at + (behind - next) ≡ behind - at = omega arith in
        sym (front-append front rows (rows_at m width behind (drop (behind - at) bytes)))
        ∙ ap (λ k. with_front front (with_front rows (rows_at m width behind (drop k bytes)))) (sym both)
        ∙ ap (λ bs. with_front front (with_front rows (rows_at m width behind bs))) (sym (drop-drop (behind - next) (next - at) bytes))
    by_rest RowsPart is = refl
    by_rest (RowsWrong place) is = refl

-- it is a part where the next packet is
pub rest-part : (most left m width at : ℕ) (bytes : List ℕ) → packet_at (suc left) at bytes ≡ RowsPart
    → rest_at (suc most) (suc left) m width at bytes ≡ RowsPart
unfolding rest_at
rest-part most left m width at bytes e = ap (then_rows m width at bytes) (row-part most left at bytes e)

-- it is refused where the next packet is
pub rest-wrong : (most left m width at : ℕ) (bytes : List ℕ) (place : ℕ) → packet_at (suc left) at bytes ≡ RowsWrong place
    → rest_at (suc most) (suc left) m width at bytes ≡ RowsWrong place
unfolding rest_at
rest-wrong most left m width at bytes place e = ap (then_rows m width at bytes) (row-wrong most left at bytes place e)

-- nothing is left
pub rest-none : (most width at : ℕ) (bytes : List ℕ) → rest_at most 0 0 width at bytes ≡ RowsAre [] at
unfolding rest_at row_at rows_at
rest-none most width at bytes = refl

-- rows are a row, and those after it
pub rows-rest : (m width at : ℕ) (bytes : List ℕ) → rows_at (suc m) width at bytes ≡ rest_at width width m width at bytes
unfolding rest_at rows_at
rows-rest m width at bytes = by_row (row_at width width at bytes)
  where
    by_row : (r : RowsRead) → (elim r [
      | RowsAre row next ↦ with_front row (rows_at m width next (drop (next - at) bytes))
      | RowsPart ↦ RowsPart
      | RowsWrong place ↦ RowsWrong place
    ]) ≡ then_rows m width at bytes r
    by_row (RowsAre row next) = refl
    by_row RowsPart = refl
    by_row (RowsWrong place) = refl

-- the next row begins where one ends
pub rest-next : (most m width at : ℕ) (bytes : List ℕ) → rest_at most 0 (suc m) width at bytes ≡ rest_at width width m width at bytes
unfolding rest_at row_at
rest-next most m width at bytes =
    front-nil (rows_at (suc m) width at (drop (at - at) bytes))
    ∙ ap (λ k. rows_at (suc m) width at (drop k bytes)) (let none : at - at ≡ 0 = omega arith in none)
    ∙ rows-rest m width at bytes

-- ---- a control byte

-- a control byte that asks for more than is left is wrong
by_count : (k most left m width at n : ℕ) (bytes : List ℕ) (read : RowsRead) (place : Place)
    → packet_at (suc left) at (n ∷ bytes) ≡ (if nat_lt (suc left) k then RowsWrong at else read)
    → (packet_at (suc left) at (n ∷ bytes) ≡ read
    → rest_at (suc most) (suc left) m width at (n ∷ bytes) ≡ read_on place most (suc left) m width (at + 1) bytes)
    → rest_at (suc most) (suc left) m width at (n ∷ bytes)
    ≡ read_on (if nat_lt (suc left) k then Failed else place) most (suc left) m width (at + 1) bytes
by_count k most left m width at n bytes read place packet within = by_left (nat_lt (suc left) k) packet
  where
    by_left : (b : Bool) → packet_at (suc left) at (n ∷ bytes) ≡ (if b then RowsWrong at else read)
        → rest_at (suc most) (suc left) m width at (n ∷ bytes)
        ≡ read_on (if b then Failed else place) most (suc left) m width (at + 1) bytes
    by_left true packet =
        rest-wrong most left m width at (n ∷ bytes) at packet ∙ ap RowsWrong (let p : at ≡ at + 1 - 1 = omega arith in p)
    by_left false packet = within packet

-- what is read after a control byte
control-read : (c : Control) (most left m width at n : ℕ) (bytes : List ℕ) → control_of n ≡ c
    → rest_at (suc most) (suc left) m width at (n ∷ bytes) ≡ read_on (behind_control c (suc left)) most (suc left) m width (at + 1) bytes
control-read (Follow k) most left m width at n bytes is =
    by_count k most left m width at n bytes (plain_at k (at + 1) bytes) (Literal k)
    (ap (λ (c : Control). controlled c (suc left) at bytes) is) (λ packet. by_bytes packet (nat_lt (length bytes) k) refl)
  where
    by_bytes : packet_at (suc left) at (n ∷ bytes) ≡ plain_at k (at + 1) bytes → (b : Bool) → nat_lt (length bytes) k ≡ b
        → rest_at (suc most) (suc left) m width at (n ∷ bytes)
        ≡ (if b then RowsPart else with_front (take k bytes) (rest_at most (suc left - k) m width (at + 1 + k) (drop k bytes)))
    by_bytes packet true e =
        rest-part most left m width at (n ∷ bytes) (packet ∙ ap (λ b. if b then RowsPart else RowsAre (take k bytes) (at + 1 + k)) e)
    by_bytes packet false e =
        let sized : length (take k bytes) ≡ k = length-take-le k bytes (ltb-false _ _ e) in
        let passed : at + 1 + k - at ≡ suc k = omega arith in
        rest-step most left m width at (n ∷ bytes) (take k bytes) (at + 1 + k) (packet
        ∙ ap (λ b. if b then RowsPart else RowsAre (take k bytes) (at + 1 + k)) e)
        ∙ ap (λ j. with_front (take k bytes) (rest_at most (suc left - j) m width (at + 1 + k) (drop (at + 1 + k - at) (n ∷ bytes)))) sized
        ∙ ap (λ j. with_front (take k bytes) (rest_at most (suc left - k) m width (at + 1 + k) (drop j (n ∷ bytes)))) passed
control-read (Again k) most left m width at n bytes is =
    by_count k most left m width at n bytes (again_at k (at + 1) bytes) (Repeated k)
    (ap (λ (c : Control). controlled c (suc left) at bytes) is) (by_bytes bytes)
  where
    by_bytes : (rest : List ℕ) → packet_at (suc left) at (n ∷ rest) ≡ again_at k (at + 1) rest
        → rest_at (suc most) (suc left) m width at (n ∷ rest) ≡ read_on (Repeated k) most (suc left) m width (at + 1) rest
    by_bytes [] packet = rest-part most left m width at (n ∷ []) packet
    by_bytes (b ∷ rest) packet =
        let sized : length (replicate k b) ≡ k = length-replicate {A = ℕ} k b in
        let passed : at + 1 + 1 - at ≡ 2 = omega arith in
        rest-step most left m width at (n ∷ b ∷ rest) (replicate k b) (at + 1 + 1) packet
        ∙ ap (λ j. with_front (replicate k b) (rest_at most (suc left - j) m width (at + 1 + 1) (drop (at + 1 + 1 - at) (n ∷ b ∷ rest))))
        sized
        ∙ ap (λ j. with_front (replicate k b) (rest_at most (suc left - k) m width (at + 1 + 1) (drop j (n ∷ b ∷ rest)))) passed
control-read Refused most left m width at n bytes is =
    rest-wrong most left m width at (n ∷ bytes) at (ap (λ (c : Control). controlled c (suc left) at bytes) is)
    ∙ ap RowsWrong (let p : at ≡ at + 1 - 1 = omega arith in p)

-- ---- a place, and the next

-- From one place to another by some bytes, which give some bytes of the rows.
pub record Moves (place : Place) (left m width : ℕ) (bytes gave : List ℕ) (place' : Place) (left' m' width' : ℕ) : Type 0 where
  pub on : (most : ℕ) → (is_failed place ≡ false → left - pending place ≤ most)
      → (most' : ℕ) × (is_failed place' ≡ false → left' - pending place' ≤ most')
      × ((at : ℕ) (rest : List ℕ) → read_on place most left m width at (bytes ++ rest)
      ≡ with_front gave (read_on place' most' left' m' width' (at + length bytes) rest))

-- a reader stands after what it moved over
pub stands_moved : {form : RowsForm} {place place' : Place} {left m width left' m' width' : ℕ} {bytes gave sofar given : List ℕ}
    → Moves place left m width bytes gave place' left' m' width' → Stands form place left m width sofar given
    → Stands form place' left' m' width' (sofar ++ bytes) (given ++ gave)
stands_moved {form} {place} {place'} {left} {m} {width} {left'} {m'} {width'} {bytes} {gave} {sofar} {given} moves so_far =
    let most : ℕ = so_far.most in
    let moved : (most' : ℕ) × (is_failed place' ≡ false → left' - pending place' ≤ most')
    × ((at : ℕ) (rest : List ℕ) → read_on place most left m width at (bytes ++ rest)
    ≡ with_front gave (read_on place' most' left' m' width' (at + length bytes) rest)) = moves.on so_far.most so_far.enough in
    let there : form.at + length sofar + length bytes ≡ form.at + length (sofar ++ bytes) = omega (arith, length-append sofar bytes) in
    record {
      most = moved.0;
      enough = moved.1;
      is = λ rest. ap (rows_read form) (append_assoc sofar bytes rest)
          ∙ so_far.is (bytes ++ rest)
          ∙ ap (with_front given) (moved.2 (form.at + length sofar) rest)
          ∙ front-append given gave (read_on place' moved.0 left' m' width' (form.at + length sofar + length bytes) rest)
          ∙ ap (λ k. with_front (given ++ gave) (read_on place' moved.0 left' m' width' k rest)) there;
    }

-- after a control byte a packet is begun, or a fault is found
never-packet : (c : Control) (left : ℕ) → behind_control c left ≡ Packet → ⊥
never-packet (Follow n) left e = by_test (nat_lt left n) e
  where
    by_test : (b : Bool) → (if b then Failed else Literal n) ≡ Packet → ⊥
    by_test true e = let no : Failed ≡ Packet = e in cc
    by_test false e = let no : Literal n ≡ Packet = e in cc
never-packet (Again n) left e = by_test (nat_lt left n) e
  where
    by_test : (b : Bool) → (if b then Failed else Repeated n) ≡ Packet → ⊥
    by_test true e = let no : Failed ≡ Packet = e in cc
    by_test false e = let no : Repeated n ≡ Packet = e in cc
never-packet Refused left e = let no : Failed ≡ Packet = e in cc

-- fewer bytes than are pending leave one
begun-fewer : (place : Place) (left most : ℕ) → (place ≡ Packet → ⊥) → least_pending place ≤ pending place → left ≤ most
    → is_failed place ≡ false → suc left - pending place ≤ most
begun-fewer Packet left most never begun enough open_ = absurd (never refl)
begun-fewer (Literal n) left most never begun enough open_ = omega arith
begun-fewer (Repeated n) left most never begun enough open_ = omega arith
begun-fewer Failed left most never begun enough open_ = absurd (let no : true ≡ false = open_ in cc)

-- a control byte
pub control_moves : (place' : Place) (left m width n : ℕ) → 0 < left → least_pending place' ≤ pending place'
    → place' ≡ behind_control (control_of n) left
    → Moves Packet left m width (n ∷ []) [] place' left m width
control_moves place' zero m width n some begun is = absurd (omega arith)
control_moves place' (suc left) m width n some begun is = record {
  on = λ most enough.
      let fits : suc left - 0 ≤ most = enough refl in
      let one_most : most ≡ suc (most - 1) = omega arith in (
        most - 1,
        begun-fewer place' left (most - 1) (λ e. never-packet (control_of n) (suc left) (sym is ∙ e)) begun (omega arith),
        λ at rest.
            ap (λ k. rest_at k (suc left) m width at (n ∷ rest)) one_most
            ∙ control-read (control_of n) (most - 1) left m width at n rest refl
            ∙ ap (λ p. read_on p (most - 1) (suc left) m width (at + 1) rest) (sym is)
            ∙ sym (front-nil (read_on place' (most - 1) (suc left) m width (at + 1) rest)),
      );
}

-- some of the bytes of a packet as they are
literal-read : (n left m width more most at : ℕ) (bytes rest : List ℕ) → length bytes + more ≡ n
    → read_on (Literal n) most left m width at (bytes ++ rest)
    ≡ with_front bytes (read_on (Literal more) most (left - length bytes) m width (at + length bytes) rest)
literal-read n left m width more most at bytes rest whole = by_length (nat_lt (length rest) more) refl
  where
    by_length : (b : Bool) → nat_lt (length rest) more ≡ b
        → read_on (Literal n) most left m width at (bytes ++ rest)
        ≡ with_front bytes (if b then RowsPart else with_front (take more rest)
        (rest_at most (left - length bytes - more) m width (at + length bytes + more) (drop more rest)))
    by_length true e =
        let short : nat_lt (length (bytes ++ rest)) n ≡ true = lt-ltb _ _ (omega (arith, length-append bytes rest, ltb-true _ _ e)) in
        ap (λ b. if b then RowsPart else with_front (take n (bytes ++ rest))
        (rest_at most (left - n) m width (at + n) (drop n (bytes ++ rest)))) short
    by_length false e =
        let enough : nat_lt (length (bytes ++ rest)) n ≡ false = le-ltb _ _ (omega (arith, length-append bytes rest, ltb-false _ _ e)) in
        let fewer : left - n ≡ left - length bytes - more = omega arith in
        let there : at + n ≡ at + length bytes + more = omega arith in
        ap (λ b. if b then RowsPart else with_front (take n (bytes ++ rest))
        (rest_at most (left - n) m width (at + n) (drop n (bytes ++ rest)))) enough
        ∙ ap (λ k. with_front (take n (bytes ++ rest)) (rest_at most k m width (at + n) (drop n (bytes ++ rest)))) fewer
        ∙ ap (λ k. with_front (take n (bytes ++ rest)) (rest_at most (left - length bytes - more) m width k (drop n (bytes ++ rest)))) there
        ∙ ap (λ k. with_front (take k (bytes ++ rest))
        (rest_at most (left - length bytes - more) m width (at + length bytes + more) (drop k (bytes ++ rest)))) (sym whole)
        ∙ ap (λ bs. with_front bs
        (rest_at most (left - length bytes - more) m width (at + length bytes + more) (drop (length bytes + more) (bytes ++ rest))))
        (take-append-add bytes rest more)
        ∙ ap (λ bs. with_front (bytes ++ take more rest) (rest_at most (left - length bytes - more) m width (at + length bytes + more) bs))
        (drop-append-add bytes rest more)
        ∙ sym (front-append bytes (take more rest)
        (rest_at most (left - length bytes - more) m width (at + length bytes + more) (drop more rest)))

-- where none of them is left, a packet is next
literal-none : (most left m width at : ℕ) (rest : List ℕ)
    → read_on (Literal 0) most left m width at rest ≡ rest_at most left m width at rest
literal-none most left m width at rest =
    ap (λ b. if b then RowsPart else with_front [] (rest_at most (left - 0) m width (at + 0) rest)) (le-ltb (length rest) 0 (omega arith))
    ∙ front-nil (rest_at most (left - 0) m width (at + 0) rest)
    ∙ ap (λ k. rest_at most k m width (at + 0) rest) (let p : left - 0 ≡ left = omega arith in p)
    ∙ ap (λ k. rest_at most left m width k rest) (let p : at + 0 ≡ at = omega arith in p)

-- The current row goes on, or the next one begins.
abbrev pub Follows : ℕ → ℕ → ℕ → ℕ → ℕ → ℕ → Type 0
Follows left m width left' m' width' = (most : ℕ) → left ≤ most → (most' : ℕ) × (left' ≤ most')
    × ((at : ℕ) (bytes : List ℕ) → rest_at most left m width at bytes ≡ rest_at most' left' m' width' at bytes)

-- the last of the bytes of a packet as they are
pub literal_ends : {n left m width left' m' width' count : ℕ} {bytes : List ℕ} → length bytes ≡ count → count ≡ n
    → Follows (left - count) m width left' m' width'
    → Moves (Literal n) left m width bytes bytes Packet left' m' width'
literal_ends {n} {left} {m} {width} {left'} {m'} {width'} {count} {bytes} counted whole follows = record {
  on = λ most enough.
      let next : (most' : ℕ) × (left' ≤ most')
      × ((at : ℕ) (bytes : List ℕ) → rest_at most (left - count) m width at bytes ≡ rest_at most' left' m' width' at bytes)
      = follows most (omega (arith, enough refl)) in (
        next.0,
        λ still. omega (arith, next.1),
        λ at rest.
            literal-read n left m width 0 most at bytes rest (omega arith)
            ∙ ap (with_front bytes) (literal-none most (left - length bytes) m width (at + length bytes) rest
            ∙ ap (λ k. rest_at most (left - k) m width (at + length bytes) rest) counted
            ∙ next.2 (at + length bytes) rest),
      );
}

-- the byte that is repeated
pub repeated_moves : {n left m width left' m' width' : ℕ} (byte : ℕ) → Follows (left - n) m width left' m' width'
    → Moves (Repeated n) left m width (byte ∷ []) (replicate n byte) Packet left' m' width'
repeated_moves {n} {left} {m} {width} {left'} {m'} {width'} byte follows = record {
  on = λ most enough.
      let next : (most' : ℕ) × (left' ≤ most')
      × ((at : ℕ) (bytes : List ℕ) → rest_at most (left - n) m width at bytes ≡ rest_at most' left' m' width' at bytes)
      = follows most (enough refl) in
      (next.0, λ still. omega (arith, next.1), λ at rest. ap (with_front (replicate n byte)) (next.2 (at + 1) rest));
}

-- the same reader, by an equal place
pub at_place : {form : RowsForm} {place place' : Place} {left m width : ℕ} {sofar given : List ℕ} → place ≡ place'
    → Stands form place left m width sofar given → Stands form place' left m width sofar given
at_place {form} {left} {m} {width} {sofar} {given} same so_far =
    let P : Place → Type 0 = λ p. Stands form p left m width sofar given in subst P same so_far

-- where no byte of a row is left, the next row follows
pub row_follows : (left m m' width : ℕ) → left ≡ 0 → m ≡ suc m' → Follows left m width width m' width
row_follows left m m' width none more most enough = (
  width,
  omega arith,
  λ at bytes.
      ap (λ k. rest_at most k m width at bytes) none
      ∙ ap (λ k. rest_at most 0 k width at bytes) more
      ∙ rest-next most m' width at bytes,
)

-- what is left where a row ends
pub next_left : (left m width count m' : ℕ) → count ≡ left → m ≡ suc m' → width + m' * width + count ≡ left + m * width
next_left left m width count m' all more = omega (arith, ap (λ k. k * width) more)

-- bytes as they are, before the last
pub literal_part : {n left m width more left' : ℕ} {bytes : List ℕ} → length bytes + more ≡ n → left' ≡ left - length bytes
    → Moves (Literal n) left m width bytes bytes (Literal more) left' m width
literal_part {n} {left} {m} {width} {more} {left'} {bytes} whole less = record {
  on = λ most enough. (
    most,
    λ still. omega (arith, less, enough refl),
    λ at rest. literal-read n left m width more most at bytes rest whole
        ∙ ap (λ k. with_front bytes (read_on (Literal more) most k m width (at + length bytes) rest)) (sym less),
  );
}

-- ---- the first place

-- plain rows are one row of bytes as they are
pub plain_begins : (form : RowsForm) (n width : ℕ) → form.c ≡ 0 → form.rows * form.width ≡ n → Stands form (Literal n) n 0 width [] []
plain_begins form n width plain count = record {
  most = n;
  enough = λ still. omega arith;
  is = λ rest.
      ap (λ k. if k == 0 then plain_at (form.rows * form.width) form.at rest else rows_at form.rows form.width form.at rest) plain
      ∙ ap (λ k. plain_at k form.at rest) count
      ∙ by_length rest (nat_lt (length rest) n)
      ∙ sym (front-nil (read_on (Literal n) n n 0 width (form.at + 0) rest));
}
  where
    by_length : (rest : List ℕ) (b : Bool) → (if b then RowsPart else RowsAre (take n rest) (form.at + n))
        ≡ (if b then RowsPart else with_front (take n rest) (rest_at n (n - n) 0 width (form.at + 0 + n) (drop n rest)))
    by_length rest true = refl
    by_length rest false =
        ap (λ k. RowsAre (take n rest) (k + n)) (let p : form.at ≡ form.at + 0 = omega arith in p)
        ∙ ap (λ bs. RowsAre bs (form.at + 0 + n)) (sym (append-nil (take n rest)))
        ∙ ap (with_front (take n rest)) (sym (rest-none n width (form.at + 0 + n) (drop n rest)))
        ∙ ap (λ k. with_front (take n rest) (rest_at n k 0 width (form.at + 0 + n) (drop n rest))) (let p : 0 ≡ n - n = omega arith in p)

-- coded rows begin before a control byte
pub coded_begins : (form : RowsForm) (m width : ℕ) → (form.c ≡ 0 → ⊥) → form.rows ≡ suc m → form.width ≡ width
    → Stands form Packet width m width [] []
coded_begins form m width coded rows wide = record {
  most = width;
  enough = λ still. omega arith;
  is = λ rest.
      ap (λ b. if b then plain_at (form.rows * form.width) form.at rest else rows_at form.rows form.width form.at rest)
      (ne_eqb form.c 0 coded)
      ∙ ap (λ k. rows_at k form.width form.at rest) rows
      ∙ ap (λ k. rows_at (suc m) k form.at rest) wide
      ∙ rows-rest m width form.at rest
      ∙ ap (λ k. rest_at width width m width k rest) (let p : form.at ≡ form.at + 0 = omega arith in p)
      ∙ sym (front-nil (rest_at width width m width (form.at + 0) rest));
}
