-- What is read of coded rows is decided by the first bytes, whatever follows.
use Rattle.std.proofs.Common.{◌≡◌, ℕ, zero, suc, ◌+◌, ◌-◌, nat_lt, Bool, true, false, if◌then◌else◌, List, [], ◌∷◌, ◌++◌, length, take}
use Rattle.std.proofs.Common.{drop, refl, sym, ◌∙◌, ap, subst, arith, append_assoc, length-append}
use Rattle.std.proofs.lemmas.Bool.{ltb-false}
use Rattle.std.proofs.lemmas.List.{drop_at, length-take-le, take-append-drop}
use Rattle.escp2_definitions.specs.RowCode.{Control, RowsRead, again_at, control_of, controlled, packet_at, plain_at, row_at, rows_at}
use Rattle.escp2_definitions.specs.RowCode.{with_front}
use Rattle.escp2_definitions.specs.RowCode.Control.{Follow, Again, Refused}
use Rattle.escp2_definitions.specs.RowCode.RowsRead.{RowsAre, RowsPart, RowsWrong}
use Rattle.escp2_laws.proofs.Grammar.{row-part, row-step, row-wrong}
use Rattle.escp2_laws.proofs.Rows.{plain-reads}

-- Bytes that are read from a place on: a prefix decides the answer, whatever follows, and ends at a place.
pub record FrontTells (read : List ℕ → RowsRead) (at : ℕ) (bytes : List ℕ) (answer : RowsRead) (end : ℕ) : Type 0 where
  pub front : List ℕ
  pub rest : List ℕ
  pub is : bytes ≡ front ++ rest
  pub there : end ≡ at + length front
  pub told : (more : List ℕ) → read (front ++ more) ≡ answer

-- rows are decided by their code, and a refused control byte by the bytes up to it
abbrev pub RowsTold : (List ℕ → RowsRead) → ℕ → List ℕ → RowsRead → Type 0
RowsTold read at bytes (RowsAre rows next) = FrontTells read at bytes (RowsAre rows next) next
RowsTold read at bytes RowsPart = Unit {0}
RowsTold read at bytes (RowsWrong place) = FrontTells read at bytes (RowsWrong place) (place + 1)

-- one code after another
join : (read next_read : List ℕ → RowsRead) (at next : ℕ) (row code rest bytes : List ℕ) → bytes ≡ code ++ rest → next ≡ at + length code
    → ((more : List ℕ) → read (code ++ more) ≡ with_front row (next_read more)) → (r : RowsRead) → RowsTold next_read next rest r
    → RowsTold read at bytes (with_front row r)
join read next_read at next row code rest bytes is there step (RowsAre rows last) t = record {
  front = code ++ t.front;
  rest = t.rest;
  is = is ∙ ap (λ bs. code ++ bs) t.is ∙ sym (append_assoc code t.front t.rest);
  there = omega (arith, t.there, length-append code t.front);
  told = λ more. ap read (append_assoc code t.front more) ∙ step (t.front ++ more) ∙ ap (with_front row) (t.told more);
}
join read next_read at next row code rest bytes is there step RowsPart t = tt
join read next_read at next row code rest bytes is there step (RowsWrong place) t = record {
  front = code ++ t.front;
  rest = t.rest;
  is = is ∙ ap (λ bs. code ++ bs) t.is ∙ sym (append_assoc code t.front t.rest);
  there = omega (arith, t.there, length-append code t.front);
  told = λ more. ap read (append_assoc code t.front more) ∙ step (t.front ++ more) ∙ ap (with_front row) (t.told more);
}

-- ---- plain bytes

-- bytes as they are
pub plain-told : (n at : ℕ) (bytes : List ℕ) → RowsTold (plain_at n at) at bytes (plain_at n at bytes)
plain-told n at bytes = by_test (nat_lt (length bytes) n) refl
  where
    by_test : (b : Bool) → nat_lt (length bytes) n ≡ b
        → RowsTold (plain_at n at) at bytes (if b then RowsPart else RowsAre (take n bytes) (at + n))
    by_test true e = tt
    by_test false e =
        let sized : length (take n bytes) ≡ n = length-take-le n bytes (ltb-false _ _ e) in
        record {
          front = take n bytes;
          rest = drop n bytes;
          is = sym (take-append-drop n bytes);
          there = omega (arith, sized);
          told = λ more. plain-reads (take n bytes) more n at sized;
        }

-- ---- a packet

-- a packet is decided by its control byte and what that controls
pub packet-told : (left at : ℕ) (bytes : List ℕ) → RowsTold (packet_at left at) at bytes (packet_at left at bytes)
packet-told left at [] = tt
packet-told left at (n ∷ bytes) = by_control (control_of n) refl
  where
    refused : (c : Control) → control_of n ≡ c → ((more : List ℕ) → controlled c left at more ≡ RowsWrong at)
        → RowsTold (packet_at left at) at (n ∷ bytes) (RowsWrong at)
    refused c is wrong = record {
      front = n ∷ [];
      rest = bytes;
      is = refl;
      there = omega arith;
      told = λ more. ap (λ (c : Control). controlled c left at more) is ∙ wrong more;
    }

    literal : (k : ℕ) → control_of n ≡ Follow k → (b : Bool) → nat_lt left k ≡ b
        → RowsTold (packet_at left at) at (n ∷ bytes) (if b then RowsWrong at else plain_at k (at + 1) bytes)
    literal k is true e = refused (Follow k) is (λ more. ap (λ b. if b then RowsWrong at else plain_at k (at + 1) more) e)
    literal k is false e = by_more (plain_at k (at + 1) bytes) (plain-told k (at + 1) bytes)
      where
        step : (more : List ℕ) → packet_at left at (n ∷ more) ≡ plain_at k (at + 1) more
        step more =
            ap (λ (c : Control). controlled c left at more) is ∙ ap (λ b. if b then RowsWrong at else plain_at k (at + 1) more) e

        longer : {r : RowsRead} {end : ℕ} → FrontTells (plain_at k (at + 1)) (at + 1) bytes r end
            → FrontTells (packet_at left at) at (n ∷ bytes) r end
        longer t = record {
          front = n ∷ t.front;
          rest = t.rest;
          is = ap (λ bs. n ∷ bs) t.is;
          there = omega (arith, t.there);
          told = λ more. step (t.front ++ more) ∙ t.told more;
        }

        by_more : (r : RowsRead) → RowsTold (plain_at k (at + 1)) (at + 1) bytes r → RowsTold (packet_at left at) at (n ∷ bytes) r
        by_more (RowsAre rows next) t = longer t
        by_more RowsPart t = tt
        by_more (RowsWrong place) t = longer t

    repeated : (k : ℕ) → control_of n ≡ Again k → (b : Bool) → nat_lt left k ≡ b → (bytes : List ℕ)
        → RowsTold (packet_at left at) at (n ∷ bytes) (if b then RowsWrong at else again_at k (at + 1) bytes)
    repeated k is true e bytes = record {
      front = n ∷ [];
      rest = bytes;
      is = refl;
      there = omega arith;
      told = λ more. ap (λ (c : Control). controlled c left at more) is ∙ ap (λ b. if b then RowsWrong at else again_at k (at + 1) more) e;
    }
    repeated k is false e [] = tt
    repeated k is false e (byte ∷ bytes) = record {
      front = n ∷ byte ∷ [];
      rest = bytes;
      is = refl;
      there = omega arith;
      told = λ more. ap (λ (c : Control). controlled c left at (byte ∷ more)) is
          ∙ ap (λ b. if b then RowsWrong at else again_at k (at + 1) (byte ∷ more)) e;
    }

    by_control : (c : Control) → control_of n ≡ c → RowsTold (packet_at left at) at (n ∷ bytes) (controlled (control_of n) left at bytes)
    by_control (Follow k) is =
        let P : Control → Type 0 = λ c. RowsTold (packet_at left at) at (n ∷ bytes) (controlled c left at bytes) in
        subst P (sym is) (literal k is (nat_lt left k) refl)
    by_control (Again k) is =
        let P : Control → Type 0 = λ c. RowsTold (packet_at left at) at (n ∷ bytes) (controlled c left at bytes) in
        subst P (sym is) (repeated k is (nat_lt left k) refl bytes)
    by_control Refused is =
        let P : Control → Type 0 = λ c. RowsTold (packet_at left at) at (n ∷ bytes) (controlled c left at bytes) in
        subst P (sym is) (refused Refused is (λ more. refl))

-- ---- a row

-- what follows a code that ends at a place
passed : (at next : ℕ) (code rest bytes : List ℕ) → bytes ≡ code ++ rest → next ≡ at + length code → drop (next - at) bytes ≡ rest
passed at next code rest bytes is there = ap (drop (next - at)) is ∙ drop_at code rest (next - at) (omega (arith, there))

-- the rest of a row, packet by packet
pub row-told : (most left at : ℕ) (bytes : List ℕ) → RowsTold (row_at most left at) at bytes (row_at most left at bytes)
unfolding row_at
row-told most zero at bytes = record { front = []; rest = bytes; is = refl; there = omega arith; told = λ more. refl }
row-told zero (suc left) at bytes = tt
row-told (suc most) (suc left) at bytes =
    by_packet (λ left at bytes. row-told most left at bytes) (packet_at (suc left) at bytes) refl (packet-told (suc left) at bytes)
  where
    by_packet : ((left at : ℕ) (bytes : List ℕ) → RowsTold (row_at most left at) at bytes (row_at most left at bytes))
        → (r : RowsRead) → packet_at (suc left) at bytes ≡ r → RowsTold (packet_at (suc left) at) at bytes (packet_at (suc left) at bytes)
        → RowsTold (row_at (suc most) (suc left) at) at bytes (row_at (suc most) (suc left) at bytes)
    by_packet rest_told (RowsAre row next) is t =
        let P : RowsRead → Type 0 = RowsTold (packet_at (suc left) at) at bytes in
        let first : FrontTells (packet_at (suc left) at) at bytes (RowsAre row next) next = subst P is t in
        let behind : drop (next - at) bytes ≡ first.rest = passed at next first.front first.rest bytes first.is first.there in
        let fewer : ℕ = suc left - length row in
        let Q : RowsRead → Type 0 = RowsTold (row_at (suc most) (suc left) at) at bytes in
        subst Q (sym (row-step most left at bytes row next is ∙ ap (λ bs. with_front row (row_at most fewer next bs)) behind))
        (join (row_at (suc most) (suc left) at) (row_at most fewer next) at next row first.front first.rest bytes first.is first.there
        (λ more. row-step most left at (first.front ++ more) row next (first.told more)
        ∙ ap (λ bs. with_front row (row_at most fewer next bs)) (passed at next first.front more (first.front ++ more) refl first.there))
        (row_at most fewer next first.rest) (rest_told fewer next first.rest))
    by_packet rest_told RowsPart is t =
        let Q : RowsRead → Type 0 = RowsTold (row_at (suc most) (suc left) at) at bytes in
        subst Q (sym (row-part most left at bytes is)) tt
    by_packet rest_told (RowsWrong place) is t =
        let P : RowsRead → Type 0 = RowsTold (packet_at (suc left) at) at bytes in
        let first : FrontTells (packet_at (suc left) at) at bytes (RowsWrong place) (place + 1) = subst P is t in
        let Q : RowsRead → Type 0 = RowsTold (row_at (suc most) (suc left) at) at bytes in
        subst Q (sym (row-wrong most left at bytes place is))
        (record {
          front = first.front;
          rest = first.rest;
          is = first.is;
          there = first.there;
          told = λ more. row-wrong most left at (first.front ++ more) place (first.told more);
        })

-- ---- rows

-- rows are read row by row
rows-next : (m width at : ℕ) (bytes : List ℕ) (r : RowsRead) → row_at width width at bytes ≡ r → rows_at (suc m) width at bytes ≡ (elim r [
  | RowsAre row next ↦ with_front row (rows_at m width next (drop (next - at) bytes))
  | RowsPart ↦ RowsPart
  | RowsWrong place ↦ RowsWrong place
])
unfolding rows_at
rows-next m width at bytes r e = cc

-- rows, one after another
pub rows-told : (m width at : ℕ) (bytes : List ℕ) → RowsTold (rows_at m width at) at bytes (rows_at m width at bytes)
unfolding rows_at
rows-told zero width at bytes = record { front = []; rest = bytes; is = refl; there = omega arith; told = λ more. refl }
rows-told (suc m) width at bytes =
    by_row (λ at bytes. rows-told m width at bytes) (row_at width width at bytes) refl (row-told width width at bytes)
  where
    by_row : ((at : ℕ) (bytes : List ℕ) → RowsTold (rows_at m width at) at bytes (rows_at m width at bytes))
        → (r : RowsRead) → row_at width width at bytes ≡ r → RowsTold (row_at width width at) at bytes (row_at width width at bytes)
        → RowsTold (rows_at (suc m) width at) at bytes (rows_at (suc m) width at bytes)
    by_row rest_told (RowsAre row next) is t =
        let P : RowsRead → Type 0 = RowsTold (row_at width width at) at bytes in
        let first : FrontTells (row_at width width at) at bytes (RowsAre row next) next = subst P is t in
        let behind : drop (next - at) bytes ≡ first.rest = passed at next first.front first.rest bytes first.is first.there in
        let Q : RowsRead → Type 0 = RowsTold (rows_at (suc m) width at) at bytes in
        subst Q (sym (rows-next m width at bytes (RowsAre row next) is ∙ ap (λ bs. with_front row (rows_at m width next bs)) behind))
        (join (rows_at (suc m) width at) (rows_at m width next) at next row first.front first.rest bytes first.is first.there
        (λ more. rows-next m width at (first.front ++ more) (RowsAre row next) (first.told more)
        ∙ ap (λ bs. with_front row (rows_at m width next bs)) (passed at next first.front more (first.front ++ more) refl first.there))
        (rows_at m width next first.rest) (rest_told next first.rest))
    by_row rest_told RowsPart is t =
        let Q : RowsRead → Type 0 = RowsTold (rows_at (suc m) width at) at bytes in
        subst Q (sym (rows-next m width at bytes RowsPart is)) tt
    by_row rest_told (RowsWrong place) is t =
        let P : RowsRead → Type 0 = RowsTold (row_at width width at) at bytes in
        let first : FrontTells (row_at width width at) at bytes (RowsWrong place) (place + 1) = subst P is t in
        let Q : RowsRead → Type 0 = RowsTold (rows_at (suc m) width at) at bytes in
        subst Q (sym (rows-next m width at bytes (RowsWrong place) is))
        (record {
          front = first.front;
          rest = first.rest;
          is = first.is;
          there = first.there;
          told = λ more. rows-next m width at (first.front ++ more) (RowsWrong place) (first.told more);
        })
