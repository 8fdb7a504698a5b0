-- A byte of dots at any column of a packed row.
use Rattle.std.proofs.Common.{◌≡◌, ℕ, ◌+◌, ◌-◌, ◌*◌, ◌/◌, ◌%◌, ◌^◌, ◌==◌, ◌<◌, ◌≤◌, Bool, true, false, ◌&&◌, ◌||◌, nat_le, nat_lt}
use Rattle.std.proofs.Common.{List, length, get_or, set, refl, ◌∙◌, sym, ap, arith, bit_or, inl, inr, get_or-set_other, get_or-set_same}
use Rattle.std.proofs.Common.{◌⊎◌}
use Rattle.std.proofs.lemmas.Bool.{cases_eq, cases_lt, lt-ltb, le-ltb, le-leb, lt-leb, eq-eqb, ne_eqb}
use Rattle.base_definitions.specs.Packed.{bit_at}
use Rattle.dot_planes.specs.Laying.{is_in_bytes, laid_dot}
use Rattle.dot_planes.specs.Tables.{row_dot}
use Rattle.dot_planes.proofs.MovedBits.{cut-is, or-is}
use Rattle.dot_planes.proofs.PackedRows.{no_bit}

pub or-nothing : (a : Bool) → (a || false) ≡ a
or-nothing true = refl
or-nothing false = refl

same_le : (a b c d : ℕ) → (a ≤ b → c ≤ d) → (c ≤ d → a ≤ b) → nat_le a b ≡ nat_le c d
same_le a b c d there back = grind (arith, cases_lt, le-leb, lt-leb)

-- a dot by its byte and its place there
pub row_dot-at : (row : List ℕ) (c i j : ℕ) → c ≡ 8 * i + j → j < 8 → row_dot row c ≡ bit_at (get_or row i 0) j
row_dot-at row c i j is low = grind arith

-- a byte with the bits past a row's last dot cleared
pub part-cut : (row : List ℕ) (dots i j : ℕ) → 8 * i < dots → dots - 8 * i < 8 → j < 8 → get_or row i 0 < 256
    → bit_at (get_or row i 0 / 2 ^ (8 - (dots - 8 * i)) * 2 ^ (8 - (dots - 8 * i)) % 256) j
    ≡ (nat_lt (8 * i + j) dots && row_dot row (8 * i + j))
part-cut row dots i j some few low fits = grind (arith, cut-is, row_dot-at, same_le)

pub part-whole : (row : List ℕ) (dots i j : ℕ) → 8 ≤ dots - 8 * i → j < 8
    → bit_at (get_or row i 0) j ≡ (nat_lt (8 * i + j) dots && row_dot row (8 * i + j))
part-whole row dots i j many low =
    sym (ap (λ b. b && row_dot row (8 * i + j)) (lt-ltb (8 * i + j) dots (omega arith)) ∙ row_dot-at row (8 * i + j) i j refl low)

-- eight dots out of two bytes, from a place in the first on: those of the first
pub eight-left : (p q by j a b : ℕ) → j + by < 8
    → bit_at a j ≡ (nat_lt (j + by) 8 && bit_at p (j + by)) → bit_at b j ≡ (nat_le 8 (j + by) && bit_at q (j + by - 8))
    → bit_at (bit_or a b) j ≡ bit_at p (j + by)
eight-left p q by j a b here first second = grind (arith, lt-leb, lt-ltb, or-is, or-nothing)

-- and those of the second
pub eight-right : (p q by j a b : ℕ) → 8 ≤ j + by
    → bit_at a j ≡ (nat_lt (j + by) 8 && bit_at p (j + by)) → bit_at b j ≡ (nat_le 8 (j + by) && bit_at q (j + by - 8))
    → bit_at (bit_or a b) j ≡ bit_at q (j + by - 8)
eight-right p q by j a b next first second = grind (arith, le-leb, le-ltb, or-is)

-- the same in a packed row
pub pair-is : (bytes : List ℕ) (i by j v : ℕ) → by ≤ 8 → j < 8
    → (j + by < 8 → bit_at v j ≡ bit_at (get_or bytes i 0) (j + by))
    → (8 ≤ j + by → bit_at v j ≡ bit_at (get_or bytes (i + 1) 0) (j + by - 8))
    → bit_at v j ≡ row_dot bytes (8 * i + by + j)
pair-is bytes i by j v few low first second = grind (arith, cases_lt, row_dot-at)

pub window-is : (bytes : List ℕ) (x j v : ℕ) → j < 8
    → (j + x % 8 < 8 → bit_at v j ≡ bit_at (get_or bytes (x / 8) 0) (j + x % 8))
    → (8 ≤ j + x % 8 → bit_at v j ≡ bit_at (get_or bytes (x / 8 + 1) 0) (j + x % 8 - 8))
    → bit_at v j ≡ row_dot bytes (x + j)
window-is bytes x j v low first second = grind (arith, pair-is)

-- ---- dots turned on

-- dots turned on in one byte
or_at : (bytes : List ℕ) (p v c : ℕ) → p < length bytes
    → row_dot (set bytes p (bit_or (get_or bytes p 0) v)) c ≡ (row_dot bytes c || ((c / 8 == p) && bit_at v (c % 8)))
or_at bytes p v c inside = grind (arith, cases_eq, eq-eqb, get_or-set_other, get_or-set_same, ne_eqb, or-is, or-nothing)

-- ---- rows that are laid byte by byte

pub and-none : (a : Bool) → (a && false) ≡ false
and-none true = refl
and-none false = refl

or-three : (a b d e : Bool) → (b || d) ≡ e → ((a || b) || d) ≡ (a || e)
or-three true b d e is = refl
or-three false b d e is = is

pub outside-left : (from to c : ℕ) → c < 8 * from → is_in_bytes from to c ≡ false
outside-left from to c left = ap (λ b. b && nat_lt c (8 * to)) (lt-leb (8 * from) c left)

pub outside-right : (from to c : ℕ) → 8 * to ≤ c → is_in_bytes from to c ≡ false
outside-right from to c right = ap (λ b. nat_le (8 * from) c && b) (le-ltb c (8 * to) right) ∙ and-none _

pub inside-both : (from to c : ℕ) → 8 * from ≤ c → c < 8 * to → is_in_bytes from to c ≡ true
inside-both from to c left right = ap (λ b. b && nat_lt c (8 * to)) (le-leb (8 * from) c left) ∙ lt-ltb c (8 * to) right

-- no byte has no dot
pub none-laid : (laid : ℕ → Bool) (from c : ℕ) → (is_in_bytes from from c && laid c) ≡ false
none-laid laid from c = grind (arith, cases_lt, outside-left, outside-right)

-- the dots of one byte more
more-laid : (laid : ℕ → Bool) (from p v c : ℕ) → from ≤ p → ((j : ℕ) → j < 8 → bit_at v j ≡ laid (8 * p + j))
    → ((is_in_bytes from p c && laid c) || ((c / 8 == p) && bit_at v (c % 8))) ≡ (is_in_bytes from (p + 1) c && laid c)
more-laid laid from p v c order is = grind (arith, cases_eq, eq-eqb, inside-both, ne_eqb, or-nothing, outside-right, same_le)

pub laid-step : (old mid : List ℕ) (laid : ℕ → Bool) (from p v c : ℕ) → from ≤ p → p < length mid
    → ((j : ℕ) → j < 8 → bit_at v j ≡ laid (8 * p + j))
    → row_dot mid c ≡ (row_dot old c || (is_in_bytes from p c && laid c))
    → row_dot (set mid p (bit_or (get_or mid p 0) v)) c ≡ (row_dot old c || (is_in_bytes from (p + 1) c && laid c))
laid-step old mid laid from p v c order inside is so_far = grind (arith, more-laid, or-three, or_at)

-- a byte where none is laid
pub none-more : (laid : ℕ → Bool) (from p c : ℕ) → (8 * p ≤ c → laid c ≡ false)
    → (is_in_bytes from p c && laid c) ≡ (is_in_bytes from (p + 1) c && laid c)
none-more laid from p c none = grind (arith, and-none, cases_lt, lt-ltb)

-- two stretches of bytes, one after the other
pub laid-joins : (laid : ℕ → Bool) (from mid to c : ℕ) → from ≤ mid → mid ≤ to
    → ((is_in_bytes from mid c && laid c) || (is_in_bytes mid to c && laid c)) ≡ (is_in_bytes from to c && laid c)
laid-joins laid from mid to c first second = grind (arith, cases_lt, le-leb, lt-ltb, or-nothing, outside-left, outside-right)

pub laid-stretch : (old mid new : List ℕ) (laid : ℕ → Bool) (from at to c : ℕ) → from ≤ at → at ≤ to
    → row_dot mid c ≡ (row_dot old c || (is_in_bytes from at c && laid c))
    → row_dot new c ≡ (row_dot mid c || (is_in_bytes at to c && laid c))
    → row_dot new c ≡ (row_dot old c || (is_in_bytes from to c && laid c))
laid-stretch old mid new laid from at to c first second so_far step =
    step ∙ ap (λ b. b || (is_in_bytes at to c && laid c)) so_far ∙ or-three _ _ _ _ (laid-joins laid from at to c first second)

-- ---- a row that is laid

-- no dot of a row is laid at or past its end
pub none-behind : (row : List ℕ) (dots x c : ℕ) → x + dots ≤ c → laid_dot row dots x c ≡ false
none-behind row dots x c behind = ap (λ b. nat_le x c && (b && row_dot row (c - x))) (le-ltb (c - x) dots (omega arith)) ∙ and-none _

-- all dots of a row are in its bytes
pub laid-all : (row : List ℕ) (dots x from to c : ℕ)
    → 8 * from ≤ x → x + dots ≤ 8 * to → (is_in_bytes from to c && laid_dot row dots x c) ≡ laid_dot row dots x c
laid-all row dots x from to c first last = grind (arith, and-none, cases_lt, inside-both, lt-leb, none-behind)

-- the same dot, counted from the byte where the row begins
pub laid-from : (row : List ℕ) (dots x i j : ℕ) → laid_dot row dots (x % 8) (8 * i + j) ≡ laid_dot row dots x (8 * (x / 8 + i) + j)
laid-from row dots x i j = grind (arith, same_le)

-- a dot that is laid in a byte which the row covers whole
pub laid-whole : (row : List ℕ) (dots x i j : ℕ) → 8 * (i + 2) ≤ dots → j < 8
    → row_dot row (8 * i + (8 - x % 8) + j) ≡ laid_dot row dots x (8 * (x / 8 + 1 + i) + j)
laid-whole row dots x i j whole low = grind (arith, le-leb, lt-ltb)

-- the dots of byte i of a row of `dots` dots
abbrev pub IsPart : List ℕ → ℕ → ℕ → ℕ → Type 0
IsPart row dots i part = (j : ℕ) → j < 8 → bit_at part j ≡ (nat_lt (8 * i + j) dots && row_dot row (8 * i + j))

-- those of the byte before; the first byte has none before it
abbrev pub IsPartBefore : List ℕ → ℕ → ℕ → ℕ → Type 0
IsPartBefore row dots i part = (j : ℕ)
    → j < 8 → bit_at part j ≡ (nat_le 8 (8 * i + j) && (nat_lt (8 * i + j - 8) dots && row_dot row (8 * i + j - 8)))

pub part-before : (row : List ℕ) (dots last i part : ℕ) → i ≡ last + 1 → IsPart row dots last part → IsPartBefore row dots i part
part-before row dots last i part next is = grind (arith, le-leb)

pub none-before : (row : List ℕ) (dots i : ℕ) → i ≡ 0 → IsPartBefore row dots i 0
none-before row dots i first = λ j low.
    no_bit j ∙ sym (ap (λ b. b && (nat_lt (8 * i + j - 8) dots && row_dot row (8 * i + j - 8))) (lt-leb 8 (8 * i + j) (omega arith)))

-- a byte of a row that begins within byte 0
pub laid_byte-is : (row : List ℕ) (dots before i j left here v : ℕ) → before < 8 → j < 8
    → IsPartBefore row dots i left → IsPart row dots i here
    → (j + (8 - before) < 8 → bit_at v j ≡ bit_at left (j + (8 - before)))
    → (8 ≤ j + (8 - before) → bit_at v j ≡ bit_at here (j + (8 - before) - 8))
    → bit_at v j ≡ laid_dot row dots before (8 * i + j)
laid_byte-is row dots before i j left here v few low is_left is_here first second = by_place (cases_lt j before)
  where
    by_place : (j < before) ⊎ (before ≤ j) → bit_at v j ≡ laid_dot row dots before (8 * i + j)
    by_place (inl less) =
        let place : 8 * i + (j + (8 - before)) - 8 ≡ 8 * i + j - before = omega arith in
        first (omega arith) ∙ is_left (j + (8 - before)) (omega arith)
        ∙ ap (λ t. t && (nat_lt (8 * i + (j + (8 - before)) - 8) dots && row_dot row (8 * i + (j + (8 - before)) - 8)))
        (same_le 8 (8 * i + (j + (8 - before))) before (8 * i + j) (λ le. omega arith) (λ le. omega arith))
        ∙ ap (λ n. nat_le before (8 * i + j) && (nat_lt n dots && row_dot row n)) place
    by_place (inr more) =
        let place : 8 * i + (j + (8 - before) - 8) ≡ 8 * i + j - before = omega arith in
        second (omega arith) ∙ is_here (j + (8 - before) - 8) (omega arith)
        ∙ ap (λ n. nat_lt n dots && row_dot row n) place
        ∙ sym (ap (λ t. t && (nat_lt (8 * i + j - before) dots && row_dot row (8 * i + j - before)))
        (le-leb before (8 * i + j) (omega arith)))
