-- Rows of dots and their packed bytes.
use Rattle.std.proofs.lemmas.Grind.{common_steps}
use Rattle.std.proofs.Common.{◌≡◌, ℕ, zero, suc, ◌+◌, ◌-◌, ◌*◌, ◌/◌, ◌%◌, ◌^◌, ◌==◌, ◌<◌, ◌≤◌, Bool, true, false, List, [], ◌∷◌, ◌++◌}
use Rattle.std.proofs.Common.{length, drop, map, cond, get_or, sum_by, count_by, count_ones, refl, sym, ◌∙◌, ap, arith, inl, inr}
use Rattle.std.proofs.Common.{length-drop}
use Rattle.std.proofs.lemmas.Bool.{cases_lt}
use Rattle.std.proofs.lemmas.List.{get_or-drop, get_or_past}
use Rattle.std.proofs.lemmas.List.Sums.{sum_by-cons, sum_by_push}
use Rattle.base_definitions.specs.Packed.{bit_at}
use Rattle.base_definitions.specs.Packed.{at, packed, packed_byte, packed_bytes, worth}
use Rattle.base_definitions.specs.Counting.{count_from}
use Rattle.dot_planes.specs.Tables.{row_dot, row_len}
use Rattle.base_definitions.proofs.Bytes.{byte_of}
use Rattle.dot_planes.proofs.Bits.{byte_of-bits, byte_of-says}

-- ---- numbers in a row

pub counted-len : (f : ℕ → Bool) (n many : ℕ) → length (map f (count_from n many)) ≡ many
counted-len f n zero = refl
counted-len f n (suc many) = ap suc (counted-len f (n + 1) many)

pub counted-at : (f : ℕ → Bool) (n many k : ℕ) → k < many → at (map f (count_from n many)) k ≡ f (n + k)
counted-at f n zero k below = absurd (omega arith)
counted-at f n (suc many) zero below = let place : n ≡ n + 0 = omega arith in ap f place
counted-at f n (suc many) (suc k) below = grind (arith, counted-at f (n + 1) many k (omega arith))

pub counted-count : (f : ℕ → Bool) (n many : ℕ) → count_by (λ b. b) (map f (count_from n many)) ≡ count_by f (count_from n many)
counted-count f n zero = refl
counted-count f n (suc many) = grind (arith, common_steps, sum_by-cons, counted-count f (n + 1) many)

-- one number more
count_from-more : (n many : ℕ) → count_from n (suc many) ≡ count_from n many ++ (n + many) ∷ []
count_from-more n zero = let place : n ≡ n + 0 = omega arith in ap (λ m. m ∷ []) place
count_from-more n (suc many) = grind (arith, count_from-more (n + 1) many)

pub sum_counted : (f : ℕ → ℕ) (many : ℕ) → sum_by f (count_from 0 (many + 1)) ≡ sum_by f (count_from 0 many) + f many
sum_counted f many =
    let next : many + 1 ≡ suc many = omega arith in
    let last : 0 + many ≡ many = omega arith in
    ap (λ m. sum_by f (count_from 0 m)) next
    ∙ ap (sum_by f) (count_from-more 0 many)
    ∙ sum_by_push f (count_from 0 many) (0 + many)
    ∙ ap (λ m. sum_by f (count_from 0 many) + f m) last

-- ---- from bytes to dots

-- a dot further on in a row of bytes
pub next_byte : (b : ℕ) (row : List ℕ) (k : ℕ) → row_dot (b ∷ row) (8 + k) ≡ row_dot row k
next_byte b row k = grind arith

-- bytes are packed from their dots
pub packed_back : (n : ℕ) (row : List ℕ) (dots : List Bool) → length row ≡ n → ((k : ℕ) → get_or row k 0 < 256)
    → ((k : ℕ) → at dots k ≡ row_dot row k) → packed_bytes n dots ≡ row
packed_back zero [] dots len bytes same = refl
packed_back zero (b ∷ row) dots len bytes same = absurd (omega arith)
packed_back (suc n) [] dots len bytes same = absurd (omega arith)
packed_back (suc n) (b ∷ row) dots len bytes same =
    let first : packed_byte dots ≡ b =
    ap (λ d. byte_of d (at dots 1) (at dots 2) (at dots 3) (at dots 4) (at dots 5) (at dots 6) (at dots 7)) (same 0)
    ∙ ap (λ d. byte_of (bit_at b 0) d (at dots 2) (at dots 3) (at dots 4) (at dots 5) (at dots 6) (at dots 7)) (same 1)
    ∙ ap (λ d. byte_of (bit_at b 0) (bit_at b 1) d (at dots 3) (at dots 4) (at dots 5) (at dots 6) (at dots 7)) (same 2)
    ∙ ap (λ d. byte_of (bit_at b 0) (bit_at b 1) (bit_at b 2) d (at dots 4) (at dots 5) (at dots 6) (at dots 7)) (same 3)
    ∙ ap (λ d. byte_of (bit_at b 0) (bit_at b 1) (bit_at b 2) (bit_at b 3) d (at dots 5) (at dots 6) (at dots 7)) (same 4)
    ∙ ap (λ d. byte_of (bit_at b 0) (bit_at b 1) (bit_at b 2) (bit_at b 3) (bit_at b 4) d (at dots 6) (at dots 7)) (same 5)
    ∙ ap (λ d. byte_of (bit_at b 0) (bit_at b 1) (bit_at b 2) (bit_at b 3) (bit_at b 4) (bit_at b 5) d (at dots 7)) (same 6)
    ∙ ap (λ d. byte_of (bit_at b 0) (bit_at b 1) (bit_at b 2) (bit_at b 3) (bit_at b 4) (bit_at b 5) (bit_at b 6) d) (same 7)
    ∙ byte_of-bits b (bytes 0) in
    let rest : packed_bytes n (drop 8 dots) ≡ row = packed_back n row (drop 8 dots)
    (omega arith) (λ k. bytes (suc k)) (λ k. get_or-drop 8 dots k false ∙ same (8 + k) ∙ next_byte b row k) in
    ap (λ m. m ∷ packed_bytes n (drop 8 dots)) first ∙ ap (λ ms. b ∷ ms) rest

-- A packed row is that of its dots, where its spare bits are 0.
pub row_packed : (width : ℕ) (row : List ℕ) → length row ≡ row_len width → ((k : ℕ) → get_or row k 0 < 256)
    → ((x : ℕ) → width ≤ x → row_dot row x ≡ false) → row ≡ packed (map (row_dot row) (count_from 0 width))
row_packed width row len bytes spare = grind (arith, cases_lt, counted-at, counted-len, get_or_past, packed_back)

-- ---- from dots to bytes

pub packed-len : (n : ℕ) (dots : List Bool) → length (packed_bytes n dots) ≡ n
packed-len zero dots = refl
packed-len (suc n) dots = ap suc (packed-len n (drop 8 dots))

pub no_bit : (k : ℕ) → bit_at 0 k ≡ false
no_bit k = let none : 0 / 2 ^ (7 - k) ≡ 0 = omega arith in ap (λ m. (m % 2) == 1) none

-- the dot of a byte's place
byte_dot : (n : ℕ) (dots : List Bool) (k : ℕ) → k < 8 → row_dot (packed_bytes (suc n) dots) k ≡ at dots k
byte_dot n dots zero low = (byte_of-says
    (at dots 0) (at dots 1) (at dots 2) (at dots 3) (at dots 4) (at dots 5) (at dots 6) (at dots 7)).bit0
byte_dot n dots (suc zero) low = (byte_of-says
    (at dots 0) (at dots 1) (at dots 2) (at dots 3) (at dots 4) (at dots 5) (at dots 6) (at dots 7)).bit1
byte_dot n dots (suc (suc zero)) low = (byte_of-says
    (at dots 0) (at dots 1) (at dots 2) (at dots 3) (at dots 4) (at dots 5) (at dots 6) (at dots 7)).bit2
byte_dot n dots (suc (suc (suc zero))) low = (byte_of-says
    (at dots 0) (at dots 1) (at dots 2) (at dots 3) (at dots 4) (at dots 5) (at dots 6) (at dots 7)).bit3
byte_dot n dots (suc (suc (suc (suc zero)))) low = (byte_of-says
    (at dots 0) (at dots 1) (at dots 2) (at dots 3) (at dots 4) (at dots 5) (at dots 6) (at dots 7)).bit4
byte_dot n dots (suc (suc (suc (suc (suc zero))))) low = (byte_of-says
    (at dots 0) (at dots 1) (at dots 2) (at dots 3) (at dots 4) (at dots 5) (at dots 6) (at dots 7)).bit5
byte_dot n dots (suc (suc (suc (suc (suc (suc zero)))))) low = (byte_of-says
    (at dots 0) (at dots 1) (at dots 2) (at dots 3) (at dots 4) (at dots 5) (at dots 6) (at dots 7)).bit6
byte_dot n dots (suc (suc (suc (suc (suc (suc (suc zero))))))) low = (byte_of-says
    (at dots 0) (at dots 1) (at dots 2) (at dots 3) (at dots 4) (at dots 5) (at dots 6) (at dots 7)).bit7
byte_dot n dots (suc (suc (suc (suc (suc (suc (suc (suc k)))))))) low = absurd (omega arith)

-- the dots of packed bytes
packed_dot : (n : ℕ) (dots : List Bool) (k : ℕ) → length dots ≤ n * 8 → row_dot (packed_bytes n dots) k ≡ at dots k
packed_dot zero dots k fits = no_bit (k % 8) ∙ sym (get_or_past dots k false (omega arith))
packed_dot (suc n) dots k fits = elim (cases_lt k 8) [
  | inl low ↦ byte_dot n dots k low
  | inr high ↦
      let place : 8 + (k - 8) ≡ k = omega arith in
      ap (row_dot (packed_bytes (suc n) dots)) (sym place)
      ∙ next_byte (packed_byte dots) (packed_bytes n (drop 8 dots)) (k - 8)
      ∙ packed_dot n (drop 8 dots) (k - 8) (omega (arith, length-drop 8 dots))
      ∙ get_or-drop 8 dots (k - 8) false
      ∙ ap (at dots) place
]

pub dot_of_packed : (dots : List Bool) (row : List ℕ) (k : ℕ) → row ≡ packed dots → row_dot row k ≡ at dots k
dot_of_packed dots row k is = ap (λ (bs : List ℕ). row_dot bs k) is ∙ packed_dot ((length dots + 7) / 8) dots k (omega arith)

-- ---- how many dots

count_first : (dots : List Bool) (k : ℕ) → count_by (λ b. b) (drop k dots) ≡ worth (at dots k) 1 + count_by (λ b. b) (drop (suc k) dots)
count_first [] zero = refl
count_first [] (suc k) = refl
count_first (true ∷ dots) zero = sum_by-cons (λ b. cond b 1 0) true dots
count_first (false ∷ dots) zero = sum_by-cons (λ b. cond b 1 0) false dots
count_first (d ∷ dots) (suc k) = count_first dots k

packed_count : (n : ℕ) (dots : List Bool) → length dots ≤ n * 8 → sum_by count_ones (packed_bytes n dots) ≡ count_by (λ b. b) dots
packed_count zero [] fits = refl
packed_count zero (d ∷ dots) fits = absurd (omega arith)
packed_count (suc n) dots fits =
    let first = (byte_of-says (at dots 0) (at dots 1) (at dots 2) (at dots 3) (at dots 4) (at dots 5) (at dots 6) (at dots 7)).ones in
    let rest = packed_count n (drop 8 dots) (omega (arith, length-drop 8 dots)) in
    let cons = sum_by-cons count_ones (packed_byte dots) (packed_bytes n (drop 8 dots)) in
    omega (
      arith,
      first,
      rest,
      cons,
      count_first dots 0,
      count_first dots 1,
      count_first dots 2,
      count_first dots 3,
      count_first dots 4,
      count_first dots 5,
      count_first dots 6,
      count_first dots 7,
    )

-- the ones of a packed row are its dots
pub row_count : (f : ℕ → Bool) (width : ℕ) (row : List ℕ)
    → row ≡ packed (map f (count_from 0 width)) → sum_by count_ones row ≡ count_by f (count_from 0 width)
row_count f width row is = grind (arith, counted-count, packed_count)
