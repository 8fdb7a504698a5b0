-- A packed row at any column of another, byte by byte.
use Rattle.std.proofs.Common.{◌≡◌, ◌≢◌, ℕ, zero, suc, ◌+◌, ◌-◌, ◌*◌, ◌==◌, ◌<◌, ◌≤◌, Bool, true, false, not, ◌&&◌, ◌||◌, List}
use Rattle.std.proofs.Common.{refl, ◌∙◌, sym, ap, arith, bit_and, bit_or, inl, inr, min, ◌⊎◌}
use Rattle.std.specs.List.{list_any}
use Rattle.std.proofs.lemmas.Bool.{agree_below_at, and_parts, cases_eq, cases_lt, false_from_ne_true, lt-ltb}
use Rattle.std.proofs.lemmas.Bool.{ltb-true, ne_eqb, or_cases, false≢true}
use Rattle.std.proofs.lemmas.Nat.{and_le_l, le_or_l, le_or_r}
use Rattle.std.proofs.lemmas.Nat.Bits.{bit_at_and, bit_at-lt}
use Rattle.base_definitions.specs.Counting.{count_from}
use Rattle.base_definitions.specs.Packed.{bit_at}
use Rattle.dot_planes.specs.Tables.{row_dot}
use Rattle.dot_planes.proofs.LaidBytes.{IsPart}
use Rattle.dot_planes.proofs.PackedRows.{no_bit}

-- ---- any of n numbers

any-at : (f : ℕ → Bool) (m n k : ℕ) → k < n → f (m + k) ≡ true → list_any f (count_from m n) ≡ true
any-at f m zero k low on = absurd (omega arith)
any-at f m (suc n) zero low on = ap (λ b. b || list_any f (count_from (m + 1) n)) (ap f (omega arith) ∙ on)
any-at f m (suc n) (suc k) low on = grind (arith, any-at f (m + 1) n k (omega arith) (ap f (omega arith) ∙ on))

any-none : (f : ℕ → Bool) (m n : ℕ) → ((k : ℕ) → k < n → f (m + k) ≡ false) → list_any f (count_from m n) ≡ false
any-none f m zero none = refl
any-none f m (suc n) none =
    ap (λ b. b || list_any f (count_from (m + 1) n)) (ap f (omega arith) ∙ none 0 (omega arith))
    ∙ any-none f (m + 1) n (λ k low. ap f (omega arith) ∙ none (suc k) (omega arith))

pub any-some : (f : ℕ → Bool) (n k : ℕ) → k < n → f k ≡ true → list_any f (count_from 0 n) ≡ true
any-some f n k low on = any-at f 0 n k low (ap f (omega arith) ∙ on)

pub any-no : (f : ℕ → Bool) (n : ℕ) → ((k : ℕ) → k < n → f k ≡ false) → list_any f (count_from 0 n) ≡ false
any-no f n none = any-none f 0 n (λ k low. ap f (omega arith) ∙ none k low)

pub any-none-of : (f : ℕ → Bool) (n k : ℕ) → list_any f (count_from 0 n) ≡ false → k < n → f k ≡ false
any-none-of f n k none low = false_from_ne_true _ (λ on. false≢true (sym none ∙ any-some f n k low on))

-- any of fewer
pub any-more : (f : ℕ → Bool) (m n : ℕ) → m ≤ n → list_any f (count_from 0 m) ≡ true → list_any f (count_from 0 n) ≡ true
any-more f m n fewer some = by_value (list_any f (count_from 0 n)) refl
  where
    by_value : (b : Bool) → list_any f (count_from 0 n) ≡ b → list_any f (count_from 0 n) ≡ true
    by_value true is = is
    by_value false is = absurd (false≢true (sym (any-no f m (λ k low. any-none-of f n k is (omega arith))) ∙ some))

-- ---- bits of a byte

some_of : (ℕ → Bool) → ℕ → Bool
some_of f zero = false
some_of f (suc n) = f n || some_of f n

-- a bit that is on
pub record Bit (n : ℕ) : Type 0 where
  pub at : ℕ
  pub low : at < 8
  pub on : bit_at n at ≡ true

found : (n many : ℕ) → many ≤ 8 → some_of (bit_at n) many ≡ true → Bit n
unfolding some_of
found n zero few some = absurd (false≢true some)
found n (suc many) few some = elim (or_cases (bit_at n many) (some_of (bit_at n) many) some) [
  | inl here ↦ record { at = many; low = omega arith; on = here }
  | inr rest ↦ found n many (omega arith) rest
]

abbrev is_some_bit : ℕ → Bool
is_some_bit n = not (n == 0)

abbrev has_bit : ℕ → Bool
has_bit n = bit_at n 7 || (bit_at n 6
    || (bit_at n 5 || (bit_at n 4 || (bit_at n 3 || (bit_at n 2 || (bit_at n 1 || (bit_at n 0 || false)))))))

pub some-bit : (n : ℕ) → n < 256 → n ≢ 0 → Bit n
unfolding some_of
some-bit n fits some =
    found n 8 (omega arith) (sym (agree_below_at is_some_bit has_bit 256 n refl fits) ∙ ap not (ne_eqb n 0 some))

bit-and : (a b : ℕ) → a < 2 → b < 2 → (min a b == 1) ≡ ((a == 1) && (b == 1))
bit-and zero zero low low' = refl
bit-and zero (suc zero) low low' = refl
bit-and (suc zero) zero low low' = refl
bit-and (suc zero) (suc zero) low low' = refl
bit-and zero (suc (suc b)) low low' = absurd (omega arith)
bit-and (suc zero) (suc (suc b)) low low' = absurd (omega arith)
bit-and (suc (suc a)) b low low' = absurd (omega arith)

pub and-is : (a b j : ℕ) → bit_at (bit_and a b) j ≡ (bit_at a j && bit_at b j)
and-is a b j = ap (λ n. n == 1) (bit_at_and a b (7 - j)) ∙ bit-and _ _ (bit_at-lt a (7 - j)) (bit_at-lt b (7 - j))

-- ---- eight dots of a row

-- a bit of a part is a dot of the row
pub part-dot : (row : List ℕ) (dots i part j : ℕ) → IsPart row dots i part → j < 8 → bit_at part j ≡ true
    → (8 * i + j < dots) × (row_dot row (8 * i + j) ≡ true)
part-dot row dots i part j is low on = grind (arith, and_parts, ltb-true)

-- the dots before the next part
pub before-next : (f : ℕ → Bool) (dots i : ℕ)
    → ((k : ℕ) → k < 8 * i → k < dots → f k ≡ false) → ((j : ℕ) → j < 8 → 8 * i + j < dots → f (8 * i + j) ≡ false)
    → (k : ℕ) → k < 8 * (i + 1) → k < dots → f k ≡ false
before-next f dots i before here k low in_row = grind (arith, cases_lt)

-- a dot of the row that is no bit of a part without bits
pub part-none : (row : List ℕ) (dots i part j : ℕ)
    → IsPart row dots i part → part ≡ 0 → j < 8 → 8 * i + j < dots → row_dot row (8 * i + j) ≡ false
part-none row dots i part j is none low in_row = grind (arith, false_from_ne_true, false≢true, lt-ltb, no_bit)

-- ---- rows that meet

-- a byte has the dots of the other row where a byte of the row is, of which the first dot is at column x
abbrev pub IsSeen : List ℕ → ℕ → ℕ → ℕ → Type 0
IsSeen other x i window = (j : ℕ) → j < 8 → bit_at window j ≡ row_dot other (x + 8 * i + j)

-- A dot of a row that is on in the other row too.
pub record Both (row other : List ℕ) (dots x : ℕ) : Type 0 where
  pub at : ℕ
  pub in_row : at < dots
  pub on : (row_dot row at && row_dot other (x + at)) ≡ true

pub both-dots : (row other : List ℕ) (dots x i part window : ℕ) → part < 256 → IsPart row dots i part
    → IsSeen other x i window → bit_and part window ≢ 0 → Both row other dots x
both-dots row other dots x i part window fits is seen some =
    let bit : Bit (bit_and part window) = some-bit (bit_and part window) (omega (arith, and_le_l part window)) some in
    let parts = and_parts _ _ (sym (and-is part window bit.at) ∙ bit.on) in
    let dot = part-dot row dots i part bit.at is bit.low parts.0 in
    let place : x + 8 * i + bit.at ≡ x + (8 * i + bit.at) = omega arith in
    record {
      at = 8 * i + bit.at;
      in_row = dot.0;
      on = ap (λ b. b && row_dot other (x + (8 * i + bit.at))) dot.1 ∙ ap (row_dot other) (sym place) ∙ sym (seen bit.at bit.low) ∙ parts.1;
    }

pub none-both : (row other : List ℕ) (dots x i part window : ℕ) → IsPart row dots i part
    → IsSeen other x i window → bit_and part window ≡ 0
    → (j : ℕ) → j < 8 → 8 * i + j < dots → (row_dot row (8 * i + j) && row_dot other (x + (8 * i + j))) ≡ false
none-both row other dots x i part window is seen none j low in_row =
    let place : x + 8 * i + j ≡ x + (8 * i + j) = omega arith in
    ap (λ b. row_dot row (8 * i + j) && b) (ap (row_dot other) (sym place) ∙ sym (seen j low))
    ∙ ap (λ b. b && bit_at window j) (sym (is j low ∙ ap (λ b. b && row_dot row (8 * i + j)) (lt-ltb (8 * i + j) dots in_row)))
    ∙ sym (and-is part window j)
    ∙ ap (λ b. bit_at b j) none
    ∙ no_bit j

-- a byte that may have dots, out of two
pub or-some : (a b : ℕ) → bit_or a b ≢ 0 → (a ≢ 0) ⊎ (b ≢ 0)
or-some a b some = grind (arith, cases_eq)

pub or-none : (a b : ℕ) → bit_or a b ≡ 0 → (a ≡ 0) × (b ≡ 0)
or-none a b none = (omega (arith, le_or_l a b), omega (arith, le_or_r a b))
