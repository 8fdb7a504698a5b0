-- Packed rows without dots.
use Rattle.std.proofs.Common.{◌≡◌, ℕ, zero, suc, ◌+◌, ◌-◌, ◌*◌, ◌/◌, ◌≤◌, ◌<◌, max, Bool, true, false, not, ◌&&◌, ◌||◌, ◌==◌, List, [], ◌∷◌}
use Rattle.std.proofs.Common.{bit_or, length, take, drop, replicate, get_or, refl, sym, ◌∙◌, ap, arith, length-drop}
use Rattle.std.specs.List.{list_all, list_any}
use Rattle.std.proofs.lemmas.Bool.Decides.{nat_tests}
use Rattle.std.proofs.lemmas.Nat.{le_or_l, le_or_r}
use Rattle.std.proofs.lemmas.List.{drop-drop, drop-replicate, length-replicate, take-append-drop}
use Rattle.std.proofs.lemmas.List.Folds.{list_all-append, list_all_more}
use Rattle.base_definitions.specs.Packed.{at, packed, packed_byte, packed_bytes, worth}
use Rattle.page_laws.proofs.Passes.{no-dot}

-- ---- the bits that any byte has

-- two numbers have no bits where both are 0
or-zero : (m n : ℕ) → (bit_or m n == 0) ≡ ((m == 0) && (n == 0))
or-zero zero zero = refl
or-zero zero (suc n) = let right = le_or_r 0 (suc n) in grind (arith, nat_tests)
or-zero (suc m) n = let left = le_or_l (suc m) n in grind (arith, nat_tests)

-- one more byte of a block
pub block_more : (row : List ℕ) (any i : ℕ) → i < length row → (any == 0) ≡ list_all (λ byte. byte == 0) (take i row)
    → (bit_or any (get_or row i 0) == 0) ≡ list_all (λ byte. byte == 0) (take (i + 1) row)
block_more row any i low so_far =
    or-zero any (get_or row i 0) ∙ ap (λ b. b && (get_or row i 0 == 0)) so_far ∙ sym (list_all_more (λ byte. byte == 0) row i 0 low)

-- ---- the greatest byte

-- the greater of two numbers is 0 where both are
max-zero : (m n : ℕ) → (max m n == 0) ≡ ((m == 0) && (n == 0))
max-zero zero zero = refl
max-zero zero (suc n) = grind (arith, nat_tests)
max-zero (suc m) n = grind (arith, nat_tests)

-- one more byte
pub blank_more : (row : List ℕ) (most i : ℕ) → i < length row → (most == 0) ≡ list_all (λ byte. byte == 0) (take i row)
    → (max most (get_or row i 0) == 0) ≡ list_all (λ byte. byte == 0) (take (i + 1) row)
blank_more row most i low so_far =
    max-zero most (get_or row i 0) ∙ ap (λ b. b && (get_or row i 0 == 0)) so_far ∙ sym (list_all_more (λ byte. byte == 0) row i 0 low)

-- ---- block by block

-- bytes are blank where the first ones and those behind are
blank-split : (n : ℕ) (bytes : List ℕ) → list_all (λ byte. byte == 0) bytes
    ≡ (list_all (λ byte. byte == 0) (take n bytes) && list_all (λ byte. byte == 0) (drop n bytes))
blank-split n bytes =
    ap (list_all (λ byte. byte == 0)) (sym (take-append-drop n bytes))
    ∙ list_all-append (λ byte. byte == 0) (take n bytes) (drop n bytes)

-- a row is as blank as the bytes behind a block, where the block is blank
pub blank_behind : (n : ℕ) (rest : List ℕ) {all blank : Bool} {block behind : List ℕ}
    → all ≡ list_all (λ byte. byte == 0) rest → block ≡ take n rest → behind ≡ drop n rest
    → blank ≡ list_all (λ byte. byte == 0) block → blank ≡ true → all ≡ list_all (λ byte. byte == 0) behind
blank_behind n rest so_far first behind_is blank_is same =
    so_far ∙ blank-split n rest
    ∙ ap (λ bs. list_all (λ byte. byte == 0) bs && list_all (λ byte. byte == 0) (drop n rest)) (sym first)
    ∙ ap (λ b. b && list_all (λ byte. byte == 0) (drop n rest)) (sym blank_is ∙ same)
    ∙ ap (list_all (λ byte. byte == 0)) (sym behind_is)

-- and it is not blank where the block is not
pub not_blank : (n : ℕ) (rest : List ℕ) {all blank : Bool} {block : List ℕ}
    → all ≡ list_all (λ byte. byte == 0) rest → block ≡ take n rest
    → blank ≡ list_all (λ byte. byte == 0) block → blank ≡ false → false ≡ all
not_blank n rest so_far first blank_is same =
    sym (so_far ∙ blank-split n rest
    ∙ ap (λ bs. list_all (λ byte. byte == 0) bs && list_all (λ byte. byte == 0) (drop n rest)) (sym first)
    ∙ ap (λ b. b && list_all (λ byte. byte == 0) (drop n rest)) (sym blank_is ∙ same))

-- ---- a blank row

-- bytes without dots
blank-bytes : (n width : ℕ) → packed_bytes n (replicate width false) ≡ replicate n 0
blank-bytes zero width = refl
blank-bytes (suc n) width =
    let blank : List Bool = replicate width false in
    let byte : packed_byte blank ≡ 0 =
    omega (
      arith,
      ap (λ b. worth b 128) (no-dot width 0),
      ap (λ b. worth b 64) (no-dot width 1),
      ap (λ b. worth b 32) (no-dot width 2),
      ap (λ b. worth b 16) (no-dot width 3),
      ap (λ b. worth b 8) (no-dot width 4),
      ap (λ b. worth b 4) (no-dot width 5),
      ap (λ b. worth b 2) (no-dot width 6),
      ap (λ b. worth b 1) (no-dot width 7),
    ) in
    ap (λ b. b ∷ packed_bytes n (drop 8 blank)) byte
    ∙ ap (λ row. 0 ∷ packed_bytes n row) (drop-replicate 8 width false)
    ∙ ap (λ bs. 0 ∷ bs) (blank-bytes n (width - 8))

-- a blank row is packed as zeros
pub packed-blank : (width : ℕ) → packed (replicate width false) ≡ replicate ((width + 7) / 8) 0
packed-blank width =
    ap (λ n. packed_bytes ((n + 7) / 8) (replicate width false)) (length-replicate {A = Bool} width false)
    ∙ blank-bytes ((width + 7) / 8) width

-- ---- a row with dots

-- a row has a dot at its first place or after it
any-first : (row : List Bool) → list_any (λ on. on) row ≡ (at row 0 || list_any (λ on. on) (drop 1 row))
any-first [] = refl
any-first (b ∷ row) = refl

-- the first place after others
at-behind : (row : List Bool) (k : ℕ) → at (drop k row) 0 ≡ at row k
at-behind row zero = refl
at-behind [] (suc k) = refl
at-behind (b ∷ row) (suc k) = at-behind row k

-- a row has a dot at a place or after it
any-behind : (row : List Bool) (k : ℕ) → list_any (λ on. on) (drop k row) ≡ (at row k || list_any (λ on. on) (drop (1 + k) row))
any-behind row k =
    any-first (drop k row)
    ∙ ap (λ b. b || list_any (λ on. on) (drop 1 (drop k row))) (at-behind row k)
    ∙ ap (λ row'. at row k || list_any (λ on. on) row') (drop-drop 1 k row
    ∙ ap (λ n. drop n row) (let e : k + 1 ≡ 1 + k = omega arith in e))

-- a sum of bits is 0 where each bit is off
sum-zero : (s : ℕ) (b : Bool) (n : ℕ) → 1 ≤ n → (s + worth b n == 0) ≡ ((s == 0) && not b)
sum-zero zero true n some = grind (arith, nat_tests)
sum-zero zero false n some = refl
sum-zero (suc s) true n some = grind (arith, nat_tests)
sum-zero (suc s) false n some = grind (arith, nat_tests)

-- eight dots and the rest, by what is off
bits-tell : (b0 b1 b2 b3 b4 b5 b6 b7 rest : Bool)
    → (b0 || (b1 || (b2 || (b3 || (b4 || (b5 || (b6 || (b7 || not rest))))))))
    ≡ not ((((((((not b0 && not b1) && not b2) && not b3) && not b4) && not b5) && not b6) && not b7) && rest)
bits-tell true b1 b2 b3 b4 b5 b6 b7 rest = refl
bits-tell false true b2 b3 b4 b5 b6 b7 rest = refl
bits-tell false false true b3 b4 b5 b6 b7 rest = refl
bits-tell false false false true b4 b5 b6 b7 rest = refl
bits-tell false false false false true b5 b6 b7 rest = refl
bits-tell false false false false false true b6 b7 rest = refl
bits-tell false false false false false false true b7 rest = refl
bits-tell false false false false false false false true rest = refl
bits-tell false false false false false false false false rest = refl

-- a bit is worth 0 where it is off
worth-zero : (b : Bool) (n : ℕ) → 1 ≤ n → (worth b n == 0) ≡ not b
worth-zero true n some = grind (arith, nat_tests)
worth-zero false n some = refl

-- a byte is 0 where its eight bits are off
eight-zero : (b0 b1 b2 b3 b4 b5 b6 b7 : Bool)
    → (worth b0 128 + worth b1 64 + worth b2 32 + worth b3 16 + worth b4 8 + worth b5 4 + worth b6 2 + worth b7 1 == 0)
    ≡ (((((((not b0 && not b1) && not b2) && not b3) && not b4) && not b5) && not b6) && not b7)
eight-zero b0 b1 b2 b3 b4 b5 b6 b7 =
    sum-zero (worth b0 128 + worth b1 64 + worth b2 32 + worth b3 16 + worth b4 8 + worth b5 4 + worth b6 2) b7 1
    (omega arith) ∙ ap (λ t. t && not b7) (sum-zero (worth b0 128 + worth b1 64
    + worth b2 32 + worth b3 16 + worth b4 8 + worth b5 4) b6 2 (omega arith) ∙ ap (λ t. t && not b6)
    (sum-zero (worth b0 128 + worth b1 64 + worth b2 32 + worth b3 16 + worth b4 8) b5 4 (omega arith) ∙ ap (λ t.
    t && not b5) (sum-zero (worth b0 128 + worth b1 64 + worth b2 32 + worth b3 16) b4 8 (omega arith) ∙ ap
    (λ t. t && not b4) (sum-zero (worth b0 128 + worth b1 64 + worth b2 32) b3 16 (omega arith) ∙ ap (λ t.
    t && not b3) (sum-zero (worth b0 128 + worth b1 64) b2 32 (omega arith) ∙ ap (λ t. t && not b2) (sum-zero
    (worth b0 128) b1 64 (omega arith) ∙ ap (λ t. t && not b1) (worth-zero b0 128 (omega arith))))))))

-- a row has a dot where one of its bytes is not 0
any-bytes : (n : ℕ) (row : List Bool)
    → length row ≤ 8 * n → list_any (λ on. on) row ≡ not (list_all (λ byte. byte == 0) (packed_bytes n row))
any-bytes zero [] few = refl
any-bytes zero (b ∷ row) few = absurd (omega arith)
any-bytes (suc n) row few =
    let more : list_any (λ on. on) (drop 8 row) ≡ not (list_all (λ byte. byte == 0) (packed_bytes n (drop 8 row))) =
    any-bytes n (drop 8 row) (omega (arith, few, length-drop 8 row)) in
    let rest : Bool = list_all (λ byte. byte == 0) (packed_bytes n (drop 8 row)) in
    any-first row
    ∙ ap (λ t. at row 0 || t) (any-behind row 1
    ∙ ap (λ t. at row 1 || t) (any-behind row 2 ∙ ap (λ t. at row 2 || t) (any-behind row 3 ∙ ap (λ t.
    at row 3 || t) (any-behind row 4 ∙ ap (λ t. at row 4 || t) (any-behind row 5 ∙ ap (λ t. at row 5 || t)
    (any-behind row 6 ∙ ap (λ t. at row 6 || t) (any-behind row 7 ∙ ap (λ t. at row 7 || t) more)))))))
    ∙ bits-tell (at row 0) (at row 1) (at row 2) (at row 3) (at row 4) (at row 5) (at row 6) (at row 7) rest
    ∙ ap (λ t. not (t && rest)) (sym (eight-zero (at row 0) (at row 1) (at row 2) (at row 3) (at row 4) (at row 5) (at row 6) (at row 7)))

-- a row has a dot where a packed byte is not 0
pub packed-any : (row : List Bool) → list_any (λ on. on) row ≡ not (list_all (λ byte. byte == 0) (packed row))
packed-any row = any-bytes ((length row + 7) / 8) row (omega arith)
