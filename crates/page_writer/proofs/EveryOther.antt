-- Every other dot of a packed row is kept by a mask of its bytes.
use Rattle.std.proofs.Common.{◌≡◌, ℕ, zero, suc, ◌+◌, ◌/◌, ◌<◌, ◌≤◌, Bool, true, false, ◌&&◌, ◌==◌, cond, List, [], ◌∷◌, ◌++◌, take, drop, length, map, set, get_or, replicate}
use Rattle.std.proofs.Common.{refl, sym, ◌∙◌, ap, arith, append-nil}
use Rattle.std.specs.Int.Bits.{bit_and}
use Rattle.std.proofs.lemmas.Bool.{eqb-true}
use Rattle.std.proofs.lemmas.List.{drop-drop, drop_all, take_all}
use Rattle.base_definitions.specs.Packed.{at, packed, packed_byte, packed_bytes, worth}
use Rattle.base_definitions.proofs.Bytes.{both, both-at, byte_of, each_byte, each_byte-at}
use Rattle.page_definitions.specs.Shingled.{every_other}
use Rattle.page_laws.proofs.Halves.{at-other, kept, other-len}

-- the bits at even places of a byte, counted from its highest bit, or those at odd places
abbrev pub mask : Bool → ℕ
mask even = cond even 170 85

-- ---- one byte

-- whether a mask keeps every other bit of a byte
test_mask : Bool → Bool → Bool → Bool → Bool → Bool → Bool → Bool → Bool → Bool
test_mask k a b d e f g h i =
    bit_and (byte_of a b d e f g h i) (mask k)
    == byte_of (kept k 0 && a) (kept k 1 && b) (kept k 2 && d)
    (kept k 3 && e) (kept k 4 && f) (kept k 5 && g) (kept k 6 && h) (kept k 7 && i)

-- both masks do, of each byte
all_masked : both (λ k. each_byte (test_mask k)) ≡ true
unfolding test_mask
all_masked = refl

-- a masked byte
masked-byte : (k a b d e f g h i : Bool) → bit_and (byte_of a b d e f g h i) (mask k)
    ≡ byte_of (kept k 0 && a) (kept k 1 && b) (kept k 2 && d)
    (kept k 3 && e) (kept k 4 && f) (kept k 5 && g) (kept k 6 && h) (kept k 7 && i)
unfolding test_mask
masked-byte k a b d e f g h i =
    eqb-true _ _ (each_byte-at (test_mask k) (both-at (λ k. each_byte (test_mask k)) all_masked k) a b d e f g h i)

-- the first byte of every other dot of a row
other-byte : (k : Bool) (row : List Bool) → packed_byte (every_other k row) ≡ bit_and (packed_byte row) (mask k)
other-byte k row =
    omega (
      arith,
      ap (λ b. worth b 128) (at-other k row 0),
      ap (λ b. worth b 64) (at-other k row 1),
      ap (λ b. worth b 32) (at-other k row 2),
      ap (λ b. worth b 16) (at-other k row 3),
      ap (λ b. worth b 8) (at-other k row 4),
      ap (λ b. worth b 4) (at-other k row 5),
      ap (λ b. worth b 2) (at-other k row 6),
      ap (λ b. worth b 1) (at-other k row 7),
      masked-byte k (at row 0) (at row 1) (at row 2) (at row 3) (at row 4) (at row 5) (at row 6) (at row 7),
    )

-- ---- a row

-- two dots further on
drop-two : (k : Bool) (row : List Bool) → drop 2 (every_other k row) ≡ every_other k (drop 2 row)
drop-two k [] = refl
drop-two true (a ∷ []) = refl
drop-two false (a ∷ []) = refl
drop-two true (a ∷ b ∷ row) = refl
drop-two false (a ∷ b ∷ row) = refl

-- a byte further on
drop-eight : (k : Bool) (row : List Bool) → drop 8 (every_other k row) ≡ every_other k (drop 8 row)
drop-eight k row =
    sym (drop-drop 6 2 (every_other k row)) ∙ ap (drop 6) (drop-two k row)
    ∙ sym (drop-drop 4 2 (every_other k (drop 2 row))) ∙ ap (drop 4) (drop-two k (drop 2 row))
    ∙ sym (drop-drop 2 2 (every_other k (drop 2 (drop 2 row)))) ∙ ap (drop 2) (drop-two k (drop 2 (drop 2 row)))
    ∙ drop-two k (drop 2 (drop 2 (drop 2 row)))
    ∙ ap (every_other k) (drop-drop 2 2 (drop 2 (drop 2 row)) ∙ drop-drop 4 2 (drop 2 row) ∙ drop-drop 6 2 row)

-- the bytes of every other dot of a row
other-bytes : (n : ℕ) (k : Bool) (row : List Bool) → packed_bytes n (every_other k row) ≡ map (λ b. bit_and b (mask k)) (packed_bytes n row)
other-bytes zero k row = refl
other-bytes (suc n) k row =
    ap (λ b. b ∷ packed_bytes n (drop 8 (every_other k row))) (other-byte k row)
    ∙ ap (λ r. bit_and (packed_byte row) (mask k) ∷ packed_bytes n r) (drop-eight k row)
    ∙ ap (λ bs. bit_and (packed_byte row) (mask k) ∷ bs) (other-bytes n k (drop 8 row))

-- Every other dot of a packed row is kept by a mask of its bytes.
pub other-packed : (k : Bool) (row : List Bool) → packed (every_other k row) ≡ map (λ b. bit_and b (mask k)) (packed row)
other-packed k row = ap (λ n. packed_bytes ((n + 7) / 8) (every_other k row)) (other-len k row) ∙ other-bytes ((length row + 7) / 8) k row

-- a blank row has no other dot
pub other-blank : (k : Bool) (n : ℕ) → every_other k (replicate n false) ≡ replicate n false
other-blank k zero = refl
other-blank true (suc n) = ap (λ row. false ∷ row) (other-blank false n)
other-blank false (suc n) = ap (λ row. false ∷ row) (other-blank true n)

-- ---- byte by byte

-- the first bytes of a row masked, and the others as they are
abbrev pub masked_to : ℕ → ℕ → List ℕ → List ℕ
masked_to m i row = map (λ b. bit_and b m) (take i row) ++ drop i row

-- one more byte is masked
pub masked_more : (m i : ℕ) (row room : List ℕ) → i < length row → room ≡ masked_to m i row
    → set room i (bit_and (get_or room i 0) m) ≡ masked_to m (i + 1) row
masked_more m i row room low so_far = ap (λ bs. set bs i (bit_and (get_or bs i 0) m)) so_far ∙ one i row low
  where
    one : (i : ℕ) (row : List ℕ) → i < length row
        → set (masked_to m i row) i (bit_and (get_or (masked_to m i row) i 0) m) ≡ masked_to m (i + 1) row
    one i [] low = absurd (omega arith)
    one zero (b ∷ row) low = refl
    one (suc i) (b ∷ row) low =
        let next : suc (i + 1) ≡ suc i + 1 = omega arith in
        ap (λ bs. bit_and b m ∷ bs) (one i row (omega arith)) ∙ ap (λ n. masked_to m n (b ∷ row)) next

-- all bytes are masked
pub masked_all : (m i : ℕ) (row : List ℕ) → length row ≤ i → masked_to m i row ≡ map (λ b. bit_and b m) row
masked_all m i row all =
    ap (λ bs. map (λ b. bit_and b m) bs ++ drop i row) (take_all i row all)
    ∙ ap (λ bs. map (λ b. bit_and b m) row ++ bs) (drop_all i row all) ∙ append-nil (map (λ b. bit_and b m) row)
