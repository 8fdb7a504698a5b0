-- Rows of dots that are packed into bytes are taken out again.
use Rattle.std.proofs.Common.{◌≡◌, ℕ, zero, suc, ◌+◌, ◌*◌, ◌/◌, ◌≤◌, Bool, true, false, List, [], ◌∷◌, ◌++◌}
use Rattle.std.proofs.Common.{length, take, drop, refl, ◌∙◌, ap, arith}
use Rattle.std.proofs.lemmas.List.{take_all}
use Rattle.base_definitions.specs.Packed.{at, bits, byte_bits, packed, packed_bytes}
use Rattle.base_definitions.proofs.Bytes.{byte_of, each_byte, each_byte-at}

-- whether two rows are equal
same_bits : List Bool → List Bool → Bool
same_bits [] [] = true
same_bits [] (y ∷ ys) = false
same_bits (true ∷ xs) [] = false
same_bits (false ∷ xs) [] = false
same_bits (true ∷ xs) (true ∷ ys) = same_bits xs ys
same_bits (true ∷ xs) (false ∷ ys) = false
same_bits (false ∷ xs) (true ∷ ys) = false
same_bits (false ∷ xs) (false ∷ ys) = same_bits xs ys

-- rows that the test finds equal are equal
same_bits-is : (xs ys : List Bool) → same_bits xs ys ≡ true → xs ≡ ys
unfolding same_bits
same_bits-is [] [] e = refl
same_bits-is [] (y ∷ ys) e = cc
same_bits-is (true ∷ xs) [] e = cc
same_bits-is (false ∷ xs) [] e = cc
same_bits-is (true ∷ xs) (true ∷ ys) e = ap (λ zs. true ∷ zs) (same_bits-is xs ys e)
same_bits-is (true ∷ xs) (false ∷ ys) e = cc
same_bits-is (false ∷ xs) (true ∷ ys) e = cc
same_bits-is (false ∷ xs) (false ∷ ys) e = ap (λ zs. false ∷ zs) (same_bits-is xs ys e)

-- whether the bits of a packed byte are taken out again
test_byte : Bool → Bool → Bool → Bool → Bool → Bool → Bool → Bool → Bool
test_byte a b d e f g h i = same_bits (byte_bits (byte_of a b d e f g h i)) (a ∷ b ∷ d ∷ e ∷ f ∷ g ∷ h ∷ i ∷ [])

-- those of each byte are
all_bytes : each_byte test_byte ≡ true
unfolding test_byte same_bits
all_bytes = refl

-- the bits of a packed byte
pub byte_bits-of : (a b d e f g h i : Bool) → byte_bits (byte_of a b d e f g h i) ≡ a ∷ b ∷ d ∷ e ∷ f ∷ g ∷ h ∷ i ∷ []
unfolding test_byte
byte_bits-of a b d e f g h i = same_bits-is _ _ (each_byte-at test_byte all_bytes a b d e f g h i)

-- the first byte of a row, as it is taken out
front : (n : ℕ) (row : List Bool) → take (length row) (bits (packed_bytes (suc n) row))
    ≡ take (length row) (at row 0 ∷ at row 1
    ∷ at row 2 ∷ at row 3 ∷ at row 4 ∷ at row 5 ∷ at row 6 ∷ at row 7 ∷ bits (packed_bytes n (drop 8 row)))
front n row = ap (λ bs. take (length row) (bs ++ bits (packed_bytes n (drop 8 row))))
    (byte_bits-of (at row 0) (at row 1) (at row 2) (at row 3) (at row 4) (at row 5) (at row 6) (at row 7))

-- the packed bytes hold the row, followed by blanks
pub bits-packed_bytes : (n : ℕ) (row : List Bool) → length row ≤ n * 8 → take (length row) (bits (packed_bytes n row)) ≡ row
bits-packed_bytes zero [] fits = refl
bits-packed_bytes zero (a ∷ row) fits = absurd (omega arith)
bits-packed_bytes (suc n) [] fits = refl
bits-packed_bytes (suc n) (a ∷ []) fits = front n (a ∷ [])
bits-packed_bytes (suc n) (a ∷ b ∷ []) fits = front n (a ∷ b ∷ [])
bits-packed_bytes (suc n) (a ∷ b ∷ d ∷ []) fits = front n (a ∷ b ∷ d ∷ [])
bits-packed_bytes (suc n) (a ∷ b ∷ d ∷ e ∷ []) fits = front n (a ∷ b ∷ d ∷ e ∷ [])
bits-packed_bytes (suc n) (a ∷ b ∷ d ∷ e ∷ f ∷ []) fits = front n (a ∷ b ∷ d ∷ e ∷ f ∷ [])
bits-packed_bytes (suc n) (a ∷ b ∷ d ∷ e ∷ f ∷ g ∷ []) fits = front n (a ∷ b ∷ d ∷ e ∷ f ∷ g ∷ [])
bits-packed_bytes (suc n) (a ∷ b ∷ d ∷ e ∷ f ∷ g ∷ h ∷ []) fits = front n (a ∷ b ∷ d ∷ e ∷ f ∷ g ∷ h ∷ [])
bits-packed_bytes (suc n) (a ∷ b ∷ d ∷ e ∷ f ∷ g ∷ h ∷ i ∷ row) fits =
    front n (a ∷ b ∷ d ∷ e ∷ f ∷ g ∷ h ∷ i ∷ row)
    ∙ ap (λ rest. a ∷ b ∷ d ∷ e ∷ f ∷ g ∷ h ∷ i ∷ rest) (bits-packed_bytes n row (omega arith))

-- the bytes of a packed row
pub packed_bytes-len : (n : ℕ) (row : List Bool) → length (packed_bytes n row) ≡ n
packed_bytes-len zero row = refl
packed_bytes-len (suc n) row = ap suc (packed_bytes-len n (drop 8 row))

-- a row of dots, packed, is taken out whole
pub row-packed : (width : ℕ) (row : List Bool) → length row ≡ width → take width (bits (take ((width + 7) / 8) (packed row))) ≡ row
row-packed width row e = grind (arith, bits-packed_bytes, packed_bytes-len, take_all)
