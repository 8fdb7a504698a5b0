-- Rows of bytes of one length, and where they begin.
use Rattle.std.proofs.Common.{◌≡◌, ◌≢◌, ◌⊎◌, ℕ, ◌+◌, ◌*◌, ◌<◌, ◌≤◌, List, drop, get_or, ◌∙◌, ap}
use Rattle.std.proofs.Common.{arith, inl, inr, length-take, replicate}
use Rattle.std.proofs.lemmas.Bool.{cases_lt}
use Rattle.std.proofs.lemmas.List.{get_or-drop, get_or-replicate, get_or-take, get_or_past, length-replicate}
use Rattle.std.proofs.Math.Nat.{mul-le-mul_right}
use Rattle.dot_planes.specs.Tables.{row_at}

-- row y of an ink is one of the rows of all inks
pub row_inside : (inks rows ink y : ℕ) → ink < inks → y < rows → ink * rows + y < inks * rows
row_inside inks rows ink y i r = grind arith

-- rows of two inks, and two rows of an ink, are not the same
pub rows_differ : (rows ink y i r : ℕ) → y < rows → r < rows → (i ≢ ink) ⊎ (r ≢ y) → i * rows + r ≢ ink * rows + y
rows_differ rows ink y i r low low' (inl inks) = elim (cases_lt i ink) [
  | inl less ↦ let below : (i + 1) * rows ≤ ink * rows = mul-le-mul_right rows (omega arith) in omega arith
  | inr not_less ↦ let above : (ink + 1) * rows ≤ i * rows = mul-le-mul_right rows (omega arith) in omega arith
]
rows_differ rows ink y i r low low' (inr rows_are) = elim (cases_lt i ink) [
  | inl less ↦ let below : (i + 1) * rows ≤ ink * rows = mul-le-mul_right rows (omega arith) in omega arith
  | inr not_less ↦ elim (cases_lt ink i) [
    | inl more ↦ let above : (ink + 1) * rows ≤ i * rows = mul-le-mul_right rows (omega arith) in omega arith
    | inr not_more ↦ let is : i ≡ ink = omega arith in λ e. rows_are (omega (arith, ap (λ n. n * rows) is))
  ]
]

-- The same where row 0 of each ink comes first, then row 1 of each.
pub row_inside_across : (inks rows ink y : ℕ) → ink < inks → y < rows → y * inks + ink < inks * rows
row_inside_across inks rows ink y i r = omega (arith, row_inside rows inks y ink r i)

pub rows_differ_across : (inks ink y i r : ℕ) → ink < inks → i < inks → (i ≢ ink) ⊎ (r ≢ y) → r * inks + i ≢ y * inks + ink
rows_differ_across inks ink y i r low low' (inl inks_are) = rows_differ inks y ink r i low low' (inr inks_are)
rows_differ_across inks ink y i r low low' (inr rows_are) = rows_differ inks y ink r i low low' (inl rows_are)

-- the bytes of a row are inside of the bytes of all rows
pub bytes_inside : (len many n : ℕ) → n < many → n * len + len ≤ many * len
bytes_inside len many n below = grind arith

-- two rows have no byte in common
pub apart : (len n m k : ℕ) → m ≢ n → k < len → (m * len + k < n * len) ⊎ (n * len + len ≤ m * len + k)
apart len n m k other inside = elim (cases_lt m n) [
  | inl less ↦ let below : (m + 1) * len ≤ n * len = mul-le-mul_right len (omega arith) in inl (omega arith)
  | inr not_less ↦ let above : (n + 1) * len ≤ m * len = mul-le-mul_right len (omega arith) in inr (omega arith)
]

-- a byte of a row
pub row_byte : (len n k : ℕ) (bytes : List ℕ) → k < len → get_or (row_at len bytes n) k 0 ≡ get_or bytes (n * len + k) 0
row_byte len n k bytes inside = get_or-take len (drop (n * len) bytes) k 0 inside ∙ get_or-drop (n * len) bytes k 0

-- there is none past its end
pub no_byte : (len n k : ℕ) (bytes : List ℕ) → len ≤ k → get_or (row_at len bytes n) k 0 ≡ 0
no_byte len n k bytes past = get_or_past (row_at len bytes n) k 0 (omega (arith, length-take len (drop (n * len) bytes)))

-- where all bytes outside a row are unchanged, so are all other rows
pub row_kept : (len n m : ℕ) (old new : List ℕ) → ((i : ℕ) → (i < n * len) ⊎ (n * len + len ≤ i) → get_or new i 0 ≡ get_or old i 0)
    → m ≢ n → (k : ℕ) → get_or (row_at len new m) k 0 ≡ get_or (row_at len old m) k 0
row_kept len n m old new same other k = grind (arith, apart, cases_lt, no_byte, row_byte)

pub zero_at : (many i : ℕ) → get_or (replicate {A = ℕ} many 0) i 0 ≡ 0
zero_at many i = grind (arith, cases_lt, get_or-replicate, get_or_past, length-replicate)

-- bytes that are all 0
pub blank_row : (len many n k : ℕ) (bytes : List ℕ) → bytes ≡ replicate {A = ℕ} many 0 → get_or (row_at len bytes n) k 0 ≡ 0
blank_row len many n k bytes blank = grind (arith, cases_lt, no_byte, row_byte, zero_at)
