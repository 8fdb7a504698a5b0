-- Numbers of lines, where the rows from one on get a new line.
use Rattle.std.proofs.Common.{ℕ, ◌≡◌, ◌+◌, ◌*◌, ◌<◌, ◌≤◌, List, arith, get_or, inl, inr, length}
use Rattle.std.proofs.Math.Nat.{mul-le-mul_right}
use Rattle.std.proofs.lemmas.Bool.{cases_lt}
use Rattle.std.proofs.lemmas.List.{get_or_past}
use Rattle.dot_planes.proofs.RowBytes.{bytes_inside}
use Rattle.raw_rows.specs.Lines.{AreEarlier, AreInOrder, AreThere}

-- The rows from y on have line n, which stands behind those of the rows above.
pub record IsPut (old new : List ℕ) (y n : ℕ) : Type 0 where
  pub above : (r : ℕ) → r < y → get_or new r 0 ≡ get_or old r 0
  pub others : (r : ℕ) → y ≤ r → r < 256 → get_or new r 0 ≡ n
  pub behind : (r : ℕ) → r < y → get_or old r 0 < n
  pub many : length new ≡ 256

-- the index has no number past its end
at_most : (old new : List ℕ) (y n r : ℕ) → IsPut old new y n → y ≤ r → get_or new r 0 ≤ n
at_most old new y n r put below = elim (cases_lt r 256) [
  | inl inside ↦ omega (arith, put.others r below inside)
  | inr past ↦ omega (arith, get_or_past new r 0 (omega (arith, put.many)))
]

pub still_earlier : (old new : List ℕ) (y n : ℕ) → IsPut old new y n → AreEarlier old → n ≤ y → AreEarlier new
still_earlier old new y n put earlier most r = elim (cases_lt r y) [
  | inl above ↦ omega (arith, put.above r above, earlier r)
  | inr below ↦ omega (arith, at_most old new y n r put (omega arith))
]

pub still_in_order : (old new : List ℕ) (y n : ℕ) → IsPut old new y n → y < 256 → AreInOrder old → AreInOrder new
still_in_order old new y n put room in_order r q order low = elim (cases_lt q y) [
  | inl above ↦ omega (arith, put.above r (omega arith), put.above q above, in_order r q order low)
  | inr below ↦ elim (cases_lt r y) [
    | inl above ↦ omega (arith, put.above r above, put.behind r above, put.others q (omega arith) low)
    | inr also ↦ omega (arith, put.others r (omega arith) (omega arith), put.others q (omega arith) low)
  ]
]

pub still_there : (old new : List ℕ) (y n len : ℕ) → IsPut old new y n → AreThere new len (n * len + len)
still_there old new y n len put r = elim (cases_lt r y) [
  | inl above ↦
      let inside = bytes_inside len n (get_or new r 0) (omega (arith, put.above r above, put.behind r above)) in
      omega (arith, inside)
  | inr below ↦
      let inside : get_or new r 0 * len ≤ n * len = mul-le-mul_right len (at_most old new y n r put (omega arith)) in
      omega (arith, inside)
]
