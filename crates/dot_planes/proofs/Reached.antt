-- Bytes that are filled up with 0 as far as they are needed.
use Rattle.std.proofs.Common.{◌≡◌, ℕ, ◌+◌, ◌-◌, ◌*◌, ◌<◌, ◌≤◌, List, ◌++◌, length, take, drop, replicate, set, max}
use Rattle.std.proofs.Common.{◌∙◌, ap, arith, inl, inr, length-append, length-drop}
use Rattle.std.proofs.lemmas.Bool.{cases_lt}
use Rattle.std.proofs.lemmas.List.{append-nil, append_assoc, drop-append-le, drop-replicate, length-replicate, length-set, replicate-append-replicate}
use Rattle.std.proofs.lemmas.List.{set-append_left, take-append-le, take-replicate}
use Rattle.std.proofs.Math.Seq.{drop-append-add}
use Rattle.std.proofs.Math.Nat.{mul-le-mul_right}
use borrow.Rule.Slice.PartMut.{put_mid}
use Rattle.dot_planes.specs.Tables.{row_at}
use Rattle.dot_planes.proofs.RowBytes.{bytes_inside}
use Rattle.dot_planes.proofs.Writes.{put_items, put_len}

-- bytes with 0 behind them, up to a length
abbrev pub padded : ℕ → List ℕ → List ℕ
padded total xs = xs ++ replicate (total - length xs) 0

pub padded-len : (total : ℕ) (xs : List ℕ) → length xs ≤ total → length (padded total xs) ≡ total
padded-len total xs room = grind (arith, length-append, length-replicate)

-- what was filled up already
pub padded-again : (total end : ℕ) (xs : List ℕ) → end ≤ total → padded total (padded end xs) ≡ padded total xs
padded-again total end xs room = grind (arith, append_assoc, length-append, length-replicate, replicate-append-replicate)

-- a write to a part of the bytes that are there
put-padded : (a k total : ℕ) (xs ys : List ℕ) → a + k ≤ length xs → length ys ≡ k
    → padded total (put_mid a k xs ys) ≡ put_mid a k (padded total xs) ys
put-padded a k total xs ys room many = grind (arith, append_assoc, drop-append-le, length-drop, put_len, take-append-le)

-- a vector after it was filled up and a part of it was written
pub put_reached : (a k end len total : ℕ) (items reached xs part : List ℕ) → reached ≡ padded end items → xs ≡ reached → length reached ≡ len
    → a + k ≤ len → length part ≡ k → end ≤ total
    → padded total (take len (put_mid a k xs part ++ drop (length (put_mid a k xs part)) reached)) ≡ put_mid a k (padded total items) part
put_reached a k end len total items reached xs part is same len_is room many most = grind (arith, padded, padded-again, put-padded, put_items)

-- a byte that is there
pub set_reached : (place end total b : ℕ) (items reached : List ℕ) → reached ≡ padded end items → place < length reached → end ≤ total
    → padded total (set reached place b) ≡ set (padded total items) place b
set_reached place end total b items reached is room most = grind (arith, length-set, padded, padded-again, set-append_left)

-- ---- whole rows

-- a row behind the bytes that are there is blank
pub blank_behind : (len n more : ℕ) (bytes : List ℕ) → length bytes ≤ n * len → n * len + len ≤ length bytes + more
    → row_at len (bytes ++ replicate more 0) n ≡ replicate len 0
blank_behind len n more bytes behind room =
    let place : n * len ≡ length bytes + (n * len - length bytes) = omega (arith, behind) in
    ap (λ m. take len (drop m (bytes ++ replicate {A = ℕ} more 0))) place
    ∙ ap (take len) (drop-append-add bytes (replicate {A = ℕ} more 0) (n * len - length bytes))
    ∙ ap (take len) (drop-replicate (n * len - length bytes) more 0)
    ∙ take-replicate len (more - (n * len - length bytes)) 0 (omega (arith, behind, room))

-- a row that is there, before and after 0 was added behind the bytes
pub row_there : (len n more : ℕ) (bytes : List ℕ) → n * len + len ≤ length bytes
    → row_at len bytes n ≡ row_at len (bytes ++ replicate more 0) n
row_there len n more bytes room = grind (arith, drop-append-le, length-drop, take-append-le)

-- a row that begins inside of whole rows is one of them
pub whole_row : (len n many : ℕ) → n * len < many * len → n * len + len ≤ many * len
whole_row len n many inside = grind (arith, bytes_inside, cases_lt, mul-le-mul_right)

-- whole rows, and those up to row n
pub reached_rows : (len there n end : ℕ) (items reached : List ℕ) → reached ≡ padded end items → length items ≡ there * len → end ≡ n * len + len
    → length reached ≡ max there (n + 1) * len
reached_rows len there n end items reached is many end_is =
    let long : length reached ≡ length items + (end - length items) =
    ap length is ∙ length-append items (replicate {A = ℕ} (end - length items) 0)
    ∙ ap (λ m. length items + m) (length-replicate {A = ℕ} (end - length items) 0) in
    elim (cases_lt n there) [
      | inl below ↦
          let rows : (n + 1) * len ≤ there * len = mul-le-mul_right len (omega arith) in
          let most : max there (n + 1) ≡ there = omega (arith, below) in
          omega (arith, long, rows, many, end_is, ap (λ m. m * len) most)
      | inr past ↦
          let rows : there * len ≤ n * len = mul-le-mul_right len past in
          let most : max there (n + 1) ≡ n + 1 = omega (arith, past) in
          omega (arith, long, rows, many, end_is, ap (λ m. m * len) most)
    ]

-- bytes that reach so far already
pub padded-there : (end : ℕ) (xs : List ℕ) → end ≤ length xs → padded end xs ≡ xs
padded-there end xs there =
    let none : end - length xs ≡ 0 = omega (arith, there) in
    ap (λ m. xs ++ replicate {A = ℕ} m 0) none ∙ append-nil xs
