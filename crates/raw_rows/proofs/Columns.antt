-- Rows of bytes by columns, a square at a time.
use Rattle.std.proofs.Common.{ℕ, ◌≡◌, ◌+◌, ◌-◌, ◌*◌, ◌<◌, ◌≤◌, ◌∙◌, ap, sym, arith, inl, inr, List, [], get_or, set}
use Rattle.std.proofs.Common.{length, get_or-set_same, get_or-set_other}
use Rattle.std.proofs.lemmas.Bool.{cases_eq, cases_lt}
use Rattle.std.proofs.lemmas.Simd.{get_or-chunk, get_or-put_chunk_at, get_or-put_chunk_above, get_or-put_chunk_below}
use lib.Lanes.{chunk, put_chunk}
use Rattle.raw_rows.specs.Squares.{HasColumns, HasHalf, HasRows, IsPutInto, IsSquare, byte_of, lane}

-- one more row of a square
pub rows_more : (first from i x : ℕ) (bytes starts part : List ℕ) (xs : List (List ℕ)) → i < 16
    → IsSquare xs → x ≡ get_or starts (first + i) 0 + from → part ≡ chunk x 16 bytes
    → HasRows bytes starts first from i xs → HasRows bytes starts first from (i + 1) (set xs i part)
rows_more first from i x bytes starts part xs small square is_x is_part f = record {
  at = λ k m below few. elim (cases_eq k i) [
    | inl last ↦
        let room : i < length xs = omega (arith, square.vectors) in
        let place : x + m ≡ get_or starts (first + i) 0 + (from + m) = omega (arith, is_x) in
        ap (λ v. get_or v m 0) (ap (λ n. get_or (set xs i part) n []) last ∙ get_or-set_same xs i part [] room ∙ is_part)
        ∙ get_or-chunk x 16 bytes m 0 few ∙ ap (λ n. get_or bytes n 0) place
        ∙ ap (λ n. byte_of bytes starts (first + n) (from + m)) (sym last)
    | inr not ↦ ap (λ v. get_or v m 0) (get_or-set_other xs i k part [] not) ∙ f.at k m (omega arith) few
  ];
}

-- one more column of a square
pub put_more : (xs : List (List ℕ)) (first from i at : ℕ) (part old now new : List ℕ) → first ≤ 16 → from + i < 256
    → length now ≡ 8192 → length part ≡ 16 → at ≡ 32 * (from + i) + first → part ≡ get_or xs i [] → new ≡ put_chunk at now part
    → IsPutInto xs first from i old now → IsPutInto xs first from (i + 1) old new
put_more xs first from i at part old now new row_in column_in long part_long is_at is_part is_new f = record {
  there = λ k m below few. elim (cases_eq k i) [
    | inl last ↦
        let place : 32 * (from + k) + (first + m) ≡ at + m = omega arith in
        ap (λ ys. get_or ys (32 * (from + k) + (first + m)) 0) is_new ∙ ap (λ n. get_or (put_chunk at now part) n 0) place
        ∙ get_or-put_chunk_at at now part m 0 (omega (arith, part_long)) (omega (arith, part_long))
        ∙ ap (λ v. get_or v m 0) is_part ∙ ap (λ n. lane xs n m) (sym last)
    | inr not ↦
        let under : 32 * (from + k) + (first + m) < at = omega arith in
        ap (λ ys. get_or ys (32 * (from + k) + (first + m)) 0) is_new
        ∙ get_or-put_chunk_below at now part (32 * (from + k) + (first + m)) 0 under
        ∙ f.there k m (omega arith) few
  ];
  kept = λ k off. ap (λ ys. get_or ys k 0) is_new ∙ elim (cases_lt k at) [
    | inl under ↦ get_or-put_chunk_below at now part k 0 under
    | inr not ↦ elim (cases_lt k (at + 16)) [
      | inl inside ↦ let no : ⊥ = off i (k - at) (omega arith) (omega arith) (omega arith) in absurd no
      | inr past ↦ get_or-put_chunk_above at now part k 0 (omega (arith, part_long))
    ]
  ] ∙ f.kept k (λ q m below few. off q m (omega arith) few);
}

-- sixteen columns of sixteen rows
pub half_put : (first from : ℕ) {bytes starts : List ℕ} {rows columns : List (List ℕ)} {old new : List ℕ} → first ≤ 16
    → HasRows bytes starts first from 16 rows → ((i m : ℕ) → i < 16 → m < 16 → lane columns i m ≡ lane rows m i)
    → IsPutInto columns first from 16 old new → HasHalf bytes starts first from old new
half_put first from {bytes} {starts} {new} half has turned put = record {
  there = λ k r left right start end.
      let i : ℕ = k - from in
      let m : ℕ = r - first in
      let is_k : from + i ≡ k = omega arith in
      let is_r : first + m ≡ r = omega arith in
      let in_columns : i < 16 = omega arith in
      let in_rows : m < 16 = omega arith in
      ap (λ n. get_or new (32 * n + r) 0) (sym is_k) ∙ ap (λ n. get_or new (32 * (from + i) + n) 0) (sym is_r)
      ∙ put.there i m in_columns in_rows ∙ turned i m in_columns in_rows ∙ has.at m i in_rows in_columns
      ∙ ap (λ n. byte_of bytes starts n (from + i)) is_r ∙ ap (λ n. byte_of bytes starts r n) is_k;
  left = λ k r row before. put.kept (32 * k + r) (λ i m in_columns in_rows same. omega arith);
  above = λ k r before. put.kept (32 * k + r) (λ i m in_columns in_rows same. omega arith);
}

-- sixteen more columns, of the upper rows and of the lower ones
pub columns_more : (n : ℕ) {bytes starts old now new : List ℕ} → HasHalf bytes starts 0 (16 * n) old now
    → HasHalf bytes starts 16 (16 * n) now new → HasColumns bytes starts (16 * n) old → HasColumns bytes starts (16 * (n + 1)) new
columns_more n upper lower has = record {
  at = λ k r low row. elim (cases_lt k (16 * n)) [
    | inl before ↦ lower.left k r row before ∙ upper.left k r row before ∙ has.at k r before row
    | inr here ↦ elim (cases_lt r 16) [
      | inl above ↦ lower.above k r above ∙ upper.there k r (omega arith) (omega arith) (omega arith) above
      | inr below ↦ lower.there k r (omega arith) (omega arith) (omega arith) (omega arith)
    ]
  ];
}
