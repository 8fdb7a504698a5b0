-- Rows cut out of wider ones.
use Rattle.std.proofs.Common.{◌≡◌, ℕ, zero, suc, ◌+◌, ◌/◌, ◌<◌, ◌≤◌, Bool, false, List, [], ◌∷◌, ◌++◌, length, take}
use Rattle.std.proofs.Common.{drop, map, refl, sym, ◌∙◌, ap, arith, ◌⊎◌, inl, inr}
use Rattle.std.proofs.lemmas.Bool.{cases_lt}
use Rattle.std.proofs.lemmas.List.{get_or-drop, get_or_past}
use Rattle.base_definitions.specs.Packed.{at, packed, packed_byte, packed_bytes}
use Rattle.base_definitions.specs.Counting.{count_from}
use Rattle.dot_planes.specs.Tables.{DotTable, dot}
use Rattle.dot_planes.proofs.PackedRows.{counted-at, counted-len}
use Rattle.dot_emulator.specs.Sheets.{IsBlankFrom}
use Rattle.job_player.specs.Images.{image_row, image_rows}

-- the first bytes of a packed row
take-packed : (m n : ℕ) (row : List Bool) → m ≤ n → take m (packed_bytes n row) ≡ packed_bytes m row
take-packed zero n row fits = refl
take-packed (suc m) zero row fits = absurd (omega arith)
take-packed (suc m) (suc n) row fits = ap (λ bs. packed_byte row ∷ bs) (take-packed m n (drop 8 row) (omega arith))

-- rows with the same dots are packed alike
same-packed : (n : ℕ) (xs ys : List Bool) → ((k : ℕ) → at xs k ≡ at ys k) → packed_bytes n xs ≡ packed_bytes n ys
same-packed zero xs ys same = refl
same-packed (suc n) xs ys same =
    ap (λ b. b ∷ packed_bytes n (drop 8 xs)) byte
    ∙ ap (λ bs. packed_byte ys ∷ bs) (same-packed n (drop 8 xs) (drop 8 ys) (λ k. get_or-drop 8 xs k false
    ∙ same (8 + k) ∙ sym (get_or-drop 8 ys k false)))
  where
    byte : packed_byte xs ≡ packed_byte ys
    byte = let e0 = same 0 in let e1 = same 1 in let e2 = same 2 in let e3 = same 3 in
        let e4 = same 4 in let e5 = same 5 in let e6 = same 6 in let e7 = same 7 in cc

-- a row without dots from a column on has the same dots as its first columns
same-dots : (f : ℕ → Bool) (columns width : ℕ) → columns ≤ width → ((x : ℕ) → columns ≤ x → f x ≡ false) → (k : ℕ)
    → at (map f (count_from 0 width)) k ≡ at (map f (count_from 0 columns)) k
same-dots f columns width fits blank k = by_column (cases_lt k columns)
  where
    past : columns ≤ k → at (map f (count_from 0 columns)) k ≡ false
    past behind = get_or_past (map f (count_from 0 columns)) k false (omega (arith, counted-len f 0 columns))

    by_width : columns ≤ k → (k < width) ⊎ (width ≤ k) → at (map f (count_from 0 width)) k ≡ at (map f (count_from 0 columns)) k
    by_width behind (inl inside) = counted-at f 0 width k inside ∙ blank (0 + k) (omega arith) ∙ sym (past behind)
    by_width behind (inr outside) =
        get_or_past (map f (count_from 0 width)) k false (omega (arith, counted-len f 0 width)) ∙ sym (past behind)

    by_column : (k < columns) ⊎ (columns ≤ k) → at (map f (count_from 0 width)) k ≡ at (map f (count_from 0 columns)) k
    by_column (inl inside) = counted-at f 0 width k (omega arith) ∙ sym (counted-at f 0 columns k inside)
    by_column (inr behind) = by_width behind (cases_lt k width)

-- the row of an image is the first bytes of the row of its plane
pub cut-row : (t : DotTable) (ink y columns : ℕ) → columns ≤ t.width → ink < t.inks → y < t.rows → IsBlankFrom columns t
    → take ((columns + 7) / 8) (packed (map (dot t ink y) (count_from 0 t.width))) ≡ image_row columns t ink y
cut-row t ink y columns fits ink_in y_in blank =
    ap (λ n. take ((columns + 7) / 8) (packed_bytes ((n + 7) / 8) wide)) (counted-len (dot t ink y) 0 t.width)
    ∙ take-packed ((columns + 7) / 8) ((t.width + 7) / 8) wide (omega arith)
    ∙ same-packed ((columns + 7) / 8) wide narrow
    (same-dots (dot t ink y) columns t.width fits (λ x behind. blank ink y x ink_in y_in behind))
    ∙ ap (λ n. packed_bytes ((n + 7) / 8) narrow) (sym (counted-len (dot t ink y) 0 columns))
  where
    wide : List Bool
    wide = map (dot t ink y) (count_from 0 t.width)

    narrow : List Bool
    narrow = map (dot t ink y) (count_from 0 columns)

packed-len : (n : ℕ) (row : List Bool) → length (packed_bytes n row) ≡ n
packed-len zero row = refl
packed-len (suc n) row = ap suc (packed-len n (drop 8 row))

-- there are as many bytes
pub row-long : (t : DotTable) (ink y columns : ℕ) (row : List ℕ)
    → columns ≤ t.width → row ≡ packed (map (dot t ink y) (count_from 0 t.width))
    → (columns + 7) / 8 ≤ length row
row-long t ink y columns row fits is =
    omega (
      arith,
      ap length is,
      packed-len ((length (map (dot t ink y) (count_from 0 t.width)) + 7) / 8)
          (map (dot t ink y) (count_from 0 t.width)),
      counted-len (dot t ink y) 0 t.width,
    )

-- ---- the rows of an image, one after the other

-- the next row
pub rows-next : (columns : ℕ) (t : DotTable) (ink y many less : ℕ) → many ≡ suc less
    → image_rows columns t ink y many ≡ image_row columns t ink y ++ image_rows columns t ink (y + 1) less
rows-next columns t ink y many less more = ap (image_rows columns t ink y) more

pub rows-none : (columns : ℕ) (t : DotTable) (ink y many : ℕ) → many ≡ 0 → image_rows columns t ink y many ≡ []
rows-none columns t ink y many none = ap (image_rows columns t ink y) none
