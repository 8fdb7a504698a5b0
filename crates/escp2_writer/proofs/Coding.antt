-- Rows of a raster coded one by one.
use Rattle.std.proofs.Common.{◌≡◌, ℕ, suc, ◌+◌, ◌*◌, ◌≤◌, List, [], ◌++◌, length, take, drop, sym, ◌∙◌, ap, arith}
use Rattle.std.proofs.Common.{length-drop}
use Rattle.std.proofs.lemmas.List.{length-take-le, take-append-le}
use Rattle.std.proofs.Math.Seq.{take-append-add}
use borrow.Rule.Slice.PartMut.{put_mid}
use Rattle.std.specs.List.{flat_map}
use Rattle.escp2_definitions.specs.Least.{least_row}
use Rattle.escp2_definitions.specs.Written.{rows_apart}

-- the codes of m rows of this width
abbrev pub codes : ℕ → ℕ → List ℕ → List ℕ
codes m width rows = flat_map least_row (rows_apart m width rows)

-- the code of the next row comes first
pub codes-next : {m n : ℕ} (width : ℕ) (rows : List ℕ) {row behind : List ℕ} → m ≡ suc n → row ≡ take width rows → behind ≡ drop width rows
    → codes m width rows ≡ least_row row ++ codes n width behind
codes-next {m} {n} width rows {row} {behind} more first later =
    ap (λ k. codes k width rows) more
    ∙ ap (λ bs. least_row bs ++ codes n width (drop width rows)) (sym first)
    ∙ ap (λ bs. least_row row ++ codes n width bs) (sym later)

pub codes-none : (m width : ℕ) (rows : List ℕ) → m ≡ 0 → codes m width rows ≡ []
codes-none m width rows none = ap (λ k. codes k width rows) none

-- one row less is left
pub rows-next : (m n width : ℕ) (rows behind : List ℕ) → length rows ≡ m * width → m ≡ suc n → behind ≡ drop width rows
    → length behind ≡ n * width
rows-next m n width rows behind left more later =
    let row : suc n * width ≡ width + n * width = omega arith in
    ap length later ∙ length-drop width rows ∙ omega (arith, row, left, ap (λ k. k * width) more)

-- a row is left, as long as the others
pub row_left : (rest : List ℕ) (m n width : ℕ) → length rest ≡ m * width → m ≡ suc n → width ≤ length rest
row_left rest m n width left more =
    let rows : suc n * width ≡ width + n * width = omega arith in
    omega (arith, rows, left, ap (λ k. k * width) more)

-- ---- into a vector

-- a row's code is written after the first bytes
pub row_behind : (out part row : List ℕ) {begin len : ℕ} (k : ℕ) → begin ≤ length out → len ≤ length part → take len part ≡ least_row row
    → take (begin + len) (put_mid begin k out part) ≡ take begin out ++ least_row row
row_behind out part row {begin} {len} k room within coded =
    let front : List ℕ = take begin out in
    let sized : length front ≡ begin = length-take-le begin out room in
    ap (λ n. take (n + len) (put_mid begin k out part)) (sym sized)
    ∙ take-append-add front (part ++ drop k (drop begin out)) len
    ∙ ap (λ bs. front ++ bs) (take-append-le len part (drop k (drop begin out)) within ∙ coded)
