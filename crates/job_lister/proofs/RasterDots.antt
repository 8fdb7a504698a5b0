-- How many dots the rows of a raster have.
use Rattle.std.proofs.Common.{◌≡◌, ℕ, zero, suc, ◌+◌, ◌-◌, ◌*◌, ◌<◌, ◌≤◌, Bool, true, false, cond, List, [], ◌∷◌, length, take}
use Rattle.std.proofs.Common.{◌/◌, ◌%◌, count_ones, drop, refl, subst, sym, ◌∙◌, ap, arith, length-append}
use Rattle.std.proofs.lemmas.Bool.{cases_lt}
use Rattle.std.proofs.lemmas.List.{drop-drop, get_or-drop, get_or-take, get_or_past, length-drop, length-take, length-take-le, take-take, take_all}
use Rattle.std.proofs.lemmas.List.Sums.{sum_by-cons, sum_by-take-drop}
use Rattle.printer_definitions.specs.declared.inks.Ink.{Ink}
use Rattle.printer_definitions.specs.declared.inks.Ink.TheVariants.{Black}
use Rattle.escp2_definitions.specs.declared.command.RasterHead.{RasterHead}
use Rattle.escp2_definitions.specs.Commands.{row_bytes}
use Rattle.base_definitions.specs.Limits.{most_row_bytes}
use Rattle.base_definitions.specs.Packed.{bits}
use Rattle.escp2_definitions.specs.Machine.{row_dots, rows_dots}
use Rattle.job_lister.specs.Listing.{dot_count}
use Rattle.escp2_laws.proofs.Grammar.{AreBytes}
use Rattle.job_lister.proofs.Counts.{few-ones, ones_of}
use Rattle.job_lister.proofs.RowBits.{on_count, whole_bits}

-- the dots of a row are as many as its bits that are 1
row-count : (ink : Ink) (x step y : ℕ) (row : List Bool) → length (row_dots ink x step y row) ≡ on_count row
row-count ink x step y [] = refl
row-count ink x step y (true ∷ row) =
    let rest : length (row_dots ink (x + step) step y row) ≡ on_count row = row-count ink (x + step) step y row in
    let first : on_count (true ∷ row) ≡ 1 + on_count row = sum_by-cons (λ on. cond on 1 0) true row in
    omega (arith, rest, first)
row-count ink x step y (false ∷ row) =
    let rest : length (row_dots ink (x + step) step y row) ≡ on_count row = row-count ink (x + step) step y row in
    let first : on_count (false ∷ row) ≡ 0 + on_count row = sum_by-cons (λ on. cond on 1 0) false row in
    omega (arith, rest, first)

-- the dots of m rows
pub dots_of : ℕ → RasterHead → List ℕ → ℕ
dots_of zero header bytes = 0
dots_of (suc m) header bytes =
    on_count (take header.n (bits (take (row_bytes header) bytes))) + dots_of m header (drop (row_bytes header) bytes)

rows-count : (m : ℕ) (header : RasterHead) (ink : Ink) (x y : ℕ) (bytes : List ℕ)
    → length (rows_dots m header ink x y bytes) ≡ dots_of m header bytes
unfolding rows_dots dots_of
rows-count zero header ink x y bytes = refl
rows-count (suc m) header ink x y bytes =
    let row : List Bool = take header.n (bits (take (row_bytes header) bytes)) in
    length-append (row_dots ink x header.h y row) (rows_dots m header ink x (y + header.v) (drop (row_bytes header) bytes))
    ∙ ap (λ n. n + length (rows_dots m header ink x (y + header.v) (drop (row_bytes header) bytes))) (row-count ink x header.h y row)
    ∙ ap (λ n. on_count row + n) (rows-count m header ink x (y + header.v) (drop (row_bytes header) bytes))

pub count-is : (header : RasterHead) (bytes : List ℕ) → dot_count header bytes ≡ dots_of header.m header bytes
unfolding dot_count
count-is header bytes = rows-count header.m header Black 0 0 bytes

-- ---- rows without spare bits

bytes-take : (n : ℕ) (bytes : List ℕ) → AreBytes bytes → AreBytes (take n bytes)
bytes-take n bytes are k = grind (arith, cases_lt, are, get_or-take, get_or_past, length-take)

bytes-drop : (n : ℕ) (bytes : List ℕ) → AreBytes bytes → AreBytes (drop n bytes)
bytes-drop n bytes are k = let P : ℕ → Type 0 = λ b. b < 256 in subst P (sym (get_or-drop n bytes k 0)) (are (n + k))

-- the dots of m rows are those of all bytes
stretch-rows : (m : ℕ) (header : RasterHead) (bytes : List ℕ) → AreBytes bytes → 8 * row_bytes header ≡ header.n
    → length bytes ≡ m * row_bytes header → dots_of m header bytes ≡ ones_of bytes
unfolding dots_of
stretch-rows zero header bytes are wide len = omega (arith, few-ones bytes are)
stretch-rows (suc m) header bytes are wide len =
    let w : ℕ = row_bytes header in
    let room : w ≤ length bytes = omega (arith, len) in
    let rows : length (drop w bytes) ≡ m * w = omega (arith, len, length-drop w bytes) in
    let first : on_count (take header.n (bits (take w bytes))) ≡ ones_of (take w bytes) =
    ap (λ n. on_count (take n (bits (take w bytes)))) (sym wide)
    ∙ whole_bits (take w bytes) w (bytes-take w bytes are) (omega (arith, room, length-take-le w bytes room))
    ∙ ap ones_of (take-take w w bytes (omega arith)) in
    let rest : dots_of m header (drop w bytes) ≡ ones_of (drop w bytes) =
    stretch-rows m header (drop w bytes) (bytes-drop w bytes are) wide rows in
    let parts : ones_of (take w bytes) + ones_of (drop w bytes) ≡ ones_of bytes = sum_by-take-drop count_ones bytes w in
    omega (arith, first, rest, parts)

pub stretch-count : (header : RasterHead) (bytes : List ℕ) (m w : ℕ) → AreBytes bytes → header.n % 8 ≡ 0 → m ≡ header.m
    → w ≡ header.n / 8 → length bytes ≡ header.m * row_bytes header → ones_of (take (m * w) bytes) ≡ dot_count header bytes
stretch-count header bytes m w are whole many long len =
    let wide : 8 * row_bytes header ≡ header.n = omega (arith, whole) in
    let same : row_bytes header ≡ w = omega (arith, whole, long) in
    let all : header.m * row_bytes header ≡ m * w = ap (λ k. k * row_bytes header) (sym many) ∙ ap (λ k. m * k) same in
    ap ones_of (take_all (m * w) bytes (omega (arith, len, all)))
    ∙ sym (count-is header bytes ∙ stretch-rows header.m header bytes are wide len)

-- ---- row by row

-- The dots of the first rows, and those of the rows that follow.
pub record CountSoFar (header : RasterHead) (bytes : List ℕ) (i sum : ℕ) : Type 0 where
  pub is : sum + dots_of (header.m - i) header (drop (i * row_bytes header) bytes) ≡ dot_count header bytes
  pub most : sum ≤ 8 * most_row_bytes * i

pub count_begin : (header : RasterHead) (bytes : List ℕ) → CountSoFar header bytes 0 0
count_begin header bytes = record {
  is = let none : 0 * row_bytes header ≡ 0 = omega arith in
      let all : header.m - 0 ≡ header.m = omega arith in
      let zero_more : 0 + dots_of (header.m - 0) header (drop (0 * row_bytes header) bytes)
      ≡ dots_of (header.m - 0) header (drop (0 * row_bytes header) bytes) = omega arith in
      zero_more ∙ ap (λ n. dots_of (header.m - 0) header (drop n bytes)) none ∙ ap (λ n. dots_of n header bytes) all
      ∙ sym (count-is header bytes);
  most = omega arith;
}

pub count_step : (header : RasterHead) (bytes : List ℕ) (i sum row : ℕ) → CountSoFar header bytes i sum → i < header.m
    → row ≡ on_count (take header.n (bits (take (row_bytes header) (drop (i * row_bytes header) bytes)))) → row ≤ 8 * most_row_bytes
    → CountSoFar header bytes (i + 1) (sum + row)
unfolding dots_of
count_step header bytes i sum row so_far more is few = record {
  is = let rest : header.m - i ≡ suc (header.m - (i + 1)) = omega arith in
      let place : i * row_bytes header + row_bytes header ≡ (i + 1) * row_bytes header = omega arith in
      let next : dots_of (header.m - i) header (drop (i * row_bytes header) bytes)
      ≡ row + dots_of (header.m - (i + 1)) header (drop ((i + 1) * row_bytes header) bytes) =
      ap (λ n. dots_of n header (drop (i * row_bytes header) bytes)) rest
      ∙ ap (λ n. n + dots_of (header.m - (i + 1)) header (drop (row_bytes header) (drop (i * row_bytes header) bytes))) (sym is)
      ∙ ap (λ bs. row + dots_of (header.m - (i + 1)) header bs) (drop-drop (row_bytes header) (i * row_bytes header) bytes)
      ∙ ap (λ n. row + dots_of (header.m - (i + 1)) header (drop n bytes)) place in
      omega (arith, next, so_far.is);
  most = omega (arith, so_far.most);
}

pub count_end : (header : RasterHead) (bytes : List ℕ) (i sum : ℕ)
    → CountSoFar header bytes i sum → header.m ≤ i → sum ≡ dot_count header bytes
unfolding dots_of
count_end header bytes i sum so_far all =
    let none : header.m - i ≡ 0 = omega arith in
    let nothing : dots_of (header.m - i) header (drop (i * row_bytes header) bytes)
    ≡ 0 = ap (λ n. dots_of n header (drop (i * row_bytes header) bytes)) none in
    omega (arith, nothing, so_far.is)
