-- The dots of a raster are on the grid of its sheet.
use Rattle.std.proofs.Common.{◌≡◌, ℕ, zero, suc, ◌+◌, ◌*◌, ◌/◌, ◌<◌, ◌≤◌, Bool, true, false, List, [], ◌∷◌, ◌++◌}
use Rattle.std.proofs.Common.{length, take, sym, arith, subst, inl, inr, length-take}
use Rattle.std.specs.List.{AllByRecursion}
use Rattle.std.proofs.Math.Nat.{mul-div_cancel, mul-mod_left}
use Rattle.std.proofs.lemmas.Bool.{cases_lt}
use Rattle.printer_definitions.specs.declared.inks.Ink.{Ink}
use Rattle.base_definitions.specs.Packed.{bits}
use Rattle.escp2_definitions.specs.Machine.{Dot, row_dots}
use Rattle.dot_emulator.specs.declared.firing.Raster.{Raster}
use Rattle.dot_emulator.specs.Firing.{Grid, HasRows, IsAbove, Stands, fired}
use Rattle.dot_emulator.specs.Sheets.{IsOnGrid}
use Rattle.dot_emulator.proofs.RasterDots.{IsAboveFrom, above-first, above-next, below-none, packed_row, rest, rest-first}
use Rattle.dot_emulator.proofs.RasterDots.{rest-next, rest-none, row_fired, sheet_row}

pub all-append : (P : Dot → Type 0) (xs ys : List Dot) → AllByRecursion P xs → AllByRecursion P ys → AllByRecursion P (xs ++ ys)
all-append P [] ys all all' = all'
all-append P (x ∷ xs) ys all all' = (all.0, all-append P xs ys all.1 all')

-- more columns
pub wider : (column row columns columns' rows : ℕ) (dots : List Dot)
    → columns ≤ columns' → AllByRecursion (IsOnGrid column row columns rows) dots
    → AllByRecursion (IsOnGrid column row columns' rows) dots
wider column row columns columns' rows [] more all = tt
wider column row columns columns' rows (d ∷ dots) more all = (
  record {
    in_column = all.0.in_column;
    in_columns = let low = all.0.in_columns in
        omega arith;
    in_row = all.0.in_row;
    in_rows = all.0.in_rows;
  },
  wider column row columns columns' rows dots more all.1,
)

on-grid : (g : Grid) (ink : Ink) (x y columns rows : ℕ) → 1 ≤ g.column → 1 ≤ g.row → x < columns → y < rows
    → IsOnGrid g.column g.row columns rows (record { ink = ink; x = x * g.column; y = y * g.row })
on-grid g ink x y columns rows some some' low low' = record {
  in_column = mul-mod_left x g.column;
  in_columns = let is : x * g.column / g.column ≡ x = mul-div_cancel x some in omega (arith, is);
  in_row = mul-mod_left y g.row;
  in_rows = let is : y * g.row / g.row ≡ y = mul-div_cancel y some' in omega (arith, is);
}

row-on-grid : (g : Grid) (ink : Ink) (x y columns rows : ℕ) (bools : List Bool)
    → 1 ≤ g.column → 1 ≤ g.row → x + length bools ≤ columns → y < rows
    → AllByRecursion (IsOnGrid g.column g.row columns rows) (row_dots ink (x * g.column) g.column (y * g.row) bools)
row-on-grid g ink x y columns rows [] some some' fits low = tt
row-on-grid g ink x y columns rows (true ∷ bools) some some' fits low =
    let P : ℕ → Type 0 = λ n. AllByRecursion (IsOnGrid g.column g.row columns rows) (row_dots ink n g.column (y * g.row) bools) in
    let next : (x + 1) * g.column ≡ x * g.column + g.column = grind arith in (
      on-grid g ink x y columns rows some some' (omega arith) low,
      subst P next (row-on-grid g ink (x + 1) y columns rows bools some some' (omega arith) low),
    )
row-on-grid g ink x y columns rows (false ∷ bools) some some' fits low =
    let P : ℕ → Type 0 = λ n. AllByRecursion (IsOnGrid g.column g.row columns rows) (row_dots ink n g.column (y * g.row) bools) in
    let next : (x + 1) * g.column ≡ x * g.column + g.column = grind arith in
    subst P next (row-on-grid g ink (x + 1) y columns rows bools some some' (omega arith) low)

rest-on-grid : (g : Grid) (r : Raster) (rows : List ℕ) (columns height k i : ℕ)
    → Stands g r → HasRows r rows → r.x + r.header.n ≤ columns → r.end ≤ height
    → i + k ≡ r.header.m → IsAboveFrom g r rows i → AllByRecursion (IsOnGrid g.column g.row columns height) (rest g r rows i)
rest-on-grid g r rows columns height zero i stands fits wide high all above =
    let P : List Dot → Type 0 = AllByRecursion (IsOnGrid g.column g.row columns height) in
    subst P (sym (rest-none g r rows i (omega arith))) tt
rest-on-grid g r rows columns height (suc k) i stands fits wide high all above =
    let P : List Dot → Type 0 = AllByRecursion (IsOnGrid g.column g.row columns height) in
    let low : i < r.header.m = omega arith in
    let later = rest-on-grid g r rows columns height k
    (i + 1) stands fits wide high (omega arith) (above-next g r rows i stands low above).later in
    let this : P (row_fired g r rows i) = elim (cases_lt (sheet_row r i) r.end) [
      | inl inside ↦ row-on-grid g r.ink r.x (sheet_row r i) columns height
          (take r.header.n (bits (packed_row r rows i))) stands.some_column stands.some_row
          (omega (arith, length-take r.header.n (bits (packed_row r rows i)))) (omega arith)
      | inr below ↦ subst P (sym (below-none g r rows i stands fits low above below)) tt
    ] in
    subst P (sym (rest-next g r rows i stands low)) (all-append
    (IsOnGrid g.column g.row columns height) (row_fired g r rows i) (rest g r rows (i + 1)) this later)

pub fired-on-grid : (g : Grid) (r : Raster) (rows : List ℕ) (columns height : ℕ)
    → Stands g r → HasRows r rows → r.x + r.header.n ≤ columns → r.end ≤ height
    → IsAbove g r rows → AllByRecursion (IsOnGrid g.column g.row columns height) (fired g r rows)
fired-on-grid g r rows columns height stands fits wide high above =
    let P : List Dot → Type 0 = AllByRecursion (IsOnGrid g.column g.row columns height) in
    subst P (sym (rest-first g r rows)) (rest-on-grid g r rows columns height r.header.m 0 stands fits wide high
    (omega arith) (above-first g r rows above))
