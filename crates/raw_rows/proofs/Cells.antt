-- The table of raw lines has their amounts.
use Rattle.std.proofs.Common.{ℕ, zero, suc, ◌≡◌, ◌+◌, ◌*◌, ◌/◌, ◌%◌, ◌<◌, length, map, ap, arith, drop, get_or, zero-add, ◌∙◌}
use Rattle.std.proofs.lemmas.List.{get_or-drop, get_or-take}
use Rattle.std.proofs.lemmas.Nat.{div-mul-add, mod-mul-add}
use Rattle.base_definitions.specs.Counting.{count_from}
use Rattle.dot_planes.specs.Tables.{amount}
use Rattle.printer_definitions.specs.Inks.{inks_of}
use Rattle.raw_rows.specs.Raw.{amount_in, amounts_in, cells, table_of}
use Rattle.raw_rows.specs.declared.kept.RawRows.{RawRows}

-- a value of each of some numbers
counted_at : (f : ℕ → ℕ) (n many k : ℕ) → k < many → get_or (map f (count_from n many)) k 0 ≡ f (n + k)
counted_at f n zero k low = absurd (omega arith)
counted_at f n (suc many) zero low = ap f (omega arith)
counted_at f n (suc many) (suc k) low = counted_at f (n + 1) many k (omega arith) ∙ ap f (omega arith)

inside : (inks rows width i y x : ℕ) → i < inks → y < rows → x < width → (i * rows + y) * width + x < inks * rows * width
inside inks rows width i y x ink row column = grind arith

-- A table of cells has their amounts.
pub cell_is : (f : ℕ → ℕ → ℕ → ℕ) (inks rows width i y x : ℕ) → i < inks → y < rows → x < width
    → amount (record { width = width; rows = rows; inks = inks; bytes = cells f inks rows width }) i y x ≡ f i y x
unfolding amount cells
cell_is f inks rows width i y x ink row column =
    let line : ℕ = i * rows + y in
    let cell = λ (n : ℕ). f (n / width / rows) (n / width % rows) (n % width) in
    get_or-take width (drop (line * width) (cells f inks rows width)) x 0 column
    ∙ get_or-drop (line * width) (cells f inks rows width) x 0
    ∙ counted_at cell 0 (inks * rows * width) (line * width + x) (inside inks rows width i y x ink row column)
    ∙ ap cell (zero-add (line * width + x))
    ∙ ap (λ n. f (n / rows) (n % rows) ((line * width + x) % width)) (div-mul-add line width x column)
    ∙ ap (λ n. f (line / rows) (line % rows) n) (mod-mul-add line width x column)
    ∙ ap (λ n. f n (line % rows) x) (div-mul-add i rows y row)
    ∙ ap (λ n. f i n x) (mod-mul-add i rows y row)

pub amount_is : (raw : RawRows) (i y x : ℕ) → i < length (inks_of raw.separator.inks) → y < raw.rows → x < raw.separator.window.width
    → amount (table_of raw) i y x ≡ amount_in raw i y x
unfolding amounts_in
amount_is raw i y x ink row column =
    cell_is (amount_in raw) (length (inks_of raw.separator.inks)) raw.rows raw.separator.window.width i y x ink row column
