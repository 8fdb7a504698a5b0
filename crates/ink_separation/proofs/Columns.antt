-- The amounts of a line, chunk by chunk.
use Rattle.std.proofs.Common.{◌≡◌, ◌≢◌, ◌⊎◌, ℕ, ◌+◌, ◌-◌, ◌<◌, ◌≤◌, List, Some, ◌∙◌, ap, arith, inl, inr, slice_get, sym}
use Rattle.std.proofs.lemmas.Bool.{cases_lt}
use Rattle.dot_planes.specs.Tables.{AmountTable, HasSizeAs, amount}
use Rattle.printer_definitions.specs.Inks.{inks_of}
use Rattle.printer_definitions.specs.Printer.{Printer}
use Rattle.printer_definitions.specs.declared.inks.Ink.{Ink}
use Rattle.pwg_definitions.specs.declared.pages.Kind.{Kind}
use Rattle.separation_definitions.specs.Amounts.{amount as amount_of, pixel_at}
use Rattle.ink_separation.specs.Separated.{Separates}

-- The row has the amounts of the first columns of a window that begins at pixel `left`.
abbrev pub HasColumns : Printer → Kind → List ℕ → ℕ → ℕ → ℕ → AmountTable → AmountTable → Type 0
HasColumns p kind line left at columns old new =
    Separates p kind line (record { left = left; top = 0; width = columns; height = 0 }) at old new

-- many columns more
pub columns_more : (p : Printer) (kind : Kind) (line : List ℕ) (left at columns many : ℕ) (old now new : AmountTable)
    → HasColumns p kind line left at columns old now → HasSizeAs now new
    → ((i : ℕ) (ink : Ink) → slice_get (inks_of p.inks) i ≡ Some ink → (k : ℕ) → k < many
    → amount new i at (columns + k) ≡ amount_of p kind (pixel_at kind line (left + columns + k)) ink)
    → ((i c : ℕ) → (c < columns) ⊎ (columns + many ≤ c) → amount new i at c ≡ amount now i at c)
    → ((i y c : ℕ) → y ≢ at → y < now.rows → amount new i y c ≡ amount now i y c)
    → HasColumns p kind line left at (columns + many) old new
columns_more p kind line left at columns many old now new v size put beside others = record {
  size = record { width = size.width ∙ v.size.width; rows = size.rows ∙ v.size.rows; inks = size.inks ∙ v.size.inks };
  row = record {
    are = λ i ink is x low. elim (cases_lt x columns) [
      | inl before ↦ beside i x (inl before) ∙ v.row.are i ink is x before
      | inr from ↦
          let k : ℕ = x - columns in
          let place : columns + k ≡ x = omega arith in
          let column : left + columns + k ≡ left + x = omega arith in
          ap (λ n. amount new i at n) (sym place) ∙ put i ink is k (omega arith)
          ∙ ap (λ n. amount_of p kind (pixel_at kind line n) ink) column
    ];
  };
  others = λ i y x other low. others i y x other (omega (arith, v.size.rows)) ∙ v.others i y x other low;
}
