-- Rows that get a line, and those that keep theirs.
use Rattle.std.proofs.Common.{ℕ, ◌≡◌, ◌+◌, ◌-◌, ◌*◌, ◌<◌, ◌≤◌, ◌++◌, List, Some, ap, arith, get_or, length, length-take, slice_get, subst, sym, take, ◌∙◌}
use Rattle.std.proofs.lemmas.List.{get_or-append_right, get_or-take, get_or_append_left}
use Rattle.std.proofs.lemmas.Option.{get_or_from_slice_get, slice_get_within}
use Rattle.dot_planes.specs.Tables.{amount, row_at}
use Rattle.dot_planes.proofs.RowBytes.{bytes_inside, row_byte}
use Rattle.ink_separation.specs.Separated.{HasLine}
use Rattle.ink_separation.specs.Separators.{IsSeparatorOf, printer_in}
use Rattle.ink_separation.specs.declared.separator.Separator.{Separator}
use Rattle.ink_separation.proofs.Formulas.{same_amount}
use Rattle.printer_definitions.specs.Inks.{inks_of}
use Rattle.printer_definitions.specs.Printer.{Printer}
use Rattle.printer_definitions.specs.declared.inks.Ink.TheVariants.{Black}
use Rattle.printer_definitions.specs.declared.inks.InkSet.{InkSet}
use Rattle.pwg_definitions.specs.declared.pages.Kind.{Kind}
use Rattle.separation_definitions.specs.Amounts.{amount as amount_of, pixel_at}
use Rattle.separation_definitions.specs.declared.window.Window.{Window}
use Rattle.raw_rows.specs.Lines.{kept_bytes}
use Rattle.raw_rows.specs.Raw.{KeepsAbove, Repeats, ink_at, line_in, table_of}
use Rattle.raw_rows.specs.declared.kept.RawRows.{RawRows}
use Rattle.raw_rows.proofs.Cells.{amount_is}
use Rattle.raw_rows.proofs.Pixels.{same_pixel}

-- the formula at a pixel of a line
abbrev cell : Separator → List ℕ → ℕ → ℕ → ℕ
cell s line i x = amount_of (printer_in s) s.kind (pixel_at s.kind line (s.window.left + x)) (ink_at s.inks i)

-- it reads no more than what is kept of the line
same_cell : (s : Separator) (xs ys : List ℕ) (i x : ℕ) → x < s.window.width
    → ((k : ℕ) → k < kept_bytes s → get_or xs k 0 ≡ get_or ys k 0) → cell s xs i x ≡ cell s ys i x
same_cell s xs ys i x column same =
    ap (λ pixel. amount_of (printer_in s) s.kind pixel (ink_at s.inks i))
    (same_pixel s.kind xs ys (s.window.left + s.window.width) (s.window.left + x) (omega arith) same)

-- The separator and the size are the same in both.
pub record SameSize (old new : RawRows) : Type 0 where
  pub separator : new.separator ≡ old.separator
  pub rows : new.rows ≡ old.rows

-- a row with the bytes of another has its amounts
same_row : (old new : RawRows) (r q i x : ℕ) → SameSize old new → i < length (inks_of old.separator.inks) → r < old.rows → q < old.rows
    → x < old.separator.window.width
    → ((k : ℕ) → k < kept_bytes old.separator → get_or (line_in new r) k 0 ≡ get_or (line_in old q) k 0)
    → amount (table_of new) i r x ≡ amount (table_of old) i q x
same_row old new r q i x same ink row other column bytes =
    let Inks : Separator → Type 0 = λ s. i < length (inks_of s.inks) in
    let Column : Separator → Type 0 = λ s. x < s.window.width in
    amount_is new i r x (subst Inks (sym same.separator) ink) (omega (arith, same.rows)) (subst Column (sym same.separator) column)
    ∙ ap (λ (s : Separator). cell s (line_in new r) i x) same.separator
    ∙ same_cell old.separator (line_in new r) (line_in old q) i x column bytes
    ∙ sym (amount_is old i q x ink other column)

pub keeps : (old new : RawRows) (y : ℕ) → SameSize old new
    → ((r : ℕ) → r < y → (k : ℕ) → k < kept_bytes old.separator → get_or (line_in new r) k 0 ≡ get_or (line_in old r) k 0)
    → KeepsAbove (table_of old) (table_of new) y
keeps old new y same bytes = record {
  same = λ i r x ink above row column. same_row old new r r i x same ink row row column (bytes r above);
}

pub repeats : (old new : RawRows) (y : ℕ) → SameSize old new → y < old.rows
    → ((r : ℕ) → r + 1 ≡ y → (k : ℕ) → k < kept_bytes old.separator → get_or (line_in new y) k 0 ≡ get_or (line_in old r) k 0)
    → ((r : ℕ) → r < y → (k : ℕ) → k < kept_bytes old.separator → get_or (line_in new r) k 0 ≡ get_or (line_in old r) k 0)
    → Repeats (table_of old) (table_of new) y
repeats old new y same row again bytes = record {
  row = λ i r x ink before column. same_row old new y r i x same ink row (omega arith) column (again r before);
  above = keeps old new y same bytes;
}

-- a row that has the bytes of a line has its amounts
pub has_line : (raw : RawRows) (y : ℕ) (line : List ℕ) (p : Printer) (kind : Kind) (w : Window) → IsSeparatorOf p kind w raw.separator
    → y < raw.rows → ((k : ℕ) → k < kept_bytes raw.separator → get_or (line_in raw y) k 0 ≡ get_or line k 0)
    → HasLine p kind line w y (table_of raw)
has_line raw y line p kind w is row bytes = record {
  are = λ i ink has x low.
      let s : Separator = raw.separator in
      let InSet : InkSet → Type 0 = λ inks. slice_get (inks_of inks) i ≡ Some ink in
      let here : slice_get (inks_of s.inks) i ≡ Some ink = subst InSet (sym is.inks) has in
      let Across : Window → Type 0 = λ v. x < v.width in
      let column : x < s.window.width = subst Across (sym is.window_is) low in
      amount_is raw i y x (slice_get_within (inks_of s.inks) i ink here) row column
      ∙ same_cell s (line_in raw y) line i x column bytes
      ∙ ap (λ q. amount_of (printer_in s) s.kind (pixel_at s.kind line (s.window.left + x)) q)
      (get_or_from_slice_get (inks_of s.inks) i ink Black here)
      ∙ ap (λ (v : Window). amount_of (printer_in s) s.kind (pixel_at s.kind line (v.left + x)) ink) is.window_is
      ∙ ap (λ (k : Kind). amount_of (printer_in s) k (pixel_at k line (w.left + x)) ink) is.kind_is
      ∙ same_amount p kind w s is (pixel_at kind line (w.left + x)) ink;
}

-- ---- the bytes of lines

-- the line that is put behind others
pub last_line : (len n k : ℕ) (old line : List ℕ) → n * len ≤ length old → k < len
    → get_or (row_at len (take (n * len) old ++ take len line) n) k 0 ≡ get_or line k 0
last_line len n k old line many low =
    let part : List ℕ = take len line in
    let behind : n * len + k - n * len ≡ k = omega arith in
    row_byte len n k (take (n * len) old ++ part) low
    ∙ get_or-append_right (take (n * len) old) part (n * len) (n * len + k) 0 (omega (arith, length-take (n * len) old)) (omega arith)
    ∙ ap (λ m. get_or part m 0) behind ∙ get_or-take len line k 0 low

-- a line before it
pub kept_line : (len n m k : ℕ) (old line : List ℕ) → n * len ≤ length old → m < n → k < len
    → get_or (row_at len (take (n * len) old ++ line) m) k 0 ≡ get_or (row_at len old m) k 0
kept_line len n m k old line many before low =
    let inside = bytes_inside len n m before in
    row_byte len m k (take (n * len) old ++ line) low
    ∙ get_or_append_left (take (n * len) old) line 0 (m * len + k) (omega (arith, inside, length-take (n * len) old))
    ∙ get_or-take (n * len) old (m * len + k) 0 (omega (arith, inside)) ∙ sym (row_byte len m k old low)
