-- What is read of a raster is decided by its first bytes, whatever follows, and what is whole is spelled.
use Rattle.std.proofs.Common.{◌≡◌, ℕ, zero, suc, ◌+◌, ◌-◌, ◌*◌, ◌==◌, ◌&&◌, Bool, true, false, if◌then◌else◌, List, [], ◌∷◌, ◌++◌}
use Rattle.std.proofs.Common.{length, drop, refl, sym, ◌∙◌, ap, subst, arith, append-nil, length-append}
use Rattle.std.specs.Prelude.{MatchBool}
use Rattle.std.proofs.lemmas.List.{drop_at, take_at}
use Rattle.escp2_definitions.specs.declared.command.RasterHead.{RasterHead}
use Rattle.escp2_definitions.specs.declared.command.Command.TheVariants as c
use Rattle.escp2_definitions.specs.RowCode.{RowsCode, RowsRead, plain_at, rows_at}
use Rattle.escp2_definitions.specs.RowCode.RowsRead.{RowsAre, RowsPart, RowsWrong}
use Rattle.escp2_definitions.specs.Commands.{IsRowsText, command_bytes, in_table, is_some, is_switch, is_width, number, raster_at}
use Rattle.escp2_definitions.specs.Commands.{raster_rows, row_bytes, wide_number, with_rows}
use Rattle.escp2_laws.proofs.Grammar.{AreBytes, ReadRows, rows-parsed}
use Rattle.escp2_laws.proofs.Rows.{places-same, rows-same}
use Rattle.escp2_laws.proofs.RowsTold.{RowsTold, plain-told, rows-told}
use Rattle.escp2_laws.proofs.Told.{Told, told-number, told-wide}

-- ---- rows of a raster

-- What the rows of a raster are, read from bytes that are all theirs.
record AreRows (header : RasterHead) (rows text : List ℕ) : Type 0 where
  fits : length rows ≡ header.m * row_bytes header
  are : IsRowsText (c.Raster header) rows text

-- plain rows are their bytes
plain-are : (header : RasterHead) (rows text : List ℕ) (next : ℕ) → (header.c == 0) ≡ true → next ≡ 8 + length text
    → plain_at (header.m * row_bytes header) 8 (text ++ []) ≡ RowsAre rows next → AreRows header rows text
plain-are header rows text next is_plain there = grind (arith, places-same, rows-same, take_at)

-- coded rows have their width
codes-len : (m width : ℕ) (code rows : List ℕ) → RowsCode m width code rows → length rows ≡ m * width
codes-len zero width code rows codes = ap length codes.1 ∙ omega arith
codes-len (suc m) width code rows codes = grind (arith, length-append, codes-len m width codes.2 codes.3 codes.8)

-- coded rows are what their code gives
coded-are : (header : RasterHead) (rows text : List ℕ) (next : ℕ) → (header.c == 0) ≡ false → next ≡ 8 + length text → AreBytes text
    → rows_at header.m (row_bytes header) 8 (text ++ []) ≡ RowsAre rows next → AreRows header rows text
coded-are header rows text next is_coded there are e =
    let read : ReadRows header.m (row_bytes header) 8 text rows next =
    rows-parsed header.m (row_bytes header) 8 text rows next are (ap (rows_at header.m (row_bytes header) 8) (sym (append-nil text)) ∙ e) in
    let none : drop (next - 8) text ≡ [] = ap (drop (next - 8)) (sym (append-nil text))
    ∙ drop_at text [] (next - 8) (omega (arith, there)) in
    let same : text ≡ read.code = read.front.is ∙ ap (λ bs. read.code ++ bs) none ∙ append-nil read.code in
    let Q : List ℕ → Type 0 = λ code. RowsCode header.m (row_bytes header) code rows in
    let codes : RowsCode header.m (row_bytes header) text rows = subst Q (sym same) read.codes in
    let P : Bool → Type 0 = λ b. MatchBool b (text ≡ rows) (RowsCode header.m (row_bytes header) text rows) in
    record { fits = codes-len header.m (row_bytes header) text rows codes; are = subst P (sym is_coded) codes }

-- what decides the rows decides their raster
raster-told : (header : RasterHead) (read : List ℕ → RowsRead) (bytes : List ℕ) → in_table (c.Raster header) ≡ true
    → ((more : List ℕ) → raster_rows header more ≡ with_rows header (read more))
    → ((rows text : List ℕ) (next : ℕ) → next ≡ 8 + length text → AreBytes text → read (text ++ []) ≡ RowsAre rows next
    → AreRows header rows text)
    → (r : RowsRead) → RowsTold read 8 bytes r → Told (raster_rows header) (command_bytes (c.Raster header)) bytes (with_rows header r)
raster-told header read bytes ok is rows_are (RowsAre rows next) t = record {
  front = t.front;
  rest = t.rest;
  is = t.is;
  there = t.there;
  told = λ more. is (t.front ++ more) ∙ ap (with_rows header) (t.told more);
  spells = λ are.
      let rows_is : AreRows header rows t.front = rows_are rows t.front next t.there are (t.told []) in
      record { in_range = ok; rows_fit = rows_is.fits; text = t.front; rows_are = rows_is.are; spelled = refl };
}
raster-told header read bytes ok is rows_are RowsPart t = tt
raster-told header read bytes ok is rows_are (RowsWrong place) t = grind arith

-- the rows after the numbers of a raster
rows-of-raster : (header : RasterHead) (bytes : List ℕ) → in_table (c.Raster header) ≡ true
    → Told (raster_rows header) (command_bytes (c.Raster header)) bytes (raster_rows header bytes)
rows-of-raster header bytes ok = grind (arith, Told, coded-are, plain-are, plain-told, raster-told, rows-told)

-- ---- the numbers of a raster

-- two tests that hold
pub both : (a b : Bool) → a ≡ true → b ≡ true → a && b ≡ true
both a b e f = ap (λ t. t && b) e ∙ f

-- the numbers of a raster, one after another
pub raster_at-told : (bytes : List ℕ) → Told raster_at (0x1B ∷ 0x2E ∷ []) bytes (raster_at bytes)
raster_at-told bytes =
    told-number is_switch 2 (λ c. number is_some 3 (λ v. number is_some 4 (λ h. number is_some 5 (λ m.
    wide_number is_width 6 (λ n. raster_rows (record { c = c; v = v; h = h; m = m; n = n })))))) (0x1B ∷ 0x2E ∷ []) bytes refl
    (λ c c_ok bytes. told-number is_some 3 (λ v. number is_some 4 (λ h. number is_some 5 (λ m.
    wide_number is_width 6 (λ n. raster_rows (record { c = c; v = v; h = h; m = m; n = n }))))) (0x1B ∷ 0x2E ∷ c ∷ []) bytes refl
    (λ v v_ok bytes. told-number is_some 4 (λ h. number is_some 5 (λ m.
    wide_number is_width 6 (λ n. raster_rows (record { c = c; v = v; h = h; m = m; n = n })))) (0x1B ∷ 0x2E ∷ c ∷ v ∷ []) bytes refl
    (λ h h_ok bytes. told-number is_some 5 (λ m.
    wide_number is_width 6 (λ n. raster_rows (record { c = c; v = v; h = h; m = m; n = n }))) (0x1B ∷ 0x2E ∷ c ∷ v ∷ h ∷ []) bytes refl
    (λ m m_ok bytes. told-wide is_width 6 (λ n. raster_rows (record { c = c; v = v; h = h; m = m; n = n }))
    (0x1B ∷ 0x2E ∷ c ∷ v ∷ h ∷ m ∷ []) bytes refl
    (λ n n_ok bytes. rows-of-raster (record { c = c; v = v; h = h; m = m; n = n }) bytes
    (both _ _ (both _ _ (both _ _ (both _ _ c_ok v_ok) h_ok) m_ok) n_ok))))))
