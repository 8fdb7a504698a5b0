-- No code of rows is a proper prefix of another.
use Rattle.std.proofs.Common.{◌≡◌, ℕ, ◌+◌, List, [], ◌∷◌, ◌++◌, length, refl, sym, ◌∙◌, ap, arith, length-append, append-nil}
use Rattle.escp2_definitions.specs.RowCode.{RowsCode, rows_at}
use Rattle.escp2_definitions.specs.RowCode.RowsRead.{RowsAre}
use Rattle.escp2_laws.proofs.Rows.{places-same, rows-read, rows-same}

-- bytes that are no longer than their prefix are the prefix
pub nothing_left : (bytes more : List ℕ) → length bytes ≡ length (bytes ++ more) → more ≡ []
nothing_left bytes [] e = refl
nothing_left bytes (b ∷ more) e = absurd (omega (arith, length-append bytes (b ∷ more)))

-- no code of rows is a proper prefix of another
pub rows_alone : (m width : ℕ) (code more rows other_rows : List ℕ) → RowsCode m width code rows
    → RowsCode m width (code ++ more) other_rows
    → (more ≡ []) × (rows ≡ other_rows)
rows_alone m width code more rows other_rows one other =
    let first : rows_at m width 0 (code ++ more) ≡ RowsAre rows (0 + length code) = rows-read m width 0 code rows more one in
    let second : rows_at m width 0 ((code ++ more) ++ []) ≡ RowsAre other_rows (0 + length (code ++ more)) =
    rows-read m width 0 (code ++ more) other_rows [] other in
    let same : RowsAre rows (0 + length code) ≡ RowsAre other_rows (0 + length (code ++ more)) =
    sym first ∙ ap (rows_at m width 0) (sym (append-nil (code ++ more))) ∙ second in
    (nothing_left code more (omega (arith, places-same _ _ _ _ same)), rows-same _ _ _ _ same)

-- a code is read, whatever follows
pub code_read : (m width : ℕ) (code rest rows : List ℕ) → RowsCode m width code rows
    → rows_at m width 0 (code ++ rest) ≡ RowsAre rows (length code)
code_read m width code rest rows is =
    rows-read m width 0 code rows rest is ∙ ap (RowsAre rows) (let p : 0 + length code ≡ length code = omega arith in p)
