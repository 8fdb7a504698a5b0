-- What is written of a command spells it.
use Rattle.std.proofs.Common.{◌≡◌, ℕ, zero, suc, ◌+◌, ◌*◌, ◌≤◌, Bool, true, false, ◌==◌, if◌then◌else◌, List, length, take, drop, refl, sym}
use Rattle.std.proofs.Common.{◌∙◌, arith, length-drop, ◌⊎◌, inl, inr, eq-eqb, leb-true}
use Rattle.std.proofs.lemmas.Bool.{and_parts}
use Rattle.std.specs.Prelude.{MatchBool}
use Rattle.std.specs.List.{flat_map}
use Rattle.std.proofs.lemmas.List.{length-take-le, take-append-drop}
use Rattle.escp2_definitions.specs.declared.command.RasterHead.{RasterHead}
use Rattle.escp2_definitions.specs.declared.command.Command.{Command}
use Rattle.escp2_definitions.specs.declared.command.Command.TheVariants as c
use Rattle.escp2_definitions.specs.Commands.{Spells, in_table, is_switch, rows_len}
use Rattle.escp2_definitions.specs.RowCode.{RowCode, RowsCode}
use Rattle.escp2_definitions.specs.Written.{Coding, IsCoding, rows_apart, written}
use Rattle.escp2_definitions.specs.Least.{least_row}
use Rattle.escp2_laws.specs.Coded.{HasCoding}
use Rattle.escp2_laws.proofs.Least.{least-codes}
use Rattle.escp2_laws.proofs.Reading.{no_rows}

-- ---- rows one by one

-- codes of m rows of this width, one after another, are a code of the rows
pub apart-codes : (code : List ℕ → List ℕ) (m width : ℕ) (rows : List ℕ) → ((row : List ℕ) → RowCode (code row) row)
    → length rows ≡ m * width
    → RowsCode m width (flat_map code (rows_apart m width rows)) rows
apart-codes code zero width rows codes fits = (refl, no_rows rows (omega arith))
apart-codes code (suc m) width rows codes fits =
    let enough : suc m * width ≡ width + m * width = omega arith in (
      code (take width rows),
      take width rows,
      flat_map code (rows_apart m width (drop width rows)),
      drop width rows,
      refl,
      sym (take-append-drop width rows),
      length-take-le width rows (omega arith),
      codes (take width rows),
      apart-codes code m width (drop width rows) codes (omega (arith, length-drop width rows)),
    )

-- ---- rows of a raster

-- the rows of a raster as they are written
rows_text : (b : Bool) (code : List ℕ → List ℕ) (m width : ℕ) (rows : List ℕ) → length rows ≡ m * width
    → (b ≡ true) ⊎ ((row : List ℕ) → RowCode (code row) row)
    → MatchBool b ((if b then rows else flat_map code (rows_apart m width rows)) ≡ rows)
    (RowsCode m width (if b then rows else flat_map code (rows_apart m width rows)) rows)
rows_text true code m width rows fits coded = refl
rows_text false code m width rows fits (inl e) = absurd (let no : false ≡ true = e in cc)
rows_text false code m width rows fits (inr codes) = apart-codes code m width rows codes fits

-- the rows are plain, or have a code
plain_or_coded : (coding : Coding) (header : RasterHead) → IsCoding coding → header.c ≡ coding.c
    → ((header.c == 0) ≡ true) ⊎ ((row : List ℕ) → RowCode (coding.code row) row)
plain_or_coded coding header (inl e) is = inl (eq-eqb header.c 0 (is ∙ e))
plain_or_coded coding header (inr coded) is = inr coded.1

-- ---- commands

-- what is written of a command of the table spells it
pub written-spells : (coding : Coding) (command : Command) (rows : List ℕ) → IsCoding coding → HasCoding coding command
    → in_table command ≡ true → length rows ≡ rows_len command → Spells command rows (written coding.code command rows)
written-spells coding (c.Raster header) rows codes has ok fits = grind (arith, plain_or_coded, rows_text)
written-spells coding other rows codes has ok fits = record { in_range = ok; rows_fit = fits; text = rows; rows_are = refl; spelled = refl }

-- the least code, where the rows are coded
switch-is : (k : ℕ) → is_switch k ≡ true → IsCoding (record { c = k; code = least_row })
switch-is zero ok = inl refl
switch-is (suc zero) ok = inr (refl, least-codes)
switch-is (suc (suc k)) ok = absurd (let high : suc (suc k) ≤ 1 = leb-true (suc (suc k)) 1 ok in omega arith)

-- so does what is written with least codes
pub least-spells : (command : Command) (rows : List ℕ) → in_table command ≡ true → length rows ≡ rows_len command
    → Spells command rows (written least_row command rows)
least-spells (c.Raster header) rows ok fits =
    let coded : is_switch header.c ≡ true = (and_parts _ _ (and_parts _ _ (and_parts _ _ (and_parts _ _ ok).0).0).0).0 in
    written-spells (record { c = header.c; code = least_row }) (c.Raster header) rows (switch-is header.c coded) refl ok fits
least-spells other rows ok fits = record { in_range = ok; rows_fit = fits; text = rows; rows_are = refl; spelled = refl }
