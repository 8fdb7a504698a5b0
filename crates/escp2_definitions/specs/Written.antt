-- What a writer makes of a command and the rows of a raster.
use Rattle.std.specs.Prelude.{◌≡◌, ℕ, zero, suc, ◌==◌, if◌then◌else◌, ◌⊎◌, List, [], ◌∷◌, ◌++◌, take, drop}
use Rattle.std.specs.List.{flat_map}
use Rattle.escp2_definitions.specs.declared.command.Command.{Command}
use Rattle.escp2_definitions.specs.declared.command.Command.TheVariants as c
use Rattle.escp2_definitions.specs.Least.{least_row}
use Rattle.escp2_definitions.specs.Commands.{command_bytes, row_bytes}
use Rattle.escp2_definitions.specs.RowCode.{RowCode}

-- How the rows of rasters are written: plain where c is 0, and where it is 1 each row by this code.
pub record Coding : Type 0 where
  pub c : ℕ
  pub code : List ℕ → List ℕ

-- rows as they are
abbrev pub plain : Coding
plain = record { c = 0; code = λ row. row }

-- rows by their least codes
abbrev pub shortest : Coding
shortest = record { c = 1; code = least_row }

-- rows are written plain, or each by a code of its own
abbrev pub IsCoding : Coding → Type 0
IsCoding coding = (coding.c ≡ 0) ⊎ ((coding.c ≡ 1) × ((row : List ℕ) → RowCode (coding.code row) row))

-- m rows of this width, one by one
abbrev pub rows_apart : ℕ → ℕ → List ℕ → List (List ℕ)
rows_apart zero width bytes = []
rows_apart (suc m) width bytes = take width bytes ∷ rows_apart m width (drop width bytes)

-- the rows of a command as they are written, where coded rows have this code
abbrev pub written_rows : (List ℕ → List ℕ) → Command → List ℕ → List ℕ
written_rows code (c.Raster header) rows = if header.c == 0 then rows else flat_map code (rows_apart header.m (row_bytes header) rows)
written_rows code other rows = rows

-- The bytes that are written for a command and its rows.
abbrev pub written : (List ℕ → List ℕ) → Command → List ℕ → List ℕ
written code command rows = command_bytes command ++ written_rows code command rows
