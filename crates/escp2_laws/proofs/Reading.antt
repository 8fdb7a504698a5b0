-- What is spelled is read.
use Rattle.std.proofs.lemmas.Grind.{common_steps}
use Rattle.std.proofs.Common.{◌≡◌, ℕ, ◌+◌, ◌*◌, ◌/◌, ◌%◌, Bool, true, false, List, [], ◌∷◌, ◌++◌, length, refl, sym, ◌∙◌, ap, arith}
use Rattle.std.proofs.Common.{◌&&◌, if◌then◌else◌, ◌==◌, append-nil}
use Rattle.std.proofs.lemmas.Bool.{and_parts}
use Rattle.std.specs.Prelude.{MatchBool}
use Rattle.printer_definitions.specs.declared.inks.Ink.TheVariants.{Black, Cyan, Magenta, Yellow}
use Rattle.escp2_definitions.specs.declared.stops.JobCause.TheVariants.{BadValue}
use Rattle.escp2_definitions.specs.declared.command.RasterHead.{RasterHead}
use Rattle.escp2_definitions.specs.declared.command.Command.{Command}
use Rattle.escp2_definitions.specs.declared.command.Command.TheVariants as c
use Rattle.escp2_definitions.specs.RowCode.{RowsCode, plain_at, rows_at}
use Rattle.escp2_definitions.specs.Commands.{Heard, Spells, command_at, command_bytes, in_table}
use Rattle.escp2_definitions.specs.Commands.{number, raster_at, row_bytes, two_bytes}
use Rattle.escp2_definitions.specs.Commands.{wide_number, with_rows}
use Rattle.escp2_definitions.specs.Commands.Heard.{One, Wrong}
use Rattle.escp2_laws.proofs.Prefixes.{nothing_left}
use Rattle.escp2_laws.proofs.Rows.{plain-reads, rows-read}

-- rows of no byte
pub no_rows : (rows : List ℕ) → length rows ≡ 0 → rows ≡ []
no_rows [] e = refl
no_rows (r ∷ rows) e = absurd (omega arith)

-- ---- numbers

-- a number in its range is read
number-reads : (in_range : ℕ → Bool) (at n : ℕ) (next : ℕ → List ℕ → Heard) (rest : List ℕ) → in_range n ≡ true
    → number in_range at next (n ∷ rest) ≡ next n rest
number-reads in_range at n next rest ok = ap (λ b. if b then next n rest else Wrong at BadValue) ok

-- two bytes are a number
two_bytes-is : (n : ℕ) → n % 256 + 256 * (n / 256) ≡ n
two_bytes-is n = omega arith

-- a number of two bytes in its range is read
wide-reads : (in_range : ℕ → Bool) (at n : ℕ) (next : ℕ → List ℕ → Heard) (rest : List ℕ) → in_range n ≡ true
    → wide_number in_range at next (two_bytes n ++ rest) ≡ next n rest
wide-reads in_range at n next rest ok = grind (arith, two_bytes-is)

-- ---- rasters

-- rows in either form are read
by_form : (b : Bool) (header : RasterHead) (rows text rest : List ℕ) → length rows ≡ header.m * row_bytes header
    → MatchBool b (text ≡ rows) (RowsCode header.m (row_bytes header) text rows)
    → with_rows header (if b
    then plain_at (header.m * row_bytes header) 8 (text ++ rest)
    else rows_at header.m (row_bytes header) 8 (text ++ rest))
    ≡ One (c.Raster header) rows (8 + length text)
by_form true header rows text rest fits is = grind (arith, plain-reads)
by_form false header rows text rest fits is = ap (with_rows header) (rows-read header.m (row_bytes header) 8 text rows rest is)

-- a raster is read with its rows
raster-reads : (header : RasterHead) (rows text rest : List ℕ)
    → in_table (c.Raster header) ≡ true → length rows ≡ header.m * row_bytes header
    → MatchBool (header.c == 0) (text ≡ rows) (RowsCode header.m (row_bytes header) text rows)
    → raster_at (header.c ∷ header.v ∷ header.h ∷ header.m ∷ (two_bytes header.n ++ (text ++ rest)))
    ≡ One (c.Raster header) rows (8 + length text)
raster-reads header rows text rest ok fits is = grind (arith, and_parts, by_form, number-reads, wide-reads)

-- ---- commands

-- a command without rows, by its bytes
plain : (command : Command) (rows text rest : List ℕ) → length rows ≡ 0 → text ≡ rows
    → ((rest : List ℕ) → command_at (command_bytes command ++ rest) ≡ One command [] (length (command_bytes command)))
    → command_at ((command_bytes command ++ text) ++ rest) ≡ One command rows (length (command_bytes command ++ text))
plain command rows text rest fits is reads = grind (arith, append-nil, no_rows)

-- each command is read from its bytes
by_command : (command : Command) (rows text rest : List ℕ) (spelled : Spells command rows (command_bytes command ++ text))
    → spelled.text ≡ text
    → command_at ((command_bytes command ++ text) ++ rest) ≡ One command rows (length (command_bytes command ++ text))
unfolding command_at
by_command c.Init rows text rest s e = plain c.Init rows text rest s.rows_fit (sym e ∙ s.rows_are) (λ more. refl)
by_command c.Graphics rows text rest s e = plain c.Graphics rows text rest s.rows_fit (sym e ∙ s.rows_are) (λ more. refl)
by_command (c.Unit m) rows text rest s e = grind (arith, common_steps, number-reads, plain)
by_command (c.MicroWeave n) rows text rest s e = grind (arith, common_steps, number-reads, plain)
by_command (c.OneWay n) rows text rest s e = grind (arith, common_steps, number-reads, plain)
by_command (c.Length n) rows text rest s e = grind (arith, common_steps, plain, wide-reads)
by_command (c.Margins top bottom) rows text rest s e = grind (arith, common_steps, and_parts, plain, wide-reads)
by_command (c.DownTo n) rows text rest s e = grind (arith, common_steps, plain, wide-reads)
by_command (c.DownBy n) rows text rest s e = grind (arith, common_steps, plain, wide-reads)
by_command (c.Across n) rows text rest s e = grind (arith, common_steps, plain, wide-reads)
by_command c.Return rows text rest s e = plain c.Return rows text rest s.rows_fit (sym e ∙ s.rows_are) (λ more. refl)
by_command c.Eject rows text rest s e = plain c.Eject rows text rest s.rows_fit (sym e ∙ s.rows_are) (λ more. refl)
by_command (c.Colour Black) rows text rest s e = plain (c.Colour Black) rows text rest s.rows_fit (sym e ∙ s.rows_are) (λ more. refl)
by_command (c.Colour Cyan) rows text rest s e = plain (c.Colour Cyan) rows text rest s.rows_fit (sym e ∙ s.rows_are) (λ more. refl)
by_command (c.Colour Magenta) rows text rest s e = plain (c.Colour Magenta) rows text rest s.rows_fit (sym e ∙ s.rows_are) (λ more. refl)
by_command (c.Colour Yellow) rows text rest s e = plain (c.Colour Yellow) rows text rest s.rows_fit (sym e ∙ s.rows_are) (λ more. refl)
by_command (c.Raster header) rows text rest s e = grind (arith, raster-reads)

-- what is spelled is read, whatever follows
pub command_at-spelled : (command : Command) (rows bytes rest : List ℕ) → Spells command rows bytes
    → command_at (bytes ++ rest) ≡ One command rows (length bytes)
command_at-spelled command rows bytes rest s =
    let text : List ℕ = s.text in
    let same : Spells command rows (command_bytes command ++ text) =
    record { in_range = s.in_range; rows_fit = s.rows_fit; text = text; rows_are = s.rows_are; spelled = refl } in
    ap (λ bs. command_at (bs ++ rest)) s.spelled
    ∙ by_command command rows text rest same refl
    ∙ ap (λ bs. One command rows (length bs)) (sym s.spelled)

-- no spelling is a proper prefix of another
pub alone : (one other : Command) (rows other_rows bytes more : List ℕ) → Spells one rows bytes → Spells other other_rows (bytes ++ more)
    → more ≡ []
alone one other rows other_rows bytes more s t =
    let first : command_at (bytes ++ more) ≡ One one rows (length bytes) = command_at-spelled one rows bytes more s in
    let second : command_at ((bytes ++ more) ++ []) ≡ One other other_rows (length (bytes ++ more)) =
    command_at-spelled other other_rows (bytes ++ more) [] t in
    let same : One one rows (length bytes) ≡ One other other_rows (length (bytes ++ more)) = sym first
    ∙ ap command_at (sym (append-nil (bytes ++ more))) ∙ second in
    nothing_left bytes more (lengths same)
  where
    lengths : {a b : Command} {rs ss : List ℕ} {m n : ℕ} → One a rs m ≡ One b ss n → m ≡ n
    lengths e = cc
