-- What an ink fires in a stroke, row by row.
use Rattle.std.proofs.Common.{◌≡◌, ℕ, suc, ◌+◌, ◌*◌, ◌/◌, ◌≤◌, ◌==◌, nat_lt, Bool, true, false, if◌then◌else◌, List, [], ◌∷◌, ◌++◌, length}
use Rattle.std.proofs.Common.{map, drop, refl, sym, ◌∙◌, ap, arith, append_assoc, append-nil}
use Rattle.std.specs.List.{flat_map}
use Rattle.std.proofs.lemmas.List.{drop_at, length-map, take_at}
use Rattle.page_definitions.specs.PageBytes.{page_coding}
use Rattle.escp2_definitions.specs.Commands.{command_bytes, row_bytes}
use Rattle.base_definitions.specs.Packed.{packed}
use Rattle.escp2_definitions.specs.Written.{rows_apart}
use Rattle.escp2_definitions.specs.declared.command.Command.TheVariants as c
use Rattle.escp2_definitions.specs.declared.command.RasterHead.{RasterHead}
use Rattle.page_definitions.specs.Strokes.{Spoken, bytes_of, has_dot, say}
use Rattle.page_laws.proofs.Fired.{AllWide, packed-len}
use Rattle.page_laws.proofs.Passes.{count_from-len}
use Rattle.printer_definitions.specs.declared.inks.Ink.{Ink}
use Rattle.base_definitions.specs.Counting.{count_from}
use Rattle.page_writer.specs.Rows.{rows_commands}
use Rattle.page_writer.specs.Sums.{rasters_in}

-- ---- rows of one width

-- the bytes of rows, and so the bytes that they are packed in
rows-wide : (width : ℕ) (row : ℕ → List Bool) (nozzles : List ℕ)
    → ((nozzle : ℕ) → length (row nozzle) ≡ width) → AllWide width (map row nozzles)
rows-wide width row [] wide = tt
rows-wide width row (nozzle ∷ nozzles) wide = (wide nozzle, rows-wide width row nozzles wide)

-- ---- the codes of rows

-- the codes of rows, one by one
abbrev pub codes_of : List (List Bool) → List ℕ
codes_of rows = flat_map (λ row. page_coding.code (packed row)) rows

-- rows of one width, one after another, are cut into the rows again
codes-apart : (width : ℕ) (rows : List (List Bool)) → AllWide width rows
    → flat_map page_coding.code (rows_apart (length rows) ((width + 7) / 8) (flat_map packed rows)) ≡ codes_of rows
codes-apart width [] wide = refl
codes-apart width (row ∷ rows) wide =
    let bytes : ℕ = (width + 7) / 8 in
    let more : List ℕ = flat_map packed rows in
    let len : length (packed row) ≡ bytes = packed-len width row wide.0 in
    ap (λ bs. page_coding.code bs ++ flat_map page_coding.code
    (rows_apart (length rows) bytes (drop bytes (packed row ++ more)))) (take_at (packed row) more bytes len)
    ∙ ap (λ bs. page_coding.code (packed row) ++ flat_map page_coding.code (rows_apart (length rows) bytes bs))
    (drop_at (packed row) more bytes len)
    ∙ ap (λ bs. page_coding.code (packed row) ++ bs) (codes-apart width rows wide.1)

-- ---- the commands of an ink

-- the bytes of its commands before its rows
abbrev pub header_of : RasterHead → Ink → List ℕ
header_of header ink = (command_bytes (c.Colour ink) ++ command_bytes c.Return) ++ command_bytes (c.Raster header)

-- an ink that has a dot to fire
fired-bytes : (header : RasterHead) (ink : Ink) (rows : List (List Bool))
    → has_dot rows ≡ true → header.c ≡ page_coding.c → length rows ≡ header.m → AllWide header.n rows
    → bytes_of page_coding.code (rows_commands header ink rows) ≡ header_of header ink ++ codes_of rows
fired-bytes header ink rows fires coded many wide =
    let raster : Spoken = record { command = c.Raster header; rows = flat_map packed rows } in
    let is_coded : (header.c == 0) ≡ false = ap (λ n. n == 0) coded in
    let text : List ℕ = flat_map page_coding.code (rows_apart header.m (row_bytes header) (flat_map packed rows)) in
    let codes : text ≡ codes_of rows =
    ap (λ n. flat_map page_coding.code (rows_apart n (row_bytes header) (flat_map packed rows))) (sym many) ∙ codes-apart header.n rows wide in
    ap (λ b. bytes_of page_coding.code (if b then say (c.Colour ink) ∷ say c.Return ∷ raster ∷ [] else [])) fires
    ∙ ap (λ b. header_of header ink ++ ((if b then flat_map packed rows else text) ++ [])) is_coded
    ∙ ap (λ bs. header_of header ink ++ bs) (append-nil text ∙ codes)

-- ---- the rows of an ink, one after another

-- So many rows are left to append, from a nozzle on, of bytes that are to become the whole.
pub record RowsSoFar (row : ℕ → List Bool) (whole out : List ℕ) (nozzle left : ℕ) : Type 0 where
  pub is : whole ≡ out ++ codes_of (map row (count_from nozzle left))

-- no row is appended
pub rows_begin : (row : ℕ → List Bool) (nozzles : ℕ) (header : RasterHead) (ink : Ink) (old out : List ℕ) (left : ℕ)
    → ((nozzle : ℕ) → length (row nozzle) ≡ header.n) → has_dot (map row (count_from 0 nozzles)) ≡ true
    → header.c ≡ page_coding.c → header.m ≡ nozzles → left ≡ nozzles → out ≡ old ++ header_of header ink
    → RowsSoFar row (old ++ bytes_of page_coding.code (rows_commands header ink (map row (count_from 0 nozzles)))) out 0 left
rows_begin row nozzles header ink old out left wide fires coded many all begun =
    let rows : List (List Bool) = map row (count_from 0 nozzles) in
    let count : length rows ≡ header.m = length-map (count_from 0 nozzles) row ∙ count_from-len 0 nozzles ∙ sym many in
    record {
      is = ap (λ bs. old ++ bs) (fired-bytes header ink rows fires coded count (rows-wide header.n row (count_from 0 nozzles) wide))
          ∙ sym (append_assoc old (header_of header ink) (codes_of rows))
          ∙ ap (λ bs. bs ++ codes_of rows) (sym begun)
          ∙ ap (λ n. out ++ codes_of (map row (count_from 0 n))) (sym all);
    }

-- one more row is appended
pub rows_step : {row : ℕ → List Bool} {whole out out' : List ℕ} {nozzle left next : ℕ}
    → RowsSoFar row whole out nozzle left → left ≡ suc next
    → out' ≡ out ++ page_coding.code (packed (row nozzle)) → RowsSoFar row whole out' (nozzle + 1) next
rows_step {row} {out} {nozzle} {next} so_far more appended =
    let later : List ℕ = codes_of (map row (count_from (nozzle + 1) next)) in
    record {
      is = so_far.is
          ∙ ap (λ n. out ++ codes_of (map row (count_from nozzle n))) more
          ∙ sym (append_assoc out (page_coding.code (packed (row nozzle))) later)
          ∙ ap (λ bs. bs ++ later) (sym appended);
    }

-- all rows are appended
pub rows_end : (row : ℕ → List Bool) (whole out : List ℕ) (nozzle left : ℕ)
    → RowsSoFar row whole out nozzle left → left ≡ 0 → out ≡ whole
rows_end row whole out nozzle left so_far none =
    sym (so_far.is ∙ ap (λ n. out ++ codes_of (map row (count_from nozzle n))) none ∙ append-nil out)

-- ---- room for rows

-- room for some rows is room for one
pub room_one : (len most left next bytes : ℕ) → left ≡ suc next → len + 2 * left * bytes ≤ most → len + 2 * bytes ≤ most
room_one len most left next bytes more room =
    let rows : 2 * suc next * bytes ≡ 2 * bytes + 2 * next * bytes = omega arith in
    omega (arith, room, rows, ap (λ n. 2 * n * bytes) more)

-- and for the rows after it
pub room_more : (len len' most : ℕ) {left next : ℕ} (bytes : ℕ)
    → left ≡ suc next → len + 2 * left * bytes ≤ most → len' ≤ len + 2 * bytes → len' + 2 * next * bytes ≤ most
room_more len len' most {next} bytes more room taken =
    let rows : 2 * suc next * bytes ≡ 2 * bytes + 2 * next * bytes = omega arith in
    omega (arith, room, taken, rows, ap (λ n. 2 * n * bytes) more)

-- the commands of an ink that has no dot
pub none_fired : (header : RasterHead) (ink : Ink) (rows : List (List Bool)) (old : List ℕ) → has_dot rows ≡ false
    → old ≡ old ++ bytes_of page_coding.code (rows_commands header ink rows)
none_fired header ink rows old none =
    let raster : Spoken = record { command = c.Raster header; rows = flat_map packed rows } in
    sym (ap (λ b. old ++ bytes_of page_coding.code (if b then say (c.Colour ink) ∷ say c.Return ∷ raster ∷ [] else [])) none ∙ append-nil old)

-- the rasters of an ink
pub none_counted : (header : RasterHead) (ink : Ink) (rows : List (List Bool))
    → has_dot rows ≡ false → 0 ≡ rasters_in (rows_commands header ink rows)
none_counted header ink rows none =
    let raster : Spoken = record { command = c.Raster header; rows = flat_map packed rows } in
    sym (ap (λ b. rasters_in (if b then say (c.Colour ink) ∷ say c.Return ∷ raster ∷ [] else [])) none)

-- one raster, where it has a dot
pub one_counted : (header : RasterHead) (ink : Ink) (rows : List (List Bool))
    → has_dot rows ≡ true → 1 ≡ rasters_in (rows_commands header ink rows)
one_counted header ink rows fires =
    let raster : Spoken = record { command = c.Raster header; rows = flat_map packed rows } in
    sym (ap (λ b. rasters_in (if b then say (c.Colour ink) ∷ say c.Return ∷ raster ∷ [] else [])) fires)

-- they say whether the ink has a dot
pub rasters_tell : (header : RasterHead) (ink : Ink) (rows : List (List Bool))
    → nat_lt 0 (rasters_in (rows_commands header ink rows)) ≡ has_dot rows
rasters_tell header ink rows = by_dot (has_dot rows)
  where
    raster : Spoken
    raster = record { command = c.Raster header; rows = flat_map packed rows }

    by_dot : (b : Bool) → nat_lt 0 (rasters_in (if b then say (c.Colour ink) ∷ say c.Return ∷ raster ∷ [] else [])) ≡ b
    by_dot true = refl
    by_dot false = refl
