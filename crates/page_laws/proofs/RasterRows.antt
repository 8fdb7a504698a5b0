-- The rows of the rasters of strokes are those that the strokes fire.
use Rattle.std.proofs.lemmas.Grind.{common_steps}
use Rattle.std.proofs.Common.{◌≡◌, ℕ, zero, suc, ◌+◌, ◌-◌, ◌*◌, ◌<◌, Bool, true, false, if◌then◌else◌, List, [], ◌∷◌, ◌++◌}
use Rattle.std.proofs.Common.{length, take, drop, sym, ◌∙◌, ap, subst, arith, append-nil, filter, flat_map}
use Rattle.std.specs.List.{AllByRecursion}
use Rattle.std.specs.Prelude.{slice_index_or}
use Rattle.std.proofs.lemmas.List.{drop-drop, drop_at, take_at}
use Rattle.printer_definitions.specs.declared.inks.Ink.{Ink}
use Rattle.printer_definitions.specs.Inks.{inks_of}
use Rattle.printer_definitions.specs.Printer.{Printer, row_units}
use Rattle.base_definitions.specs.Packed.{at, bits, packed}
use Rattle.escp2_definitions.specs.declared.command.RasterHead.{RasterHead}
use Rattle.escp2_definitions.specs.declared.command.Command.TheVariants as c
use Rattle.escp2_definitions.specs.Commands.{CommandList, commands, row_bytes}
use Rattle.escp2_definitions.specs.Written.{Coding, IsCoding, written}
use Rattle.separation_definitions.specs.CanPrint.{CanPrint}
use Rattle.page_definitions.specs.Dots.{Halftone}
use Rattle.page_definitions.specs.RasterRows.{CommandRows, RasterRows, StrokeRows, raster_dot, raster_row}
use Rattle.page_definitions.specs.Strokes.{Fires, Spoken, Stroke, Strokes, down_by, fires, has_dot, page_commands, say, strokes_bytes}
use Rattle.page_laws.specs.Sized.{Sized}
use Rattle.page_laws.proofs.Fired.{AllWide, packed-len}
use Rattle.page_laws.proofs.Firing.{Lies, fires_ink, header_of}
use Rattle.page_laws.proofs.Packing.{row-packed}
use Rattle.page_laws.proofs.Pages.{fires_strokes, page_says}
use Rattle.page_laws.proofs.Printed.{commands-spoken, layout_of, read, strokes-lie}
use Rattle.page_laws.proofs.Running.{Layout, entries}

-- ---- one raster

-- all of a list of this length
take-whole : (bs : List ℕ) (n : ℕ) → length bs ≡ n → take n bs ≡ bs
take-whole bs n e = ap (take n) (sym (append-nil bs)) ∙ take_at bs [] n e

-- a row of packed rows is the row that was packed
row-is : (header : RasterHead) (rows : List (List Bool)) (i : ℕ) → AllWide header.n rows → i < length rows
    → raster_row header (flat_map packed rows) i ≡ slice_index_or rows i []
row-is header [] i wide low = absurd (omega arith)
row-is header (row ∷ rows) zero wide low = grind (arith, common_steps, packed-len, row-packed, take-whole, take_at)
row-is header (row ∷ rows) (suc i) wide low =
    let more : List ℕ = flat_map packed rows in
    let b : ℕ = row_bytes header in
    let len : length (packed row) ≡ b = packed-len header.n row wide.0 in
    let below : suc i * b ≡ b + i * b = omega arith in
    let behind : drop (suc i * b) (packed row ++ more) ≡ drop (i * b) more =
    ap (λ n. drop n (packed row ++ more)) below ∙ sym (drop-drop (i * b) b (packed row ++ more))
    ∙ ap (drop (i * b)) (drop_at (packed row) more b len) in
    ap (λ bs. take header.n (bits (take b bs))) behind ∙ row-is header rows i wide.1 (omega arith)

-- ---- the commands of strokes

-- this is true of the rows of each command that is to be written
abbrev AllRows : (ℕ → (ℕ → Bool) → Type 0) → List Spoken → Type 0
AllRows Q job = AllByRecursion (λ s. CommandRows Q s.command s.rows) job

-- and so of the commands of the job
entries-rows : (Q : ℕ → (ℕ → Bool) → Type 0) (code : List ℕ → List ℕ) (at : ℕ) (job : List Spoken)
    → AllRows Q job → RasterRows Q (entries code at job)
entries-rows Q code at [] all = tt
entries-rows Q code at (s ∷ job) all = (all.0, entries-rows Q code (at + length (written code s.command s.rows)) job all.1)

-- two jobs, one after the other
rows-append : (Q : ℕ → (ℕ → Bool) → Type 0) (xs ys : List Spoken) → AllRows Q xs → AllRows Q ys → AllRows Q (xs ++ ys)
rows-append Q [] ys p q = q
rows-append Q (x ∷ xs) ys p q = (p.0, rows-append Q xs ys p.1 q)

-- a step down has no rows
down-rows : (Q : ℕ → (ℕ → Bool) → Type 0) (n : ℕ) → AllRows Q (down_by n)
down-rows Q zero = tt
down-rows Q (suc n) = (tt, tt)

-- an ink of a stroke
ink-rows : (Q : ℕ → (ℕ → Bool) → Type 0) (w : Layout) (stroke : Stroke) (ink : Ink) → Lies w stroke
    → StrokeRows Q w.printer.nozzles stroke → AllRows Q (fires_ink w stroke ink)
ink-rows Q w stroke ink lies is = by_dot (has_dot (stroke.rows ink))
  where
    rows : List (List Bool)
    rows = stroke.rows ink

    raster : Spoken
    raster = record { command = c.Raster (header_of w); rows = flat_map packed rows }

    of_row : (i : ℕ) → i < w.printer.nozzles → Q i (raster_dot (header_of w) (flat_map packed rows) i)
    of_row i low =
        let same : raster_row (header_of w) (flat_map packed rows) i ≡ slice_index_or rows i [] =
        row-is (header_of w) rows i (lies.whole ink).wide (omega (arith, (lies.whole ink).many, low)) in
        let P : List Bool → Type 0 = λ row. Q i (λ x. at row x) in
        subst P (sym same) (is ink i low)

    by_dot : (b : Bool) → AllRows Q (if b then say (c.Colour ink) ∷ say c.Return ∷ raster ∷ [] else [])
    by_dot true = (tt, (tt, (of_row, tt)))
    by_dot false = tt

-- the inks of a stroke
inks-rows : (Q : ℕ → (ℕ → Bool) → Type 0) (w : Layout) (stroke : Stroke) (inks : List Ink) → Lies w stroke
    → StrokeRows Q w.printer.nozzles stroke → AllRows Q (flat_map (fires_ink w stroke) inks)
inks-rows Q w stroke [] lies is = tt
inks-rows Q w stroke (ink ∷ inks) lies is =
    rows-append Q (fires_ink w stroke ink) _ (ink-rows Q w stroke ink lies is) (inks-rows Q w stroke inks lies is)

-- strokes
strokes-rows : (Q : ℕ → (ℕ → Bool) → Type 0) (w : Layout) (strokes : List Stroke) (last : ℕ) → AllByRecursion (Lies w) strokes
    → AllByRecursion (StrokeRows Q w.printer.nozzles) strokes → AllRows Q (fires_strokes w last strokes)
strokes-rows Q w [] last lie is = tt
strokes-rows Q w (stroke ∷ strokes) last lie is =
    rows-append Q (down_by ((stroke.start - last) * row_units w.printer)) _ (down-rows Q _)
    (rows-append Q (flat_map (fires_ink w stroke) (inks_of w.printer.inks)) _
    (inks-rows Q w stroke (inks_of w.printer.inks) lie.0 is.0)
    (strokes-rows Q w strokes stroke.start lie.1 is.1))

-- what is true of each of a list is true of some of them
some-of : {X : Type 0} (P : X → Type 0) (test : X → Bool) (xs : List X) → AllByRecursion P xs → AllByRecursion P (filter test xs)
some-of P test [] all = tt
some-of {X = X} P test (x ∷ xs) all = grind (arith, some-of P test xs all.1)

-- the whole job of a page
page-rows : (Q : ℕ → (ℕ → Bool) → Type 0) (w : Layout) (strokes : List Stroke)
    → AllByRecursion (Lies w) (filter (fires w.printer) strokes)
    → AllByRecursion (StrokeRows Q w.printer.nozzles) strokes → AllRows Q (page_says w strokes)
page-rows Q w strokes lie is = grind (arith, AllRows, fires_strokes, rows-append, some-of, strokes-rows)

-- ---- the rows of bytes

-- What is true of each row that strokes fire is true of each row of the rasters of their bytes.
pub rasters-have-rows : (p : Printer) (h : Halftone) (coding : Coding) (strokes : Strokes) (tall : ℕ) (Q : ℕ → (ℕ → Bool) → Type 0)
    → CanPrint p → IsCoding coding → Sized p h tall → Fires p h strokes
    → AllByRecursion (StrokeRows Q p.nozzles) strokes.list
    → RasterRows Q (commands (strokes_bytes coding p h.width h.height (tall * row_units p) strokes)).entries
rasters-have-rows p h coding strokes tall Q can is_coding size fire is =
    let w : Layout = layout_of p h coding strokes.above tall in
    let job : List Spoken = page_commands p h.width h.height coding.c (tall * row_units p) strokes in
    let reads = read coding job (commands-spoken p h coding tall strokes can is_coding size fire) in
    let P : CommandList → Type 0 = λ list. RasterRows Q list.entries in
    subst P (sym reads)
    (entries-rows Q coding.code 0 job (page-rows Q w strokes.list (strokes-lie p h coding tall strokes fire) is))
