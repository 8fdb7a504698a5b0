-- Pages that are printed in each way.
use Rattle.std.proofs.Common.{◌≡◌, ℕ, ◌*◌, ◌≤◌, List, [], ◌∷◌, length, flat_map, refl, sym, ap, subst, arith}
use Rattle.std.proofs.lemmas.List.{length-map}
use Rattle.base_definitions.specs.Counting.{count_from}
use Rattle.page_definitions.specs.Dots.{Screening}
use Rattle.escp2_definitions.specs.Commands.{Entry, commands}
use Rattle.escp2_definitions.specs.Rasters.{ink_rasters}
use Rattle.page_definitions.specs.Dots.{Halftone, dots_wanted, halftone}
use Rattle.page_definitions.specs.PageBytes.{halftone_bytes, page_bytes, page_coding, pass_stroke}
use Rattle.page_definitions.specs.Printing.{GivesSheet, Prints}
use Rattle.page_definitions.specs.RasterRows.{CommandRows, RasterRows}
use Rattle.page_definitions.specs.Shingled.{shingled, shingled_bytes, shingled_stroke}
use Rattle.page_definitions.specs.Healed.{healed, healed_bytes}
use Rattle.page_definitions.specs.Strokes.{Fires, strokes_bytes}
use Rattle.page_definitions.specs.Ways.{CanGo, KeepTo, KeepsWay, MayFire, halftone_bytes_by, most_rasters, page_bytes_by, way_strokes}
use Rattle.page_definitions.specs.declared.way.Way.{Way}
use Rattle.page_definitions.specs.declared.way.Way.TheVariants.{Healed, Shingled, Woven}
use Rattle.printer_definitions.specs.Printer.{Printer, row_units}
use Rattle.pwg_definitions.specs.Stream.{Page}
use Rattle.separation_definitions.specs.CanPrint.{ArePages, CanPrint}
use Rattle.escp2_definitions.specs.declared.command.Command.{Command}
use Rattle.escp2_definitions.specs.declared.command.Command.TheVariants as c
use Rattle.shingle_plan.specs.Shingles.{shingle_count}
use Rattle.weave_definitions.specs.Weave.{pass_count}
use Rattle.page_laws.specs.Sized.{Sized}
use Rattle.page_laws.proofs.Headline.{page-coded, page-sized, pages-print, stroked-print}
use Rattle.page_laws.proofs.Healing.{healed-few, healed-fires, healed-spared}
use Rattle.page_laws.proofs.Passes.{count_from-len}
use Rattle.page_laws.proofs.Printed.{strokes-print}
use Rattle.page_laws.proofs.Rasters.{few-rasters}
use Rattle.page_laws.proofs.Shingling.{shingled-halves, shingles-fire}
use Rattle.page_laws.proofs.Weaving.{weave-fires}

-- ---- the strokes of a way

-- The strokes of a way print the halftone of their window.
pub way-fires : (way : Way) (p : Printer) (h : Halftone) → CanPrint p → CanGo way p → Fires p h (way_strokes way p h)
way-fires Woven p h can go = weave-fires p h can
way-fires Shingled p h can go = shingles-fire p h can go
way-fires (Healed dead) p h can go = healed-fires dead.items p h can go.1

-- There are no more of them than the way takes.
way-few : (way : Way) (p : Printer) (h : Halftone) → CanPrint p → CanGo way p
    → length (way_strokes way p h).list ≤ most_rasters way p h.height
way-few Woven p h can go =
    let passes : ℕ = pass_count p.nozzles p.pitch h.height in
    omega (arith, length-map (count_from 0 passes) (pass_stroke p h), count_from-len 0 passes)
way-few Shingled p h can go =
    let passes : ℕ = shingle_count p.nozzles p.pitch h.height in
    omega (arith, length-map (count_from 0 passes) (shingled_stroke p h), count_from-len 0 passes)
way-few (Healed dead) p h can go = healed-few dead.items p h can go.1

-- The bytes of a halftone are those of the strokes.
pub way-bytes : (way : Way) (p : Printer) (h : Halftone) (len : ℕ)
    → halftone_bytes_by way p h len ≡ strokes_bytes page_coding p h.width h.height len (way_strokes way p h)
unfolding halftone_bytes shingled_bytes healed_bytes
way-bytes Woven p h len = refl
way-bytes Shingled p h len = refl
way-bytes (Healed dead) p h len = refl

-- ---- what the bytes of a halftone mean

-- They give one sheet with its dots.
pub way-gives : (way : Way) (p : Printer) (h : Halftone) (tall : ℕ) → CanPrint p → CanGo way p → Sized p h tall
    → GivesSheet p (halftone_bytes_by way p h (tall * row_units p)) (dots_wanted p h)
way-gives way p h tall can go size =
    let P : List ℕ → Type 0 = λ bytes. GivesSheet p bytes (dots_wanted p h) in
    subst P (sym (way-bytes way p h (tall * row_units p)))
    (strokes-print p h page_coding (way_strokes way p h) tall can page-coded size (way-fires way p h can go))

-- any rows are rows of which nothing is said
any-rows : (entries : List Entry) → RasterRows (MayFire Woven) entries
any-rows [] = tt
any-rows (entry ∷ entries) = (of_command entry.command entry.rows, any-rows entries)
  where
    of_command : (command : Command) (rows : List ℕ) → CommandRows (MayFire Woven) command rows
    of_command c.Init rows = tt
    of_command c.Graphics rows = tt
    of_command (c.Unit m) rows = tt
    of_command (c.MicroWeave n) rows = tt
    of_command (c.OneWay n) rows = tt
    of_command (c.Length n) rows = tt
    of_command (c.Margins top bottom) rows = tt
    of_command (c.DownTo n) rows = tt
    of_command (c.DownBy n) rows = tt
    of_command (c.Across n) rows = tt
    of_command c.Return rows = tt
    of_command c.Eject rows = tt
    of_command (c.Colour ink) rows = tt
    of_command (c.Raster header) rows = λ i low. tt

-- what the rows of its rasters have
way-rows : (way : Way) (p : Printer) (h : Halftone) (tall : ℕ) → CanPrint p → CanGo way p → Sized p h tall
    → RasterRows (MayFire way) (commands (halftone_bytes_by way p h (tall * row_units p))).entries
way-rows Woven p h tall can go size = any-rows (commands (halftone_bytes p h (tall * row_units p))).entries
way-rows Shingled p h tall can go size = shingled-halves p h tall can go size
way-rows (Healed dead) p h tall can go size = healed-spared dead.items p h tall can go.1 size

-- The job of a halftone has no more rasters than its way takes, and their rows have what they may have.
pub way-keeps : (way : Way) (p : Printer) (h : Halftone) (tall : ℕ) → CanPrint p → CanGo way p → Sized p h tall
    → KeepsWay way p h.height (halftone_bytes_by way p h (tall * row_units p))
way-keeps way p h tall can go size = record {
  rasters = λ ink.
      omega (
        arith,
        ap (λ bytes. ink_rasters ink (commands bytes).entries) (way-bytes way p h (tall * row_units p)),
        few-rasters p h (way_strokes way p h) tall can size (way-fires way p h can go) ink,
        way-few way p h can go,
      );
  rows = way-rows way p h tall can go size;
}

-- ---- pages

-- The bytes of pages, one after another, print them, whatever the way.
pub ways-print : (way : Way) (p : Printer) (k : Screening) (pages : List Page) → CanPrint p → CanGo way p → ArePages p pages
    → Prints p k pages (flat_map (λ page. page_bytes_by way page p k) pages)
unfolding page_bytes_by page_bytes shingled_bytes healed_bytes
ways-print Woven p k pages can go are = pages-print p k pages can are
ways-print Shingled p k pages can go are =
    stroked-print page_coding (shingled p) p k pages can page-coded (λ page is. shingles-fire p (halftone page p k) can go) are
ways-print (Healed dead) p k pages can go are =
    stroked-print page_coding (healed dead.items p) p k pages can page-coded (λ page is. healed-fires dead.items p (halftone page p k) can go.1) are

-- The jobs of pages keep to their way.
pub ways-keep : (way : Way) (p : Printer) (k : Screening) (pages : List Page) → CanPrint p → CanGo way p → ArePages p pages → KeepTo way p k pages
unfolding page_bytes_by
ways-keep way p k [] can go are = tt
ways-keep way p k (page ∷ pages) can go are =
    (way-keeps way p (halftone page p k) page.form.height can go (page-sized p k page can are.0), ways-keep way p k pages can go are.1)
