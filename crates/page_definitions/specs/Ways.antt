-- The ways of a head over a page, and the bytes that print a page by each.
use Rattle.std.specs.Prelude.{◌≡◌, ℕ, ◌*◌, ◌≤◌, Bool, List, Ok}
use Rattle.std.specs.List.{AllByRecursion}
use Rattle.dead_nozzles.specs.Dead.{IsRising, checked}
use Rattle.escp2_definitions.specs.Commands.{commands}
use Rattle.escp2_definitions.specs.Rasters.{ink_rasters}
use Rattle.page_definitions.specs.Dots.{Halftone, Screening, halftone}
use Rattle.page_definitions.specs.Healed.{IsSpared, healed, healed_bytes, healed_passes}
use Rattle.page_definitions.specs.PageBytes.{halftone_bytes, weave}
use Rattle.page_definitions.specs.RasterRows.{FiresHalf, RasterRows}
use Rattle.page_definitions.specs.Shingled.{shingled, shingled_bytes}
use Rattle.page_definitions.specs.Strokes.{Strokes}
use Rattle.page_definitions.specs.declared.way.Way.{Way}
use Rattle.page_definitions.specs.declared.way.Way.TheVariants.{Healed, Shingled, Woven}
use Rattle.printer_definitions.specs.declared.inks.Ink.{Ink}
use Rattle.printer_definitions.specs.Printer.{Printer, row_units}
use Rattle.pwg_definitions.specs.Stream.{Page}
use Rattle.separation_definitions.specs.Windows.{window_of}
use Rattle.shingle_plan.specs.Fits.{Shingles}
use Rattle.shingle_plan.specs.Shingles.{shingle_count}
use Rattle.weave_definitions.specs.Weave.{pass_count}

-- The head of a printer can go this way.
abbrev pub CanGo : Way → Printer → Type 0
CanGo Woven p = Unit {0}
CanGo Shingled p = Shingles p.nozzles p.pitch
CanGo (Healed dead) p = IsRising dead.items × (checked p.nozzles dead.items ≡ Ok tt)

-- The strokes of a head that goes this way over a window.
abbrev pub way_strokes : Way → Printer → Halftone → Strokes
way_strokes Woven p h = weave p h
way_strokes Shingled p h = shingled p h
way_strokes (Healed dead) p h = healed dead.items p h

-- The bytes that print a halftone this way on a sheet of this length in units.
abbrev pub halftone_bytes_by : Way → Printer → Halftone → ℕ → List ℕ
halftone_bytes_by Woven p h len = halftone_bytes p h len
halftone_bytes_by Shingled p h len = shingled_bytes p h len
halftone_bytes_by (Healed dead) p h len = healed_bytes dead.items p h len

-- The bytes that print a page this way.
unfoldable pub page_bytes_by : Way → Page → Printer → Screening → List ℕ
page_bytes_by way page p s = halftone_bytes_by way p (halftone page p s) (page.form.height * row_units p)

-- the most rasters of an ink over a window of this many rows: one for each pass, and one for each row that is made up
abbrev pub most_rasters : Way → Printer → ℕ → ℕ
most_rasters Woven p rows = pass_count p.nozzles p.pitch rows
most_rasters Shingled p rows = shingle_count p.nozzles p.pitch rows
most_rasters (Healed dead) p rows = healed_passes dead.items p rows

-- what a row of a raster may have, by the number of its nozzle and its dots: shingled rows have dots on even columns
-- or on odd ones alone, and rows of dead nozzles have none
abbrev pub MayFire : Way → ℕ → (ℕ → Bool) → Type 0
MayFire Woven nozzle dot = Unit {0}
MayFire Shingled nozzle dot = FiresHalf nozzle dot
MayFire (Healed dead) nozzle dot = IsSpared dead.items nozzle dot

-- A job has no more rasters of an ink than its way takes over a window of this many rows, and the rows of its rasters
-- have what they may have.
pub record KeepsWay (way : Way) (p : Printer) (height : ℕ) (job : List ℕ) : Type 0 where
  pub rasters : (ink : Ink) → ink_rasters ink (commands job).entries ≤ most_rasters way p height
  pub rows : RasterRows (MayFire way) (commands job).entries

-- the job of a page keeps to its way over the page's window
abbrev pub KeepsTo : Way → Printer → Screening → Page → Type 0
KeepsTo way p s page = KeepsWay way p (window_of page.form p).height (page_bytes_by way page p s)

-- the same for each page
abbrev pub KeepTo : Way → Printer → Screening → List Page → Type 0
KeepTo way p s pages = AllByRecursion (KeepsTo way p s) pages
