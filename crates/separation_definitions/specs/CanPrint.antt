-- The printers that jobs are written for, and the pages that they take.
use Rattle.std.specs.Prelude.{◌≡◌, ◌≤◌, ◌⊎◌, List}
use Rattle.std.specs.Int.{IsGcd}
use Rattle.std.specs.List.{AllByRecursion}
use Rattle.printer_definitions.specs.Printer.{Printer, head_rows, nozzle_step}
use Rattle.separation_definitions.specs.Windows.{wanted_by}
use Rattle.pwg_definitions.specs.Stream.{IsPage, Page}

-- 360 or 720 dots an inch in each direction, nozzles and pitch without a common divisor, raster steps that fit a
-- byte, and room for the head above the first row
pub record CanPrint (p : Printer) : Type 0 where
  pub across : (p.hdpi ≡ 360) ⊎ (p.hdpi ≡ 720)
  pub down : (p.vdpi ≡ 360) ⊎ (p.vdpi ≡ 720)
  pub some_nozzles : 1 ≤ p.nozzles
  pub most_nozzles : p.nozzles ≤ 255
  pub some_pitch : 1 ≤ p.pitch
  pub coprime : IsGcd p.nozzles p.pitch 1
  pub small_step : nozzle_step p ≤ 255
  pub head_room : head_rows p ≤ p.top

-- pages that the printer takes
abbrev pub ArePages : Printer → List Page → Type 0
ArePages p pages = AllByRecursion (IsPage (wanted_by p)) pages
