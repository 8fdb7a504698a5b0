use Rattle.std.proofs.Common.{◌+◌, List}
use Rattle.escp2_definitions.specs.Machine.{Dot}
use Rattle.dot_planes.specs.Tables.{HasSizeOf}
use Rattle.dot_emulator.specs.Firing.{Grid, IsAbove, Stands}
use Rattle.dot_emulator.specs.Sheets.{HasPlaces, IsKeptFrom}
use Rattle.dot_emulator.proofs.OverDots.{LaidSoFar}
use Rattle.dot_emulator.proofs.RasterDots.{IsAboveFrom}
use Rattle.dot_emulator.proofs.firing.Raster.lay.Given as goal

abbrev pub invariant-loop-i : goal.invariant-loop-i
invariant-loop-i l = record {
  size : HasSizeOf l.fn.planes l.planes;
  beside : IsKeptFrom (l.self.x + l.self.header.n) l.fn.planes l.planes;
  above : (g : Grid) → Stands g l.self → IsAbove g l.self l.rows → IsAboveFrom g l.self l.rows l.i;
  laid : (g : Grid) (dots : List Dot) → Stands g l.self → IsAbove g l.self l.rows → HasPlaces g.column g.row dots l.fn.planes
      → LaidSoFar g l.self l.rows l.i dots l.planes;
}
