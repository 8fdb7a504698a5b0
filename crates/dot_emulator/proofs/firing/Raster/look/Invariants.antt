use Rattle.std.proofs.Common.{◌≡◌, true, false, nat_le, List}
use Rattle.std.specs.List.{list_any}
use Rattle.escp2_definitions.specs.Machine.{Dot, is_at}
use Rattle.dot_emulator.specs.Firing.{Grid, PlanesHave, Stands}
use Rattle.dot_emulator.proofs.RasterDots.{SeenSoFar}
use Rattle.dot_emulator.proofs.firing.Raster.look.Given as goal

abbrev pub invariant-loop-i : goal.invariant-loop-i
invariant-loop-i l = record {
  some : (g : Grid) → Stands g l.self → SeenSoFar (λ d. true) g l.self l.rows l.i l.seen.some;
  below : (g : Grid) → Stands g l.self → SeenSoFar (λ d. nat_le g.bottom d.y) g l.self l.rows l.i l.seen.below;
  over : (g : Grid) (dots : List Dot) → Stands g l.self → PlanesHave g dots l.planes → l.seen.below ≡ false
      → SeenSoFar (λ d. list_any (is_at d) dots) g l.self l.rows l.i l.seen.over;
}
