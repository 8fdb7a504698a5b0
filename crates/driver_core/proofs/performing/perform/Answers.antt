use Rattle.std.proofs.Common.{refl}
use Rattle.std.proofs.KnownBytes.{Keeps-refl}
use Rattle.driver_core.proofs.performing.perform.Goals as goal

pub returns-in-Trial : goal.returns-in-Trial
returns-in-Trial g c = rw c.in-Trial.is (Keeps-refl (g.S.Source.left c.args.input.now), refl, c.try_pages.ensures)
