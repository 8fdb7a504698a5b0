use Rattle.std.proofs.Common.{ap, ◌∙◌, arith, false, get_or}
use Rattle.dead_nozzles.specs.Strokes.{Head}
use Rattle.dead_nozzles.proofs.Tables.{view-dead}
use Rattle.dead_nozzles.proofs.worn.WornHead.is_dead.Goals as goal

pub returns : goal.returns
returns c =
    ap (λ n. get_or c.self.inside.dead n false) c.from.ensures
    ∙ view-dead c.self.inside.dead c.self.inside.nozzles c.self.inside.pitch c.self.inside.height c.args.self.now c.args.nozzle
    c.self.view_is (omega (arith, c.requires, ap (λ (h : Head). h.nozzles) c.self.view_is))
