use Rattle.std.proofs.Common.{◌≡◌, ◌+◌, ◌/◌, length, replicate, Some, sym, ◌∙◌, ap}
use Rattle.base_definitions.specs.Packed.{packed}
use Rattle.page_definitions.specs.Shingled.{every_other}
use Rattle.page_laws.proofs.Fired.{packed-len}
use Rattle.shingle_plan.specs.Shingles.{fires_even}
use Rattle.page_writer.specs.Passes.{plane_row}
use Rattle.page_writer.proofs.Dotless.{packed-blank}
use Rattle.page_writer.proofs.EveryOther.{other-blank}
use Rattle.page_writer.proofs.OverPlanes.{plane_row-len}
use Rattle.page_writer.proofs.shingles.ShinglePlanHead.fired_row.Goals as goal

pub put_every_other-requires : goal.put_every_other-requires
put_every_other-requires c =
    let len : length c.row-in-Some.result.now ≡ (c.args.planes.now.width + 7) / 8 =
    ap length c.row-in-Some.ensures
    ∙ packed-len c.args.planes.now.width _ (plane_row-len c.args.planes.now c.args.place (Some c.in-Some.y)) in
    c.requires.room ∙ sym len

pub returns-in-None : goal.returns-in-None
returns-in-None c =
    let even = fires_even c.args.self.now.nozzles c.args.nozzle in
    c.blank_row.ensures ∙ ap (λ n. replicate ((n + 7) / 8) 0) c.width.ensures ∙ sym (packed-blank c.args.planes.now.width)
    ∙ ap packed (sym (other-blank even c.args.planes.now.width))
    ∙ ap (λ r. packed (every_other even (plane_row c.args.planes.now c.args.place r))) c.in-None.ensures
