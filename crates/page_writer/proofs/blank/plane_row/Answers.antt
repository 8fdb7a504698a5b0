use Rattle.std.proofs.Common.{◌+◌, ◌/◌, ap, ◌∙◌, replicate, sym}
use Rattle.base_definitions.specs.Packed.{packed}
use Rattle.page_writer.specs.Passes.{plane_row}
use Rattle.page_writer.proofs.Dotless.{packed-blank}
use Rattle.page_writer.proofs.blank.plane_row.Goals as goal

pub returns-in-None : goal.returns-in-None
returns-in-None c =
    c.blank_row.ensures ∙ ap (λ n. replicate ((n + 7) / 8) 0) c.width.ensures ∙ sym (packed-blank c.args.planes.now.width)
    ∙ ap (λ r. packed (plane_row c.args.planes.now c.args.place r)) (sym c.in-None.is)
