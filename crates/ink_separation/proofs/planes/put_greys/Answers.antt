use Rattle.std.proofs.Common.{◌∙◌, ap, get_or, sym}
use Rattle.std.proofs.lemmas.List.{get_or-take}
use Rattle.ink_separation.specs.Columns.{grey_in}
use Rattle.ink_separation.proofs.planes.put_greys.Goals as goal

pub returns-else-light : goal.returns-else-light
returns-else-light c = λ n low.
    ap (λ xs. get_or xs n 0) c.copy_from_slice.ensures.after ∙ get_or-take 2048 c.args.columns.now n 0 low
    ∙ ap (λ light. grey_in light (get_or c.args.columns.now n 0)) (sym c.if-light.false)
