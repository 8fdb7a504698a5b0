use Rattle.std.proofs.Common.{[], ◌∙◌, arith}
use Rattle.std.proofs.lemmas.List.{ext_get_or}
use Rattle.tile_board.proofs.receives.copy_edge.Goals as goal

pub returns : goal.returns
returns c =
    ext_get_or [] c.loop-ink.to c.args.from.now (c.loop-ink.invariant.len ∙ c.requires)
    (λ i inside.
    c.loop-ink.invariant.same i
    (let h = c.loop-ink.invariant.len in let k = c.requires in let l = c.inks-ink-end.ensures.is in
    let m = c.loop-ink-test.false in omega arith))
