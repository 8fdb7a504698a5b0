use Rattle.std.proofs.Common.{lit≤}
use Rattle.diffusion_definitions.proofs.Ranges.{weighted_in}
use Rattle.diffusion_kernel.specs.Rows.{at_places}
use Rattle.diffusion_kernel.specs.Tables.{table_from}
use Rattle.diffusion_kernel.proofs.Sums.{fits, near_sum, parts_as, plus, share_is}
use Rattle.diffusion_kernel.proofs.rule.weigh.Goals as goal

pub overflow_add-result-2 : goal.overflow_add-result-2
overflow_add-result-2 c =
    let two = plus c.parts.ensures.in_range c.parts-2.ensures.in_range (lit≤ tt) in
    fits (plus two c.row_parts.ensures.in_range (lit≤ tt)) (lit≤ tt)

pub overflow_add-result-3 : goal.overflow_add-result-3
overflow_add-result-3 c =
    let two = plus c.parts.ensures.in_range c.parts-2.ensures.in_range (lit≤ tt) in
    let three = plus two c.row_parts.ensures.in_range (lit≤ tt) in
    fits (plus three c.row_parts-2.ensures.in_range (lit≤ tt)) (lit≤ tt)

pub returns-clause-parts : goal.returns-clause-parts
returns-clause-parts c =
    near_sum
    c.parts.ensures.in_range c.parts-2.ensures.in_range c.row_parts.ensures.in_range c.row_parts-2.ensures.in_range
    (share_is _ _ _ (c.requires.same 0) c.parts.ensures.parts)
    (share_is _ _ _ (c.requires.same 1) c.parts-2.ensures.parts)
    c.row_parts.ensures.parts
    c.row_parts-2.ensures.parts

pub returns-clause-in_range : goal.returns-clause-in_range
returns-clause-in_range c =
    parts_as _ _ _ (returns-clause-parts c)
    (weighted_in (at_places (table_from c.args.shares.now)) c.args.errs.now.same c.args.errs.now.up1 c.args.errs.now.up2 c.requires.same c.requires.up1
    c.requires.up2)
