use Rattle.std.proofs.Common.{lit≤}
use Rattle.diffusion_kernel.proofs.Sums.{fits, kept, plus, row_sum, share_is}
use Rattle.diffusion_kernel.proofs.rule.row_parts.Goals as goal

pub overflow_add-result-2 : goal.overflow_add-result-2
overflow_add-result-2 c =
    let two = plus c.parts.ensures.in_range c.parts-2.ensures.in_range (lit≤ tt) in
    fits (plus two c.parts-3.ensures.in_range (lit≤ tt)) (lit≤ tt)

pub overflow_add-result-3 : goal.overflow_add-result-3
overflow_add-result-3 c =
    let two = plus c.parts.ensures.in_range c.parts-2.ensures.in_range (lit≤ tt) in
    let three = plus two c.parts-3.ensures.in_range (lit≤ tt) in
    fits (plus three c.parts-4.ensures.in_range (lit≤ tt)) (lit≤ tt)

pub overflow_add-result-4 : goal.overflow_add-result-4
overflow_add-result-4 c =
    let two = plus c.parts.ensures.in_range c.parts-2.ensures.in_range (lit≤ tt) in
    let three = plus two c.parts-3.ensures.in_range (lit≤ tt) in
    let four = plus three c.parts-4.ensures.in_range (lit≤ tt) in
    fits (plus four c.parts-5.ensures.in_range (lit≤ tt)) (lit≤ tt)

pub returns-clause-parts : goal.returns-clause-parts
returns-clause-parts c =
    row_sum
    c.parts.ensures.in_range c.parts-2.ensures.in_range c.parts-3.ensures.in_range c.parts-4.ensures.in_range c.parts-5.ensures.in_range
    (share_is _ _ _ (c.requires 4) c.parts.ensures.parts)
    (share_is _ _ _ (c.requires 3) c.parts-2.ensures.parts)
    (share_is _ _ _ (c.requires 2) c.parts-3.ensures.parts)
    (share_is _ _ _ (c.requires 1) c.parts-4.ensures.parts)
    (share_is _ _ _ (c.requires 0) c.parts-5.ensures.parts)

pub returns-clause-in_range : goal.returns-clause-in_range
returns-clause-in_range c =
    let two = plus c.parts.ensures.in_range c.parts-2.ensures.in_range (lit≤ tt) in
    let three = plus two c.parts-3.ensures.in_range (lit≤ tt) in
    let four = plus three c.parts-4.ensures.in_range (lit≤ tt) in
    kept (plus four c.parts-5.ensures.in_range (lit≤ tt)) (lit≤ tt)
