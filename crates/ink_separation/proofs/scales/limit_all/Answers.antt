use Rattle.std.proofs.Common.{ℕ, ◌*◌, ◌/◌, ◌∙◌, ap, arith, get_or, get_or-set_other, length-set}
use Rattle.ink_separation.proofs.Filled.{filled_more}
use Rattle.ink_separation.proofs.scales.limit_all.Goals as goal

pub loop-n-preserved : goal.loop-n-preserved
loop-n-preserved c =
    let n : ℕ = c.loop-n.n in
    let plane = c.loop-n.plane in
    let limit : ℕ = c.args.limit in
    record {
      len = length-set plane _ _ ∙ c.loop-n.invariant.len;
      filled = filled_more plane n _ (λ k. get_or c.args.plane.now k 0 * limit / 255) (omega (arith, c.loop-n.invariant.len))
          (c.part.ensures ∙ ap (λ a. a * limit / 255) (c.loop-n.invariant.rest n (omega arith)))
          c.loop-n.invariant.filled;
      rest = λ k after. get_or-set_other plane n k _ 0 (omega arith) ∙ c.loop-n.invariant.rest k (omega arith);
    }
