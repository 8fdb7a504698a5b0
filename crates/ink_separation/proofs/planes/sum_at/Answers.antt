use Rattle.std.proofs.Common.{◌+◌, ◌*◌, ◌∙◌, arith, get_or, length-set, min}
use Rattle.ink_separation.proofs.Filled.{filled_more}
use Rattle.ink_separation.proofs.planes.sum_at.Goals as goal

pub loop-r-preserved : goal.loop-r-preserved
loop-r-preserved c =
    record {
      len = length-set c.loop-r.values _ _ ∙ c.loop-r.invariant.len;
      filled = filled_more c.loop-r.values c.loop-r.r _ (λ k. min 255 (get_or c.args.columns.now (32 * (4 * c.args.o + c.args.place) + k) 0 + get_or c.args.columns.now (32 * (4 * c.args.o + 3) + k) 0)) (omega (arith, c.loop-r.invariant.len)) (omega (arith, c.saturating_add.ensures))
          c.loop-r.invariant.filled;
    }
