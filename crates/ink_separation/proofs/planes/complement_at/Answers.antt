use Rattle.std.proofs.Common.{◌+◌, ◌-◌, ◌*◌, ◌∙◌, arith, get_or, length-set, refl}
use Rattle.ink_separation.proofs.Filled.{filled_more}
use Rattle.ink_separation.proofs.planes.complement_at.Goals as goal

pub loop-r-preserved : goal.loop-r-preserved
loop-r-preserved c =
    record {
      len = length-set c.loop-r.values _ _ ∙ c.loop-r.invariant.len;
      filled = filled_more c.loop-r.values c.loop-r.r _ (λ k. 255 - get_or c.args.columns.now (32 * (3 * c.args.o + c.args.colour) + k) 0) (omega (arith, c.loop-r.invariant.len)) refl
          c.loop-r.invariant.filled;
    }
