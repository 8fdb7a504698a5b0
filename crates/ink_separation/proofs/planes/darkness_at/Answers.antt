use Rattle.std.proofs.Common.{◌∙◌, arith, length-set}
use Rattle.pwg_definitions.specs.declared.pages.Kind.TheVariants.{Rgb8}
use Rattle.separation_definitions.specs.Amounts.{colour_of, darkness}
use Rattle.ink_separation.specs.Columns.{pixel_in}
use Rattle.ink_separation.proofs.Filled.{filled_more}
use Rattle.ink_separation.proofs.planes.darkness_at.Goals as goal

pub loop-r-preserved : goal.loop-r-preserved
loop-r-preserved c =
    record {
      len = length-set c.loop-r.values _ _ ∙ c.loop-r.invariant.len;
      filled = filled_more c.loop-r.values c.loop-r.r _ (λ k. darkness (colour_of (pixel_in Rgb8 c.args.columns.now c.args.o k))) (omega (arith, c.loop-r.invariant.len)) c.grey_of.ensures
          c.loop-r.invariant.filled;
    }
