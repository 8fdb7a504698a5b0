use Rattle.std.proofs.Common.{ℕ, ap, arith, subst}
use Rattle.diffusion_kernel.specs.declared.tables.Kernel.{Kernel}
use Rattle.tile_lanes.specs.Done.{plane_with}
use Rattle.tile_lanes.specs.Lanes.{IsCleared}
use Rattle.tile_lanes.specs.Paces.{delay_of, pace_of}
use Rattle.tile_lanes.proofs.LaneCells.{bits_more, dots_right, step_filled, step_right}
use Rattle.tile_lanes.proofs.lanes.diffuse_steps.Goals as goal

pub loop-step-preserved : goal.loop-step-preserved
loop-step-preserved c =
    let v = c.loop-step.invariant in
    let k : Kernel = c.args.kernel in
    let column : ℕ = c.args.place.c in
    let band : ℕ = c.args.place.j in
    let t : ℕ = c.loop-step.step in
    let plane = λ (f : ℕ → ℕ → ℕ). plane_with c.args.shape f in
    let step = c.diffuse_step.ensures.step in
    let clear = λ (f : ℕ → ℕ → ℕ). subst (λ q. IsCleared q (plane f) column band t c.diffuse_step.new.field c.diffuse_step.new.dots
    c.clear_missing.new.field c.clear_missing.new.dots) c.of-pace.ensures (c.clear_missing.ensures.cleared f) in
    let delay = λ (r : ℕ). ap (λ q. delay_of q r) c.of-pace.ensures in
    record {
      in_range = c.clear_missing.ensures.in_range;
      filled = λ f e s start. step_filled (pace_of k) e column band t _
          (step_right k (plane f) e column band t s.solves s.has (v.filled f e s start) step (clear f));
      dots = λ f e s start.
          dots_right k (plane f) e column band t s.has (v.filled f e s start) step (clear f) (v.dots f e s start);
      bits = λ f e s start. bits_more k (plane f) e column band t _ _ _
          (dots_right k (plane f) e column band t s.has (v.filled f e s start) step (clear f) (v.dots f e s start))
          (v.bits f e s start)
          (λ r o row small now. let is = delay r in c.put_words.ensures.there r o row small (omega (arith, is, now)))
          (λ r o row small other. let is = delay r in c.put_words.ensures.kept r o row small (omega (arith, is, other)));
    }

pub returns-clause-filled : goal.returns-clause-filled
returns-clause-filled c = grind arith

pub returns-clause-bits : goal.returns-clause-bits
returns-clause-bits c = grind arith
