use Rattle.std.proofs.Common.{ℕ}
use Rattle.diffusion_definitions.specs.Diffusion.{Errors}
use Rattle.tile_lanes.specs.Done.{plane_with}
use Rattle.tile_lanes.specs.Held.{HeldInRange}
use Rattle.tile_lanes.specs.Lanes.{HasBits, HasLastDots, IsFilled, SolvesSteps}
use Rattle.tile_lanes.specs.Paces.{pace_of}
use Rattle.tile_lanes.proofs.lanes.diffuse_steps.Given as goal

abbrev pub invariant-loop-step : goal.invariant-loop-step
invariant-loop-step l = record {
  in_range : HeldInRange l.field;
  filled : (amount : ℕ → ℕ → ℕ) (e : Errors) → SolvesSteps l.kernel l.shape l.place l.amounts amount e
      → IsFilled (pace_of l.kernel) e l.place.c l.place.j 8 l.initial.field
      → IsFilled (pace_of l.kernel) e l.place.c l.place.j l.step l.field;
  dots : (amount : ℕ → ℕ → ℕ) (e : Errors) → SolvesSteps l.kernel l.shape l.place l.amounts amount e
      → IsFilled (pace_of l.kernel) e l.place.c l.place.j 8 l.initial.field
      → HasLastDots l.kernel (plane_with l.shape amount) e l.place.c l.place.j l.step l.dots;
  bits : (amount : ℕ → ℕ → ℕ) (e : Errors) → SolvesSteps l.kernel l.shape l.place l.amounts amount e
      → IsFilled (pace_of l.kernel) e l.place.c l.place.j 8 l.initial.field
      → HasBits l.kernel (plane_with l.shape amount) e l.place.c l.place.j l.step l.bits;
}
