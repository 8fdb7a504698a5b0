-- Amounts by steps.
use Rattle.std.proofs.Common.{ℕ, arith, List}
use Rattle.dot_planes.specs.Gathered.{HasPixels}
use Rattle.tile_lanes.specs.Done.{plane_with}
use Rattle.tile_lanes.specs.Lanes.{HasAmounts, HasSteps}
use Rattle.tile_lanes.specs.declared.lanes.pace.Pace.{Pace}
use Rattle.tile_lanes.proofs.RowCells.{place_inside}
use Rattle.tile_shape.specs.declared.tiles.Place.{Place}
use Rattle.tile_shape.specs.declared.tiles.Shape.{Shape}

-- The steps of a tile that has amounts have them.
pub steps_have : (pace : Pace) (s : Shape) (amount : ℕ → ℕ → ℕ) (place : Place) (tile amounts : List ℕ)
    → HasPixels s amount place tile → HasSteps pace tile amounts → HasAmounts pace (plane_with s amount) place.c place.j 32 amounts
steps_have pace s amount place tile amounts has steps = grind (arith, place_inside)
