use Rattle.std.proofs.Common.{◌<◌}
use Rattle.tile_shape.specs.declared.tiles.Place.{Place}
use Rattle.board_core.specs.Numbers.{number_of}
use Rattle.board_core.specs.Steps.{IsReadyTile}
use Rattle.board_core.proofs.scheduler.Core.ready.Given as goal

abbrev pub invariant-loop-n : goal.invariant-loop-n
invariant-loop-n l = (q : Place) → number_of l.self.shape q < l.n → ¬ IsReadyTile l.self q
