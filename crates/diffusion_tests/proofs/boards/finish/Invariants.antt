use Rattle.std.proofs.Common.{◌≡◌, ◌<◌, ◌≤◌, None}
use Rattle.board_steps.specs.Rule.{times}
use Rattle.tile_shape.specs.Geometry.{IsTile}
use Rattle.tile_shape.specs.declared.tiles.Place.{Place}
use Rattle.tile_board.specs.Board.{IsPassOf, slab, view}
use Rattle.tile_board.specs.Slabs.{number_in, shape_of}
use Rattle.diffusion_tests.proofs.boards.finish.Given as goal

abbrev pub invariant-loop-n : goal.invariant-loop-n
invariant-loop-n l = record {
  pass : IsPassOf l.board l.p;
  idle : (view l.p).held ≡ None;
  alone : (view l.p).parts ≡ 256;
  posted : (t : Place) → IsTile (shape_of (slab l.board)) t → number_in (slab l.board) t < l.n
      → 1 ≤ times (number_in (slab l.board) t) (view l.p).mine;
}
