-- Tiles as they are handed out, and as they come back.
use Rattle.tile_shape.specs.Geometry.{IsTile}
use Rattle.tile_border.specs.Given.{gave, handed}
use Rattle.tile_border.specs.Works.{HasInks}
use Rattle.tile_border.specs.declared.task.Task.{Task}
use Rattle.tile_border.specs.declared.task.Done.{Done}
use Rattle.tile_border.specs.Tiles.{AreDone, AreReady}
use Rattle.board_steps.specs.declared.rule.Slab.{Slab}
use Rattle.tile_board.specs.Slabs.{amounts_of, shape_of, top_edges}

-- A tile of the slab, with the edges that row-by-row diffusion hands it, in each ink.
pub record IsTaskOf (b : Slab) (t : Task) : Type 0 where
  pub tile : IsTile (shape_of b) t.place
  pub inks : HasInks (amounts_of b).inks (handed t)
  pub ready : AreReady b.kernel (amounts_of b) (top_edges b) t.place (handed t)

-- A tile with the edges and the dots that row-by-row diffusion gives it, in each ink.
pub record IsDoneOf (b : Slab) (d : Done) : Type 0 where
  pub inks : HasInks (amounts_of b).inks (gave d)
  pub done : AreDone b.kernel (amounts_of b) (top_edges b) d.place (gave d)
