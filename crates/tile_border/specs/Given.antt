-- What work gives for a task.
use Rattle.std.specs.Prelude.{◌≡◌, ℕ, ◌<◌}
use Rattle.diffusion_kernel.specs.declared.tables.Kernel.{Kernel}
use Rattle.dot_planes.specs.Tables.{AmountTable}
use Rattle.tile_border.specs.Works.{Border, HasInks, Works}
use Rattle.tile_border.specs.declared.task.Done.{Done}
use Rattle.tile_border.specs.declared.task.Task.{Task}

-- the edges that a task has, and the dots that it is to fill
abbrev pub handed : Task → Border
handed task = record { side = task.left; bottom = task.above; corner = task.corner; bits = task.dots.bits }

-- the edges and the dots of a tile that was worked
abbrev pub gave : Done → Border
gave done = record { side = done.right; bottom = done.bottom; corner = done.corner; bits = done.dots.bits }

-- Each ink of a tile of these rows is diffused.
pub record IsWorkOf (k : Kernel) (rows : AmountTable) (task : Task) (done : Done) : Type 0 where
  pub place : done.place ≡ task.place
  pub dots_place : done.dots.place ≡ task.place
  pub inks : HasInks rows.inks (gave done)
  pub works : (i : ℕ) → i < rows.inks → Works k rows task.place i (handed task) (gave done)
