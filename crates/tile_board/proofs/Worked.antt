-- What a tile gives once it is worked.
use Rattle.std.proofs.Common.{◌≡◌, ℕ, ◌<◌, sym, subst}
use Rattle.diffusion_kernel.specs.declared.tables.Kernel.{Kernel}
use Rattle.dot_planes.specs.Tables.{AmountTable}
use Rattle.dot_planes.specs.declared.amounts.TileRows.{Ghosts}
use Rattle.tile_shape.specs.declared.tiles.Place.{Place}
use Rattle.tile_border.specs.Works.{HasInks, Works}
use Rattle.tile_border.specs.declared.task.Task.{Task}
use Rattle.tile_border.specs.declared.task.Done.{Done}
use Rattle.tile_border.specs.Tiles.{AreDone}
use Rattle.tile_border.proofs.Given.{worked-done}
use Rattle.tile_board.specs.declared.kinds.Board.{Board}
use Rattle.tile_board.specs.Board.{slab}
use Rattle.tile_board.specs.Slabs.{amounts_of, top_edges}
use Rattle.tile_border.specs.Given.{gave, handed}
use Rattle.tile_board.specs.Tasks.{IsDoneOf, IsTaskOf}

pub worked : {A : Type 0} {G : Ghosts A} (b : Board A G) (task : Task) (done : Done) → IsTaskOf (slab b) task → done.place ≡ task.place
    → HasInks (G.table b.rows.now).inks (gave done)
    → ((i : ℕ) → i < (G.table b.rows.now).inks → Works b.kernel (G.table b.rows.now) task.place i (handed task) (gave done)) → IsDoneOf (slab b) done
worked b task done is place inks works =
    let Inks : AmountTable → Type 0 = λ rows. HasInks rows.inks (gave done) in
    let AllWork : AmountTable → Type 0 = λ rows. (i : ℕ) → i < rows.inks → Works b.kernel rows task.place i (handed task) (gave done) in
    let KernelWorks : Kernel → Type 0 =
    λ k. (i : ℕ) → i < (amounts_of (slab b)).inks → Works k (amounts_of (slab b)) task.place i (handed task) (gave done) in
    let At : Place → Type 0 = λ p. AreDone (slab b).kernel (amounts_of (slab b)) (top_edges (slab b)) p (gave done) in
    record {
      inks = subst Inks (sym b.made_for.0) inks;
      done = subst At (sym place)
          (worked-done (slab b).kernel (amounts_of (slab b)) (top_edges (slab b)) task.place (handed task) (gave done)
          (subst KernelWorks (sym b.made_for.1) (subst AllWork (sym b.made_for.0) works)) is.ready);
    }
