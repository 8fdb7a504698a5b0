use Rattle.std.proofs.Common.{length, rules, subst, sym}
use Rattle.diffusion_kernel.specs.Tables.{table_of}
use Rattle.dot_planes.specs.Tables.{AmountTable}
use Rattle.tile_lanes.specs.Done.{window_of}
use Rattle.tile_shape.specs.declared.tiles.Shape.{Shape}
use Rattle.wavefront_team.specs.Laying.{LaysTiles}
use Rattle.wavefront_team.specs.SoFar.{SoFar, dots_in}
use Rattle.wavefront_team.proofs.Slab.{laid_same, same_laid, slab_laid}
use Rattle.wavefront_team.proofs.diffusing.diffuse_beside.Goals.{then-team-eq1, else-team-eq1}
use Rattle.wavefront_team.proofs.diffusing.diffuse_beside.Goals as goal

pub returns-clause-slab : goal.returns-clause-slab
returns-clause-slab g c =
    let rows : AmountTable = g.A.TileRows.table c.args.rows.now in
    let closed = c.in_ok-closed.closed in
    let S : Shape → Type 0 = λ s.
    LaysTiles s c.args.at (length closed.dots.items) closed.dots.items (dots_in c.args.out.now) (dots_in c.keep.new.self) in
    let kept : S (window_of rows) = subst S c.shape.ensures.is
    (laid_same c.shape.result c.args.at (length closed.dots.items) closed.dots.items (dots_in c.args.out.now) _
    (dots_in c.keep.new.self) (search rules) c.keep.ensures) in
    let L : SoFar → Type 0 = λ d.
    LaysTiles (window_of rows) c.args.at (length closed.dots.items) closed.dots.items (dots_in c.args.out.now) (dots_in d) in
    let laid : L c.if-team-eq1.out = elim c.if-team-eq1.branch [
      | then-team-eq1 w ↦
          subst L (sym w.out-is) (same_laid (window_of rows) c.args.at (length closed.dots.items) closed.dots.items
          (dots_in c.args.out.now) (dots_in c.keep.new.self) _ c.requires.at kept w.lay.ensures.dots)
      | else-team-eq1 w ↦ subst L (sym w.out-is) kept
    ] in
    slab_laid (table_of c.args.kernel) rows c.args.top closed.bottom closed.dots.items c.args.at
    (dots_in c.args.out.now) (dots_in c.if-team-eq1.out) c.requires.inks c.in_ok-closed.ensures.slab laid
