use Rattle.std.proofs.Common.{List, length, subst}
use Rattle.diffusion_kernel.specs.Tables.{table_of}
use Rattle.dot_planes.specs.declared.tiles.TileDots.{TileDots}
use Rattle.tile_shape.specs.declared.tiles.Shape.{Shape}
use Rattle.wavefront_team.specs.Dots.{dots_of}
use Rattle.wavefront_team.specs.Laying.{LaysTiles}
use Rattle.wavefront_team.proofs.Slab.{slab_laid}
use Rattle.wavefront_team.proofs.diffusing.diffuse.Goals as goal

pub returns-clause-slab : goal.returns-clause-slab
returns-clause-slab g c =
    let closed = c.in_ok-closed.closed in
    let L : Shape → List TileDots → Type 0 = λ s tiles.
    LaysTiles s c.args.at (length tiles) tiles (dots_of c.args.out.now) (dots_of c.lay_tiles.new.out) in
    let T : List TileDots → Type 0 = λ tiles. L c.shape.result tiles in
    let S : Shape → Type 0 = λ s. L s closed.dots.items in
    slab_laid (table_of c.args.kernel) (g.A.TileRows.table c.args.rows.now) c.args.top closed.bottom closed.dots.items c.args.at
    (dots_of c.args.out.now) (dots_of c.lay_tiles.new.out) c.requires.inks c.in_ok-closed.ensures.slab
    (subst S c.shape.ensures.is (subst T c.as_slice.ensures.value c.lay_tiles.ensures))
