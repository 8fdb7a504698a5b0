use Rattle.std.proofs.Common.{◌≡◌, None, Option, Some, ap, arith, length, subst, sym, ◌∙◌}
use Rattle.dot_planes.specs.Tables.{DotTable}
use Rattle.wavefront_team.specs.Dots.{IsSameDots}
use Rattle.wavefront_team.specs.SoFar.{CanBeLaid, SoFar, dots_in, dots_so_far}
use Rattle.wavefront_team.specs.declared.waiting.Waiting.{Waiting}
use Rattle.wavefront_team.proofs.Slab.{laid_same}
use Rattle.wavefront_team.proofs.SoFar.{slab_waits}
use Rattle.wavefront_team.proofs.so_far.DotsSoFar.keep.Goals as goal

pub returns : goal.returns
returns c =
    let t : DotTable = c.self.inside.planes in
    let w : Waiting = record { shape = c.args.shape; first = c.args.first; tiles = c.args.tiles } in
    let none : c.self.inside.waiting ≡ None = ap (λ (d : SoFar). d.waiting) c.self.view_is ∙ c.lay.ensures.laid in
    let width : t.width ≡ c.lay.new.self.planes.width = ap (λ (d : SoFar). d.planes.width) c.self.view_is in
    let rows : t.rows ≡ c.lay.new.self.planes.rows = ap (λ (d : SoFar). d.planes.rows) c.self.view_is in
    let fits : CanBeLaid t w = record {
      shape = c.requires.shape;
      tiles = c.requires.tiles;
      width = width ∙ c.lay.ensures.dots.size.width ∙ c.requires.width;
      rows = omega (arith, c.lay.ensures.dots.size.rows, rows, c.requires.rows);
    } in
    let O : Option Waiting → Type 0 = λ o. IsSameDots (dots_in c.args.self.now) (dots_so_far t o) in
    let V : SoFar → Type 0 = λ d. IsSameDots (dots_in c.args.self.now) (dots_in d) in
    laid_same c.args.shape c.args.first (length c.args.tiles.items) c.args.tiles.items
    (dots_in c.args.self.now) (dots_so_far t None) (dots_so_far t (Some w))
    (subst O none (subst V (sym c.self.view_is) c.lay.ensures.dots)) (slab_waits t w fits)
