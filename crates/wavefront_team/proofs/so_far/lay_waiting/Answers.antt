use Rattle.std.proofs.Common.{length, subst, sym, List, Option, None}
use Rattle.dot_planes.specs.declared.tiles.TileDots.{TileDots}
use Rattle.wavefront_team.specs.Dots.{IsSameDots, dots_of}
use Rattle.wavefront_team.specs.Laying.{LaysTiles}
use Rattle.wavefront_team.specs.SoFar.{CanBeLaid, dots_so_far}
use Rattle.wavefront_team.specs.declared.waiting.Waiting.{Waiting}
use Rattle.wavefront_team.proofs.SoFar.{waiting_laid}
use Rattle.wavefront_team.proofs.so_far.lay_waiting.Goals as goal

pub returns-in-Some : goal.returns-in-Some
returns-in-Some c =
    let w : Waiting = c.in-Some.slab in
    let O : Option Waiting → Type 0 = λ o. IsSameDots (dots_so_far c.args.planes.now o) (dots_so_far c.lay_tiles.new.out None) in
    let L : List TileDots → Type 0 = λ tiles.
    LaysTiles w.shape w.first (length tiles) tiles (dots_of c.args.planes.now) (dots_of c.lay_tiles.new.out) in
    let fits : CanBeLaid c.args.planes.now w = rw c.in-Some.is at c.requires in
    subst O (sym c.in-Some.is)
    (waiting_laid c.args.planes.now c.lay_tiles.new.out w fits (subst L c.as_slice.ensures.value c.lay_tiles.ensures))
