use Rattle.std.proofs.Common.{◌≡◌, ◌*◌, ap, arith, length, subst, sym}
use Rattle.tile_shape.specs.Geometry.{IsTile}
use Rattle.tile_shape.specs.declared.tiles.Shape.{Shape}
use Rattle.board_core.specs.States.{CoreState}
use Rattle.board_core.proofs.Numbers.{number_inside}
use Rattle.board_core.proofs.scheduler.Core.number.Goals as goal

pub returns-clause-inside : goal.returns-clause-inside
returns-clause-inside c =
    let shape : c.self.inside.shape ≡ c.args.self.now.shape = ap (λ (core : CoreState). core.shape) c.self.view_is in
    let count : length c.self.inside.tiles.items ≡ length c.args.self.now.tiles = ap (λ (core : CoreState). length core.tiles)
    c.self.view_is in
    let Q : Shape → Type 0 = λ s. IsTile s c.args.place in
    omega (
      arith,
      count,
      c.self.invariant.whole.count,
      ap (λ n. c.args.place.j * n) c.columns.ensures,
      number_inside c.self.inside.shape c.args.place (subst Q (sym shape) c.requires),
    )
