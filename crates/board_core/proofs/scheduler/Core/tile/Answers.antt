use Rattle.std.proofs.Common.{◌≡◌, ◌<◌, ◌∙◌, ap, arith, get_or, length}
use Rattle.std.proofs.lemmas.List.{get_or_read}
use Rattle.board_core.specs.Numbers.{number_of}
use Rattle.board_core.specs.States.{CoreState, fresh, tile_at}
use Rattle.board_core.proofs.scheduler.Core.tile.Goals as goal

pub returns : goal.returns
unfolding tile_at
returns c =
    let count : length c.self.inside.tiles.items ≡ length c.args.self.now.tiles = ap (λ (core : CoreState). length core.tiles)
    c.self.view_is in
    let room : c.number.result < length c.self.inside.tiles.items = omega (arith, c.number.ensures.inside) in
    get_or_read c.self.inside.tiles.items c.number.result c.index.result.now room c.index.ensures fresh
    ∙ ap (λ n. get_or c.self.inside.tiles.items n fresh) c.number.ensures.is
    ∙ ap (λ (core : CoreState). get_or core.tiles (number_of c.args.self.now.shape c.args.place) fresh) c.self.view_is
