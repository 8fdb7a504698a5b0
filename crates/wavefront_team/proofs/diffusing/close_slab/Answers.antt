use Rattle.tile_board.specs.Board.{slab}
use Rattle.wavefront_team.proofs.Slab.{slab_closed}
use Rattle.wavefront_team.proofs.diffusing.close_slab.Goals as goal

pub returns-clause-slab : goal.returns-clause-slab
returns-clause-slab g c =
    slab_closed (slab c.in_ok-board.board) c.close.result c.args.kernel (g.A.TileRows.table c.args.rows.now) c.args.top
    c.in_ok-board.ensures.amounts c.in_ok-board.ensures.kernel c.in_ok-board.ensures.top c.close.ensures.closes
