use Rattle.std.proofs.Common.{replicate, length, ap, ◌∙◌}
use Rattle.std.proofs.lemmas.List.{length-replicate}
use Rattle.tile_board.specs.Board.{slab}
use Rattle.tile_board.specs.Slabs.{amounts_of}
use Rattle.tile_board.proofs.Handed.{task-of}
use Rattle.tile_board.proofs.kinds.Board.receive.Goals as goal

pub returns-clause-task : goal.returns-clause-task
returns-clause-task g c =
    let b = slab c.args.self.now in
    task-of b _ c.requires.tile c.receive_left-left.ensures.edge c.receive_above-above.ensures.edge c.receive_corner-corner.ensures.edge
    (ap length c.take_blanks-right.ensures.blanks.dots ∙ length-replicate (amounts_of b).inks (replicate 256 0))
