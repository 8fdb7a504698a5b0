use Rattle.tile_board.proofs.Worked.{worked}
use Rattle.tile_board.proofs.kinds.Board.work_in.Goals as goal

pub returns-clause-done : goal.returns-clause-done
returns-clause-done g c =
    worked c.args.self.now c.args.task c.work_in.result c.requires c.work_in.ensures.place c.work_in.ensures.inks c.work_in.ensures.works
