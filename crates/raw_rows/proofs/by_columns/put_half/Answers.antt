use Rattle.raw_rows.proofs.Columns.{half_put}
use Rattle.raw_rows.proofs.by_columns.put_half.Goals as goal

pub returns : goal.returns
returns c = half_put _ _ c.requires.first c.square_of-rows.ensures.rows c.transposed.ensures.lanes c.put_square.ensures
