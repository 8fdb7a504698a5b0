use Rattle.tile_border.proofs.Worked.{record_of}
use Rattle.tile_border.proofs.laws.what_work_gives_is_a_record.Goals as goal

pub returns : goal.returns
returns c = record_of c.what_is_handed_is_right.ensures
