use Rattle.page_writer.proofs.Outlets.{last_behind}
use Rattle.page_writer.proofs.strokes.put_end.Goals as goal

pub returns-clause-part : goal.returns-clause-part
returns-clause-part g c = last_behind _ _ _ c.in_ok-make_room.ensures.ok c.append_end.ensures.items c.flush.ensures.part
