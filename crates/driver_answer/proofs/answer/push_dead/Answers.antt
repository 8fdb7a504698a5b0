use Rattle.std.proofs.Common.{append_assoc}
use Rattle.driver_answer.proofs.answer.push_dead.Goals as goal

pub returns-in-NoSuchNozzle-clause-bytes : goal.returns-in-NoSuchNozzle-clause-bytes
returns-in-NoSuchNozzle-clause-bytes c =
    rw (c.push_carried.ensures.bytes, c.push_str.ensures.bytes, c.in-NoSuchNozzle.is, c.from.ensures) (simp append_assoc)
