use Rattle.std.proofs.Common.{append_assoc}
use Rattle.driver_answer.proofs.answer.push_check.Goals as goal

pub returns-in-NotCoprime-clause-bytes : goal.returns-in-NotCoprime-clause-bytes
returns-in-NotCoprime-clause-bytes c =
    rw (
      c.push_carried.ensures.bytes,
      c.push_str.ensures.bytes,
      c.check_name.ensures.name,
      c.in-NotCoprime.is,
      c.from.ensures,
    )
    (simp append_assoc)
