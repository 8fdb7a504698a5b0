use Rattle.std.proofs.Common.{◌+◌, ◌*◌, get_or}
use Rattle.ink_separation.specs.Planes.{HasOffsets}
use Rattle.ink_separation.proofs.planes.put_numbers.Given as goal

abbrev pub invariant-loop-o : goal.invariant-loop-o
invariant-loop-o l = HasOffsets (λ o r. get_or l.columns (32 * (4 * o + l.place) + r) 0) l.o l.plane
