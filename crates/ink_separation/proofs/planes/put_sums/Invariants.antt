use Rattle.std.proofs.Common.{◌+◌, ◌*◌, get_or, min}
use Rattle.ink_separation.specs.Planes.{HasOffsets}
use Rattle.ink_separation.proofs.planes.put_sums.Given as goal

abbrev pub invariant-loop-o : goal.invariant-loop-o
invariant-loop-o l = HasOffsets (λ o r. min 255 (get_or l.columns (32 * (4 * o + l.place) + r) 0 + get_or l.columns (32 * (4 * o + 3) + r) 0)) l.o l.plane
