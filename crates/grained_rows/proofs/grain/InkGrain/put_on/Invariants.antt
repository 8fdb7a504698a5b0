use Rattle.grained_rows.specs.Grained.{GrainsInks}
use Rattle.grained_rows.proofs.grain.InkGrain.put_on.Given as goal

abbrev pub invariant-loop-i : goal.invariant-loop-i
invariant-loop-i l = GrainsInks l.self l.first l.place l.i l.fn.out.inks l.out.inks
