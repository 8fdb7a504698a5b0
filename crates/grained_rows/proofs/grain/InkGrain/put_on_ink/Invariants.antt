use Rattle.grained_rows.specs.Grained.{GrainsOffsets}
use Rattle.grained_rows.proofs.grain.InkGrain.put_on_ink.Given as goal

abbrev pub invariant-loop-o : goal.invariant-loop-o
invariant-loop-o l = GrainsOffsets l.self l.fn.ink l.first l.fn.place l.o l.fn.tile l.tile
