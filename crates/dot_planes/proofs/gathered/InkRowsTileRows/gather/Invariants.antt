use Rattle.dot_planes.specs.Gathered.{HasInks}
use Rattle.dot_planes.proofs.gathered.InkRowsTileRows.gather.Given as goal

abbrev pub invariant-loop-ink : goal.invariant-loop-ink
invariant-loop-ink l = HasInks l.self l.place l.ink l.out.inks
