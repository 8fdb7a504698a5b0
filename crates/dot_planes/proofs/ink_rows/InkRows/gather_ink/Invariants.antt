use Rattle.dot_planes.specs.Gathered.{HasRows, shape_of}
use Rattle.dot_planes.specs.Tables.{amount}
use Rattle.dot_planes.proofs.ink_rows.InkRows.gather_ink.Given as goal

abbrev pub invariant-loop-r : goal.invariant-loop-r
invariant-loop-r l = HasRows (shape_of l.self) (amount l.self l.ink) l.place l.r l.tile
