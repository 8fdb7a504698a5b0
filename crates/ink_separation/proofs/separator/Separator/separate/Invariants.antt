use Rattle.std.proofs.Common.{◌*◌}
use Rattle.ink_separation.specs.Separators.{printer_in}
use Rattle.ink_separation.proofs.Columns.{HasColumns}
use Rattle.ink_separation.proofs.separator.Separator.separate.Given as goal

abbrev pub invariant-loop-n : goal.invariant-loop-n
invariant-loop-n l = HasColumns (printer_in l.self) l.self.kind l.line l.self.window.left l.at (64 * l.n) l.initial.out l.out
