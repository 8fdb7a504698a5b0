use Rattle.std.proofs.Common.{◌≡◌, ◌+◌, ◌<◌, ◌≤◌, replicate}
use Rattle.page_halftoner.specs.Halftones.{EndsWith, IsSameRows, PutsLines}
use Rattle.page_halftoner.proofs.filler.Filler.put.Given as goal

abbrev pub invariant-loop-repeat : goal.invariant-loop-repeat
invariant-loop-repeat l = record {
  page : IsSameRows l.fn.self l.self;
  few : l.repeat ≤ l.repeats;
  count : l.self.count ≡ l.fn.self.count + l.repeat;
  last : 0 < l.repeat → EndsWith l.self l.line;
  lines : PutsLines l.fn.self l.self (replicate l.repeat l.line);
}
