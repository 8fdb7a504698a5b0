use Rattle.std.proofs.Common.{arith}
use Rattle.ink_separation.proofs.colours.colours_of.Goals as goal

pub returns-clause-first : goal.returns-clause-first
returns-clause-first c = grind arith

pub returns-clause-others : goal.returns-clause-others
returns-clause-others c = grind arith
