use Rattle.std.proofs.Common.{arith, length-set, get_or-set_other, get_or-set_same}
use Rattle.std.proofs.lemmas.Bool.{cases_eq}
use Rattle.ink_separation.proofs.Filled.{filled_more}
use Rattle.ink_separation.proofs.colours.complement.Goals as goal

pub loop-x-preserved : goal.loop-x-preserved
loop-x-preserved c = grind (arith, cases_eq, filled_more, get_or-set_other, get_or-set_same, length-set)
