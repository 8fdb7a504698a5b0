use Rattle.std.proofs.Common.{sym, subst}
use Rattle.diffusion_definitions.specs.Diffusion.{InRange}
use Rattle.diffusion_definitions.proofs.Ranges.{quotient_in}
use Rattle.diffusion_kernel.proofs.Sums.{quotient_is}
use Rattle.diffusion_kernel.proofs.rule.quotient.Goals as goal

pub returns-clause-floor : goal.returns-clause-floor
returns-clause-floor c = quotient_is c.args.parts c.args.divisor c.requires.some c.requires.most c.requires.parts

pub returns-clause-in_range : goal.returns-clause-in_range
returns-clause-in_range c =
    subst InRange (sym (returns-clause-floor c)) (quotient_in c.args.parts c.args.divisor c.requires.some c.requires.parts)
