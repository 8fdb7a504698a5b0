use Rattle.std.proofs.Common.{subst}
use Rattle.std.specs.Int.{IsGcd}
use Rattle.page_tests.proofs.weaving.plan_of.Goals as goal

pub make-requires-clause-coprime : goal.make-requires-clause-coprime
make-requires-clause-coprime c =
    subst (λ g. IsGcd c.args.nozzles c.args.pitch g) c.if-greatest_common_divisor-ne1.false c.greatest_common_divisor.ensures
