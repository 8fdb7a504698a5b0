use Rattle.std.proofs.Common.{ℕ, arith, ◌+◌, ◌∷◌, [], sym, subst, ◌<◌, length-append}
use Rattle.std.specs.Int.{IsGcd}
use Rattle.dead_nozzles.proofs.Taking.{one-more}
use Rattle.dead_nozzles.proofs.owners.pass_owners.Goals as goal

pub make-plan-requires-clause-coprime : goal.make-plan-requires-clause-coprime
make-plan-requires-clause-coprime c =
    subst (λ n. IsGcd n c.pitch.result 1) (sym c.nozzles.ensures)
    (subst (λ n. IsGcd c.args.head.now.nozzles n 1) (sym c.pitch.ensures) c.requires.head.coprime)

pub rows-preserved : goal.rows-preserved
rows-preserved c = grind (arith, length-append, one-more)
