use Rattle.std.proofs.Common.{◌≡◌, ℕ, ◌∙◌, ◌++◌, ap, arith, drop, replicate, length, count_ones}
use Rattle.std.specs.List.{sum_by}
use Rattle.job_lister.proofs.Counts.{few-ones, filled-up, ones_of}
use Rattle.job_lister.proofs.counting.count_rest.Goals as goal

pub returns-clause-is : goal.returns-clause-is
returns-clause-is c =
    c.count_block.ensures.is
    ∙ ap (λ bytes. ones_of (bytes ++ drop (length c.args.rest.now) (replicate {A = ℕ} 64 0))) c.copy_from_slice.ensures.after
    ∙ filled-up c.args.rest.now (length c.args.rest.now) 64

pub returns-clause-most : goal.returns-clause-most
returns-clause-most c =
    let is : c.count_block.result ≡ sum_by count_ones c.args.rest.now = returns-clause-is c in
    omega (arith, is, few-ones c.args.rest.now (λ k. omega (arith, c.type_inv.rest k)))
