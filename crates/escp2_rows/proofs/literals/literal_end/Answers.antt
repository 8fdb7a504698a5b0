use Rattle.std.proofs.Common.{arith}
use Rattle.escp2_rows.proofs.Passing.{goes_apart, goes_begin, last_alone, longest_limit}
use Rattle.escp2_rows.proofs.literals.literal_end.Goals as goal

pub end_from-requires-clause-goes : goal.end_from-requires-clause-goes
end_from-requires-clause-goes c =
    let next = c.next_triple-first.ensures in
    goes_apart _ _ _ (goes_begin _) next.from next.within next.few
    (λ n on last. last_alone _ n _ last next.within (next.few n on (omega (arith, last))) (next.three c.if-first-le-MOST_BYTES.true))

pub returns-then-row : goal.returns-then-row
returns-then-row c =
    let next = c.next_triple-first.ensures in
    longest_limit _ (omega (arith, next.within, c.if-first-le-MOST_BYTES.false)) (λ n less. next.few n (omega arith) (omega (arith, less, c.if-first-le-MOST_BYTES.false)))
    c.if-row.true c.requires
