use Rattle.std.proofs.Common.{◌≡◌, ℕ, ◌/◌, ◌%◌, ◌≤◌, List, drop, arith, ap, ◌∙◌}
use Rattle.std.proofs.lemmas.List.{take_rest}
use Rattle.escp2_definitions.specs.Least.{equal_at}
use Rattle.escp2_rows.specs.Passing.{run_of}
use Rattle.escp2_laws.proofs.Fewest.{equal_is}
use Rattle.escp2_rows.proofs.Passing.{ends_run, free_end, goes_three, run, run_within, stop_three}
use Rattle.escp2_rows.proofs.literals.behind_run.Goals as goal

pub returns-then-equal-gt-MOST_PASSED-clause-ends : goal.returns-then-equal-gt-MOST_PASSED-clause-ends
returns-then-equal-gt-MOST_PASSED-clause-ends c =
    let is = c.equal_run-equal.ensures ∙ ap run_of (take_rest c.args.row.now c.args.three) in
    ends_run (c.equal_run-equal.result / 128) 1 (c.equal_run-equal.result % 128) _ _ (omega (arith, c.requires.within)) (omega (arith, is)) (omega arith)
    (omega (arith, c.if-equal-gt-MOST_PASSED.true))

pub behind_pairs-place-requires : goal.behind_pairs-place-requires
behind_pairs-place-requires c =
    omega (
      arith,
      c.requires.three,
      c.requires.within,
      equal_is (drop c.args.three c.args.row.now),
      run_within c.args.row.now c.args.three (omega (arith, c.requires.within)),
    )

-- the run is of three bytes
three : (row bytes : List ℕ) (at n : ℕ) → n ≡ run_of bytes → bytes ≡ drop at row → 3 ≤ equal_at (drop at row) → n ≤ 3 → run row at ≡ 3
three row bytes at n counted are many few = omega (arith, counted, ap run_of are, many, few, equal_is (drop at row))

pub returns-then-place-row-clause-ends : goal.returns-then-place-row-clause-ends
returns-then-place-row-clause-ends c =
    stop_three _ _ _ (omega (arith, c.requires.within))
    (three c.args.row.now _ c.args.three _ c.equal_run-equal.ensures (take_rest c.args.row.now c.args.three) c.requires.three c.if-equal-gt-MOST_PASSED-2.false)
    c.behind_pairs-place.ensures (free_end _ _ c.if-place-row.true)

pub returns-then-next-eq1-clause-goes : goal.returns-then-next-eq1-clause-goes
returns-then-next-eq1-clause-goes c =
    goes_three _ _ _ c.requires.goes
    (three c.args.row.now _ c.args.three _ c.equal_run-equal.ensures (take_rest c.args.row.now c.args.three) c.requires.three c.if-equal-gt-MOST_PASSED-2.false)
    c.behind_pairs-place.ensures (omega (arith, c.behind_pairs-place.ensures.within, c.if-place-row.false))
    (omega (arith, c.equal_run-next.ensures ∙ ap run_of (take_rest c.args.row.now c.behind_pairs-place.result), c.if-next-eq1.true))

pub returns-then-next-ge-MOST_PASSED-clause-ends : goal.returns-then-next-ge-MOST_PASSED-clause-ends
returns-then-next-ge-MOST_PASSED-clause-ends c =
    let is = c.equal_run-next.ensures ∙ ap run_of (take_rest c.args.row.now c.behind_pairs-place.result) in
    stop_three _ _ _ (omega (arith, c.requires.within))
    (three c.args.row.now _ c.args.three _ c.equal_run-equal.ensures (take_rest c.args.row.now c.args.three) c.requires.three c.if-equal-gt-MOST_PASSED-2.false)
    c.behind_pairs-place.ensures
    (ends_run (c.equal_run-next.result / 128) 0 (c.equal_run-next.result % 128) _ _ c.behind_pairs-place.ensures.within (omega (arith, is)) (omega arith)
    (omega (arith, c.if-next-ge-MOST_PASSED.true)))
