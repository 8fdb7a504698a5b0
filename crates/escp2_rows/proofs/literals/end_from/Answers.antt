use Rattle.std.proofs.Common.{◌≡◌, ℕ, ◌<◌, ◌≤◌, List, drop, length, arith}
use Rattle.escp2_definitions.specs.Least.{equal_at}
use Rattle.escp2_rows.specs.Literals.{IsLongest}
use Rattle.escp2_rows.specs.Passing.{GoesOn}
use Rattle.escp2_rows.proofs.Passing.{end_some, goes_apart, last_alone, longest_stop, stop_end}
use Rattle.escp2_rows.proofs.literals.end_from.Goals.{then-runs-test+else-three-row, else-runs-test}
use Rattle.escp2_rows.proofs.literals.end_from.Goals as goal

pub returns-in-Ends : goal.returns-in-Ends
returns-in-Ends c =
    longest_stop _ _ (c.runs.invariant.goes c.runs-test.true) c.in-Ends.ensures.ends c.runs-test.true
    (end_some _ _ c.requires.alone (c.runs.invariant.found c.runs-test.true)) c.requires.alone

pub runs-preserved : goal.runs-preserved
runs-preserved c =
    let next = c.next_triple-three.ensures in
    record {
      goes = λ near. goes_apart _ _ _ c.in-Goes.ensures.goes next.from next.within next.few
          (λ n on last. last_alone _ n _ last next.within (next.few n on (omega (arith, last))) (next.three near));
      found = next.three;
    }

at_end : (row : List ℕ) (e : ℕ) → GoesOn row e → equal_at row ≡ 1 → (e < length row → 3 ≤ equal_at (drop e row)) → length row ≤ e → e ≤ 128 → IsLongest row e
at_end row e goes alone three end few = longest_stop row e goes (stop_end row e end) few (end_some row e alone three) alone

pub returns-then-three-le-MOST_BYTES : goal.returns-then-three-le-MOST_BYTES
returns-then-three-le-MOST_BYTES c = elim c.runs-test.branch [
  | then-runs-test+else-three-row w ↦
      let few = c.if-three-le-MOST_BYTES.true in
      at_end _ _ (c.runs.invariant.goes few) c.requires.alone (c.runs.invariant.found few) w.if-three-row.false few
  | else-runs-test w ↦ absurd (omega (arith, w.runs-test.false, c.if-three-le-MOST_BYTES.true))
]
