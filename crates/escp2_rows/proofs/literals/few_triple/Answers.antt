use Rattle.std.proofs.Common.{◌≡◌, ◌+◌, drop, ap, arith, length-drop, sym, ◌∙◌}
use Rattle.std.proofs.lemmas.List.{take_rest}
use Rattle.escp2_definitions.specs.Least.{equal_at}
use Rattle.escp2_rows.specs.Passing.{are_three}
use Rattle.escp2_rows.proofs.Triples.{end_few, few_more, front_apart, front_three}
use Rattle.escp2_rows.proofs.literals.few_triple.Goals as goal

pub returns-then-is_three-clause-three : goal.returns-then-is_three-clause-three
returns-then-is_three-clause-three c less =
    front_three (drop c.places.at c.args.row.now) (omega (arith, length-drop c.places.at c.args.row.now, c.places-test.true))
    (ap (λ bs. are_three bs 0) (sym (take_rest c.args.row.now c.places.at)) ∙ sym c.is_three.ensures ∙ c.if-is_three.true)

pub places-preserved : goal.places-preserved
places-preserved c =
    let here = front_apart (drop c.places.at c.args.row.now) (omega (arith, length-drop c.places.at c.args.row.now, c.places-test.true))
    (ap (λ bs. are_three bs 0) (sym (take_rest c.args.row.now c.places.at)) ∙ sym c.is_three.ensures ∙ c.if-is_three.false) in
    record {
      within = omega (arith, c.places-test.true, c.places.invariant.within);
      from = omega (arith, c.places.invariant.from);
      few = few_more c.args.row.now c.args.from c.places.at (c.places.at + 1) c.places.invariant.few
          (λ i on less. let e : c.places.at ≡ i = omega arith in omega (arith, here, ap (λ n. equal_at (drop n c.args.row.now)) e));
    }

pub returns-clause-few : goal.returns-clause-few
returns-clause-few c =
    few_more c.args.row.now c.args.from c.places.at _ c.places.invariant.few
    (λ i on less. end_few c.args.row.now i (omega (arith, c.places-test.false, on)))
