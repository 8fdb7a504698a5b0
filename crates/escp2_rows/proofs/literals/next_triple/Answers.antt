use Rattle.std.proofs.Common.{◌+◌, ap, arith, sym, ◌∙◌}
use Rattle.std.proofs.lemmas.List.{take_rest}
use Rattle.escp2_rows.specs.Passing.{are_three}
use Rattle.escp2_rows.proofs.Triples.{few_more, places_few, three_many, three_on}
use Rattle.escp2_rows.proofs.literals.next_triple.Goals as goal

pub returns-then-before-lt16-clause-few : goal.returns-then-before-lt16-clause-few
returns-then-before-lt16-clause-few c =
    few_more c.args.row.now c.args.from c.sixteens.at (c.sixteens.at + c.places_before_three-before.result) c.sixteens.invariant.few
    (places_few c.args.row.now c.sixteens.at c.places_before_three-before.result
    (omega (arith, c.if-row-at-ge18.true, c.places_before_three-before.ensures.few))
    (λ j few. ap (λ bs. are_three bs j) (sym (take_rest c.args.row.now c.sixteens.at)) ∙ c.places_before_three-before.ensures.apart j few))

pub returns-then-before-lt16-clause-three : goal.returns-then-before-lt16-clause-three
returns-then-before-lt16-clause-three c near less =
    three_many c.args.row.now (c.sixteens.at + c.places_before_three-before.result) (omega (arith, c.if-row-at-ge18.true, c.if-before-lt16.true))
    (sym (three_on c.args.row.now c.sixteens.at c.places_before_three-before.result)
    ∙ ap (λ bs. are_three bs c.places_before_three-before.result) (sym (take_rest c.args.row.now c.sixteens.at))
    ∙ c.places_before_three-before.ensures.three c.if-before-lt16.true)

pub sixteens-preserved : goal.sixteens-preserved
sixteens-preserved c = record {
  within = omega (arith, c.if-row-at-ge18.true, c.places_before_three-before.ensures.few);
  from = omega (arith, c.sixteens.invariant.from);
  few = few_more c.args.row.now c.args.from c.sixteens.at (c.sixteens.at + c.places_before_three-before.result) c.sixteens.invariant.few
      (places_few c.args.row.now c.sixteens.at c.places_before_three-before.result
      (omega (arith, c.if-row-at-ge18.true, c.places_before_three-before.ensures.few))
      (λ j few. ap (λ bs. are_three bs j) (sym (take_rest c.args.row.now c.sixteens.at)) ∙ c.places_before_three-before.ensures.apart j few));
}
