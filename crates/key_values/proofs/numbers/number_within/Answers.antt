use Rattle.std.proofs.Common.{◌∙◌, ◌+◌, sym, arith, rules}
use Rattle.std.proofs.lemmas.Bool.Decides.{nat_tests}
use Rattle.key_values.proofs.Digits.{no_length, leading_zero, no_digit, too_great, too_small, next_value, next_digit, whole_value}
use Rattle.key_values.proofs.numbers.number_within.Goals as goal
use Rattle.key_values.proofs.numbers.number_within.Goals.{then-is_empty-via-then-is_empty}
use Rattle.key_values.proofs.numbers.number_within.Goals.{then-is_empty-via-else-is_empty+then-has_leading_zero}

pub returns-then-is_empty-clause-number : goal.returns-then-is_empty-clause-number
returns-then-is_empty-clause-number c =
    elim c.then-is_empty.branch [
      | then-is_empty-via-then-is_empty w ↦
          no_length _ _ c.args.text.now (grind (arith, nat_tests, c.is_empty.ensures, w.if-is_empty.true))
      | then-is_empty-via-else-is_empty+then-has_leading_zero w ↦
          leading_zero _ _ c.args.text.now (sym w.has_leading_zero.ensures ∙ w.if-has_leading_zero.true)
    ]

pub returns-then-not-is_ascii_digit-clause-number : goal.returns-then-not-is_ascii_digit-clause-number
returns-then-not-is_ascii_digit-clause-number c = no_digit _ _ _ c.digits.byte-index (omega arith) (search rules)

pub returns-then-number-most-clause-number : goal.returns-then-number-most-clause-number
returns-then-number-most-clause-number c =
    let more = next_value c.args.text.now c.digits.byte-index c.digits.number c.from.result
    (omega arith) (search rules) c.digits.invariant.value c.from.ensures in
    too_great _ _ c.args.text.now (c.digits.byte-index + 1) (omega (arith, more))

pub digits-preserved : goal.digits-preserved
digits-preserved c = record {
  value = next_value c.args.text.now c.digits.byte-index _ _ (omega arith) (search rules) c.digits.invariant.value (search rules);
  most = omega arith;
  digits = next_digit c.args.text.now c.digits.byte-index (omega arith) (search rules) c.digits.invariant.digits;
}

pub returns-then-number-low-clause-number : goal.returns-then-number-low-clause-number
returns-then-number-low-clause-number c =
    too_small _ _ c.args.text.now c.digits.byte-index _ c.digits-test.false c.digits.invariant.value c.if-number-low.true

pub returns-clause-number : goal.returns-clause-number
returns-clause-number c =
    whole_value _ _ c.args.text.now c.digits.byte-index _ c.digits-test.false
    (λ none. grind (arith, nat_tests, none, c.is_empty.ensures, c.if-is_empty.false))
    (sym c.has_leading_zero.ensures ∙ c.if-has_leading_zero.false)
    c.digits.invariant.value c.digits.invariant.digits (omega arith) (omega arith)
