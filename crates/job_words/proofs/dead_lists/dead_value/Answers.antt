use Rattle.std.proofs.Common.{◌≤◌, sym, ap, ◌∙◌, length, arith, lit<}
use Rattle.std.proofs.lemmas.Iterator.Consumers.{YieldsList-turn, YieldsList-end, YieldsList-at}
use Rattle.std.proofs.lemmas.Iterator.Splits.{YieldsList-from_str_split}
use Rattle.std.proofs.lemmas.List.{length_push}
use Rattle.std.specs.List.{slice_split}
use Rattle.std.specs.Option.{option_map}
use Rattle.key_values.specs.Lists.{is_comma}
use Rattle.job_words.proofs.Bounds.{number_between}
use Rattle.job_words.proofs.DeadLists.{all_numbers, bad_number, dead_start, good_number, with_front}
use Rattle.job_words.proofs.dead_lists.dead_value.Goals as goal

pub numbers-init : goal.numbers-init
numbers-init c = record {
  read = dead_start c.args.text.now ∙ ap (λ front. with_front front 0 (slice_split is_comma c.args.text.now)) (sym c.new-dead.ensures);
  few = omega (arith, ap length c.new-dead.ensures);
  least = omega arith;
}

pub returns-in_err-nozzle : goal.returns-in_err-nozzle
returns-in_err-nozzle c =
    let split = c.split-number-items.ensures in
    let parts = YieldsList-at c.into_iter-number-iterator.ensures.into_iter_gives
    (YieldsList-from_str_split 44 c.args.text.now (lit< tt) split.text split.has_more split.pattern) in
    let turn = YieldsList-turn parts c.numbers.yielded _ c.numbers.yielded_by _ _ c.in-Some.number c.in-Some.is c.next.ensures.steps in
    ap (option_map (λ dead. dead.items)) c.from_residual.ensures
    ∙ sym (bad_number c.args.text.now c.numbers.dead.items c.in-Some.number.now c.as_bytes.result.now c.numbers.least
    (length c.numbers.yielded) c.numbers.invariant.read turn c.as_bytes.ensures.value c.in_err-nozzle.ensures.number)

pub push-requires : goal.push-requires
push-requires c =
    let above : c.numbers.least ≤ c.in_ok-nozzle.nozzle = (number_between _ _ _ _ (sym c.in_ok-nozzle.ensures.number)).least in
    (omega arith, omega (arith, above, c.in_ok-nozzle.ensures.most, c.numbers.invariant.few))

pub numbers-preserved : goal.numbers-preserved
numbers-preserved c =
    let split = c.split-number-items.ensures in
    let parts = YieldsList-at c.into_iter-number-iterator.ensures.into_iter_gives
    (YieldsList-from_str_split 44 c.args.text.now (lit< tt) split.text split.has_more split.pattern) in
    let turn = YieldsList-turn parts c.numbers.yielded _ c.numbers.yielded_by _ _ c.in-Some.number c.in-Some.is c.next.ensures.steps in
    let above : c.numbers.least ≤ c.in_ok-nozzle.nozzle = (number_between _ _ _ _ (sym c.in_ok-nozzle.ensures.number)).least in
    record {
      read = good_number c.args.text.now c.numbers.dead.items c.in-Some.number.now c.as_bytes.result.now c.push.new.self.items
          c.numbers.least (length c.numbers.yielded) c.in_ok-nozzle.nozzle _ c.numbers.invariant.read turn c.as_bytes.ensures.value c.in_ok-nozzle.ensures.number
          c.push.ensures.items (length_push c.numbers.yielded c.in-Some.number);
      few = omega (arith, above, c.push.ensures.len, c.numbers.invariant.few);
      least = omega (arith, c.in_ok-nozzle.ensures.most);
    }

pub returns : goal.returns
returns c =
    let split = c.split-number-items.ensures in
    let parts = YieldsList-at c.into_iter-number-iterator.ensures.into_iter_gives
    (YieldsList-from_str_split 44 c.args.text.now (lit< tt) split.text split.has_more split.pattern) in
    let end = YieldsList-end parts c.numbers.yielded _ c.numbers.yielded_by _ _ c.in-None.is c.next.ensures.steps in
    all_numbers c.args.text.now _ _ _ c.numbers.invariant.read (omega (arith, end.1))
