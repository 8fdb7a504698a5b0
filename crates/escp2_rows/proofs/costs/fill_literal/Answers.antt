use Rattle.std.proofs.Common.{◌≡◌, ℕ, ◌+◌, ◌-◌, ◌≤◌, List, drop, refl, sym, ◌∙◌, ap, arith, subst, length-drop}
use Rattle.std.proofs.lemmas.List.{take_rest}
use Rattle.escp2_definitions.specs.Least.{equal_at}
use Rattle.escp2_laws.proofs.Fewest.{fewest, fewest_most}
use Rattle.escp2_rows.specs.Ends.{IsEnd}
use Rattle.escp2_rows.specs.Passing.{are_three}
use Rattle.escp2_rows.proofs.Ends.{costs_step, entry_at, literal_on}
use Rattle.escp2_rows.proofs.Triples.{front_apart}
use Rattle.escp2_rows.proofs.costs.fill_literal.Goals as goal

pub overflow_add-cost : goal.overflow_add-cost
overflow_add-cost c =
    let is = c.requires.filled in
    omega (
      arith,
      entry_at _ _ _ c.args.filled.end is is.ends.on is.ends.within,
      fewest_most (drop c.args.filled.end c.args.row.now),
      length-drop c.args.filled.end c.args.row.now,
      is.ends.near,
      is.ends.within,
      c.requires.most,
    )

pub overflow_add-cost-2 : goal.overflow_add-cost-2
overflow_add-cost-2 c =
    let is = c.requires.filled in
    omega (
      arith,
      entry_at _ _ _ c.args.filled.end is is.ends.on is.ends.within,
      fewest_most (drop c.args.filled.end c.args.row.now),
      length-drop c.args.filled.end c.args.row.now,
      is.ends.near,
      is.ends.within,
      c.requires.most,
    )

pub places-init : goal.places-init
places-init c =
    let is = c.requires.filled in
    record {
      filled = record { sized = is.sized; within = is.within; done = is.done; counted = refl; few = omega (arith, is.counted, is.few); ends = is.ends };
      behind = c.requires.behind;
      cost = ap (λ n. n + (c.args.filled.end - c.args.filled.at) + 1) (entry_at _ _ _ c.args.filled.end is is.ends.on is.ends.within);
      on = omega arith;
      few = λ less. absurd (omega (arith, less));
    }

pub overflow_add-cost-in-places : goal.overflow_add-cost-in-places
overflow_add-cost-in-places c =
    let is = c.places.invariant.filled in
    omega (
      arith,
      c.places.invariant.cost,
      fewest_most (drop c.args.filled.end c.args.row.now),
      length-drop c.args.filled.end c.args.row.now,
      is.ends.near,
      is.ends.within,
      c.requires.most,
    )

pub places-preserved : goal.places-preserved
places-preserved c =
    let row : List ℕ = c.args.row.now in
    let end : ℕ = c.args.filled.end in
    let p : ℕ = c.places.at - 1 in
    let is = c.places.invariant.filled in
    let next : c.places.at ≡ p + 1 = omega (arith, c.places-test.true) in
    let ends : IsEnd 128 row (p + 1) end = subst (λ n. IsEnd 128 row n end) next is.ends in
    let few : equal_at (drop p row) ≤ 2 =
    front_apart (drop p row) (omega (arith, length-drop p row, c.places.invariant.behind, is.ends.within, next))
    (ap (λ bytes. are_three bytes 0) (sym (take_rest row p)) ∙ sym c.is_three.ensures ∙ c.if-not-is_three.true) in
    let so : c.places.cost + 1 ≡ fewest (drop end row) + (end - p) + 1 = omega (arith, c.places.invariant.cost, c.places.invariant.behind, next) in
    let front = literal_on row p end (c.places.cost + 1) (omega (arith, c.places.invariant.behind, next)) (omega (arith, c.if-filled-at.true, next)) ends few so in
    record {
      filled = costs_step is (omega (arith, c.places-test.true)) refl front.least front.ends;
      behind = omega (arith, c.places.invariant.behind);
      cost = so;
      on = omega (arith, c.places.invariant.on);
      few = λ less. few;
    }
