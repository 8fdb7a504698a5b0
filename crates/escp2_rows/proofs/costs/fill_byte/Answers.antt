use Rattle.std.proofs.Common.{◌≡◌, ℕ, ◌+◌, ◌-◌, ◌<◌, List, length, take, drop, sym, ap, ◌∙◌, arith}
use Rattle.std.proofs.lemmas.List.{drop-drop, take_rest}
use Rattle.escp2_definitions.specs.Least.{equal_at}
use Rattle.escp2_rows.proofs.Ends.{costs_step}
use Rattle.escp2_rows.proofs.costs.fill_byte.Goals as goal

pub equal_from-equal-requires-clause-behind : goal.equal_from-equal-requires-clause-behind
equal_from-equal-requires-clause-behind c =
    c.requires.filled.counted ∙ ap equal_at (sym (rest_is c.args.row.now c.args.filled.at c.requires.some))
  where
    -- the rest of a row behind the byte before a place
    rest_is : (row : List ℕ) (at : ℕ) → 0 < at → drop 1 (take (length row - (at - 1)) (drop (at - 1) row)) ≡ drop at row
    rest_is row at some =
        ap (drop 1) (take_rest row (at - 1)) ∙ drop-drop 1 (at - 1) row
        ∙ ap (λ k. drop k row) (let e : at - 1 + 1 ≡ at = omega arith in e)

pub front_of-front-requires-clause-equal : goal.front_of-front-requires-clause-equal
front_of-front-requires-clause-equal c = c.equal_from-equal.ensures ∙ ap equal_at (take_rest c.args.row.now (c.args.filled.at - 1))

pub returns-clause-filled : goal.returns-clause-filled
returns-clause-filled c =
    costs_step c.requires.filled c.requires.some
    (c.equal_from-equal.ensures ∙ ap equal_at (take_rest c.args.row.now (c.args.filled.at - 1))) c.front_of-front.ensures.cost c.front_of-front.ensures.ends
