use Rattle.std.proofs.Common.{◌≡◌, ℕ, ◌+◌, ◌-◌, ◌<◌, ◌≤◌, ◌≢◌, ◌⊎◌, inl, inr, List, length, drop, ap, arith, get_or, sym, ◌∙◌}
use Rattle.std.proofs.lemmas.Bool.{cases_lt}
use Rattle.std.proofs.lemmas.List.{get_or-drop, take_rest}
use Rattle.escp2_laws.proofs.Fewest.{same}
use Rattle.escp2_rows.proofs.Writing.{same_front, same_none}
use Rattle.escp2_rows.proofs.literals.copies.Goals as goal

-- one of the bytes before, or of those from there on
by_place : (row : List ℕ) (byte count more i : ℕ) → i < count + more → ((j : ℕ) → j < count → get_or row j 0 ≡ byte)
    → ((j : ℕ) → j < more → get_or (drop count row) j 0 ≡ byte) → (i < count) ⊎ (count ≤ i) → get_or row i 0 ≡ byte
by_place row byte count more i less first next (inl before) = first i before
by_place row byte count more i less first next (inr from) =
    ap (λ n. get_or row n 0) (let e : i ≡ count + (i - count) = omega arith in e)
    ∙ sym (get_or-drop count row (i - count) 0) ∙ next (i - count) (omega arith)

pub sixteens-preserved : goal.sixteens-preserved
sixteens-preserved c =
    let rest = take_rest c.args.row.now c.sixteens.count in
    record {
      within = omega (arith, c.sixteens-test.true, c.sixteens.invariant.within, c.sixteen_same-more.ensures.few);
      copies = λ i less. by_place c.args.row.now c.args.byte c.sixteens.count c.sixteen_same-more.result i less c.sixteens.invariant.copies
          (λ j few. ap (λ bs. get_or bs j 0) (sym rest) ∙ c.sixteen_same-more.ensures.same j few) (cases_lt i c.sixteens.count);
    }

pub returns-then-more-lt16 : goal.returns-then-more-lt16
returns-then-more-lt16 c =
    let rest = take_rest c.args.row.now c.sixteens.count in
    let n = c.sixteens.count + c.sixteen_same-more.result in
    let within : n < length c.args.row.now = omega (arith, c.sixteens-test.true, c.if-more-lt16.true) in
    let other : get_or c.args.row.now n 0 ≢ c.args.byte =
    λ e. c.sixteen_same-more.ensures.other c.if-more-lt16.true
    (ap (λ bs. get_or bs c.sixteen_same-more.result 0) rest ∙ get_or-drop c.sixteens.count c.args.row.now c.sixteen_same-more.result 0 ∙ e) in
    same_none c.args.byte n c.args.row.now within
    (λ i less. by_place c.args.row.now c.args.byte c.sixteens.count c.sixteen_same-more.result i less c.sixteens.invariant.copies
    (λ j few. ap (λ bs. get_or bs j 0) (sym rest) ∙ c.sixteen_same-more.ensures.same j few) (cases_lt i c.sixteens.count)) other

pub returns : goal.returns
returns c =
    ap (λ n. c.sixteens.count + n) (c.few_copies.ensures ∙ ap (same c.args.byte) (take_rest c.args.row.now c.sixteens.count))
    ∙ same_front c.args.byte c.sixteens.count c.args.row.now c.sixteens.invariant.within c.sixteens.invariant.copies
