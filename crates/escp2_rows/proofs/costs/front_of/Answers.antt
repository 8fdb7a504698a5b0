use Rattle.std.proofs.Common.{◌≡◌, ℕ, ◌+◌, ◌-◌, ◌<◌, ◌≤◌, List, drop, get_or, length, arith, length-drop}
use Rattle.base_definitions.specs.Limits.{most_row_bytes}
use Rattle.escp2_definitions.specs.Least.{equal_at}
use Rattle.escp2_rows.specs.declared.costs.Filled.{Filled}
use Rattle.escp2_rows.specs.Ends.{IsEnd, IsFilled}
use Rattle.escp2_laws.proofs.Fewest.{equal_within}
use Rattle.escp2_rows.proofs.Ends.{IsFront, end_less, entry_at, entry_fits, literal_front, run_front}
use Rattle.escp2_rows.proofs.costs.front_of.Goals as goal

-- the run ends in the row
run_ends : (row : List ℕ) (at equal : ℕ) → 0 < at → at ≤ length row → equal ≡ equal_at (drop (at - 1) row) → at - 1 + equal ≤ length row
run_ends row at equal some within is = omega (arith, is, (equal_within (drop (at - 1) row)).1, length-drop (at - 1) row)

-- Where a literal ends best is the filled end, if that is not too far away.
abbrev Near : Filled → ℕ → Type 0
Near filled end = (filled.end < filled.at + 128 → end ≡ filled.end) × (filled.end ≡ filled.at + 128 → end ≡ filled.at)

less : (row table : List ℕ) (filled : Filled) (end : ℕ) → IsFilled row table filled → Near filled end → IsEnd 127 row filled.at end
less row table filled end is near = end_less row filled.at filled.end end is.ends near.0 near.1

cost_fits : (row table : List ℕ) (filled : Filled) (end : ℕ) → IsFilled row table filled → length row ≤ most_row_bytes → Near filled end
    → get_or table end 0 + (end - (filled.at - 1)) + 1 ≤ 65535
cost_fits row table filled end is most near =
    let ends : IsEnd 127 row filled.at end = less row table filled end is near in
    omega (arith, ends.near, ends.within, most, entry_fits row table filled end is ends.on ends.within)

by_run : (row table : List ℕ) (filled : Filled) (equal end : ℕ) → IsFilled row table filled → 0 < filled.at → equal ≡ equal_at (drop (filled.at - 1) row)
    → Near filled end → 2 ≤ equal → get_or table (filled.at - 1 + equal) 0 + 2 < get_or table end 0 + (end - (filled.at - 1)) + 1
    → IsFront row (filled.at - 1) (get_or table (filled.at - 1 + equal) 0 + 2) (filled.at - 1)
by_run row table filled equal end is some counted near many repeated_less =
    let ends : IsEnd 127 row filled.at end = less row table filled end is near in
    run_front row (filled.at - 1) filled.at end equal _ (omega arith) is.within ends counted many
    (omega (arith, entry_at row table filled (filled.at - 1 + equal) is (omega arith) (run_ends row filled.at equal some is.within counted)))
    (omega (arith, repeated_less, ends.on, entry_at row table filled end is ends.on ends.within))

by_literal : (row table : List ℕ) (filled : Filled) (equal end : ℕ) → IsFilled row table filled → 0 < filled.at → equal ≡ equal_at (drop (filled.at - 1) row)
    → Near filled end → (2 ≤ equal → get_or table end 0 + (end - (filled.at - 1)) + 1 ≤ get_or table (filled.at - 1 + equal) 0 + 2)
    → IsFront row (filled.at - 1) (get_or table end 0 + (end - (filled.at - 1)) + 1) end
by_literal row table filled equal end is some counted near no_more =
    let ends : IsEnd 127 row filled.at end = less row table filled end is near in
    literal_front row (filled.at - 1) filled.at end equal _ (omega arith) is.within ends counted
    (omega (arith, ends.on, some, entry_at row table filled end is ends.on ends.within))
    (λ many. omega (
      arith,
      no_more many,
      entry_at row table filled (filled.at - 1 + equal) is (omega (arith, many, some)) (run_ends row filled.at equal some is.within counted),
    ))

pub overflow_add-cost : goal.overflow_add-cost
overflow_add-cost c =
    omega (arith, cost_fits _ _ _ c.end_near-end.result c.requires.filled c.requires.most (c.end_near-end.ensures.near, c.end_near-end.ensures.far))

pub overflow_add-cost-2 : goal.overflow_add-cost-2
overflow_add-cost-2 c =
    omega (arith, cost_fits _ _ _ c.end_near-end.result c.requires.filled c.requires.most (c.end_near-end.ensures.near, c.end_near-end.ensures.far))

pub overflow_add-repeated : goal.overflow_add-repeated
overflow_add-repeated c = omega (arith, c.requires.most, run_ends _ _ _ c.requires.some c.requires.filled.within c.requires.equal)

pub offset_bounds-table-at : goal.offset_bounds-table-at
offset_bounds-table-at c = omega (arith, c.requires.most, run_ends _ _ _ c.requires.some c.requires.filled.within c.requires.equal)

pub bounds-table-at : goal.bounds-table-at
bounds-table-at c = omega (arith, c.requires.filled.sized, run_ends _ _ _ c.requires.some c.requires.filled.within c.requires.equal)

pub overflow_add-repeated-then-equal-ge2 : goal.overflow_add-repeated-then-equal-ge2
overflow_add-repeated-then-equal-ge2 c =
    omega (
      arith,
      c.requires.most,
      entry_fits _ _ _ (c.args.filled.at - 1 + c.args.equal) c.requires.filled (omega (arith, c.if-equal-ge2.true))
          (run_ends _ _ _ c.requires.some c.requires.filled.within c.requires.equal),
    )

pub returns-then-repeated-cost-clause-cost : goal.returns-then-repeated-cost-clause-cost
returns-then-repeated-cost-clause-cost c =
    (by_run _ _ _ _ _ c.requires.filled c.requires.some c.requires.equal (c.end_near-end.ensures.near, c.end_near-end.ensures.far) c.if-equal-ge2.true c.if-repeated-cost.true).least

pub returns-then-repeated-cost-clause-ends : goal.returns-then-repeated-cost-clause-ends
returns-then-repeated-cost-clause-ends c =
    (by_run _ _ _ _ _ c.requires.filled c.requires.some c.requires.equal (c.end_near-end.ensures.near, c.end_near-end.ensures.far) c.if-equal-ge2.true c.if-repeated-cost.true).ends

pub returns-else-repeated-cost-clause-cost : goal.returns-else-repeated-cost-clause-cost
returns-else-repeated-cost-clause-cost c =
    (by_literal _ _ _ _ _ c.requires.filled c.requires.some c.requires.equal (c.end_near-end.ensures.near, c.end_near-end.ensures.far) (λ many. c.if-repeated-cost.false)).least

pub returns-else-repeated-cost-clause-ends : goal.returns-else-repeated-cost-clause-ends
returns-else-repeated-cost-clause-ends c =
    (by_literal _ _ _ _ _ c.requires.filled c.requires.some c.requires.equal (c.end_near-end.ensures.near, c.end_near-end.ensures.far) (λ many. c.if-repeated-cost.false)).ends

pub returns-else-equal-ge2-clause-cost : goal.returns-else-equal-ge2-clause-cost
returns-else-equal-ge2-clause-cost c =
    (by_literal _ _ _ _ _ c.requires.filled c.requires.some c.requires.equal (c.end_near-end.ensures.near, c.end_near-end.ensures.far) (λ many. absurd (omega (arith, many, c.if-equal-ge2.false)))).least

pub returns-else-equal-ge2-clause-ends : goal.returns-else-equal-ge2-clause-ends
returns-else-equal-ge2-clause-ends c =
    (by_literal _ _ _ _ _ c.requires.filled c.requires.some c.requires.equal (c.end_near-end.ensures.near, c.end_near-end.ensures.far) (λ many. absurd (omega (arith, many, c.if-equal-ge2.false)))).ends
