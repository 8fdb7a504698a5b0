-- How far a literal at the front of a row goes: what it costs to end it at a place.
use Rattle.std.proofs.Common.{◌≡◌, ℕ, zero, suc, ◌+◌, ◌-◌, ◌*◌, ◌<◌, ◌≤◌, ◌≢◌, ◌⊎◌, inl, inr, List, [], ◌∷◌, length, drop, min, get_or, refl, sym, ◌∙◌, ap, arith, length-drop}
use Rattle.std.proofs.lemmas.Bool.{cases_lt}
use Rattle.std.proofs.lemmas.List.{drop-drop, get_or-drop}
use Rattle.escp2_definitions.specs.Least.{equal_at}
use Rattle.escp2_rows.specs.Literals.{IsLongest}
use Rattle.escp2_rows.specs.Passing.{EndsAt, GoesOn, IsLevel, run_of, upto}
use Rattle.escp2_laws.proofs.Fewest.{ByLiteral, ByRun, equal_is, fewest, first_step, literal_costs, run_costs, same, same_first, same_more, same_within}
use Rattle.escp2_rows.proofs.Ends.{equal_one, literal_upto, run_longest}

-- ---- equal bytes

-- how many bytes from a place on are equal
abbrev pub run : List ℕ → ℕ → ℕ
run row n = run_of (drop n row)

pub equal_some : (row : List ℕ) → 0 < length row → 1 ≤ equal_at row
equal_some [] some = absurd (omega arith)
equal_some (b ∷ row) some = omega (arith, equal_is (b ∷ row), same_more b b row refl)

run_next : (b : ℕ) (row : List ℕ) → 2 ≤ run_of (b ∷ row) → run_of row + 1 ≡ run_of (b ∷ row)
run_next b [] many = absurd (omega (arith, many, same_within b (b ∷ [])))
run_next b (c ∷ row) many =
    let more : same b (b ∷ c ∷ row) ≡ 1 + same b (c ∷ row) = same_more b b (c ∷ row) refl in
    let first : c ≡ b = same_first b c row (omega (arith, more, many)) in
    omega (arith, more, ap (λ k. same k (c ∷ row)) first)

run_drop : (row : List ℕ) (m : ℕ) → m < run_of row → run_of (drop m row) + m ≡ run_of row
run_drop row zero less = omega arith
run_drop [] (suc m) less = absurd (omega (arith, less, same_within 0 []))
run_drop (b ∷ row) (suc m) less =
    let next : run_of row + 1 ≡ run_of (b ∷ row) = run_next b row (omega (arith, less)) in
    omega (arith, next, run_drop row m (omega (arith, next, less)))

-- behind some of the equal bytes from a place on there are the others
pub run_on : (row : List ℕ) (n m : ℕ) → m < run row n → run row (n + m) + m ≡ run row n
run_on row n m less = omega (arith, run_drop (drop n row) m less, ap run_of (drop-drop m n row))

run_from : (row : List ℕ) (n k : ℕ) → n ≤ k → k < n + run row n → run row k + k ≡ n + run row n
run_from row n k le less =
    let there : n + (k - n) ≡ k = omega arith in omega (arith, run_on row n (k - n) (omega (arith, less, le)), ap (run row) there)

pub run_within : (row : List ℕ) (n : ℕ) → n ≤ length row → n + run row n ≤ length row
run_within row n within = omega (arith, same_within (get_or (drop n row) 0 0) (drop n row), length-drop n row)

-- ---- the first packet

-- where a row begins with equal bytes, a run of all of them costs least
pub run_is_least : (row : List ℕ) → 2 ≤ equal_at row → fewest row ≡ 2 + fewest (drop (equal_at row) row)
run_is_least [] many = absurd (omega (arith, many, equal_is [], same_within 0 []))
run_is_least (b ∷ row) many = by_step (first_step b row)
  where
    n : ℕ
    n = equal_at (b ∷ row)

    most : fewest (b ∷ row) ≤ 2 + fewest (drop n (b ∷ row))
    most = run_costs (b ∷ row) n many (omega arith)

    by_count : (lit : ByLiteral (b ∷ row)) → (n < lit.count) ⊎ (lit.count ≤ n) → fewest (b ∷ row) ≡ 2 + fewest (drop n (b ∷ row))
    by_count lit (inl more) = omega (arith, most, lit.is, lit.few, many, literal_upto (b ∷ row) n lit.count (omega arith) (omega (arith, lit.few)) lit.within)
    by_count lit (inr le) = omega (arith, most, lit.is, lit.some, run_longest (b ∷ row) lit.count n le)

    by_step : ByLiteral (b ∷ row) ⊎ ByRun (b ∷ row) → fewest (b ∷ row) ≡ 2 + fewest (drop n (b ∷ row))
    by_step (inl lit) = by_count lit (cases_lt n lit.count)
    by_step (inr run) = omega (arith, most, run.is, run_longest (b ∷ row) run.count n run.few)

-- where its first two bytes differ, a literal does
pub literal_is_least : (row : List ℕ) → 0 < length row → equal_at row ≡ 1 → ByLiteral row
literal_is_least [] some alone = absurd (omega arith)
literal_is_least (b ∷ row) some alone = elim (first_step b row) [
  | inl lit ↦ lit
  | inr run ↦ absurd (omega (arith, run.some, run.few, alone))
]

-- ---- what it costs to end a literal at a place

-- at a run
run_upto : (row : List ℕ) (n s : ℕ) → s ≡ min 128 (run row n) → 2 ≤ s → upto row n + s ≡ 2 + upto row (n + s)
run_upto row n s is many =
    let e : equal_at (drop n row) ≡ s = omega (arith, is, equal_is (drop n row)) in
    omega (arith, run_is_least (drop n row) (omega (arith, e, many)), ap fewest (drop-drop (equal_at (drop n row)) n row), ap (upto row) (ap (λ k. n + k) e), e)

-- Where a literal that begins at a single byte ends.
record SingleEnds (row : List ℕ) (n : ℕ) : Type 0 where
  end : ℕ
  after : n < end
  near : end ≤ n + 128
  within : end ≤ length row
  is : upto row n ≡ 1 + upto row end

single_ends : (row : List ℕ) (n : ℕ) → n < length row → run row n ≡ 1 → SingleEnds row n
single_ends row n less alone =
    let lit : ByLiteral (drop n row) =
    literal_is_least (drop n row) (omega (arith, length-drop n row, less)) (omega (arith, equal_is (drop n row), alone)) in
    record {
      end = n + lit.count;
      after = omega (arith, lit.some);
      near = omega (arith, lit.few);
      within = omega (arith, lit.within, length-drop n row, less);
      is = omega (arith, lit.is, ap fewest (drop-drop lit.count n row));
    }

single_adds : (row : List ℕ) (n : ℕ) → n < length row → run row n ≡ 1 → upto row (n + 1) ≤ upto row n
single_adds row n less alone = by_end (single_ends row n less alone)
  where
    by_end : SingleEnds row n → upto row (n + 1) ≤ upto row n
    by_end lit = omega (arith, lit.is, literal_upto row (n + 1) lit.end (omega (arith, lit.after)) (omega (arith, lit.near)) lit.within)

-- among the equal bytes of a run
among : (row : List ℕ) (n k : ℕ) → n ≤ length row → n ≤ k → k < n + run row n → run row n ≤ 128
    → upto row (n + run row n) ≤ upto row k + (n + run row n - k - 2)
among row n k within le less few = by_left (cases_lt 1 (run row k))
  where
    left : run row k + k ≡ n + run row n
    left = run_from row n k le less

    by_left : (1 < run row k) ⊎ (run row k ≤ 1) → upto row (n + run row n) ≤ upto row k + (n + run row n - k - 2)
    by_left (inl many) =
        let there : k + run row k ≡ n + run row n = omega (arith, left) in
        omega (arith, left, run_upto row k (run row k) (omega (arith, left, few, le)) many, ap (upto row) there)
    by_left (inr one) =
        let there : k + 1 ≡ n + run row n = omega (arith, left, one, less) in
        omega (arith, there, single_adds row k (omega (arith, less, run_within row n within)) (omega (arith, left, there)), ap (upto row) there)

-- ---- places at which a literal ends

pub free_end : (row : List ℕ) (place : ℕ) → place ≡ length row → EndsAt 0 row place
free_end row place end = record { less = λ k after near within. let e : place ≡ k = omega arith in omega (arith, ap (upto row) e) }

-- at a run of a few bytes
ends_short : (more : ℕ) (row : List ℕ) (p : ℕ) → p ≤ length row → 3 + more ≤ run row p → run row p ≤ 128 → EndsAt more row p
ends_short more row p within many few = record { less = λ k after near inside. by_place k after near inside (cases_lt k (p + run row p)) }
  where
    first : upto row p + run row p ≡ 2 + upto row (p + run row p)
    first = run_upto row p (run row p) (omega (arith, few)) (omega (arith, many))

    by_place : (k : ℕ) → p + more ≤ k → k ≤ p + 128 → k ≤ length row → (k < p + run row p) ⊎ (p + run row p ≤ k) → upto row p + more ≤ upto row k
    by_place k after near inside (inl less) = omega (arith, first, many, among row p k within (omega arith) less few)
    by_place k after near inside (inr le) = omega (arith, first, many, literal_upto row (p + run row p) k le (omega arith) inside)

-- at a run of 128 bytes more
ends_more : (d more r : ℕ) (row : List ℕ) (p : ℕ) → p ≤ length row → run row p ≡ 128 * (d + 1) + r → r < 128 → 3 + more ≤ r
    → run row (p + 128) ≡ 128 * d + r → EndsAt more row (p + 128) → EndsAt more row p
ends_more d more r row p within is few many rest inner = record { less = λ k after near inside. by_place k after near (cases_lt (p + run row p) (k + 128)) }
  where
    first : upto row p + 128 ≡ 2 + upto row (p + 128)
    first = run_upto row p 128 (omega (arith, is)) (omega arith)

    by_place : (k : ℕ) → p + more ≤ k → k ≤ p + 128 → (p + run row p < k + 128) ⊎ (k + 128 ≤ p + run row p) → upto row p + more ≤ upto row k
    by_place k after near (inl far) =
        let none : d ≡ 0 = omega (arith, is, far, near) in
        let there : p + 128 + r ≡ p + run row p = omega (arith, is, none) in
        omega (
          arith,
          first,
          there,
          many,
          run_upto row (p + 128) r (omega (arith, rest, none, few)) (omega (arith, many)),
          ap (upto row) there,
          run_longest row k (p + run row p) (omega (arith, near, there)),
        )
    by_place k after near (inr on) =
        omega (
          arith,
          first,
          run_upto row k 128 (omega (arith, on, run_from row p k (omega arith) (omega (arith, on)))) (omega arith),
          inner.less (k + 128) (omega arith) (omega arith) (omega (arith, on, run_within row p within)),
        )

-- at a run whose last packet is one of a few bytes
pub ends_run : (d more r : ℕ) (row : List ℕ) (p : ℕ) → p ≤ length row → run row p ≡ 128 * d + r → r < 128 → 3 + more ≤ r → EndsAt more row p
ends_run zero more r row p within is few many = ends_short more row p within (omega (arith, is, many)) (omega (arith, is, few))
ends_run (suc d) more r row p within is few many =
    let rest : run row (p + 128) ≡ 128 * d + r = omega (arith, is, run_on row p 128 (omega (arith, is, many))) in
    ends_more d more r row p within (omega (arith, is)) few many rest
    (ends_run d more r row (p + 128) (omega (arith, is, run_within row p within)) rest few many)

-- at three bytes, where a literal may end behind the pairs that follow
pub stop_three : (row : List ℕ) (p to : ℕ) → p ≤ length row → run row p ≡ 3 → IsLevel row (p + 3) to → EndsAt 0 row to → EndsAt 1 row p
stop_three row p to within three level free = record { less = λ k after near inside. by_place k after near inside (cases_lt k (p + 3)) (cases_lt k to) }
  where
    first : upto row p + 3 ≡ 2 + upto row (p + 3)
    first = run_upto row p 3 (omega (arith, three)) (omega arith)

    by_place : (k : ℕ) → p + 1 ≤ k → k ≤ p + 128 → k ≤ length row → (k < p + 3) ⊎ (p + 3 ≤ k) → (k < to) ⊎ (to ≤ k) → upto row p + 1 ≤ upto row k
    by_place k after near inside (inl less) c =
        omega (arith, first, three, among row p k within (omega arith) (omega (arith, three, less)) (omega (arith, three)), ap (upto row) (ap (λ s. p + s) three))
    by_place k after near inside (inr on) (inl less) = omega (arith, first, level.same, level.least k on (omega arith))
    by_place k after near inside (inr on) (inr behind) = omega (arith, first, level.same, free.less k (omega arith) (omega (arith, level.on, near)) inside)

-- ---- pairs

pub level_begin : (row : List ℕ) (from : ℕ) → from ≤ length row → IsLevel row from from
level_begin row from within = record {
  on = omega arith;
  within = within;
  same = refl;
  least = λ n on le. let e : from ≡ n = omega arith in omega (arith, ap (upto row) e);
}

pub level_more : {row : List ℕ} {from at : ℕ} → IsLevel row from at → run row at ≡ 2 → IsLevel row from (at + 2)
level_more {row} {from} {at} level two = record {
  on = omega (arith, level.on);
  within = omega (arith, two, run_within row at level.within);
  same = omega (arith, level.same, pair);
  least = λ n on le. by_place n on le (cases_lt at n);
}
  where
    pair : upto row at ≡ upto row (at + 2)
    pair = omega (arith, run_upto row at 2 (omega (arith, two)) (omega arith))

    by_place : (n : ℕ) → from ≤ n → n ≤ at + 2 → (at < n) ⊎ (n ≤ at) → upto row (at + 2) ≤ upto row n
    by_place n on le (inr before) = omega (arith, pair, level.least n on before)
    by_place n on le (inl second) = by_second (cases_lt (at + 1) n)
      where
        by_second : (at + 1 < n) ⊎ (n ≤ at + 1) → upto row (at + 2) ≤ upto row n
        by_second (inl last) = let e : at + 2 ≡ n = omega arith in omega (arith, ap (upto row) e)
        by_second (inr one) =
            omega (
              arith,
              two,
              second,
              one,
              among row at n level.within (omega arith) (omega (arith, two, one)) (omega (arith, two)),
              ap (upto row) (ap (λ s. at + s) two),
            )

-- ---- how far a literal goes on

-- a place of bytes of which no three are equal is no better than the best behind it
apart_step : (row : List ℕ) (to end n : ℕ) → equal_at (drop n row) ≤ 2 → (n + 1 ≡ to → equal_at (drop n row) ≤ 1) → n < to → to ≤ end → end ≤ length row
    → ((k : ℕ) → n < k → k ≤ end → upto row end ≤ upto row k) → upto row end ≤ upto row n
apart_step row to end n apart last less le within later = by_equal (cases_lt 1 (equal_at (drop n row)))
  where
    by_single : SingleEnds row n → upto row end ≤ upto row n
    by_single lit = elim (cases_lt end lit.end) [
      | inl far ↦ omega (arith, lit.is, literal_upto row end lit.end (omega arith) (omega (arith, lit.near, less, le)) lit.within)
      | inr near ↦ omega (arith, lit.is, later lit.end lit.after near)
    ]

    by_equal : (1 < equal_at (drop n row)) ⊎ (equal_at (drop n row) ≤ 1) → upto row end ≤ upto row n
    by_equal (inl two) =
        let inside : n + 2 ≤ end = elim (cases_lt (n + 1) to) [
          | inl more ↦ omega (arith, more, le)
          | inr one ↦ absurd (omega (arith, two, last (omega (arith, less, one))))
        ] in
        omega (arith, run_upto row n 2 (omega (arith, two, apart, equal_is (drop n row))) (omega arith), later (n + 2) (omega arith) inside)
    by_equal (inr one) =
        let some : 1 ≤ equal_at (drop n row) = equal_some (drop n row) (omega (arith, length-drop n row, less, le, within)) in
        by_single (single_ends row n (omega (arith, less, le, within)) (omega (arith, one, some, equal_is (drop n row))))

pub apart_weak : (row : List ℕ) (at to end : ℕ) → ((n : ℕ) → at ≤ n → n < to → equal_at (drop n row) ≤ 2)
    → ((n : ℕ) → at ≤ n → n + 1 ≡ to → equal_at (drop n row) ≤ 1) → to ≤ end → end ≤ length row
    → ((k : ℕ) → to ≤ k → k ≤ end → upto row end ≤ upto row k) → (d n : ℕ) → at ≤ n → n ≤ end → to ≤ n + d → upto row end ≤ upto row n
apart_weak row at to end apart last le within least zero n on before near = least n (omega arith) before
apart_weak row at to end apart last le within least (suc d) n on before near = elim (cases_lt n to) [
  | inl less ↦ apart_step row to end n (apart n on less) (last n on) less le within
      (λ k more inside. apart_weak row at to end apart last le within least d k (omega (arith, on, more)) inside (omega (arith, near, more)))
  | inr behind ↦ least n behind before
]

pub goes_begin : (row : List ℕ) → GoesOn row 0
goes_begin row = record {
  within = omega arith;
  later = λ end after within free least n before. least n (omega arith) (omega arith);
}

-- over bytes no three of which are equal
pub goes_apart : (row : List ℕ) (from to : ℕ) → GoesOn row from → from ≤ to → to ≤ length row
    → ((n : ℕ) → from ≤ n → n < to → equal_at (drop n row) ≤ 2) → ((n : ℕ) → from ≤ n → n + 1 ≡ to → equal_at (drop n row) ≤ 1) → GoesOn row to
goes_apart row from to goes le within apart last = record {
  within = within;
  later = λ end after inside free least n before. by_place end after inside free least n before (cases_lt n from);
}
  where
    by_place : (end : ℕ) → to ≤ end → end ≤ length row → EndsAt 0 row end → ((k : ℕ) → to ≤ k → k ≤ end → upto row end ≤ upto row k)
        → (n : ℕ) → n ≤ to → (n < from) ⊎ (from ≤ n) → upto row end ≤ upto row n
    by_place end after inside free least n before place =
        let near : (k : ℕ) → from ≤ k → k ≤ end → upto row end ≤ upto row k =
        λ k on in_end. apart_weak row from to end apart last after inside least to k on in_end (omega arith) in
        elim place [
          | inl first ↦ goes.later end (omega (arith, after, le)) inside free near n (omega arith)
          | inr on ↦ near n on (omega (arith, before, after))
        ]

-- the byte before three equal ones, or before the row's end, is a single one
pub last_alone : (row : List ℕ) (n to : ℕ) → n + 1 ≡ to → to ≤ length row → equal_at (drop n row) ≤ 2 → (to < length row → 3 ≤ equal_at (drop to row))
    → equal_at (drop n row) ≤ 1
last_alone row n to next within apart three = by_equal (cases_lt 1 (equal_at (drop n row))) (cases_lt to (length row))
  where
    by_equal : (1 < equal_at (drop n row)) ⊎ (equal_at (drop n row) ≤ 1) → (to < length row) ⊎ (length row ≤ to) → equal_at (drop n row) ≤ 1
    by_equal (inr one) end = one
    by_equal (inl two) (inl more) =
        absurd (omega (arith, equal_is (drop n row), run_on row n 1 (omega (arith, two, equal_is (drop n row))), three more, equal_is (drop to row), apart, ap (run row) next))
    by_equal (inl two) (inr end) = absurd (omega (arith, two, equal_is (drop n row), run_within row n (omega arith), next, end))

-- over three equal ones, and the pairs behind them, where a single byte follows
pub goes_three : (row : List ℕ) (three to : ℕ) → GoesOn row three → run row three ≡ 3 → IsLevel row (three + 3) to → to < length row → run row to ≡ 1
    → GoesOn row (to + 1)
goes_three row three to goes is level less alone = record {
  within = omega arith;
  later = λ end after inside free least n before. by_place end after inside free least n before (cases_lt n three);
}
  where
    first_cost : upto row three + 3 ≡ 2 + upto row (three + 3)
    first_cost = run_upto row three 3 (omega (arith, is)) (omega arith)

    -- a literal that begins at the single byte ends best at the end
    at_single : (end : ℕ) → to + 1 ≤ end → EndsAt 0 row end → ((k : ℕ) → to + 1 ≤ k → k ≤ end → upto row end ≤ upto row k)
        → SingleEnds row to → upto row end < upto row to
    at_single end after free least lit = elim (cases_lt end lit.end) [
      | inl far ↦ omega (arith, lit.is, free.less lit.end (omega arith) (omega (arith, lit.near, after)) lit.within)
      | inr near ↦ omega (arith, lit.is, least lit.end (omega (arith, lit.after)) near)
    ]

    by_place : (end : ℕ) → to + 1 ≤ end → end ≤ length row → EndsAt 0 row end → ((k : ℕ) → to + 1 ≤ k → k ≤ end → upto row end ≤ upto row k)
        → (n : ℕ) → n ≤ to + 1 → (n < three) ⊎ (three ≤ n) → upto row end ≤ upto row n
    by_place end after inside free least n before place =
        let single : upto row end < upto row to = at_single end after free least (single_ends row to less alone) in
        let near : (k : ℕ) → three ≤ k → k ≤ end → upto row end ≤ upto row k =
        λ k on in_end. elim (cases_lt to k) [
          | inl behind ↦ least k (omega arith) in_end
          | inr up ↦ elim (cases_lt k (three + 3)) [
            | inl in_three ↦ omega (
              arith,
              first_cost,
              single,
              level.same,
              is,
              among row three k goes.within on (omega (arith, is, in_three)) (omega (arith, is)),
              ap (upto row) (ap (λ s. three + s) is),
            )
            | inr in_pairs ↦ omega (arith, single, level.least k in_pairs up)
          ]
        ] in
        elim place [
          | inl first ↦ goes.later end (omega (arith, level.on, after)) inside free near n (omega arith)
          | inr on ↦ near n on (omega (arith, before, after))
        ]

-- ---- the longest literal that costs least

longest_at : (row : List ℕ) (e : ℕ) → ((n : ℕ) → n ≤ e → upto row e ≤ upto row n) → ((k : ℕ) → e < k → k ≤ 128 → k ≤ length row → upto row e < upto row k)
    → 1 ≤ e → e ≤ 128 → e ≤ length row → equal_at row ≡ 1 → IsLongest row e
longest_at row e weak beyond some few within alone =
    let is : fewest row ≡ 1 + e + fewest (drop e row) = by_literal (literal_is_least row (omega (arith, some, within)) alone) in
    record {
      some = some;
      few = few;
      within = within;
      is = is;
      longest = λ k more near inside. omega (arith, is, beyond k more near inside);
    }
  where
    by_literal : ByLiteral row → fewest row ≡ 1 + e + fewest (drop e row)
    by_literal lit = elim (cases_lt e lit.count) [
      | inl far ↦ omega (arith, lit.is, beyond lit.count far lit.few lit.within, literal_costs row e some few within)
      | inr near ↦ omega (arith, lit.is, weak lit.count near, literal_costs row e some few within)
    ]

-- at a place where a literal has to end
pub longest_stop : (row : List ℕ) (e : ℕ) → GoesOn row e → EndsAt 1 row e → e ≤ 128 → 1 ≤ e → equal_at row ≡ 1 → IsLongest row e
longest_stop row e goes stop few some alone =
    longest_at row e (λ n le. goes.later e (omega arith) goes.within free at_end n le)
    (λ k more near inside. omega (arith, stop.less k (omega arith) (omega arith) inside)) some few goes.within alone
  where
    at_end : (k : ℕ) → e ≤ k → k ≤ e → upto row e ≤ upto row k
    at_end k on le = let same : e ≡ k = omega arith in omega (arith, ap (upto row) same)

    free : EndsAt 0 row e
    free = record {
      less = λ k after near inside. elim (cases_lt e k) [
        | inl more ↦ omega (arith, stop.less k (omega arith) near inside)
        | inr all ↦ omega (arith, at_end k (omega arith) all)
      ];
    }

pub stop_end : (row : List ℕ) (e : ℕ) → length row ≤ e → EndsAt 1 row e
stop_end row e end = record { less = λ k after near inside. absurd (omega arith) }

-- a literal has a byte before three equal ones, and before the row's end
pub end_some : (row : List ℕ) (e : ℕ) → equal_at row ≡ 1 → (e < length row → 3 ≤ equal_at (drop e row)) → 1 ≤ e
end_some row zero alone three = absurd (by_length (cases_lt 0 (length row)))
  where
    by_length : (0 < length row) ⊎ (length row ≤ 0) → ⊥
    by_length (inl some) = omega (arith, three some, alone)
    by_length (inr none) = omega (arith, alone, equal_is row, same_within (get_or row 0 0) row, none)
end_some row (suc e) alone three = omega arith

-- where no three of the bytes that it may have are equal, and the last of them differs from the next
pub longest_limit : (row : List ℕ) → 128 < length row → ((n : ℕ) → n < 128 → equal_at (drop n row) ≤ 2) → get_or row 127 0 ≢ get_or row 128 0
    → equal_at row ≡ 1 → IsLongest row 128
longest_limit row room apart differ alone =
    longest_at row 128
    (λ n le. apart_weak row 0 128 128 (λ k on less. apart k less) (λ k on next. last k (omega arith)) (omega arith) (omega arith) at_end 128 n (omega arith) le (omega arith))
    (λ k more near inside. absurd (omega arith)) (omega arith) (omega arith) (omega arith) alone
  where
    there : equal_at (drop 127 row) ≡ 1
    there = sym (equal_one (drop 127 row) (omega (arith, length-drop 127 row)) (λ more e. differ (sym (get_or-drop 127 row 0 0) ∙ e ∙ get_or-drop 127 row 1 0)))

    last : (n : ℕ) → n ≡ 127 → equal_at (drop n row) ≤ 1
    last n e = omega (arith, there, ap (λ k. equal_at (drop k row)) e)

    at_end : (k : ℕ) → 128 ≤ k → k ≤ 128 → upto row 128 ≤ upto row k
    at_end k on le = let same : 128 ≡ k = omega arith in omega (arith, ap (upto row) same)
