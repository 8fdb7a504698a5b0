-- The costs from right to left: where a literal ends best.
use Rattle.std.proofs.Common.{◌≡◌, ℕ, ◌+◌, ◌-◌, ◌*◌, ◌<◌, ◌≤◌, ◌⊎◌, ◌≢◌, inl, inr, List, [], ◌∷◌, length, drop, min, get_or, set, refl, sym, ◌∙◌, ap, arith, length-drop}
use Rattle.std.proofs.lemmas.Bool.{cases_lt}
use Rattle.std.proofs.lemmas.List.{drop-drop, drop-set, drop_more, drop_all, get_or-drop, length-set}
use Rattle.escp2_definitions.specs.Least.{costs, equal_at}
use Rattle.escp2_rows.specs.declared.costs.Filled.{Filled}
use Rattle.escp2_rows.specs.Ends.{IsEnd, IsFilled}
use Rattle.escp2_rows.specs.Passing.{upto}
use Rattle.escp2_laws.proofs.Fewest.{ByLiteral, ByRun, costs_drop, equal_is, equal_within, falls_by, fewest, fewest_most, first_step, literal_costs, run_costs, same, same_first, same_more}

-- no run costs less than the longest one
pub run_longest : (row : List ℕ) (k n : ℕ) → k ≤ n → fewest (drop n row) ≤ fewest (drop k row)
run_longest row k n few =
    let on : drop (n - k) (drop k row) ≡ drop n row = drop-drop (n - k) k row ∙ ap (λ m. drop m row) (let e : k + (n - k) ≡ n = omega arith in e) in
    omega (arith, falls_by (n - k) (drop k row), ap fewest on)

-- a literal may go on from one place to another
pub literal_upto : (row : List ℕ) (n k : ℕ) → n ≤ k → k ≤ n + 128 → k ≤ length row → upto row n ≤ 1 + upto row k
literal_upto row n k le near within = by_place (cases_lt n k)
  where
    behind : drop (k - n) (drop n row) ≡ drop k row
    behind = drop-drop (k - n) n row ∙ ap (λ m. drop m row) (let e : n + (k - n) ≡ k = omega arith in e)

    by_place : (n < k) ⊎ (k ≤ n) → upto row n ≤ 1 + upto row k
    by_place (inl less) =
        omega (arith, literal_costs (drop n row) (k - n) (omega arith) (omega arith) (omega (arith, length-drop n row)), ap fewest behind)
    by_place (inr all) = let e : n ≡ k = omega arith in omega (arith, ap (upto row) e)

-- ---- one place more

-- where the best end is too far away, all places are as good
pub end_less : (row : List ℕ) (at end near : ℕ) → IsEnd 128 row at end → (end < at + 128 → near ≡ end) → (end ≡ at + 128 → near ≡ at) → IsEnd 127 row at near
end_less row at end near is kept far = by_place (cases_lt end (at + 128))
  where
    by_place : (end < at + 128) ⊎ (at + 128 ≤ end) → IsEnd 127 row at near
    by_place (inl less) =
        let same : upto row near ≡ upto row end = ap (upto row) (kept less) in
        record {
          on = omega (arith, kept less, is.on);
          near = omega (arith, kept less, less);
          within = omega (arith, kept less, is.within);
          best = λ j on few within. omega (arith, same, is.best j on (omega (arith, few)) within);
          nearest = λ j on before. omega (arith, same, is.nearest j on (omega (arith, before, kept less)));
        }
    by_place (inr le) =
        let there : near ≡ at = far (omega (arith, le, is.near)) in
        let most : upto row at ≤ 1 + upto row end = literal_upto row at end is.on is.near is.within in
        record {
          on = omega (arith, there);
          near = omega (arith, there);
          within = omega (arith, there, is.on, is.within);
          best = λ j on few within. omega (arith, ap (upto row) there, most, is.nearest j on (omega (arith, few, le)));
          nearest = λ j on before. absurd (omega (arith, there, on, before));
        }

first_packet : (row : List ℕ) → 0 < length row → ByLiteral row ⊎ ByRun row
first_packet [] some = absurd (omega arith)
first_packet (b ∷ row) some = first_step b row

-- a row costs no less than by its best literal, or by its longest run
no_less : (row : List ℕ) (p at end : ℕ) → p + 1 ≡ at → at ≤ length row → IsEnd 127 row at end
    → (1 + upto row end ≤ upto row p) ⊎ ((2 ≤ equal_at (drop p row)) × (2 + fewest (drop (p + equal_at (drop p row)) row) ≤ fewest (drop p row)))
no_less row p at end next within is = elim (first_packet (drop p row) (omega (arith, length-drop p row))) [
  | inl lit ↦ inl (omega (
    arith,
    lit.is,
    ap fewest (drop-drop lit.count p row),
    is.best (p + lit.count) (omega (arith, lit.some)) (omega (arith, lit.few)) (omega (arith, lit.within, length-drop p row)),
  ))
  | inr run ↦ inr (
    omega (arith, run.some, run.few),
    omega (
      arith,
      run.is,
      ap fewest (drop-drop run.count p row),
      run_longest row (p + run.count) (p + equal_at (drop p row)) (omega (arith, run.few)),
    ),
  )
]

-- What the place before costs, and where a literal from before it ends best.
pub record IsFront (row : List ℕ) (p cost end : ℕ) : Type 0 where
  pub least : cost ≡ fewest (drop p row)
  pub ends : IsEnd 128 row p end

-- the longest run costs less than the best literal
pub run_front : (row : List ℕ) (p at end n cost : ℕ) → p + 1 ≡ at → at ≤ length row → IsEnd 127 row at end → n ≡ equal_at (drop p row) → 2 ≤ n
    → cost ≡ 2 + fewest (drop (p + n) row) → cost + p < 1 + upto row end → IsFront row p cost p
run_front row p at end n cost next within is equal many so less =
    let run : fewest (drop p row) ≤ 2 + fewest (drop (p + n) row) =
    omega (arith, run_costs (drop p row) n many (omega (arith, equal)), ap fewest (drop-drop n p row)) in
    let least : cost ≡ fewest (drop p row) = elim (no_less row p at end next within is) [
      | inl literal ↦ absurd (omega (arith, run, so, less, literal))
      | inr longest ↦ omega (arith, run, so, longest.1, ap (λ k. fewest (drop (p + k) row)) equal)
    ] in
    record {
      least = least;
      ends = record {
        on = omega arith;
        near = omega arith;
        within = omega (arith, next, within);
        best = λ j on few inside. elim (cases_lt p j) [
          | inl more ↦ omega (arith, least, less, is.best j (omega (arith, more, next)) (omega (arith, few, next)) inside)
          | inr here ↦ let e : p ≡ j = omega arith in omega (arith, ap (upto row) e)
        ];
        nearest = λ j on before. absurd (omega (arith, on, before));
      };
    }

-- the best literal costs no more than a run
pub literal_front : (row : List ℕ) (p at end n cost : ℕ) → p + 1 ≡ at → at ≤ length row → IsEnd 127 row at end → n ≡ equal_at (drop p row)
    → cost + p ≡ 1 + upto row end → (2 ≤ n → cost ≤ 2 + fewest (drop (p + n) row)) → IsFront row p cost end
literal_front row p at end n cost next within is equal so no_more =
    let own : upto row p ≤ 1 + upto row end = literal_upto row p end (omega (arith, next, is.on)) (omega (arith, next, is.near)) is.within in
    let least : cost ≡ fewest (drop p row) = elim (no_less row p at end next within is) [
      | inl literal ↦ omega (arith, own, so, literal)
      | inr longest ↦ omega (arith, own, so, longest.1, no_more (omega (arith, longest.0, equal)), ap (λ k. fewest (drop (p + k) row)) equal)
    ] in
    record {
      least = least;
      ends = record {
        on = omega (arith, next, is.on);
        near = omega (arith, next, is.near);
        within = is.within;
        best = λ j on few inside. elim (cases_lt p j) [
          | inl more ↦ is.best j (omega (arith, more, next)) (omega (arith, few, next)) inside
          | inr here ↦ let e : p ≡ j = omega arith in omega (arith, least, so, ap (upto row) e)
        ];
        nearest = λ j on before. elim (cases_lt p j) [
          | inl more ↦ is.nearest j (omega (arith, more, next)) before
          | inr here ↦ let e : p ≡ j = omega arith in omega (arith, least, so, ap (upto row) e)
        ];
      };
    }

-- ---- equal bytes, one more

pub equal_first : (b c : ℕ) (row : List ℕ) → b ≡ c → equal_at (b ∷ c ∷ row) ≡ min (equal_at (c ∷ row) + 1) 128
equal_first b c row e =
    let more : same b (b ∷ c ∷ row) ≡ 1 + same c (c ∷ row) = same_more b b (c ∷ row) refl ∙ ap (λ k. 1 + same k (c ∷ row)) e in
    omega (arith, equal_is (b ∷ c ∷ row), equal_is (c ∷ row), more)

pub equal_apart : (b c : ℕ) (row : List ℕ) → b ≢ c → equal_at (b ∷ c ∷ row) ≡ 1
equal_apart b c row apart = by_count (cases_lt 0 (same b (c ∷ row)))
  where
    by_count : (0 < same b (c ∷ row)) ⊎ (same b (c ∷ row) ≤ 0) → equal_at (b ∷ c ∷ row) ≡ 1
    by_count (inl some) = absurd (apart (sym (same_first b c row (omega arith))))
    by_count (inr none) = omega (arith, equal_is (b ∷ c ∷ row), same_more b b (c ∷ row) refl)

pub equal_last : (b : ℕ) → equal_at (b ∷ []) ≡ 1
equal_last b = omega (arith, equal_is (b ∷ []), same_more b b [] refl)

pub equal_more : (row : List ℕ) (behind : ℕ) → 1 < length row → behind ≡ equal_at (drop 1 row) → get_or row 0 0 ≡ get_or row 1 0
    → min (behind + 1) 128 ≡ equal_at row
equal_more [] behind some is e = absurd (omega arith)
equal_more (b ∷ []) behind some is e = absurd (omega arith)
equal_more (b ∷ c ∷ row) behind some is e = omega (arith, equal_first b c row e)

pub equal_one : (row : List ℕ) → 0 < length row → (1 < length row → get_or row 0 0 ≢ get_or row 1 0) → 1 ≡ equal_at row
equal_one [] some apart = absurd (omega arith)
equal_one (b ∷ []) some apart = sym (equal_last b)
equal_one (b ∷ c ∷ row) some apart = sym (equal_apart b c row (apart (omega arith)))

-- ---- the table

-- an entry that is filled
pub entry_at : (row table : List ℕ) (filled : Filled) (j : ℕ) → IsFilled row table filled → filled.at ≤ j → j ≤ length row
    → get_or table j 0 ≡ fewest (drop j row)
entry_at row table filled j is on within =
    let there : filled.at + (j - filled.at) ≡ j = omega arith in
    ap (λ k. get_or table k 0) (sym there)
    ∙ sym (get_or-drop filled.at table (j - filled.at) 0)
    ∙ ap (λ cs. get_or cs (j - filled.at) 0) is.done
    ∙ costs_drop (j - filled.at) (drop filled.at row) (omega (arith, within, length-drop filled.at row))
    ∙ ap fewest (drop-drop (j - filled.at) filled.at row)
    ∙ ap (λ k. fewest (drop k row)) there

-- which is small
pub entry_fits : (row table : List ℕ) (filled : Filled) (j : ℕ) → IsFilled row table filled → filled.at ≤ j → j ≤ length row → get_or table j 0 ≤ 2 * length row
entry_fits row table filled j is on within =
    omega (arith, entry_at row table filled j is on within, fewest_most (drop j row), length-drop j row)

-- nothing but the end is filled
pub costs_begin : (row table : List ℕ) → length table ≡ length row + 1
    → IsFilled row (set table (length row) 0) (record { at = length row; equal = 0; end = length row })
unfolding costs
costs_begin row table sized =
    let none : drop (length row) row ≡ [] = drop_all (length row) row (omega arith) in
    let behind : drop (length row + 1) table ≡ [] = drop_all (length row + 1) table (omega arith) in
    record {
      sized = omega (arith, length-set table (length row) 0);
      within = omega arith;
      done = drop-set table (length row) 0 (omega arith) ∙ ap (λ rest. 0 ∷ rest) behind ∙ ap costs (sym none);
      counted = sym (ap equal_at none ∙ equal_none);
      few = omega arith;
      ends = record {
        on = omega arith;
        near = omega arith;
        within = omega arith;
        best = λ j on few within. let e : length row ≡ j = omega arith in omega (arith, ap (upto row) e);
        nearest = λ j on before. absurd (omega (arith, on, before));
      };
    }
  where
    equal_none : equal_at [] ≡ 0
    equal_none = omega (arith, equal_is [])

-- one more place is filled
pub costs_step : {row table : List ℕ} {filled : Filled} {cost end equal : ℕ} → IsFilled row table filled → 0 < filled.at
    → equal ≡ equal_at (drop (filled.at - 1) row) → cost ≡ fewest (drop (filled.at - 1) row) → IsEnd 128 row (filled.at - 1) end
    → IsFilled row (set table (filled.at - 1) cost) (record { at = filled.at - 1; equal = equal; end = end })
unfolding costs
costs_step {row} {table} {filled} {cost} {end} {equal} so_far some counted least ends =
    let at : ℕ = filled.at in
    let again : at - 1 + 1 ≡ at = omega arith in
    let here : at - 1 < length row = omega (arith, so_far.within) in
    let rest : drop (at - 1) row ≡ get_or row (at - 1) 0 ∷ drop at row = drop_more row (at - 1) 0 here ∙ ap (λ k. get_or row (at - 1) 0 ∷ drop k row) again in
    let table_rest : drop (at - 1 + 1) table ≡ costs (drop at row) = ap (λ k. drop k table) again ∙ so_far.done in
    let first : cost ≡ fewest (get_or row (at - 1) 0 ∷ drop at row) = least ∙ ap fewest rest in
    record {
      sized = omega (arith, length-set table (at - 1) cost, so_far.sized);
      within = omega (arith, so_far.within);
      done =
          drop-set table (at - 1) cost (omega (arith, so_far.sized, so_far.within))
          ∙ ap (λ cs. cost ∷ cs) table_rest
          ∙ ap (λ k. k ∷ costs (drop at row)) first
          ∙ ap costs (sym rest);
      counted = counted;
      few = omega (arith, counted, (equal_within (drop (at - 1) row)).0);
      ends = ends;
    }

-- all places are filled
pub costs_end : (row table : List ℕ) (filled : Filled) → IsFilled row table filled → filled.at ≡ 0 → table ≡ costs row
costs_end row table filled so_far none = sym (ap (λ k. drop k table) none) ∙ so_far.done ∙ ap (λ k. costs (drop k row)) none

-- a literal goes on over a place where no three equal bytes begin
pub literal_on : (row : List ℕ) (p end cost : ℕ) → p + 3 ≤ end → end < p + 128 → IsEnd 128 row (p + 1) end → equal_at (drop p row) ≤ 2
    → cost ≡ fewest (drop end row) + (end - p) + 1 → IsFront row p cost end
literal_on row p end cost behind near is few so =
    literal_front row p (p + 1) end (equal_at (drop p row)) cost refl (omega (arith, is.on, is.within))
    (end_less row (p + 1) end end is (λ less. refl) (λ far. absurd (omega (arith, near, far)))) refl (omega (arith, so, behind))
    (λ many.
    let two : equal_at (drop p row) ≡ 2 = omega (arith, many, few) in
    omega (arith, so, behind, is.nearest (p + 2) (omega arith) (omega (arith, behind)), ap (λ k. fewest (drop (p + k) row)) two))
