-- The worked row of ten bytes.
use Rattle.std.proofs.Common.{◌≡◌, ℕ, zero, suc, ◌+◌, ◌<◌, ◌≤◌, ◌⊎◌, inl, inr, Bool, true, false, ◌&&◌, nat_le, [], ◌∷◌, refl, ◌∙◌, ap, arith}
use Rattle.std.specs.List.{list_all}
use Rattle.std.proofs.lemmas.Bool.{cases_lt, leb-true}
use Rattle.base_definitions.specs.Counting.{count_from}
use Rattle.escp2_definitions.specs.Least.{cost_from, costs, equal_at, least, least_packet, literals, packets_at, runs}
use Rattle.escp2_rows.specs.Ends.{IsEnd}
use Rattle.escp2_rows.specs.Examples.{ten}
use Rattle.escp2_rows.specs.Literals.{IsLongest, WritesFirst}
use Rattle.escp2_rows.specs.Passing.{EndsAt, GoesOn, IsLevel, upto}

both : (a b : Bool) → (a && b) ≡ true → (a ≡ true) × (b ≡ true)
both true b e = (refl, e)
both false b e = absurd cc

-- what is told of numbers one by one
among : (test : ℕ → Bool) (first many : ℕ) → list_all test (count_from first many) ≡ true → (k : ℕ) → first ≤ k → k < first + many → test k ≡ true
among test first zero all k from below = absurd (omega (arith, from, below))
among test first (suc many) all k from below =
    let tells : (test first ≡ true) × (list_all test (count_from (first + 1) many) ≡ true) = both _ _ all in
    pick (cases_lt first k) tells.0 (λ more. among test (first + 1) many tells.1 k (omega (arith, more)) (omega (arith, below)))
  where
    pick : (first < k) ⊎ (k ≤ first) → test first ≡ true → (first < k → test k ≡ true) → test k ≡ true
    pick (inl more) at after = after more
    pick (inr less) at after = let same : k ≡ first = omega (arith, from, less) in ap test same ∙ at

-- a literal up to one of these places of the row costs at least so much
costs_most : (most first many : ℕ) → list_all (λ k. nat_le most (upto ten k)) (count_from first many) ≡ true
    → (k : ℕ) → first ≤ k → k < first + many → most ≤ upto ten k
costs_most most first many all k from below = leb-true _ _ (among (λ k. nat_le most (upto ten k)) first many all k from below)

pub ten-level : IsLevel ten 1 3
unfolding cost_from costs equal_at least literals packets_at runs
ten-level = record {
  on = omega arith;
  within = omega arith;
  same = refl;
  least = λ n from to. costs_most 8 1 3 refl n from (omega (arith, to));
}

pub ten-ends : EndsAt 1 ten 3
unfolding cost_from costs equal_at least literals packets_at runs
ten-ends = record { less = λ k from near within. costs_most 9 4 7 refl k from (omega (arith, within)) }

pub ten-goes : GoesOn ten 3
unfolding cost_from costs equal_at least literals packets_at runs
ten-goes = record {
  within = omega arith;
  later = λ end from within ends best n to.
      let lower : upto ten end ≤ 8 = best 3 (omega arith) from in
      let most : 8 ≤ upto ten n = costs_most 8 0 4 refl n (omega arith) (omega (arith, to)) in
      omega (arith, lower, most);
}

pub ten-nearest : IsEnd 128 ten 0 1
unfolding cost_from costs equal_at least literals packets_at runs
ten-nearest = record {
  on = omega arith;
  near = omega arith;
  within = omega arith;
  best = λ j from near within. costs_most 8 0 11 refl j from (omega (arith, within));
  nearest = λ j from below. costs_most 9 0 1 refl j from below;
}

pub ten-longest : IsLongest ten 3
unfolding cost_from costs equal_at least literals packets_at runs
ten-longest = record {
  some = omega arith;
  few = omega arith;
  within = omega arith;
  is = refl;
  longest = λ k more few within. omega (arith, costs_most 9 4 7 refl k more (omega (arith, within)));
}

pub ten-written : WritesFirst ten 3 4 (2 ∷ 7 ∷ 8 ∷ 8 ∷ [])
unfolding cost_from costs equal_at least least_packet literals packets_at runs
ten-written = record { code_is = refl; bytes_are = refl; some = omega arith; within = omega arith; short = omega arith }
