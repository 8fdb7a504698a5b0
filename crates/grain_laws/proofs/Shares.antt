-- How often a share of a round comes.
use Rattle.std.proofs.Common.{◌≡◌, ◌⊎◌, ℕ, zero, suc, ◌+◌, ◌-◌, ◌*◌, ◌/◌, ◌%◌, ◌<◌, ◌≤◌, Bool, true, cond, min, ltb, eqb, ap, arith, inl, inr, refl, sym, ◌∙◌}
use Rattle.std.proofs.lemmas.Bool.{cases_eq, cases_lt, eq-eqb, ne_eqb, lt-ltb, le-ltb}
use Rattle.std.proofs.lemmas.Nat.{div_below, le-div, mod_below, mul-le}
use Rattle.std.proofs.Math.Nat.{div-add-mod}
use Rattle.grain_laws.proofs.Tallies.{one_if, tally, tally_below, tally_both, tally_same}

-- the first number whose share of m in n places is v or more
abbrev pub from : ℕ → ℕ → ℕ → ℕ
from m n v = (v * n + (m - 1)) / m

-- m times that number is at least v * n, and no more than one m past it
from_reaches : (m n v : ℕ) → 0 < m → (v * n ≤ m * from m n v) × (m * from m n v ≤ v * n + (m - 1))
from_reaches m n v some =
    let x : ℕ = v * n + (m - 1) in
    (omega (arith, div-add-mod x m, mod_below x m some), omega (arith, div-add-mod x m))

-- a number has a share below v if it is below that one
below_from : (m n v k : ℕ) → 0 < m → 0 < n → ltb (k * m / n) v ≡ ltb k (from m n v)
below_from m n v k some places =
    let reaches = from_reaches m n v some in
    elim (cases_lt k (from m n v)) [
      | inl low ↦
          let next : (k + 1) * m ≤ from m n v * m = mul-le (k + 1) m (from m n v) m (omega arith) (omega arith) in
          lt-ltb (k * m / n) v (div_below (k * m) n v places (grind (arith, next, reaches.1)))
          ∙ sym (lt-ltb k (from m n v) low)
      | inr high ↦
          let there : from m n v * m ≤ k * m = mul-le (from m n v) m k m high (omega arith) in
          le-ltb (k * m / n) v (le-div v (k * m) n places (grind (arith, there, reaches.0)))
          ∙ sym (le-ltb k (from m n v) high)
    ]

-- one share more
next_share : (x v : ℕ) → cond (eqb x v) 1 0 + cond (ltb x v) 1 0 ≡ cond (ltb x (suc v)) 1 0
next_share x v =
    elim (cases_lt x v) [
      | inl low ↦
          let more : x < suc v = omega arith in
          omega (arith, ap one_if (lt-ltb x v low), ap one_if (ne_eqb x v (omega arith)), ap one_if (lt-ltb x (suc v) more))
      | inr high ↦ elim (cases_eq x v) [
        | inl same ↦
            let more : x < suc v = omega arith in
            omega (arith, ap one_if (eq-eqb x v same), ap one_if (le-ltb x v high), ap one_if (lt-ltb x (suc v) more))
        | inr other ↦
            let past : suc v ≤ x = omega arith in
            omega (arith, ap one_if (le-ltb x v high), ap one_if (ne_eqb x v other), ap one_if (le-ltb x (suc v) past))
      ]
    ]

-- between two of the numbers are as many as a whole share has places, or one more
between : (m n v : ℕ) → 0 < m
    → (from m n (suc v) ≡ from m n v + n / m) ⊎ (from m n (suc v) ≡ from m n v + (n / m + 1))
between m n v some =
    let a : ℕ = from m n v in
    let c : ℕ = from m n (suc v) in
    let q : ℕ = n / m in
    let low = from_reaches m n v some in
    let high = from_reaches m n (suc v) some in
    let whole : m * q + n % m ≡ n = div-add-mod n m in
    let short : n % m < m = mod_below n m some in
    elim (cases_lt c (a + q)) [
      | inl less ↦
          let times : (c + 1) * m ≤ (a + q) * m = mul-le (c + 1) m (a + q) m (omega arith) (omega arith) in
          absurd (grind (arith, times, low.1, high.0, whole, short))
      | inr least ↦ elim (cases_lt (a + (q + 1)) c) [
        | inl more ↦
            let times : (a + q + 2) * m ≤ c * m = mul-le (a + q + 2) m c m (omega arith) (omega arith) in
            absurd (grind (arith, times, low.0, high.1, whole, short))
        | inr most ↦ elim (cases_eq c (a + q)) [
          | inl is ↦ inl is
          | inr other ↦ inr (omega arith)
        ]
      ]
    ]

-- Each share below m comes as often as a whole share has places, or once more.
pub each_share : (m n v : ℕ) → v < m → 0 < n
    → (tally (λ k. eqb (k * m / n) v) n ≡ n / m) ⊎ (tally (λ k. eqb (k * m / n) v) n ≡ n / m + 1)
each_share m n v low places =
    let below : (w : ℕ) → w ≤ m → tally (λ k. ltb (k * m / n) w) n ≡ from m n w = λ w few.
    let reaches = from_reaches m n w (omega arith) in
    let times : w * n ≤ m * n = mul-le w n m n few (omega arith) in
    let inside : from m n w ≤ n = elim (cases_lt n (from m n w)) [
      | inl past ↦
          let more : (n + 1) * m ≤ from m n w * m = mul-le (n + 1) m (from m n w) m (omega arith) (omega arith) in
          absurd (grind (arith, more, times, reaches.1))
      | inr is ↦ is
    ] in
    tally_same (λ k. ltb (k * m / n) w) (λ k. ltb k (from m n w)) n (λ k inside. below_from m n w k (omega arith) places)
    ∙ tally_below (from m n w) n ∙ omega (arith, inside) in
    let sum = tally_both (λ k. eqb (k * m / n) v) (λ k. ltb (k * m / n) v) (λ k. ltb (k * m / n) (suc v)) n
    (λ k. next_share (k * m / n) v) in
    elim (between m n v (omega arith)) [
      | inl is ↦ inl (omega (arith, sum, below v (omega arith), below (suc v) (omega arith), is))
      | inr is ↦ inr (omega (arith, sum, below v (omega arith), below (suc v) (omega arith), is))
    ]
