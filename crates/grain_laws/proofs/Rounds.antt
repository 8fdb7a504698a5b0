-- A recurrence with an odd step comes to each place of a round once, where a round has a power of two places.
use Rattle.std.proofs.Common.{◌≡◌, ℕ, zero, suc, ◌+◌, ◌-◌, ◌*◌, ◌/◌, ◌%◌, ◌<◌, ◌≤◌, Bool, ap, arith, refl, sym, ◌∙◌}
use Rattle.std.proofs.lemmas.Nat.{mod-mul-add, mod_below}
use Rattle.std.proofs.Math.Nat.{div-add-mod}
use Rattle.grain_laws.proofs.Tallies.{halves, one_if, tally, tally_same}

-- how many places a round has: 1, 2, 4, ..
unfoldable pub round : ℕ → ℕ
round zero = 1
round (suc k) = 2 * round k

some : (k : ℕ) → 0 < round k
unfolding round
some zero = omega arith
some (suc k) = omega (arith, some k)

-- twice a number and a bit more, in a round of twice as many
twice_mod : (c r n : ℕ) → 0 < n → r < 2 → (2 * c + r) % (2 * n) ≡ 2 * (c % n) + r
twice_mod c r n pos low =
    let q : ℕ = c / n in
    let t : ℕ = c % n in
    let whole : n * q + t ≡ c = div-add-mod c n in
    let far : 2 * c + r ≡ q * (2 * n) + (2 * t + r) = grind (arith, whole) in
    ap (λ m. m % (2 * n)) far ∙ mod-mul-add q (2 * n) (2 * t + r) (omega (arith, mod_below c n pos))

-- both parities together
both : (f : ℕ → Bool) (n r s : ℕ) → r < 2 → r + s ≡ 1
    → tally (λ k. f (2 * k + r)) n + tally (λ k. f (2 * k + s)) n ≡ tally f (2 * n)
both f n zero s low one =
    let is : s ≡ 1 = omega arith in
    omega (
      arith,
      halves f n,
      tally_same (λ k. f (2 * k + 0)) (λ k. f (2 * k)) n (λ k below. ap f (omega arith)),
      ap (λ m. tally (λ k. f (2 * k + m)) n) is,
    )
both f n (suc zero) s low one =
    let is : s ≡ 0 = omega arith in
    omega (
      arith,
      halves f n,
      tally_same (λ k. f (2 * k + 0)) (λ k. f (2 * k)) n (λ k below. ap f (omega arith)),
      ap (λ m. tally (λ k. f (2 * k + m)) n) is,
    )
both f n (suc (suc r)) s low one = absurd (omega arith)

pub each_once : (k a b : ℕ) (f : ℕ → Bool) → a % 2 ≡ 1
    → tally (λ x. f ((a * x + b) % round k)) (round k) ≡ tally f (round k)
unfolding tally round
each_once zero a b f odd =
    let first : (a * 0 + b) % 1 ≡ 0 = omega arith in
    ap (λ m. 0 + one_if (f m)) first
each_once (suc k) a b f odd =
    let n : ℕ = round k in
    let g : ℕ → Bool = λ x. f ((a * x + b) % (2 * n)) in
    let of : ℕ → ℕ → Bool = λ c m. f (2 * m + c % 2) in
    let split : (c x y : ℕ) → y ≡ 2 * (a * x + c / 2) + c % 2 → f (y % (2 * n)) ≡ of c ((a * x + c / 2) % n) =
    λ c x y is. ap f (ap (λ m. m % (2 * n)) is ∙ twice_mod (a * x + c / 2) (c % 2) n (some k) (omega arith)) in
    let even : tally (λ x. g (2 * x)) n ≡ tally (of b) n =
    tally_same (λ x. g (2 * x)) (λ x. of b ((a * x + b / 2) % n)) n (λ x low. split b x (a * (2 * x) + b) (grind arith))
    ∙ each_once k a (b / 2) (of b) odd in
    let odds : tally (λ x. g (2 * x + 1)) n ≡ tally (of (a + b)) n =
    tally_same (λ x. g (2 * x + 1)) (λ x. of (a + b) ((a * x + (a + b) / 2) % n)) n
    (λ x low. split (a + b) x (a * (2 * x + 1) + b) (grind arith))
    ∙ each_once k a ((a + b) / 2) (of (a + b)) odd in
    omega (arith, halves g n, even, odds, both f n (b % 2) ((a + b) % 2) (omega arith) (omega (arith, odd)))
