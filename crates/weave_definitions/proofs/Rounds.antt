-- Where two numbers are coprime, one of them has an inverse modulo the other.
use Rattle.std.proofs.Common.{◌≡◌, ℕ, zero, suc, ◌+◌, ◌-◌, ◌*◌, ◌%◌, ◌<◌, ◌≤◌, inl, inr, ◌∙◌, ap, arith, subst}
use Rattle.std.proofs.Math.Nat.{one-dvd, dvd-add, add-mul-mod_self_right}
use Rattle.std.proofs.lemmas.Bool.{cases_lt}
use Rattle.std.proofs.lemmas.Nat.{mod_below, mul-mod_first}
use Rattle.std.proofs.lemmas.Nat.Gcd.{dvd_antisymm, dvd_refl, dvd-zero}
use Rattle.std.specs.Int.{IsGcd}
use Prim.Native.Nat.{◌∣◌}

-- a number that is a multiple of the pitch less some rounds
pub record Reached (round pitch number : ℕ) : Type 0 where
  pub times : ℕ
  pub rounds : ℕ
  pub is : times * pitch ≡ number + rounds * round

-- the difference of two such numbers is one; a round has m + 1 numbers
difference : (m pitch a b : ℕ) → b ≤ a → Reached (m + 1) pitch a → Reached (m + 1) pitch b → Reached (m + 1) pitch (a - b)
difference m pitch a b le ra rb =
    let more : m * (rb.times * pitch) ≡ m * (b + rb.rounds * (m + 1)) = ap (λ v. m * v) rb.is in
    let rest : (a - b) + b ≡ a = omega arith in
    record {
      times = ra.times + m * rb.times;
      rounds = b + ra.rounds + m * rb.rounds;
      is = omega (arith, ra.is, more, rest);
    }

-- no number but 1 divides both
abbrev IsCoprime : ℕ → ℕ → Type 0
IsCoprime a b = (d : ℕ) → d ∣ a → d ∣ b → d ∣ 1

one-reached : (round pitch number : ℕ) → number ∣ 1 → Reached round pitch number → Reached round pitch 1
one-reached round pitch number divides r =
    let is_one : number ≡ 1 = dvd_antisymm divides (one-dvd number) in
    subst (λ k. Reached round pitch k) is_one r

-- Euclid's algorithm by differences comes down to 1.
euclid : (most m pitch a b : ℕ) → a + b ≤ most → IsCoprime a b → Reached (m + 1) pitch a → Reached (m + 1) pitch b → Reached (m + 1) pitch 1
euclid most m pitch zero b few coprime ra rb = one-reached (m + 1) pitch b (coprime b (dvd-zero b) (dvd_refl b)) rb
euclid most m pitch (suc a) zero few coprime ra rb =
    one-reached (m + 1) pitch (suc a) (coprime (suc a) (dvd_refl (suc a)) (dvd-zero (suc a))) ra
euclid zero m pitch (suc a) (suc b) few coprime ra rb = absurd (omega arith)
euclid (suc most) m pitch (suc a) (suc b) few coprime ra rb =
    elim (cases_lt (suc a) (suc b)) [
      | inl less ↦ euclid most m pitch (suc a) (suc b - suc a) (omega arith)
          (λ d p q. coprime d p (joined d (suc b) (suc a) (omega arith) q p)) ra (difference m pitch (suc b) (suc a) (omega arith) rb ra)
      | inr le ↦ euclid most m pitch (suc a - suc b) (suc b) (omega arith)
          (λ d p q. coprime d (joined d (suc a) (suc b) le p q) q) (difference m pitch (suc a) (suc b) le ra rb) rb
    ]
  where
    joined : (d big small : ℕ) → small ≤ big → d ∣ big - small → d ∣ small → d ∣ big
    joined d big small le p q =
        let whole : big - small + small ≡ big = omega arith in
        subst (λ n. d ∣ n) whole (dvd-add d p q)

-- the inverse of the pitch modulo a round
pub record Inverse (round pitch : ℕ) : Type 0 where
  pub number : ℕ
  pub low : number < round
  pub is : number * pitch % round ≡ 1 % round

-- at a round of m + 1 numbers
inverse_of_round : (m pitch : ℕ) → 1 ≤ pitch → IsGcd (m + 1) pitch 1 → Inverse (m + 1) pitch
inverse_of_round m pitch some gcd =
    let less : ℕ = pitch - 1 in
    let more : less + 1 ≡ pitch = omega arith in
    let round : Reached (m + 1) pitch (m + 1) = record { times = m + 1; rounds = less; is = omega (arith, ap (λ v. (m + 1) * v) more) } in
    let once : Reached (m + 1) pitch pitch = record { times = 1; rounds = 0; is = omega arith } in
    let r : Reached (m + 1) pitch 1 = euclid (m + 1 + pitch) m pitch (m + 1) pitch (omega arith) gcd.2 round once in
    record {
      number = r.times % (m + 1);
      low = mod_below r.times (m + 1) (omega arith);
      is = mul-mod_first r.times pitch (m + 1) ∙ ap (λ v. v % (m + 1)) r.is ∙ add-mul-mod_self_right 1 r.rounds (m + 1);
    }

pub inverse : (round pitch : ℕ) → 1 ≤ round → 1 ≤ pitch → IsGcd round pitch 1 → Inverse round pitch
inverse round pitch some near gcd =
    let same : (round - 1) + 1 ≡ round = omega arith in
    let P : ℕ → Type 0 = λ n. IsGcd n pitch 1 → Inverse n pitch in
    let all : P ((round - 1) + 1) = inverse_of_round (round - 1) pitch near in
    subst P same all gcd
