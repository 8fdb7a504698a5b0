-- The steps of an amount with grain.
use Rattle.std.proofs.Common.{ℕ, ◌≡◌, ◌+◌, ◌*◌, ◌/◌, ◌%◌, ap, arith}

-- The two halves of a place, multiplied by themselves.
pub halves : (place steps : ℕ) → (place / 256 * steps + place % 256 * steps / 256) / 256 ≡ place * steps / 65536
halves place steps =
    let whole : place * steps ≡ (256 * (place / 256) + place % 256) * steps = ap (λ n. n * steps) (omega arith) in
    omega arith
