-- Bytes that are riffled: 96 places, of which the even ones take the first half.
use Rattle.std.proofs.Common.{◌≡◌, ℕ, ◌+◌, ◌*◌, ◌/◌, ◌%◌, ◌<◌, arith}

-- where the byte of a place comes from
abbrev pub next_place : ℕ → ℕ
next_place k = k / 2 + 48 * (k % 2)

-- five times, this parts three colours
five_places : (colour x : ℕ) → colour < 3 → x < 32
    → next_place (next_place (next_place (next_place (next_place (32 * colour + x))))) ≡ 3 * x + colour
five_places colour x few low = omega arith

pub five_times : (a b c d e f : ℕ → ℕ) → ((k : ℕ) → k < 96 → b k ≡ a (next_place k)) → ((k : ℕ) → k < 96 → c k ≡ b (next_place k))
    → ((k : ℕ) → k < 96 → d k ≡ c (next_place k)) → ((k : ℕ) → k < 96 → e k ≡ d (next_place k))
    → ((k : ℕ) → k < 96 → f k ≡ e (next_place k)) → (colour x : ℕ) → colour < 3 → x < 32 → f (32 * colour + x) ≡ a (3 * x + colour)
five_times a b c d e f first second third fourth fifth colour x few low = grind (arith, five_places, next_place)
