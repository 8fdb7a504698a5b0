-- Sixteen dots of a row in a word, and the word among the bits of a tile.
use Rattle.std.proofs.Common.{ℕ, ◌≡◌, ◌+◌, ◌-◌, ◌*◌, ◌/◌, ◌%◌, ◌^◌, ◌<◌, arith, zero, suc, List, set}
use Rattle.std.proofs.Common.{length, length-set, get_or-set_same, get_or-set_other}
use Rattle.std.proofs.lemmas.Bool.{cases_lt}
use Rattle.tile_lanes.specs.Rows.{bit}

high_bit : (w m : ℕ) → m < 8 → w / 256 / 2 ^ (7 - m) % 2 ≡ w / 2 ^ (15 - m) % 2
high_bit w zero h = omega arith
high_bit w (suc zero) h = omega arith
high_bit w (suc (suc zero)) h = omega arith
high_bit w (suc (suc (suc zero))) h = omega arith
high_bit w (suc (suc (suc (suc zero)))) h = omega arith
high_bit w (suc (suc (suc (suc (suc zero))))) h = omega arith
high_bit w (suc (suc (suc (suc (suc (suc zero)))))) h = omega arith
high_bit w (suc (suc (suc (suc (suc (suc (suc zero))))))) h = omega arith
high_bit w (suc (suc (suc (suc (suc (suc (suc (suc m)))))))) h = let no : ⊥ = omega arith in absurd no

low_bit : (w m : ℕ) → m < 8 → w % 256 / 2 ^ (7 - m) % 2 ≡ w / 2 ^ (7 - m) % 2
low_bit w zero h = omega arith
low_bit w (suc zero) h = omega arith
low_bit w (suc (suc zero)) h = omega arith
low_bit w (suc (suc (suc zero))) h = omega arith
low_bit w (suc (suc (suc (suc zero)))) h = omega arith
low_bit w (suc (suc (suc (suc (suc zero))))) h = omega arith
low_bit w (suc (suc (suc (suc (suc (suc zero)))))) h = omega arith
low_bit w (suc (suc (suc (suc (suc (suc (suc zero))))))) h = omega arith
low_bit w (suc (suc (suc (suc (suc (suc (suc (suc m)))))))) h = let no : ⊥ = omega arith in absurd no

-- a word in two bytes, from a place on
pub word_is : (bits : List ℕ) (at w r o : ℕ) → r < 32 → o < 64 → at ≡ 8 * r + 2 * (o / 16) → length bits ≡ 256
    → bit (set (set bits at (w / 256)) (at + 1) (w % 256)) (64 * r + o) ≡ w / 2 ^ (15 - o % 16) % 2
word_is bits at w r o row small is_at long = grind (arith, cases_lt, get_or-set_other, get_or-set_same, high_bit, length-set, low_bit)
