-- The dots of a byte that is moved to the left, or cut off after its first dots.
use Rattle.std.proofs.Common.{◌≡◌, ℕ, zero, suc, ◌+◌, ◌-◌, ◌*◌, ◌/◌, ◌%◌, ◌^◌, ◌==◌, ◌<◌, ◌≤◌, Bool, true, ◌&&◌, ◌||◌}
use Rattle.std.proofs.Common.{nat_le, nat_lt, refl, ◌∙◌, ap, arith, bit_and, bit_or, max}
use Rattle.std.proofs.lemmas.Bool.{agree_below, agree_below_at}
use Rattle.std.proofs.lemmas.Nat.Bits.{bit_at_or, bit_at-lt}
use Rattle.base_definitions.specs.Packed.{bit_at}

-- Tests of each byte, for each number of places and each place in it.
abbrev Test : Type 0
Test = ℕ → ℕ → ℕ → Bool

abbrev agree_at : Test → Test → ℕ → ℕ → Bool
agree_at f g a j = agree_below (f a j) (g a j) 256

abbrev agree_places : Test → Test → ℕ → Bool
agree_places f g a = agree_below (agree_at f g a) (λ j. true) 8

agree : (f g : Test) (most a j byte : ℕ)
    → agree_below (agree_places f g) (λ a. true) most ≡ true → a < most → j < 8 → byte < 256 → f a j byte ≡ g a j byte
agree f g most a j byte all few low fits =
    let places = agree_below_at (agree_places f g) (λ a. true) most a all few in
    agree_below_at (f a j) (g a j) 256 byte (agree_below_at (agree_at f g a) (λ j. true) 8 j places low) fits

-- ---- a byte as the code moves it

abbrev code_left : Test
code_left by j byte = bit_at (byte * 2 ^ by % 65536 / 256) j

abbrev is_left : Test
is_left by j byte = nat_le 8 (j + by) && bit_at byte (j + by - 8)

all_left : agree_below (agree_places code_left is_left) (λ a. true) 9 ≡ true
all_left = refl

pub moved-left : (by j byte : ℕ) → by ≤ 8
    → j < 8 → byte < 256 → bit_at (byte * 2 ^ by % 65536 / 256) j ≡ (nat_le 8 (j + by) && bit_at byte (j + by - 8))
moved-left by j byte some low fits = agree code_left is_left 9 by j byte all_left (omega arith) low fits

abbrev code_stays : Test
code_stays by j byte = bit_at (bit_and (byte * 2 ^ by % 65536) 255) j

abbrev is_stays : Test
is_stays by j byte = nat_lt (j + by) 8 && bit_at byte (j + by)

all_stays : agree_below (agree_places code_stays is_stays) (λ a. true) 9 ≡ true
all_stays = refl

pub moved-stays : (by j byte : ℕ) → by ≤ 8 → j < 8
    → byte < 256 → bit_at (bit_and (byte * 2 ^ by % 65536) 255) j ≡ (nat_lt (j + by) 8 && bit_at byte (j + by))
moved-stays by j byte some low fits = agree code_stays is_stays 9 by j byte all_stays (omega arith) low fits

-- ---- a byte as the code cuts it

abbrev code_cut : Test
code_cut left j byte = bit_at (byte / 2 ^ (8 - left) * 2 ^ (8 - left) % 256) j

abbrev is_cut : Test
is_cut left j byte = nat_lt j left && bit_at byte j

all_cut : agree_below (agree_places code_cut is_cut) (λ a. true) 8 ≡ true
all_cut = refl

pub cut-is : (left j byte : ℕ) → left < 8
    → j < 8 → byte < 256 → bit_at (byte / 2 ^ (8 - left) * 2 ^ (8 - left) % 256) j ≡ (nat_lt j left && bit_at byte j)
cut-is left j byte some low fits = agree code_cut is_cut 8 left j byte all_cut some low fits

-- ---- two bytes

bit-or : (a b : ℕ) → a < 2 → b < 2 → (max a b == 1) ≡ ((a == 1) || (b == 1))
bit-or zero zero low low' = refl
bit-or zero (suc zero) low low' = refl
bit-or (suc zero) zero low low' = refl
bit-or (suc zero) (suc zero) low low' = refl
bit-or zero (suc (suc b)) low low' = absurd (omega arith)
bit-or (suc zero) (suc (suc b)) low low' = absurd (omega arith)
bit-or (suc (suc a)) b low low' = absurd (omega arith)

-- a dot that is in one of two bytes
pub or-is : (a b j : ℕ) → bit_at (bit_or a b) j ≡ (bit_at a j || bit_at b j)
or-is a b j = ap (λ n. n == 1) (bit_at_or a b (7 - j)) ∙ bit-or _ _ (bit_at-lt a (7 - j)) (bit_at-lt b (7 - j))
