-- The bits of one word.
use Rattle.std.proofs.Common.{◌≡◌, ℕ, zero, suc, ◌+◌, ◌*◌, ◌/◌, ◌%◌, ◌<◌, ◌≤◌, ◌||◌, Bool, true, eqb, refl, ◌∙◌}
use Rattle.std.proofs.Common.{arith, bit_or}
use Rattle.std.proofs.lemmas.Bool.{agree_below, agree_below_at, eqb-true}
use Rattle.board_steps.specs.Rule.{Within}
use Rattle.board_steps.specs.Steps.{bit_of}

-- the word x has arrival bits a, b and c, taken bit t and posted bit p
pub record Bits (a b c t p x : ℕ) : Type 0 where
  pub is : x ≡ a + 2 * b + 4 * c + 8 * t + 16 * p
  pub few_a : a ≤ 1
  pub few_b : b ≤ 1
  pub few_c : c ≤ 1
  pub few_t : t ≤ 1
  pub few_p : p ≤ 1

module _ (a b c t p x : ℕ) (h : Bits a b c t p x) where
  pub bit_a : x % 2 ≡ a
  bit_a = let e = h.is in let i = h.few_a in let j = h.few_b in let k = h.few_c in let l = h.few_t in let m = h.few_p in omega arith

  pub bit_b : x / 2 % 2 ≡ b
  bit_b = let e = h.is in let i = h.few_a in let j = h.few_b in let k = h.few_c in let l = h.few_t in let m = h.few_p in omega arith

  pub bit_c : x / 4 % 2 ≡ c
  bit_c = let e = h.is in let i = h.few_a in let j = h.few_b in let k = h.few_c in let l = h.few_t in let m = h.few_p in omega arith

  pub bit_t : x / 8 % 2 ≡ t
  bit_t = let e = h.is in let i = h.few_a in let j = h.few_b in let k = h.few_c in let l = h.few_t in let m = h.few_p in omega arith

  pub bit_p : x / 16 % 2 ≡ p
  bit_p = let e = h.is in let i = h.few_a in let j = h.few_b in let k = h.few_c in let l = h.few_t in let m = h.few_p in omega arith

  pub small : x < 32
  small = let e = h.is in let i = h.few_a in let j = h.few_b in let k = h.few_c in let l = h.few_t in let m = h.few_p in omega arith

-- ---- a word below 32 is one of 32

abbrev below_32 : (ℕ → Bool) → Bool
below_32 test = agree_below test (λ x. true) 32

-- one of two numbers, where it is not the other
or-other : (a b c d : ℕ) → (eqb a b || eqb c d) ≡ true → ¬ (a ≡ b) → c ≡ d
or-other a b c d e n = grind (arith, eqb-true)

-- a fetch-or adds a bit that is clear
abbrev adds : ℕ → ℕ → Bool
adds b x = eqb (x / b % 2) 1 || eqb (bit_or x b) (x + b)

added : (b : ℕ) → below_32 (adds b) ≡ true → (x : ℕ) → x < 32 → x / b % 2 ≡ 0 → bit_or x b ≡ x + b
added b all x near clear = or-other (x / b % 2) 1 (bit_or x b) (x + b) (agree_below_at (adds b) (λ x. true) 32 x all near) (λ e. omega arith)

-- a fetch-or leaves a bit that is set
abbrev stays : ℕ → Bool
stays x = eqb (x / 8 % 2) 0 || eqb (bit_or x 8) x

pub or_taken : (a b c p x : ℕ) → Bits a b c 0 p x → bit_or x 8 ≡ x + 8
or_taken a b c p x h = added 8 refl x (small a b c 0 p x h) (bit_t a b c 0 p x h)

pub or_taken_again : (a b c p x : ℕ) → Bits a b c 1 p x → bit_or x 8 ≡ x
or_taken_again a b c p x h = let e = bit_t a b c 1 p x h in
    or-other (x / 8 % 2) 0 (bit_or x 8) x (agree_below_at stays (λ x. true) 32 x refl (small a b c 1 p x h)) (λ z. omega arith)

pub or_posted : (a b c t x : ℕ) → Bits a b c t 0 x → bit_or x 16 ≡ x + 16
or_posted a b c t x h = added 16 refl x (small a b c t 0 x h) (bit_p a b c t 0 x h)

-- the arrival bit of a direction
abbrev pub pick : ℕ → ℕ → ℕ → ℕ → ℕ
pick zero a b c = a
pick (suc zero) a b c = b
pick (suc (suc d)) a b c = c

pub or_bit : (d a b c t p x : ℕ) → Bits a b c t p x → pick d a b c ≡ 0 → bit_or x (bit_of d) ≡ x + bit_of d
or_bit zero a b c t p x h e = added 1 refl x (small a b c t p x h) (let i = bit_a a b c t p x h in omega arith)
or_bit (suc zero) a b c t p x h e = added 2 refl x (small a b c t p x h) (bit_b a b c t p x h ∙ e)
or_bit (suc (suc d)) a b c t p x h e = added 4 refl x (small a b c t p x h) (bit_c a b c t p x h ∙ e)

-- a word whose five bits are each at least those of another
module _ (a b c t p x a' b' c' t' p' y : ℕ) (h : Bits a b c t p x) (k : Bits a' b' c' t' p' y) where
  pub Within-bits : a ≤ a' → b ≤ b' → c ≤ c' → t ≤ t' → p ≤ p' → Within x y
  Within-bits l m n o q = record {
    right = let i = bit_a a b c t p x h in let j = bit_a a' b' c' t' p' y k in omega arith;
    bottom = let i = bit_b a b c t p x h in let j = bit_b a' b' c' t' p' y k in omega arith;
    corner = let i = bit_c a b c t p x h in let j = bit_c a' b' c' t' p' y k in omega arith;
    taken = let i = bit_t a b c t p x h in let j = bit_t a' b' c' t' p' y k in omega arith;
    posted = let i = bit_p a b c t p x h in let j = bit_p a' b' c' t' p' y k in omega arith;
  }

pub grows_bit : (d a b c t p x : ℕ) → Bits a b c t p x → pick d a b c ≡ 0 → Within x (x + bit_of d)
grows_bit zero a b c t p x h e = omega arith
grows_bit (suc zero) a b c t p x h e = omega arith
grows_bit (suc (suc d)) a b c t p x h e = omega arith
