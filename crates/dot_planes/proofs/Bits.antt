-- The eight dots of a byte.
use Rattle.std.proofs.Common.{◌≡◌, ℕ, ◌+◌, ◌<◌, Bool, true, false, ◌&&◌, refl, count_ones, eqb}
use Rattle.std.proofs.lemmas.Bool.{agree_below, agree_below_at, and_parts, eqb-true}
use lib.Count.{ones, ones_in}
use Rattle.base_definitions.specs.Packed.{bit_at, worth}
use Rattle.base_definitions.proofs.Bytes.{byte_of, each_byte, each_byte-at}

-- how many of eight dots are on
abbrev pub how_many : Bool → Bool → Bool → Bool → Bool → Bool → Bool → Bool → ℕ
how_many a b d e f g h i = worth a 1 + worth b 1 + worth d 1 + worth e 1 + worth f 1 + worth g 1 + worth h 1 + worth i 1

same : Bool → Bool → Bool
same true true = true
same true false = false
same false true = false
same false false = true

same-is : (x y : Bool) → same x y ≡ true → x ≡ y
unfolding same
same-is true true e = refl
same-is true false e = cc
same-is false true e = cc
same-is false false e = refl

-- A byte is that of its dots.
test_back : ℕ → Bool
test_back n = eqb (byte_of (bit_at n 0) (bit_at n 1) (bit_at n 2) (bit_at n 3) (bit_at n 4) (bit_at n 5) (bit_at n 6) (bit_at n 7)) n

all_back : agree_below test_back (λ n. true) 256 ≡ true
unfolding test_back
all_back = refl

pub byte_of-bits : (n : ℕ) → n < 256 → byte_of
    (bit_at n 0) (bit_at n 1) (bit_at n 2) (bit_at n 3) (bit_at n 4) (bit_at n 5) (bit_at n 6) (bit_at n 7) ≡ n
unfolding test_back
byte_of-bits n below = eqb-true _ n (agree_below_at test_back (λ n. true) 256 n all_back below)

-- The dots of a byte are those that it was made of, and as many.
test_byte : Bool → Bool → Bool → Bool → Bool → Bool → Bool → Bool → Bool
test_byte a b d e f g h i =
    let n : ℕ = byte_of a b d e f g h i in
    same (bit_at n 0) a && (same (bit_at n 1) b && (same (bit_at n 2) d && (same (bit_at n 3) e && (same (bit_at n 4) f
    && (same (bit_at n 5) g && (same (bit_at n 6) h && (same (bit_at n 7) i && eqb (count_ones n) (how_many a b d e f g h i))))))))

all_bytes : each_byte test_byte ≡ true
unfolding test_byte same ones ones_in
all_bytes = refl

-- What a byte says of its eight dots.
pub record Says (n : ℕ) (a b d e f g h i : Bool) : Type 0 where
  pub bit0 : bit_at n 0 ≡ a
  pub bit1 : bit_at n 1 ≡ b
  pub bit2 : bit_at n 2 ≡ d
  pub bit3 : bit_at n 3 ≡ e
  pub bit4 : bit_at n 4 ≡ f
  pub bit5 : bit_at n 5 ≡ g
  pub bit6 : bit_at n 6 ≡ h
  pub bit7 : bit_at n 7 ≡ i
  pub ones : count_ones n ≡ how_many a b d e f g h i

pub byte_of-says : (a b d e f g h i : Bool) → Says (byte_of a b d e f g h i) a b d e f g h i
unfolding test_byte
byte_of-says a b d e f g h i =
    let n : ℕ = byte_of a b d e f g h i in
    let t0 = each_byte-at test_byte all_bytes a b d e f g h i in
    let t1 = (and_parts (same (bit_at n 0) a) _ t0).1 in
    let t2 = (and_parts (same (bit_at n 1) b) _ t1).1 in
    let t3 = (and_parts (same (bit_at n 2) d) _ t2).1 in
    let t4 = (and_parts (same (bit_at n 3) e) _ t3).1 in
    let t5 = (and_parts (same (bit_at n 4) f) _ t4).1 in
    let t6 = (and_parts (same (bit_at n 5) g) _ t5).1 in
    let t7 = (and_parts (same (bit_at n 6) h) _ t6).1 in
    let t8 = (and_parts (same (bit_at n 7) i) _ t7).1 in
    record {
      bit0 = same-is _ _ (and_parts _ _ t0).0;
      bit1 = same-is _ _ (and_parts _ _ t1).0;
      bit2 = same-is _ _ (and_parts _ _ t2).0;
      bit3 = same-is _ _ (and_parts _ _ t3).0;
      bit4 = same-is _ _ (and_parts _ _ t4).0;
      bit5 = same-is _ _ (and_parts _ _ t5).0;
      bit6 = same-is _ _ (and_parts _ _ t6).0;
      bit7 = same-is _ _ (and_parts _ _ t7).0;
      ones = eqb-true _ _ t8;
    }
