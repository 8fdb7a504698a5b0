-- Black generation by multiplications.
use Rattle.std.proofs.Common.{◌≡◌, ℕ, ◌+◌, ◌-◌, ◌*◌, ◌/◌, ◌^◌, ◌<◌, Bool, true, min, nat_eq, nat_lt, refl, ◌∙◌, ap, arith}
use Rattle.std.proofs.lemmas.Bool.{agree_below, agree_below_at, eqb-true, ltb-true}
use Rattle.separation_definitions.specs.Amounts.{moved_to_black}
use Rattle.ink_separation.specs.Black.{rest_above, whole_above}

all_fit : agree_below (λ least. nat_lt (rest_above least) (2 ^ 16)) (λ least. true) 255 ≡ true
all_fit = refl

pub rest_fits : (least : ℕ) → least < 255 → rest_above least < 2 ^ 16
rest_fits least some = ltb-true _ _ (agree_below_at (λ l. nat_lt (rest_above l) (2 ^ 16)) (λ l. true) 255 least all_fit some)

-- For each least darkness and each darkness, the checker computes that the product fits, and what the sum is.
abbrev product_at : ℕ → ℕ → Bool
product_at least q = nat_lt ((q - least) * whole_above least) 256

abbrev is_at : ℕ → ℕ → Bool
is_at least q = nat_eq ((q - least) * whole_above least + (q - least) * rest_above least / 65536) (moved_to_black least q)

abbrev low_at : ℕ → ℕ → Bool
low_at least q = nat_lt (moved_to_black least q) 256

all_products : agree_below (λ least. agree_below (product_at least) (λ q. true) 256) (λ least. true) 255 ≡ true
all_products = refl

all_are : agree_below (λ least. agree_below (is_at least) (λ q. true) 256) (λ least. true) 255 ≡ true
all_are = refl

all_low : agree_below (λ least. agree_below (low_at least) (λ q. true) 256) (λ least. true) 255 ≡ true
all_low = refl

pub product_fits : (least q above whole : ℕ) → above ≡ q - least → whole ≡ whole_above least → least < 255 → q < 256
    → above * whole < 256
product_fits least q above whole from is some low =
    let fits : (q - least) * whole_above least < 256 =
    ltb-true _ _ (agree_below_at (product_at least) (λ p. true) 256 q
    (agree_below_at (λ l. agree_below (product_at l) (λ p. true) 256) (λ l. true) 255 least all_products some) low) in
    omega (arith, fits, ap (λ n. n * whole) from ∙ ap (λ n. (q - least) * n) is)

black_low : (least q : ℕ) → least < 255 → q < 256 → moved_to_black least q < 256
black_low least q some low =
    ltb-true _ _ (agree_below_at (low_at least) (λ p. true) 256 q
    (agree_below_at (λ l. agree_below (low_at l) (λ p. true) 256) (λ l. true) 255 least all_low some) low)

sum_is : (least q above whole rest high : ℕ) → above ≡ q - least → whole ≡ whole_above least → rest ≡ rest_above least
    → high ≡ above * rest / 65536 → least < 255 → q < 256 → above * whole + high ≡ moved_to_black least q
sum_is least q above whole rest high from is beyond part some low =
    let product : above * whole ≡ (q - least) * whole_above least = ap (λ n. n * whole) from ∙ ap (λ n. (q - least) * n) is in
    let upper : high ≡ (q - least) * rest_above least / 65536 =
    part ∙ ap (λ n. n * rest / 65536) from ∙ ap (λ n. (q - least) * n / 65536) beyond in
    ap (λ n. n + high) product ∙ ap (λ n. (q - least) * whole_above least + n) upper
    ∙ eqb-true _ _ (agree_below_at (is_at least) (λ p. true) 256 q
    (agree_below_at (λ l. agree_below (is_at l) (λ p. true) 256) (λ l. true) 255 least all_are some) low)

pub black_is : (least q above whole rest high value : ℕ) → above ≡ q - least → whole ≡ whole_above least → rest ≡ rest_above least
    → high ≡ above * rest / 65536 → least < 255 → q < 256 → value ≡ min (above * whole + high) 255 → value ≡ moved_to_black least q
black_is least q above whole rest high value from is beyond part some low least_of =
    omega (arith, least_of, sum_is least q above whole rest high from is beyond part some low, black_low least q some low)
