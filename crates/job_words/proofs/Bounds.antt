-- Numbers within their bounds.
use Rattle.std.proofs.Common.{◌≡◌, ℕ, ◌≤◌, Bool, true, false, ◌&&◌, leb, cond, List, Option, Some, None, refl, arith, unwrap_or}
use Rattle.std.specs.Option.{option_and_then}
use Rattle.std.specs.Str.Parse.{digits_value}
use Rattle.std.proofs.lemmas.Bool.{leb-true}
use Rattle.key_values.specs.Numbers.{is_number, number_within}

-- a number lies between two others
pub record IsBetween (low high n : ℕ) : Type 0 where
  pub least : low ≤ n
  pub most : n ≤ high

both_pass : (test low high : Bool) (value n : ℕ) → cond (test && (low && high)) (Some value) None ≡ Some n
    → (low ≡ true) × (high ≡ true) × (value ≡ n)
both_pass true true true value n is = (refl, refl, cc)
both_pass true true false value n is = cc
both_pass true false high value n is = cc
both_pass false low high value n is = cc

pub number_between : (low high n : ℕ) (text : List ℕ) → number_within low high text ≡ Some n → IsBetween low high n
unfolding number_within
number_between low high n text is =
    let value : ℕ = digits_value 10 text in
    let both = both_pass (is_number text) (leb low value) (leb value high) value n is in
    record {
      least = omega (arith, leb-true low value both.0, both.2);
      most = omega (arith, leb-true value high both.1, both.2);
    }

or_default : (low high default : ℕ) (value : Option ℕ) → IsBetween low high default
    → ((n : ℕ) → value ≡ Some n → IsBetween low high n) → IsBetween low high (unwrap_or value default)
or_default low high default None between are = between
or_default low high default (Some n) between are = are n refl

-- the number that words give, or its default
pub given_between : (low high default : ℕ) (value : Option (List ℕ)) → IsBetween low high default
    → IsBetween low high (unwrap_or (option_and_then (number_within low high) value) default)
given_between low high default None between = between
given_between low high default (Some text) between =
    or_default low high default (number_within low high text) between (λ n. number_between low high n text)
