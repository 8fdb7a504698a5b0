-- What a text says of the number that it writes.
use Rattle.std.proofs.Common.{◌≡◌, ℕ, zero, suc, ◌<◌, ◌≤◌, ◌+◌, ◌*◌, ◌-◌, ◌^◌, Bool, true, false, not, cond, ◌&&◌, ltb, leb, List}
use Rattle.std.proofs.Common.{length, take, get_or, Some, None, refl, sym, ◌∙◌, arith, rules}
use Rattle.std.specs.Char.{is_ascii_digit, digit_value}
use Rattle.std.specs.Fmt.{decimal}
use Rattle.std.specs.List.{list_all}
use Rattle.std.specs.Str.Parse.{digits_value}
use Rattle.std.proofs.lemmas.Bool.Decides.{nat_tests}
use Rattle.std.proofs.lemmas.Fmt.{decimal_digit, decimal_nonempty, digits_decimal, digits_value-decimal, first_decimal}
use Rattle.std.proofs.lemmas.List.{take_all}
use Rattle.std.proofs.lemmas.List.Folds.{list_all_at, list_all_more}
use Rattle.std.proofs.lemmas.Int.Digits.{digits_value_more}
use Rattle.std.proofs.lemmas.Str.Parse.{IsNumeralModel, digits_value-take-le, numerals_by_value}
use Rattle.key_values.specs.Numbers.{has_leading_zero, number_within}

-- the tests of a number
empty_fails : (digits lead small : Bool) (len value : ℕ)
    → len ≡ 0 → None ≡ cond ((digits && (ltb 0 len && not lead)) && small) (Some value) None
empty_fails digits lead small len value h = grind (arith, nat_tests)

zero_fails : (digits some lead small : Bool) (value : ℕ)
    → lead ≡ true → None ≡ cond ((digits && (some && not lead)) && small) (Some value) None
zero_fails digits some lead small value h = grind (arith, nat_tests)

digit_fails : (digits some small : Bool) (value : ℕ) → digits ≡ false → None ≡ cond ((digits && some) && small) (Some value) None
digit_fails digits some small value h = grind (arith, nat_tests)

high_fails : (good above : Bool) (value high : ℕ) → high < value → None ≡ cond (good && (above && leb value high)) (Some value) None
high_fails good above value high h = grind (arith, nat_tests)

low_fails : (good below : Bool) (value low : ℕ) → value < low → None ≡ cond (good && (leb low value && below)) (Some value) None
low_fails good below value low h = grind (arith, nat_tests)

all_pass : (digits lead : Bool) (len n value low high : ℕ) → digits ≡ true → (len ≡ 0 → ⊥) → lead ≡ false → n ≡ value → low ≤ n → n ≤ high
    → Some n ≡ cond ((digits && (ltb 0 len && not lead)) && (leb low value && leb value high)) (Some value) None
all_pass digits lead len n value low high all some no_zero is above below = grind (arith, nat_tests)

-- a text that writes no number
pub no_length : (low high : ℕ) (text : List ℕ) → length text ≡ 0 → None ≡ number_within low high text
unfolding number_within
no_length low high text h = empty_fails _ _ _ (length text) _ h

pub leading_zero : (low high : ℕ) (text : List ℕ) → has_leading_zero text ≡ true → None ≡ number_within low high text
unfolding number_within
leading_zero low high text h = zero_fails _ _ (has_leading_zero text) _ _ h

pub no_digit : (low high : ℕ) (text : List ℕ) (i : ℕ)
    → i < length text → is_ascii_digit (get_or text i 0) ≡ false → None ≡ number_within low high text
unfolding number_within
no_digit low high text i within h = digit_fails _ _ _ _ (list_all_at is_ascii_digit text i 0 within h)

-- a number past `high`, of which the first digits are past it
pub too_great : (low high : ℕ) (text : List ℕ) (i : ℕ) → high < digits_value 10 (take i text) → None ≡ number_within low high text
unfolding number_within
too_great low high text i h =
    let front : digits_value 10 (take i text) ≤ digits_value 10 text = digits_value-take-le 10 text i (omega arith) in
    high_fails _ _ (digits_value 10 text) high (omega arith)

-- a digit of the code is the digit's value
digit_is : (c : ℕ) → is_ascii_digit c ≡ true → digit_value c ≡ c - 48
digit_is c h = grind (arith, nat_tests)

pub next_value : (text : List ℕ) (i n d : ℕ) → i < length text → is_ascii_digit (get_or text i 0) ≡ true
    → n ≡ digits_value 10 (take i text) → d ≡ get_or text i 0 - 48 → n * 10 + d ≡ digits_value 10 (take (i + 1) text)
next_value text i n d within digit so_far is =
    let more = digits_value_more 10 text i within in
    let same = digit_is (get_or text i 0) digit in omega (arith, more, same, so_far, is)

pub next_digit : (text : List ℕ) (i : ℕ) → i < length text → is_ascii_digit (get_or text i 0) ≡ true
    → list_all is_ascii_digit (take i text) ≡ true → list_all is_ascii_digit (take (i + 1) text) ≡ true
next_digit text i within digit so_far = list_all_more is_ascii_digit text i 0 within ∙ rw (digit, so_far) refl

-- all digits were read, and give a number below `low`
pub too_small : (low high : ℕ) (text : List ℕ) (i n : ℕ)
    → length text ≤ i → n ≡ digits_value 10 (take i text) → n < low → None ≡ number_within low high text
unfolding number_within
too_small low high text i n end value small =
    let all : take i text ≡ text = take_all i text end in
    let is : n ≡ digits_value 10 text = rw all at value in
    low_fails _ _ (digits_value 10 text) low (omega arith)

pub whole_value : (low high : ℕ) (text : List ℕ) (i n : ℕ) → length text ≤ i → (length text ≡ 0 → ⊥)
    → has_leading_zero text ≡ false → n ≡ digits_value 10 (take i text) → list_all is_ascii_digit (take i text) ≡ true
    → low ≤ n → n ≤ high → Some n ≡ number_within low high text
unfolding number_within
whole_value low high text i n end some no_zero value digits above below =
    let all : take i text ≡ text = take_all i text end in
    all_pass _ (has_leading_zero text)
    (length text) n (digits_value 10 text) low high (rw all at digits) some no_zero (rw all at value) above below

-- ---- numbers that are written

-- the texts of digits, in std's words
pub own : IsNumeralModel (λ ds. list_all is_ascii_digit ds ≡ true) (digits_value 10)
own = numerals_by_value _ (search rules)

no_zero_before : (bytes : List ℕ) → 48 < get_or bytes 0 0 → has_leading_zero bytes ≡ false
no_zero_before bytes h = grind (arith, nat_tests)

no_leading_zero : (n : ℕ) → n < 2 ^ 64 → has_leading_zero (decimal n) ≡ false
no_leading_zero zero h = rw (decimal_digit 0 (omega arith)) refl
no_leading_zero (suc n) h = no_zero_before (decimal (suc n)) (first_decimal (suc n) (omega arith) h)

-- a number's text is read as the number
pub number_of_decimal : (low high n : ℕ) → low ≤ n → n ≤ high → high < 2 ^ 64 → number_within low high (decimal n) ≡ Some n
unfolding number_within
number_of_decimal low high n above below most =
    let fits : n < 2 ^ 64 = omega arith in
    let some : 0 < length (decimal n) = decimal_nonempty n fits in
    sym (all_pass _ (has_leading_zero (decimal n))
    (length (decimal n)) n (digits_value 10 (decimal n)) low high (digits_decimal own n fits)
    (λ none. omega arith) (no_leading_zero n fits) (sym (digits_value-decimal own n fits)) above below)
