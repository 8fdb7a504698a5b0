-- Lists of numbers that are written, and read back.
use Rattle.std.proofs.Common.{◌≡◌, ℕ, ◌<◌, ◌≤◌, ◌+◌, ◌^◌, true, false, List, [], ◌∷◌, map, Some, refl, ap, ◌∙◌, arith}
use Rattle.std.specs.Char.{is_ascii_digit}
use Rattle.std.specs.Fmt.{decimal}
use Rattle.std.specs.List.{All, AllByRecursion, list_all, slice_split}
use Rattle.std.proofs.lemmas.Bool.Decides.{nat_tests}
use Rattle.std.proofs.lemmas.Fmt.{digits_decimal}
use Rattle.std.proofs.lemmas.List.Sums.{AllPass-from_list_all}
use Rattle.std.proofs.lemmas.List.Splits.{slice_split_at, slice_split_none}
use Rattle.key_values.specs.Lists.{is_comma, list_text, numbers_within}
use Rattle.key_values.proofs.Digits.{number_of_decimal, own}

no_comma : (b : ℕ) → is_ascii_digit b ≡ true → is_comma b ≡ false
no_comma b h = grind (arith, nat_tests)

pub digits_no_comma : (bytes : List ℕ) → list_all is_ascii_digit bytes ≡ true → All (λ b. is_comma b ≡ false) bytes
digits_no_comma bytes h = λ i e m. no_comma _ (AllPass-from_list_all is_ascii_digit bytes h i e m)

number_no_comma : (n : ℕ) → n < 2 ^ 64 → All (λ b. is_comma b ≡ false) (decimal n)
number_no_comma n fits = digits_no_comma (decimal n) (digits_decimal own n fits)

-- a written list has its numbers between its commas
pub parts_written : (bound n : ℕ) (others : List ℕ) → bound ≤ 2 ^ 64 → AllByRecursion (λ number. number < bound) (n ∷ others)
    → slice_split is_comma (list_text (n ∷ others)) ≡ map decimal (n ∷ others)
unfolding list_text
parts_written bound n [] fits small = slice_split_none is_comma (decimal n) (number_no_comma n (omega (arith, small.0)))
parts_written bound n (m ∷ others) fits small =
    slice_split_at is_comma (decimal n) 44 (list_text (m ∷ others)) (number_no_comma n (omega (arith, small.0))) refl
    ∙ ap (λ parts. decimal n ∷ parts) (parts_written bound m others fits small.1)

pub numbers_read : (high bound : ℕ) (numbers : List ℕ) → bound ≡ high + 1 → bound ≤ 2 ^ 64
    → AllByRecursion (λ number. number < bound) numbers → numbers_within 0 high (map decimal numbers) ≡ Some numbers
numbers_read high bound [] one fits small = refl
numbers_read high bound (n ∷ others) one fits small =
    rw (
      number_of_decimal 0 high n (omega arith) (omega (arith, small.0)) (omega arith),
      numbers_read high bound others one fits small.1,
    )
    refl
