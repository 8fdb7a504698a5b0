-- Decimal numbers: digits without a sign, a blank or a leading zero.
use Rattle.std.specs.Prelude.{ℕ, Bool, not, nat_le, nat_lt, slice_index, ◌==◌, ◌&&◌, if◌then◌else◌, List, length, Option, Some, None}
use Rattle.std.specs.Char.{is_ascii_digit}
use Rattle.std.specs.List.{list_all}
use Rattle.std.specs.Str.Parse.{digits_value}

abbrev pub has_leading_zero : List ℕ → Bool
has_leading_zero text = nat_lt 1 (length text) && (slice_index text 0 == 48)

-- whether a text is a number: `0`, or digits of which the first is 1 to 9
abbrev pub is_number : List ℕ → Bool
is_number text = list_all is_ascii_digit text && (nat_lt 0 (length text) && not (has_leading_zero text))

-- the number that a text writes, where it is from `low` to `high`
unfoldable pub number_within : ℕ → ℕ → List ℕ → Option ℕ
number_within low high text =
    let number = digits_value 10 text in
    if is_number text && (nat_le low number && nat_le number high) then Some number else None
