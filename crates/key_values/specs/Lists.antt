-- Lists of decimal numbers, with commas between.
use Rattle.std.specs.Prelude.{ℕ, ◌==◌, Bool, List, [], ◌∷◌, map, Option, Some, None}
use Rattle.std.specs.Fmt.{decimal}
use Rattle.std.specs.List.{join_with_byte}
use Rattle.std.specs.Option.{option_map}
use Rattle.key_values.specs.Numbers.{number_within}

-- whether a byte is a comma
abbrev pub is_comma : ℕ → Bool
is_comma byte = byte == 44

-- the numbers with one more in front
abbrev pub with_number : Option ℕ → Option (List ℕ) → Option (List ℕ)
with_number None numbers = None
with_number (Some number) numbers = option_map (λ others. number ∷ others) numbers

-- the numbers that texts write, if each is from `low` to `high`
abbrev pub numbers_within : ℕ → ℕ → List (List ℕ) → Option (List ℕ)
numbers_within low high [] = Some []
numbers_within low high (text ∷ texts) = with_number (number_within low high text) (numbers_within low high texts)

-- the text of numbers
unfoldable pub list_text : List ℕ → List ℕ
list_text numbers = join_with_byte 44 (map decimal numbers)
