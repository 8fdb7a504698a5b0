-- Lists of dead nozzles: numbers in rising order, with commas between.
use Rattle.std.specs.Prelude.{ℕ, Bool, true, ◌&&◌, nat_lt, if◌then◌else◌, List, [], ◌∷◌, Option, Some, None}
use Rattle.std.specs.List.{list_all, slice_split}
use Rattle.std.specs.Option.{option_and_then}
use Rattle.key_values.specs.Lists.{is_comma, list_text, numbers_within}

-- the nozzles that texts write, if each is a number from 0 to 254
abbrev pub nozzles_of : List (List ℕ) → Option (List ℕ)
nozzles_of texts = numbers_within 0 254 texts

-- whether each number is below all after it
abbrev pub is_rising : List ℕ → Bool
is_rising [] = true
is_rising (number ∷ others) = list_all (λ other. nat_lt number other) others && is_rising others

-- numbers, if they rise
abbrev pub if_rising : List ℕ → Option (List ℕ)
if_rising numbers = if is_rising numbers then Some numbers else None

-- the dead nozzles that a text lists: numbers from 0 to 254 in rising order, with commas between
unfoldable pub dead_value : List ℕ → Option (List ℕ)
dead_value text = option_and_then if_rising (nozzles_of (slice_split is_comma text))

-- the text of a list of dead nozzles
abbrev pub dead_text : List ℕ → List ℕ
dead_text numbers = list_text numbers
