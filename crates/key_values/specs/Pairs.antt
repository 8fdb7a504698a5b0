-- Texts `key=value`, cut at their first `=`.
use Rattle.std.specs.Prelude.{◌≡◌, ℕ, ◌==◌, Bool, true, false, List, Option, Some, None}
use Rattle.std.specs.List.{after_first, before_first, list_any}

abbrev pub is_equals_sign : ℕ → Bool
is_equals_sign byte = byte == 61

-- whether a text has a `=`
abbrev pub is_key_value : List ℕ → Bool
is_key_value text = list_any is_equals_sign text

-- the text before the first `=`
abbrev pub key_of : List ℕ → List ℕ
key_of text = before_first is_equals_sign text

-- the text after the first `=`
abbrev pub value_of : List ℕ → List ℕ
value_of text = after_first is_equals_sign text

-- the texts before and after the first byte that passes the test; None where no byte passes
abbrev pub IsCut : (ℕ → Bool) → List ℕ → Option (List ℕ × List ℕ) → Type 0
IsCut p text None = list_any p text ≡ false
IsCut p text (Some parts) = (list_any p text ≡ true) × (parts.0 ≡ before_first p text) × (parts.1 ≡ after_first p text)
