-- What a request keeps to.
use Rattle.std.specs.Prelude.{◌≡◌, ℕ, ◌-◌, ◌≤◌, List, length, MatchOption, Some, slice_get}
use Rattle.std.specs.Option.{option_map}
use Rattle.key_values.specs.Pairs.{value_of}
use Rattle.finish_words.specs.Meaning.{stop_named}
use Rattle.finish_words.specs.declared.reading.FinishRequest.{FinishRequest}

-- the name has 1 to 255 bytes, and is the value of the word of this number
pub record IsNameOf (words : List (List ℕ)) (number : ℕ) (name : List ℕ) : Type 0 where
  pub some : 1 ≤ length name
  pub most : length name ≤ 255
  pub some_number : 1 ≤ number
  pub most_number : number ≤ length words
  pub word : option_map value_of (slice_get words (number - 1)) ≡ Some name

-- where words give a name, the request has the number of its word; else it has 0
abbrev pub KeepsName : List (List ℕ) → FinishRequest → Type 0
KeepsName words request = MatchOption (stop_named words) (request.stop_word ≡ 0) (IsNameOf words request.stop_word)
