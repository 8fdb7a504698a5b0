-- The name of the text that stops the run, by the number of its word; 0 where no word gives it.
use Rattle.std.proofs.Common.{◌≡◌, ℕ, zero, suc, ◌<◌, ◌≤◌, ◌-◌, Bool, true, false, ◌&&◌, leb, List, [], length, Option, Some, None, Ok}
use Rattle.std.proofs.Common.{MatchOption, unwrap_or, slice_get, refl, ap, sym, ◌∙◌, arith}
use Rattle.std.specs.Option.{option_map}
use Rattle.std.proofs.lemmas.Bool.{leb-true}
use Rattle.std.proofs.lemmas.Option.{slice_get-get_or}
use Rattle.key_values.specs.Pairs.{value_of}
use Rattle.job_words.specs.Meaning.{gives}
use Rattle.job_words.proofs.FirstWords.{placed, unplaced}
use Rattle.finish_words.specs.Keys.{stop_key}
use Rattle.finish_words.specs.Meaning.{finish_meaning, given_stop_word, stop_named}
use Rattle.finish_words.specs.Requests.{IsNameOf, KeepsName}
use Rattle.finish_words.specs.declared.reading.FinishRequest.{FinishRequest}
use Rattle.finish_words.proofs.Accepted.{name_taken, words_accepted}

-- ---- the two cases of a request's name

-- a request has the number of the word
request_number : (words : List (List ℕ)) (request : FinishRequest) → finish_meaning words ≡ Ok request
    → unwrap_or (given_stop_word words) 0 ≡ request.stop_word
request_number words request means = ap (λ (r : FinishRequest). r.stop_word) (words_accepted words request means).request_is

no_number : (words : List (List ℕ)) → unwrap_or (given_stop_word words) 0 ≡ 0 → None ≡ stop_named words
no_number words none = by_number (given_stop_word words) refl none where
  by_number : (number : Option ℕ) → given_stop_word words ≡ number → unwrap_or number 0 ≡ 0 → None ≡ stop_named words
  by_number None is none = sym (ap (option_map value_of) (unplaced (gives stop_key) 1 words is))
  by_number (Some n) is none = let at = placed (gives stop_key) 1 words n is in absurd (omega (arith, at.0, none))

number_at : (words : List (List ℕ)) (n : ℕ) → unwrap_or (given_stop_word words) 0 ≡ n → (n ≡ 0 → ⊥)
    → (1 ≤ n) × (n - 1 < length words) × (stop_named words ≡ option_map value_of (slice_get words (n - 1)))
number_at words n is some = by_number (given_stop_word words) refl is where
  by_number : (number : Option ℕ) → given_stop_word words ≡ number → unwrap_or number 0 ≡ n
      → (1 ≤ n) × (n - 1 < length words) × (stop_named words ≡ option_map value_of (slice_get words (n - 1)))
  by_number None is none = absurd (some (sym none))
  by_number (Some m) is same =
      let at = placed (gives stop_key) 1 words n (is ∙ ap Some same) in (at.0, at.1, ap (option_map value_of) at.2)

pub no_stop : (words : List (List ℕ)) (request : FinishRequest)
    → finish_meaning words ≡ Ok request → request.stop_word ≡ 0 → None ≡ stop_named words
no_stop words request means none = no_number words (request_number words request means ∙ none)

pub stop_here : (words : List (List ℕ)) (request : FinishRequest)
    → finish_meaning words ≡ Ok request → (request.stop_word ≡ 0 → ⊥) → (1 ≤ request.stop_word)
    × (request.stop_word - 1 < length words)
    × (stop_named words ≡ option_map value_of (slice_get words (request.stop_word - 1)))
stop_here words request means some = number_at words request.stop_word (request_number words request means) some

pub stop_is : (words : List (List ℕ)) (request : FinishRequest) (word : List ℕ)
    → finish_meaning words ≡ Ok request → (request.stop_word ≡ 0 → ⊥)
    → slice_get words (request.stop_word - 1) ≡ Some word → Some (value_of word) ≡ stop_named words
stop_is words request word means some here =
    sym ((stop_here words request means some).2 ∙ ap (option_map value_of) here)

-- ---- the law

both : (a b : Bool) → (a && b) ≡ true → (a ≡ true) × (b ≡ true)
both true b h = (refl, h)
both false b h = absurd cc

name_of : (words : List (List ℕ)) (request : FinishRequest) (name : List ℕ) → finish_meaning words ≡ Ok request
    → (request.stop_word ≡ 0 → ⊥) → stop_named words ≡ Some name → IsNameOf words request.stop_word name
name_of words request name means some is =
    let parts = both (leb 1 (length name)) (leb (length name) 255) (name_taken words request name means is) in
    let at = stop_here words request means some in
    record {
      some = leb-true 1 (length name) parts.0;
      most = leb-true (length name) 255 parts.1;
      some_number = at.0;
      most_number = omega (arith, at.0, at.1);
      word = sym at.2 ∙ is;
    }

-- a word that is there has a value
some_value : (words : List (List ℕ)) (place : ℕ) → place < length words → option_map value_of (slice_get words place) ≡ None → ⊥
some_value words place within none =
    let here = slice_get-get_or words place [] within in
    let differ = ap (option_map value_of) (sym here) ∙ none in cc

pub keeps_name : (words : List (List ℕ)) (request : FinishRequest) → finish_meaning words ≡ Ok request → KeepsName words request
keeps_name words request means = by_number request.stop_word refl (stop_named words) refl where
  by_number : (number : ℕ) → request.stop_word ≡ number → (name : Option (List ℕ)) → stop_named words ≡ name
      → MatchOption name (request.stop_word ≡ 0) (IsNameOf words request.stop_word)
  by_number zero zero_is None is = zero_is
  by_number zero zero_is (Some name) is = absurd (let none = no_stop words request means zero_is ∙ is in cc)
  by_number (suc n) some None is =
      let at = stop_here words request means (λ zero_is. absurd cc) in absurd (some_value words _ at.1 (sym at.2 ∙ is))
  by_number (suc n) some (Some name) is = name_of words request name means (λ zero_is. absurd cc) is
