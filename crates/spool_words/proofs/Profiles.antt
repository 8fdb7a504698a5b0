-- The profile that words ask for.
use Rattle.std.proofs.Common.{◌≡◌, ℕ, ◌<◌, ◌-◌, List, length, codes, Some, Ok, unwrap_or, slice_get, refl, ap, ◌∙◌, arith}
use Rattle.std.specs.Option.{option_map}
use Rattle.key_values.specs.Pairs.{value_of}
use Rattle.job_words.specs.Meaning.{given}
use Rattle.job_words.specs.Table.{profile_key}
use Rattle.job_words.proofs.Profiles.{given_at, not_given}
use Rattle.spool_words.specs.declared.reading.SpoolRequest.{SpoolRequest}
use Rattle.spool_words.specs.Meaning.{given_profile_word, profile_named, spool_meaning}
use Rattle.spool_words.proofs.Accepted.{words_accepted}

-- a request has the number of the profile's word
request_number : (words : List (List ℕ)) (request : SpoolRequest) → spool_meaning words ≡ Ok request
    → unwrap_or (given_profile_word words) 0 ≡ request.profile_word
request_number words request means = ap (λ (r : SpoolRequest). r.profile_word) (words_accepted words request means).request_is

-- the two cases of a request's profile
pub default_profile : (words : List (List ℕ)) (request : SpoolRequest)
    → spool_meaning words ≡ Ok request → request.profile_word ≡ 0 → codes "p360cmyk" ≡ profile_named words
default_profile words request means zero = rw (not_given 1 words (omega arith) (request_number words request means ∙ zero)) refl

pub profile_here : (words : List (List ℕ)) (request : SpoolRequest)
    → spool_meaning words ≡ Ok request → (request.profile_word ≡ 0 → ⊥) → (request.profile_word - 1 < length words)
    × (given profile_key words ≡ option_map value_of (slice_get words (request.profile_word - 1)))
profile_here words request means some =
    let at = given_at 1 words request.profile_word (request_number words request means) some in (at.1, at.2)

pub profile_is : (words : List (List ℕ)) (request : SpoolRequest) (word : List ℕ)
    → spool_meaning words ≡ Ok request → (request.profile_word ≡ 0 → ⊥)
    → slice_get words (request.profile_word - 1) ≡ Some word → value_of word ≡ profile_named words
profile_is words request word means some here = rw ((profile_here words request means some).1, here) refl
