-- The profile that words give, by the number of its word; 0 where no word gives it.
use Rattle.std.proofs.Common.{◌≡◌, ℕ, ◌<◌, ◌≤◌, ◌+◌, ◌-◌, List, length, drop, codes, Option, Some, None}
use Rattle.std.proofs.Common.{Ok, unwrap_or, slice_get, length-drop, refl, ap, sym, ◌∙◌, arith}
use Rattle.std.specs.List.{position_from}
use Rattle.std.specs.Option.{option_map}
use Rattle.key_values.specs.Pairs.{value_of}
use Rattle.job_words.specs.Meaning.{gives, given, given_profile_word, job_meaning, profile_named}
use Rattle.job_words.specs.Table.{profile_key}
use Rattle.job_words.specs.declared.reading.Job.{Job}
use Rattle.job_words.proofs.Accepted.{words_accepted}
use Rattle.job_words.proofs.FirstWords.{behind, placed, unplaced}

-- ---- of words that are numbered from k on

pub not_given : (k : ℕ) (words : List (List ℕ)) → 1 ≤ k → unwrap_or (position_from (gives profile_key) k words) 0 ≡ 0
    → given profile_key words ≡ None
not_given k words some none = by_number (position_from (gives profile_key) k words) refl none where
  by_number : (number : Option ℕ) → position_from (gives profile_key) k words ≡ number → unwrap_or number 0 ≡ 0
      → given profile_key words ≡ None
  by_number None is none = ap (option_map value_of) (unplaced (gives profile_key) k words is)
  by_number (Some n) is none = let at = placed (gives profile_key) k words n is in absurd (omega arith)

pub given_at : (k : ℕ) (words : List (List ℕ)) (n : ℕ) → unwrap_or (position_from (gives profile_key) k words) 0 ≡ n → (n ≡ 0 → ⊥)
    → (k ≤ n) × (n - k < length words) × (given profile_key words ≡ option_map value_of (slice_get words (n - k)))
given_at k words n is some = by_number (position_from (gives profile_key) k words) refl is where
  by_number : (number : Option ℕ) → position_from (gives profile_key) k words ≡ number → unwrap_or number 0 ≡ n
      → (k ≤ n) × (n - k < length words) × (given profile_key words ≡ option_map value_of (slice_get words (n - k)))
  by_number None is none = absurd (some (sym none))
  by_number (Some m) is same =
      let at = placed (gives profile_key) k words n (is ∙ ap Some same) in (at.0, at.1, ap (option_map value_of) at.2)

-- ---- of a job

job_number : (words : List (List ℕ)) (job : Job)
    → job_meaning words ≡ Ok job → unwrap_or (given_profile_word (drop 1 words)) 0 ≡ job.profile_word
job_number words job means = ap (λ (j : Job). j.profile_word) (words_accepted words job means).1.job_is

-- the two cases of its profile
pub default_profile : (words : List (List ℕ)) (job : Job)
    → job_meaning words ≡ Ok job → job.profile_word ≡ 0 → codes "p360cmyk" ≡ profile_named words
default_profile words job means zero = rw (not_given 2 (drop 1 words) (omega arith) (job_number words job means ∙ zero)) refl

pub profile_here : (words : List (List ℕ)) (job : Job)
    → job_meaning words ≡ Ok job → (job.profile_word ≡ 0 → ⊥) → (job.profile_word - 1 < length words)
    × (given profile_key (drop 1 words) ≡ option_map value_of (slice_get words (job.profile_word - 1)))
profile_here words job means some =
    let at = given_at 2 (drop 1 words) job.profile_word (job_number words job means) some in
    let place : job.profile_word - 2 + 1 ≡ job.profile_word - 1 = omega (arith, at.0) in (
      omega (arith, length-drop 1 words, at.0, at.1),
      at.2 ∙ ap (option_map value_of) (behind words (job.profile_word - 2) ∙ ap (slice_get words) place),
    )

pub profile_is : (words : List (List ℕ)) (job : Job) (word : List ℕ)
    → job_meaning words ≡ Ok job → (job.profile_word ≡ 0 → ⊥)
    → slice_get words (job.profile_word - 1) ≡ Some word → value_of word ≡ profile_named words
profile_is words job word means some here = rw ((profile_here words job means some).1, here) refl
