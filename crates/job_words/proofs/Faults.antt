-- Why a word is refused, from its parts.
use Rattle.std.proofs.Common.{◌≡◌, ℕ, Bool, true, false, List, Some, None, refl}
use Rattle.std.specs.List.{list_any}
use Rattle.job_words.specs.declared.usage.UsageCause.TheVariants.{NotKeyValue, UnknownKey}
use Rattle.job_words.specs.Table.{KeyRow, key_named}
use Rattle.key_values.specs.Pairs.{is_key_value, key_of, value_of}
use Rattle.job_words.specs.Meaning.{excludes, gives, value_fault, word_fault}

-- the causes on one word, in their order
pub no_key_value : (keys : List KeyRow) (earlier : List (List ℕ)) (word : List ℕ)
    → is_key_value word ≡ false → Some NotKeyValue ≡ word_fault keys earlier word
unfolding word_fault
no_key_value keys earlier word h = rw h refl

pub no_key : (keys : List KeyRow) (earlier : List (List ℕ)) (word name : List ℕ) → is_key_value word ≡ true
    → name ≡ key_of word → None ≡ key_named keys name → Some UnknownKey ≡ word_fault keys earlier word
unfolding word_fault
no_key keys earlier word name h named none = rw (h, ← named, ← none) refl

pub fault_of_value : (keys : List KeyRow) (earlier : List (List ℕ)) (word name value : List ℕ)
    (key : KeyRow) (repeated taken excluded : Bool)
    → (is_key_value word ≡ true) × (name ≡ key_of word) × (value ≡ value_of word) → Some key ≡ key_named keys name
    → repeated ≡ list_any (gives key) earlier → taken ≡ key.takes value → excluded ≡ list_any (excludes word) earlier
    → value_fault repeated taken excluded ≡ word_fault keys earlier word
unfolding word_fault
fault_of_value keys earlier word name value key repeated taken excluded parts found again takes apart =
    rw (parts.0, ← parts.1, ← found, ← parts.2, again, takes, apart) refl
