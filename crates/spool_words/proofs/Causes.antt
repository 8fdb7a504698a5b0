-- Why a word is refused, from its parts.
use Rattle.std.proofs.Common.{◌≡◌, ℕ, ◌<◌, ◌≤◌, Bool, true, false, ltb, cond, List, Some, None, refl, ap, ◌∙◌, arith}
use Rattle.std.specs.List.{count_by}
use Rattle.std.proofs.lemmas.Bool.Decides.{nat_tests}
use Rattle.key_values.specs.Pairs.{is_key_value, key_of, value_of}
use Rattle.job_words.specs.Meaning.{gives}
use Rattle.spool_words.specs.declared.faults.SpoolCause.{SpoolCause}
use Rattle.spool_words.specs.declared.faults.SpoolCause.TheVariants.{BadValue, NotKeyValue, UnknownKey}
use Rattle.spool_words.specs.Keys.{SpoolKey, key_named}
use Rattle.spool_words.specs.Meaning.{value_fault, word_fault}

-- the causes on one word, in their order
pub no_key_value : (earlier : List (List ℕ)) (word : List ℕ)
    → is_key_value word ≡ false → Some NotKeyValue ≡ word_fault earlier word
unfolding word_fault
no_key_value earlier word h = rw h refl

pub no_key : (earlier : List (List ℕ)) (word name : List ℕ) → is_key_value word ≡ true
    → name ≡ key_of word → None ≡ key_named name → Some UnknownKey ≡ word_fault earlier word
unfolding word_fault
no_key earlier word name h named none = rw (h, ← named, ← none) refl

fault_of_value : (earlier : List (List ℕ)) (word name value : List ℕ) (key : SpoolKey) (before : ℕ) (taken : Bool)
    → (is_key_value word ≡ true) × (name ≡ key_of word) × (value ≡ value_of word) → Some key ≡ key_named name
    → before ≡ count_by (gives key.row) earlier → taken ≡ key.row.takes value
    → value_fault key before taken ≡ word_fault earlier word
unfolding word_fault
fault_of_value earlier word name value key before taken parts found count takes =
    rw (parts.0, ← parts.1, ← found, ← parts.2, count, takes) refl

past_most : (key : SpoolKey) (before : ℕ) (taken : Bool) → key.most ≤ before → Some key.excess ≡ value_fault key before taken
past_most key before taken h = let no : ltb before key.most ≡ false = grind (arith, nat_tests) in rw no refl

below_most : (key : SpoolKey) (before : ℕ) (taken : Bool) → before < key.most
    → cond taken None (Some BadValue) ≡ value_fault key before taken
below_most key before taken h = let yes : ltb before key.most ≡ true = grind (arith, nat_tests) in rw yes refl

pub too_many : (earlier : List (List ℕ)) (word name value : List ℕ) (key : SpoolKey) (before most : ℕ) (excess : SpoolCause)
    → (is_key_value word ≡ true) × (name ≡ key_of word) × (value ≡ value_of word) → Some key ≡ key_named name
    → before ≡ count_by (gives key.row) earlier → most ≡ key.most → most ≤ before → excess ≡ key.excess
    → Some excess ≡ word_fault earlier word
too_many earlier word name value key before most excess parts found count most_is many is =
    ap Some is ∙ past_most key before (key.row.takes value) (omega arith)
    ∙ fault_of_value earlier word name value key before (key.row.takes value) parts found count refl

pub by_value : (earlier : List (List ℕ)) (word name value : List ℕ) (key : SpoolKey) (before most : ℕ) (taken : Bool)
    → (is_key_value word ≡ true) × (name ≡ key_of word) × (value ≡ value_of word) → Some key ≡ key_named name
    → before ≡ count_by (gives key.row) earlier → most ≡ key.most → before < most → taken ≡ key.row.takes value
    → cond taken None (Some BadValue) ≡ word_fault earlier word
by_value earlier word name value key before most taken parts found count most_is few takes =
    below_most key before taken (omega arith) ∙ fault_of_value earlier word name value key before taken parts found count takes
