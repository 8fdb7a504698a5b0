-- What is known of words that are accepted.
use Rattle.std.proofs.Common.{◌≡◌, ℕ, ◌+◌, Bool, true, false, cond, if◌then◌else◌, List, [], ◌∷◌, ◌++◌, length}
use Rattle.std.proofs.Common.{Option, Some, None, Ok, refl, ap, sym, ◌∙◌}
use Rattle.std.specs.List.{find}
use Rattle.std.specs.Option.{option_map}
use Rattle.std.proofs.lemmas.Slice.Eq.{bytes_eq-Decides}
use Rattle.key_values.specs.Pairs.{is_key_value, key_of, value_of}
use Rattle.job_words.specs.Meaning.{faults_at, gives, key_fault, refused, value_fault, word_fault}
use Rattle.job_words.specs.Table.{KeyRow, key_named}
use Rattle.job_words.specs.declared.usage.UsageCause.{UsageCause}
use Rattle.job_words.specs.declared.usage.UsageCause.TheVariants.{NotKeyValue}
use Rattle.job_words.specs.declared.usage.UsageFault.{UsageFault}
use Rattle.job_words.proofs.Steps.{first_good as first_accepted}
use Rattle.finish_words.specs.Keys.{key_table, stop_key}
use Rattle.finish_words.specs.Meaning.{faults_on, finish_meaning, request_of, request_unless, stop_named}
use Rattle.finish_words.specs.declared.reading.FinishRequest.{FinishRequest}

-- ---- an accepted word

good_value : (repeated taken excluded : Bool) → value_fault repeated taken excluded ≡ None → taken ≡ true
good_value true taken excluded h = absurd cc
good_value false true excluded h = refl
good_value false false excluded h = absurd cc

-- a key of the table takes the value of a word that gives the key
good_key : (key : KeyRow) (earlier : List (List ℕ)) (word : List ℕ) → key_named key_table key.name ≡ Some key
    → word_fault key_table earlier word ≡ None → gives key word ≡ true → key.takes (value_of word) ≡ true
unfolding word_fault
good_key key earlier word named h here = by_test (is_key_value word) h where
  by_test : (test : Bool) → (if test then key_fault earlier word (key_named key_table (key_of word)) else Some NotKeyValue) ≡ None
      → key.takes (value_of word) ≡ true
  by_test true h =
      let is : key_of word ≡ key.name = (bytes_eq-Decides (key_of word) key.name).0 here in
      good_value _ (key.takes (value_of word)) _ (ap (key_fault earlier word) (sym (ap (key_named key_table) is ∙ named)) ∙ h)
  by_test false h = absurd cc

no_cause : (number : ℕ) (o : Option UsageCause) → faults_at number o ≡ [] → o ≡ None
no_cause number None h = refl
no_cause number (Some cause) h = absurd cc

-- the first word of words that are accepted, and those behind it
first_good : (words earlier : List (List ℕ)) (word : List ℕ) → refused faults_on (word ∷ words) earlier ≡ []
    → (word_fault key_table earlier word ≡ None) × (refused faults_on words (earlier ++ word ∷ []) ≡ [])
first_good words earlier word none =
    let first = first_accepted faults_on words earlier word none in
    (no_cause (length earlier + 1) (word_fault key_table earlier word) first.0, first.1)

-- ---- the name of the text that stops the run

stop_on : (words earlier : List (List ℕ)) (name : List ℕ) → refused faults_on words earlier ≡ []
    → stop_named words ≡ Some name → stop_key.takes name ≡ true
stop_on [] earlier name none is = absurd cc
stop_on (word ∷ words) earlier name none is =
    let first = first_good words earlier word none in
    by_test (gives stop_key word) refl first.0 is (stop_on words (earlier ++ word ∷ []) name first.1) where
      by_test : (test : Bool) → gives stop_key word ≡ test → word_fault key_table earlier word ≡ None
          → option_map value_of (cond test (Some word) (find (gives stop_key) words)) ≡ Some name
          → (stop_named words ≡ Some name → stop_key.takes name ≡ true) → stop_key.takes name ≡ true
      by_test true same good is later =
          let one : value_of word ≡ name = cc in
          rw (← one) (good_key stop_key earlier word refl good same)
      by_test false same good is later = later is

-- ---- the request

pub record IsAccepted (words : List (List ℕ)) (request : FinishRequest) : Type 0 where
  pub none_refused : refused faults_on words [] ≡ []
  pub request_is : request_of words ≡ request

pub words_accepted : (words : List (List ℕ)) (request : FinishRequest) → finish_meaning words ≡ Ok request → IsAccepted words request
unfolding finish_meaning
words_accepted words request means = by_faults (refused faults_on words []) refl means where
  by_faults : (faults : List UsageFault) → refused faults_on words [] ≡ faults
      → request_unless faults (request_of words) ≡ Ok request → IsAccepted words request
  by_faults [] none means = record { none_refused = none; request_is = cc }
  by_faults (fault ∷ faults) some means = absurd cc

pub name_taken : (words : List (List ℕ)) (request : FinishRequest) (name : List ℕ) → finish_meaning words ≡ Ok request
    → stop_named words ≡ Some name → stop_key.takes name ≡ true
name_taken words request name means is = stop_on words [] name (words_accepted words request means).none_refused is
