-- What the words of a job are: a command, and words that are all accepted.
use Rattle.std.proofs.Common.{◌≡◌, ℕ, ◌+◌, Bool, true, false, ◌||◌, cond, if◌then◌else◌, List, [], ◌∷◌, drop, length, Option, Some, None, Ok}
use Rattle.std.proofs.Common.{is_some, refl, arith}
use Rattle.std.specs.List.{AllByRecursion, find, list_any}
use Rattle.std.proofs.lemmas.Bool.Decides.{nat_tests}
use Rattle.key_values.specs.Pairs.{is_key_value, key_of}
use Rattle.job_words.specs.declared.reading.Job.{Job}
use Rattle.job_words.specs.declared.usage.UsageCause.{UsageCause}
use Rattle.job_words.specs.declared.usage.UsageCause.TheVariants.{NotKeyValue}
use Rattle.job_words.specs.declared.usage.UsageFault.{UsageFault}
use Rattle.job_words.specs.Meaning.{command_meaning, excludes, faults_at, faults_on, job_meaning, job_of, job_unless}
use Rattle.job_words.specs.Meaning.{key_fault, refused, value_fault, word_fault}
use Rattle.job_words.specs.Rows.{command_row}
use Rattle.job_words.specs.Table.{CommandRow, KeyRow, command_named, command_table, key_named}
use Rattle.job_words.specs.Values.{is_text}

-- what is found passes the test, and has what each element has
pub found_passes : {X : Type 0} (p : X → Bool) (xs : List X) (x : X) → find p xs ≡ Some x → p x ≡ true
found_passes p [] x h = cc
found_passes p (y ∷ xs) x h = by_test (p y) refl h (found_passes p xs x) where
  by_test : (test : Bool) → p y ≡ test → cond test (Some y) (find p xs) ≡ Some x → (find p xs ≡ Some x → p x ≡ true) → p x ≡ true
  by_test true same found later = let one : y ≡ x = cc in rw (← one) same
  by_test false same found later = later found

pub found_has : {X : Type 0} (P : X → Type 0) (p : X → Bool) (xs : List X) (x : X) → AllByRecursion P xs → find p xs ≡ Some x → P x
found_has {X = X} P p [] x all h = absurd (let differ : ◌≡◌ {A = Option X} None (Some x) = h in cc)
found_has P p (y ∷ xs) x all h = by_test (p y) h (found_has P p xs x all.1) where
  by_test : (test : Bool) → cond test (Some y) (find p xs) ≡ Some x → (find p xs ≡ Some x → P x) → P x
  by_test true found later = let one : y ≡ x = cc in rw (← one) all.0
  by_test false found later = later found

pub found_any : {X : Type 0} (p q : X → Bool) (xs : List X) (x : X) → find p xs ≡ Some x → q x ≡ true → list_any q xs ≡ true
found_any p q [] x h passes = cc
found_any p q (y ∷ xs) x h passes = by_test (p y) h (found_any p q xs x) where
  by_test : (test : Bool) → cond test (Some y) (find p xs) ≡ Some x
      → (find p xs ≡ Some x → q x ≡ true → list_any q xs ≡ true) → (q y || list_any q xs) ≡ true
  by_test true found later = let one : y ≡ x = cc in rw (one, passes) refl
  by_test false found later = let some = later found passes in rw some (grind (arith, nat_tests))

-- ---- the command and its words

pub record IsAccepted (command : CommandRow) (words : List (List ℕ)) (job : Job) : Type 0 where
  pub row : command_row command.verb ≡ command
  pub none_refused : refused (faults_on command.keys) words [] ≡ []
  pub job_is : job_of command words ≡ job

named_row : (name : List ℕ) (command : CommandRow) → command_named name ≡ Some command → command_row command.verb ≡ command
named_row name command found =
    found_has (λ (row : CommandRow). command_row row.verb ≡ row) (λ (row : CommandRow). is_text name row.name) command_table command
    (refl, (refl, (refl, (refl, (refl, tt))))) found

pub words_accepted : (words : List (List ℕ)) (job : Job) → job_meaning words ≡ Ok job
    → (command : CommandRow) × IsAccepted command (drop 1 words) job
unfolding job_meaning
words_accepted [] job means = absurd cc
words_accepted (name ∷ words) job means = by_command (command_named name) refl means where
  by_faults : (command : CommandRow) (faults : List UsageFault) → command_named name ≡ Some command → refused (faults_on command.keys) words [] ≡ faults
      → job_unless faults (job_of command words) ≡ Ok job → (command : CommandRow) × IsAccepted command words job
  by_faults command [] found none means =
      (command, record { row = named_row name command found; none_refused = none; job_is = cc })
  by_faults command (fault ∷ faults) found none means = absurd cc

  by_command : (o : Option CommandRow) → command_named name ≡ o → command_meaning words o ≡ Ok job
      → (command : CommandRow) × IsAccepted command words job
  by_command None found means = absurd cc
  by_command (Some command) found means = by_faults command (refused (faults_on command.keys) words []) found refl means

-- ---- what is known of an accepted word

pub record IsGood (keys : List KeyRow) (earlier : List (List ℕ)) (word : List ℕ) : Type 0 where
  pub known : is_some (key_named keys (key_of word)) ≡ true
  pub apart : list_any (excludes word) earlier ≡ false

good_value : (repeated taken excluded : Bool) → value_fault repeated taken excluded ≡ None → excluded ≡ false
good_value true taken excluded h = cc
good_value false false excluded h = cc
good_value false true true h = cc
good_value false true false h = refl

accepted_word : (keys : List KeyRow) (earlier : List (List ℕ)) (word : List ℕ) → word_fault keys earlier word ≡ None → IsGood keys earlier word
unfolding word_fault
accepted_word keys earlier word h = by_test (is_key_value word) h where
  by_key : (o : Option KeyRow) → key_named keys (key_of word) ≡ o → key_fault earlier word o ≡ None → IsGood keys earlier word
  by_key None found h = absurd cc
  by_key (Some key) found h = record { known = rw found refl; apart = good_value _ _ _ h }

  by_test : (test : Bool) → (if test then key_fault earlier word (key_named keys (key_of word)) else Some NotKeyValue) ≡ None → IsGood keys earlier word
  by_test true h = by_key (key_named keys (key_of word)) refl h
  by_test false h = absurd cc

pub good_word : (keys : List KeyRow) (earlier : List (List ℕ)) (word : List ℕ) → faults_on keys earlier word ≡ [] → IsGood keys earlier word
good_word keys earlier word none = accepted_word keys earlier word (no_cause (word_fault keys earlier word) none) where
  no_cause : (o : Option UsageCause) → faults_at (length earlier + 2) o ≡ [] → o ≡ None
  no_cause None h = refl
  no_cause (Some cause) h = absurd cc
