-- What the words of the spool ask for, and which of them is refused.
use Rattle.std.specs.Prelude.{ℕ, Bool, nat_eq, nat_lt, ◌+◌, ◌-◌, if◌then◌else◌, List, [], ◌∷◌, codes, length, map}
use Rattle.std.specs.Prelude.{count_by, filter, get_or, Option, Some, None, Result, Ok, Err, unwrap_or}
use Rattle.std.specs.List.{position_from}
use Rattle.diffusion_kernel.specs.declared.tables.Kernel.TheVariants.{Floyd}
use Rattle.key_values.specs.Pairs.{is_key_value, key_of, value_of}
use Rattle.job_words.specs.Meaning.{given, given_as, gives, refused}
use Rattle.job_words.specs.Table.{grain_key, kernel_key, profile_key, workers_key}
use Rattle.job_words.specs.Values.{grain_value, kernel_named, worker_count}
use Rattle.spool_words.specs.Keys.{SpoolKey, key_named, send_key}
use Rattle.spool_words.specs.Names.{names_in}
use Rattle.spool_words.specs.declared.faults.SpoolCause.{SpoolCause}
use Rattle.spool_words.specs.declared.faults.SpoolCause.TheVariants.{BadValue, NoSend, NotKeyValue, UnknownKey}
use Rattle.spool_words.specs.declared.faults.SpoolFault.{SpoolFault}
use Rattle.spool_words.specs.declared.reading.SpoolRequest.{SpoolRequest}

-- why a word with a known key is refused: as many words as may give the key stand before it; else the key does not
-- take the value
abbrev pub value_fault : SpoolKey → ℕ → Bool → Option SpoolCause
value_fault key before taken =
    if nat_lt before key.most then (if taken then None else Some BadValue) else Some key.excess

-- why a word whose key has this row in the table is refused
abbrev pub key_fault : List (List ℕ) → List ℕ → Option SpoolKey → Option SpoolCause
key_fault earlier word None = Some UnknownKey
key_fault earlier word (Some key) = value_fault key (count_by (gives key.row) earlier) (key.row.takes (value_of word))

-- why a word is refused, if it is; `earlier` are the words before it
unfoldable pub word_fault : List (List ℕ) → List ℕ → Option SpoolCause
word_fault earlier word =
    if is_key_value word then key_fault earlier word (key_named (key_of word)) else Some NotKeyValue

-- a fault at the word of this number
abbrev pub fault_at : ℕ → SpoolCause → SpoolFault
fault_at number cause = record { word = number; cause = cause }

-- the same as a list of one fault or none
abbrev pub faults_at : ℕ → Option SpoolCause → List SpoolFault
faults_at number None = []
faults_at number (Some cause) = fault_at number cause ∷ []

-- The faults of a word. Words are counted from 1.
abbrev pub faults_on : List (List ℕ) → List ℕ → List SpoolFault
faults_on earlier word = faults_at (length earlier + 1) (word_fault earlier word)

-- how many senders words have
abbrev pub sender_count : List (List ℕ) → ℕ
sender_count words = count_by (gives send_key) words

-- the number of the word that gives the profile
abbrev pub given_profile_word : List (List ℕ) → Option ℕ
given_profile_word words = position_from (gives profile_key) 1 words

-- what words ask for: each key's value, or its default
abbrev pub request_of : List (List ℕ) → SpoolRequest
request_of words = record {
  profile_word = unwrap_or (given_profile_word words) 0;
  kernel = unwrap_or (given_as kernel_key kernel_named words) Floyd;
  grain = unwrap_or (given_as grain_key grain_value words) 0;
  workers = unwrap_or (given_as workers_key worker_count words) 1;
  senders = sender_count words;
}

-- The first fault, if there is one; else that there is no sender, which stands behind the last word; else the request.
abbrev pub request_unless : List SpoolFault → List (List ℕ) → Result SpoolRequest SpoolFault
request_unless (fault ∷ faults) words = Err fault
request_unless [] words =
    if nat_eq (sender_count words) 0 then Err (fault_at (length words + 1) NoSend) else Ok (request_of words)

-- What the words of the spool mean: its request, or the first refused word and why.
unfoldable pub spool_meaning : List (List ℕ) → Result SpoolRequest SpoolFault
spool_meaning words = request_unless (refused faults_on words []) words

-- The profile's name: the built-in one where no word gives it.
abbrev pub profile_named : List (List ℕ) → List ℕ
profile_named words = unwrap_or (given profile_key words) (codes "p360cmyk")

-- The names of each sender: those in the values of the words `send=..`, in their order.
abbrev pub names_of : List (List ℕ) → List (List (List ℕ))
names_of words = map (λ word. names_in (value_of word)) (filter (gives send_key) words)

-- the names of one sender, counted from 1
abbrev pub names_from : List (List ℕ) → ℕ → List (List ℕ)
names_from words sender = get_or (names_of words) (sender - 1) []
