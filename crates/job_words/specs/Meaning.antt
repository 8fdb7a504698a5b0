-- What the words of a command line ask for, and which of them is refused.
use Rattle.std.specs.Prelude.{ℕ, Bool, false, ◌+◌, ◌&&◌, ◌||◌, if◌then◌else◌, List, [], ◌∷◌, ◌++◌, codes, drop, length, find}
use Rattle.std.specs.Prelude.{Option, Some, None, Result, Ok, Err, unwrap_or}
use Rattle.std.specs.List.{list_any, position_from}
use Rattle.std.specs.Option.{option_and_then, option_map}
use Rattle.job_words.specs.declared.usage.UsageCause.{UsageCause}
use Rattle.job_words.specs.declared.usage.UsageCause.TheVariants.{NoCommand, UnknownCommand, NotKeyValue, UnknownKey}
use Rattle.job_words.specs.declared.usage.UsageCause.TheVariants.{RepeatedKey, BadValue, Together}
use Rattle.job_words.specs.declared.usage.UsageFault.{UsageFault}
use Rattle.diffusion_kernel.specs.declared.tables.Kernel.TheVariants.{Floyd}
use Rattle.pwg_definitions.specs.declared.pages.Kind.TheVariants.{Gray8}
use Rattle.key_values.specs.Pairs.{is_key_value, key_of, value_of}
use Rattle.job_words.specs.DeadLists.{dead_value}
use Rattle.job_words.specs.Values.{cap_value, grain_value, greatest_most, height_value, is_text, kernel_named}
use Rattle.job_words.specs.Values.{kind_named, most_value, page_count, seed_value, shingle_value, width_value}
use Rattle.job_words.specs.Values.{worker_count}
use Rattle.job_words.specs.Table.{KeyRow, CommandRow, command_named, key_named, profile_key, kernel_key, grain_key}
use Rattle.job_words.specs.Table.{workers_key, cap_key, most_key, shingle_key, dead_key, seed_key, pages_key, width_key}
use Rattle.job_words.specs.Table.{height_key, kind_key}
use Rattle.job_words.specs.declared.reading.Job.{Job}

-- whether a word gives this key
abbrev pub gives : KeyRow → List ℕ → Bool
gives key word = is_text (key_of word) key.name

-- whether a word asks for shingled passes
abbrev pub asks_for_shingles : List ℕ → Bool
asks_for_shingles word = gives shingle_key word && is_text (value_of word) (codes "1")

-- Whether two words exclude each other: one asks for shingled passes, and the other lists dead nozzles.
abbrev pub excludes : List ℕ → List ℕ → Bool
excludes word other = (asks_for_shingles word && gives dead_key other) || (gives dead_key word && asks_for_shingles other)

-- why a word with a key of the command is refused: the key was given before; else it does not take the value; else an
-- earlier word excludes the word
abbrev pub value_fault : Bool → Bool → Bool → Option UsageCause
value_fault repeated taken excluded =
    if repeated then Some RepeatedKey else if taken then (if excluded then Some Together else None) else Some BadValue

-- why a word whose key has this row in the table is refused
abbrev pub key_fault : List (List ℕ) → List ℕ → Option KeyRow → Option UsageCause
key_fault earlier word None = Some UnknownKey
key_fault earlier word (Some key) =
    value_fault (list_any (gives key) earlier) (key.takes (value_of word)) (list_any (excludes word) earlier)

-- Why a word after the command is refused, if it is; `earlier` are the words between the command and it.
unfoldable pub word_fault : List KeyRow → List (List ℕ) → List ℕ → Option UsageCause
word_fault keys earlier word =
    if is_key_value word then key_fault earlier word (key_named keys (key_of word)) else Some NotKeyValue

-- a fault at the word of this number
abbrev pub fault_at : ℕ → UsageCause → UsageFault
fault_at number cause = record { word = number; cause = cause }

-- the same as a list of one fault or none
abbrev pub faults_at : ℕ → Option UsageCause → List UsageFault
faults_at number None = []
faults_at number (Some cause) = fault_at number cause ∷ []

-- The faults of a word after the command. The command is word 1, so that the first of these is word 2.
abbrev pub faults_on : List KeyRow → List (List ℕ) → List ℕ → List UsageFault
faults_on keys earlier word = faults_at (length earlier + 2) (word_fault keys earlier word)

-- All faults of words, where `faults` says those of a word behind earlier ones; `earlier` are the words before `words`.
unfoldable pub refused : {F : Type 0} → (List (List ℕ) → List ℕ → List F) → List (List ℕ) → List (List ℕ) → List F
refused faults [] earlier = []
refused faults (word ∷ words) earlier = faults earlier word ++ refused faults words (earlier ++ word ∷ [])

-- the value that the words after the command give a key
abbrev pub given : KeyRow → List (List ℕ) → Option (List ℕ)
given key words = option_map value_of (find (gives key) words)

-- the number of the word that gives the profile
abbrev pub given_profile_word : List (List ℕ) → Option ℕ
given_profile_word words = position_from (gives profile_key) 2 words

-- what the value says that the words give a key, where they give it one
abbrev pub given_as : {T : Type 0} → KeyRow → (List ℕ → Option T) → List (List ℕ) → Option T
given_as key read words = option_and_then read (given key words)

-- The job of a command and the words after it: each key's value, or its default.
abbrev pub job_of : CommandRow → List (List ℕ) → Job
job_of command words = record {
  verb = command.verb;
  profile_word = unwrap_or (given_profile_word words) 0;
  kernel = unwrap_or (given_as kernel_key kernel_named words) Floyd;
  grain = unwrap_or (given_as grain_key grain_value words) 0;
  workers = unwrap_or (given_as workers_key worker_count words) 1;
  cap = given_as cap_key cap_value words;
  most = unwrap_or (given_as most_key most_value words) greatest_most;
  shingle = unwrap_or (given_as shingle_key shingle_value words) false;
  dead = record { items = unwrap_or (given_as dead_key dead_value words) [] };
  seed = unwrap_or (given_as seed_key seed_value words) 1;
  pages = unwrap_or (given_as pages_key page_count words) 1;
  width = unwrap_or (given_as width_key width_value words) 256;
  height = unwrap_or (given_as height_key height_value words) 300;
  kind = unwrap_or (given_as kind_key kind_named words) Gray8;
}

-- The first fault, if there is one; else the job.
abbrev pub job_unless : List UsageFault → Job → Result Job UsageFault
job_unless [] job = Ok job
job_unless (fault ∷ faults) job = Err fault

-- the meaning where the first word names this command, if it names one
abbrev pub command_meaning : List (List ℕ) → Option CommandRow → Result Job UsageFault
command_meaning words None = Err (fault_at 1 UnknownCommand)
command_meaning words (Some command) = job_unless (refused (faults_on command.keys) words []) (job_of command words)

-- What a command line means: its job, or the first refused word and why.
unfoldable pub job_meaning : List (List ℕ) → Result Job UsageFault
job_meaning [] = Err (fault_at 1 NoCommand)
job_meaning (name ∷ words) = command_meaning words (command_named name)

-- The profile's name: the built-in one where no word gives it.
abbrev pub profile_named : List (List ℕ) → List ℕ
profile_named words = unwrap_or (given profile_key (drop 1 words)) (codes "p360cmyk")
