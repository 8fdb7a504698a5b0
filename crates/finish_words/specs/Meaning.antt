-- What the words of the finisher ask for, and which of them is refused.
use Rattle.std.specs.Prelude.{ℕ, Bool, false, ◌+◌, List, [], ◌∷◌, length, Option, Result, Ok, Err, unwrap_or}
use Rattle.std.specs.List.{position_from}
use Rattle.job_words.specs.Meaning.{faults_at, given, given_as, gives, refused, word_fault}
use Rattle.job_words.specs.Table.{KeyRow}
use Rattle.job_words.specs.Values.{shingle_value}
use Rattle.job_words.specs.declared.usage.UsageFault.{UsageFault}
use Rattle.finish_words.specs.Keys.{key_table, pages_key, progress_key, stop_key}
use Rattle.finish_words.specs.declared.reading.FinishRequest.{FinishRequest}

-- The faults of a word: those of a command line, but words are counted from 1, since no command stands before them.
-- Only the keys `shingle` and `dead` exclude each other, so no word is refused as `Together`.
abbrev pub faults_on : List (List ℕ) → List ℕ → List UsageFault
faults_on earlier word = faults_at (length earlier + 1) (word_fault key_table earlier word)

-- whether the words set this key to 1
abbrev pub flag_of : KeyRow → List (List ℕ) → Bool
flag_of key words = unwrap_or (given_as key shingle_value words) false

-- the number of the word that gives the name of the text that stops the run
abbrev pub given_stop_word : List (List ℕ) → Option ℕ
given_stop_word words = position_from (gives stop_key) 1 words

-- the name of the text that stops the run, where a word gives it
abbrev pub stop_named : List (List ℕ) → Option (List ℕ)
stop_named words = given stop_key words

-- what words ask for: each key's value, or its default
abbrev pub request_of : List (List ℕ) → FinishRequest
request_of words = record {
  pages = flag_of pages_key words;
  progress = flag_of progress_key words;
  stop_word = unwrap_or (given_stop_word words) 0;
}

-- the first fault, if there is one; else the request
abbrev pub request_unless : List UsageFault → FinishRequest → Result FinishRequest UsageFault
request_unless [] request = Ok request
request_unless (fault ∷ faults) request = Err fault

-- What the words of the finisher mean: its request, or the first refused word and why.
unfoldable pub finish_meaning : List (List ℕ) → Result FinishRequest UsageFault
finish_meaning words = request_unless (refused faults_on words []) (request_of words)
