-- The table of keys.
use Rattle.std.specs.Prelude.{ℕ, List, [], ◌∷◌, codes, find, Option}
use Rattle.job_words.specs.Table.{KeyRow, profile_key, kernel_key, grain_key, workers_key}
use Rattle.job_words.specs.Values.{is_text}
use Rattle.spool_words.specs.Names.{are_names, names_in}
use Rattle.spool_words.specs.declared.faults.SpoolCause.{SpoolCause}
use Rattle.spool_words.specs.declared.faults.SpoolCause.TheVariants.{BadValue, RepeatedKey}

-- a key: its name with the values that it takes, how many words may give it, and why one word more is refused
pub record SpoolKey : Type 0 where
  pub row : KeyRow
  pub most : ℕ
  pub excess : SpoolCause

-- the files of one sender, from 1 to 64, in the order in which they are sent
abbrev pub send_key : KeyRow
send_key = record { name = codes "send"; takes = λ value. are_names (names_in value) }

-- the profile, the kernel, the grain and the workers are those of a command line that prints
abbrev pub profile_row : SpoolKey
profile_row = record { row = profile_key; most = 1; excess = RepeatedKey }

abbrev pub kernel_row : SpoolKey
kernel_row = record { row = kernel_key; most = 1; excess = RepeatedKey }

abbrev pub grain_row : SpoolKey
grain_row = record { row = grain_key; most = 1; excess = RepeatedKey }

abbrev pub workers_row : SpoolKey
workers_row = record { row = workers_key; most = 1; excess = RepeatedKey }

-- each word `send=..` is a sender of its own
abbrev pub send_row : SpoolKey
send_row = record { row = send_key; most = 8; excess = BadValue }

-- all keys
abbrev pub key_table : List SpoolKey
key_table = profile_row ∷ kernel_row ∷ grain_row ∷ workers_row ∷ send_row ∷ []

-- the key of a name
abbrev pub key_named : List ℕ → Option SpoolKey
key_named name = find (λ key. is_text name key.row.name) key_table
