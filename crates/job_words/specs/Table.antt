-- The table of commands and keys.
use Rattle.std.specs.Prelude.{ℕ, Bool, nat_le, ◌&&◌, List, [], ◌∷◌, codes, length, find, is_some, Option}
use Rattle.job_words.specs.DeadLists.{dead_value}
use Rattle.job_words.specs.Values.{cap_value, grain_value, height_value, is_text, kernel_named, kind_named, most_value}
use Rattle.job_words.specs.Values.{page_count, seed_value, shingle_value, width_value, worker_count}
use Rattle.job_words.specs.declared.table.Verb.{Verb}
use Rattle.job_words.specs.declared.table.Verb.TheVariants as verb

-- a key: its name, and the values that it takes
pub record KeyRow : Type 0 where
  pub name : List ℕ
  pub takes : List ℕ → Bool

-- a command: its name, and its keys
pub record CommandRow : Type 0 where
  pub verb : Verb
  pub name : List ℕ
  pub keys : List KeyRow

-- the profile's name, of 1 to 255 bytes
abbrev pub profile_key : KeyRow
profile_key = record { name = codes "profile"; takes = λ value. nat_le 1 (length value) && nat_le (length value) 255 }

-- the kernel of error diffusion
abbrev pub kernel_key : KeyRow
kernel_key = record { name = codes "kernel"; takes = λ value. is_some (kernel_named value) }

-- how much grain is put on amounts, from 0 to 32
abbrev pub grain_key : KeyRow
grain_key = record { name = codes "grain"; takes = λ value. is_some (grain_value value) }

-- how many workers, from 1 to 64
abbrev pub workers_key : KeyRow
workers_key = record { name = codes "workers"; takes = λ value. is_some (worker_count value) }

-- the most dots that the meters may count
abbrev pub cap_key : KeyRow
cap_key = record { name = codes "cap"; takes = λ value. is_some (cap_value value) }

-- the most bytes of a job that are read
abbrev pub most_key : KeyRow
most_key = record { name = codes "most"; takes = λ value. is_some (most_value value) }

-- whether passes are shingled, 0 or 1
abbrev pub shingle_key : KeyRow
shingle_key = record { name = codes "shingle"; takes = λ value. is_some (shingle_value value) }

-- the dead nozzles
abbrev pub dead_key : KeyRow
dead_key = record { name = codes "dead"; takes = λ value. is_some (dead_value value) }

-- the seed of the pages that are made
abbrev pub seed_key : KeyRow
seed_key = record { name = codes "seed"; takes = λ value. is_some (seed_value value) }

-- how many pages are made, from 1 to 16
abbrev pub pages_key : KeyRow
pages_key = record { name = codes "pages"; takes = λ value. is_some (page_count value) }

-- pixels across a made page
abbrev pub width_key : KeyRow
width_key = record { name = codes "width"; takes = λ value. is_some (width_value value) }

-- lines down a made page
abbrev pub height_key : KeyRow
height_key = record { name = codes "height"; takes = λ value. is_some (height_value value) }

-- the kind of the made pages
abbrev pub kind_key : KeyRow
kind_key = record { name = codes "kind"; takes = λ value. is_some (kind_named value) }

-- the command that prints the pages of a stream
abbrev pub print_command : CommandRow
print_command = record {
  verb = verb.Print;
  name = codes "print";
  keys = profile_key ∷ kernel_key ∷ grain_key ∷ workers_key ∷ cap_key ∷ shingle_key ∷ dead_key ∷ [];
}

-- the command that shows the dots of a job as images
abbrev pub dots_command : CommandRow
dots_command = record { verb = verb.Dots; name = codes "dots"; keys = profile_key ∷ most_key ∷ [] }

-- the command that lists the commands of a job
abbrev pub list_command : CommandRow
list_command = record { verb = verb.List; name = codes "list"; keys = most_key ∷ [] }

-- the command that shows a profile
abbrev pub profile_command : CommandRow
profile_command = record { verb = verb.Profile; name = codes "profile"; keys = profile_key ∷ [] }

-- the command that prints made pages and counts their dots
abbrev pub trial_command : CommandRow
trial_command = record {
  verb = verb.Trial;
  name = codes "trial";
  keys =
      profile_key ∷ kernel_key ∷ grain_key ∷ workers_key ∷ seed_key ∷ pages_key ∷ width_key ∷ height_key ∷ kind_key
      ∷ shingle_key ∷ dead_key ∷ [];
}

-- all commands
abbrev pub command_table : List CommandRow
command_table = print_command ∷ dots_command ∷ list_command ∷ profile_command ∷ trial_command ∷ []

-- the command of a name
abbrev pub command_named : List ℕ → Option CommandRow
command_named name = find (λ command. is_text name command.name) command_table

-- the key of a name
abbrev pub key_named : List KeyRow → List ℕ → Option KeyRow
key_named keys name = find (λ key. is_text name key.name) keys
