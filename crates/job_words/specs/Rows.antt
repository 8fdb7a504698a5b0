-- The rows of the table for the commands and keys in the code.
use Rattle.job_words.specs.Table.{CommandRow, KeyRow, cap_key, dead_key, dots_command, grain_key, height_key}
use Rattle.job_words.specs.Table.{kernel_key, kind_key, list_command, most_key, pages_key, print_command}
use Rattle.job_words.specs.Table.{profile_command, profile_key, seed_key, shingle_key, trial_command, width_key}
use Rattle.job_words.specs.Table.{workers_key}
use Rattle.job_words.specs.declared.table.Verb.{Verb}
use Rattle.job_words.specs.declared.table.Verb.TheVariants as verb
use Rattle.job_words.specs.declared.keys.JobKey.{JobKey}
use Rattle.job_words.specs.declared.keys.JobKey.TheVariants as key

-- the row of a command
abbrev pub command_row : Verb → CommandRow
command_row verb.Print = print_command
command_row verb.Dots = dots_command
command_row verb.List = list_command
command_row verb.Profile = profile_command
command_row verb.Trial = trial_command

-- the row of a key
abbrev pub key_row : JobKey → KeyRow
key_row key.Profile = profile_key
key_row key.Kernel = kernel_key
key_row key.Grain = grain_key
key_row key.Workers = workers_key
key_row key.Cap = cap_key
key_row key.Most = most_key
key_row key.Shingle = shingle_key
key_row key.Dead = dead_key
key_row key.Seed = seed_key
key_row key.Pages = pages_key
key_row key.Width = width_key
key_row key.Height = height_key
key_row key.Kind = kind_key
