-- The rows of the table for the keys in the code.
use Rattle.spool_words.specs.Keys.{SpoolKey, grain_row, kernel_row, profile_row, send_row, workers_row}
use Rattle.spool_words.specs.declared.keys.KeyName.{KeyName}
use Rattle.spool_words.specs.declared.keys.KeyName.TheVariants as key

abbrev pub key_row : KeyName → SpoolKey
key_row key.Profile = profile_row
key_row key.Kernel = kernel_row
key_row key.Grain = grain_row
key_row key.Workers = workers_row
key_row key.Send = send_row
