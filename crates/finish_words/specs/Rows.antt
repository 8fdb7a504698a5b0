-- The rows of the table for the keys in the code.
use Rattle.job_words.specs.Table.{KeyRow}
use Rattle.finish_words.specs.Keys.{pages_key, progress_key, stop_key}
use Rattle.finish_words.specs.declared.keys.KeyName.{KeyName}
use Rattle.finish_words.specs.declared.keys.KeyName.TheVariants as key

abbrev pub key_row : KeyName → KeyRow
key_row key.Pages = pages_key
key_row key.Progress = progress_key
key_row key.Stop = stop_key
