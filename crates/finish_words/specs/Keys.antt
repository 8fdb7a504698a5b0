-- The table of keys.
use Rattle.std.specs.Prelude.{List, [], ◌∷◌, codes, is_some}
use Rattle.job_words.specs.Table.{KeyRow, profile_key}
use Rattle.job_words.specs.Values.{shingle_value}

-- whether a line tells each whole page, 0 or 1
abbrev pub pages_key : KeyRow
pages_key = record { name = codes "pages"; takes = λ value. is_some (shingle_value value) }

-- whether a line tells each tenth of a page, 0 or 1
abbrev pub progress_key : KeyRow
progress_key = record { name = codes "progress"; takes = λ value. is_some (shingle_value value) }

-- the name of the text that stops the run: as the name of a profile, 1 to 255 bytes
abbrev pub stop_key : KeyRow
stop_key = record { name = codes "stop"; takes = profile_key.takes }

-- all keys
abbrev pub key_table : List KeyRow
key_table = pages_key ∷ progress_key ∷ stop_key ∷ []
