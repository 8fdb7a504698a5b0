-- The names of files that a word lists.
use Rattle.std.specs.Prelude.{ℕ, Bool, nat_le, ◌&&◌, List, length}
use Rattle.std.specs.List.{list_all, slice_split}
use Rattle.key_values.specs.Lists.{is_comma}

-- the names in a text: what stands between its commas; a text without a comma is one name
abbrev pub names_in : List ℕ → List (List ℕ)
names_in text = slice_split is_comma text

-- whether a text may be the name of a file: 1 to 255 bytes
abbrev pub is_name : List ℕ → Bool
is_name text = nat_le 1 (length text) && nat_le (length text) 255

-- whether these may be the names of one sender
abbrev pub are_names : List (List ℕ) → Bool
are_names names = nat_le (length names) 64 && list_all is_name names
