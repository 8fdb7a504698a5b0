-- The values of keys.
use Rattle.std.specs.Prelude.{ℕ, ◌==◌, if◌then◌else◌, List, [], ◌∷◌, length, codes, find, Option, None}
use Rattle.std.specs.List.{slice_split}
use Rattle.std.specs.Str.{bytes_eq}
use Rattle.printer_definitions.specs.declared.inks.InkSet.{InkSet}
use Rattle.printer_definitions.specs.declared.inks.InkSet.TheVariants.{K, Cmy, Cmyk}
use Rattle.key_values.specs.Lists.{is_comma, list_text, numbers_within}

-- the name of a set of inks
abbrev pub ink_set_name : InkSet → List ℕ
ink_set_name K = codes "k"
ink_set_name Cmy = codes "cmy"
ink_set_name Cmyk = codes "cmyk"

-- all sets of inks
abbrev pub ink_sets : List InkSet
ink_sets = K ∷ Cmy ∷ Cmyk ∷ []

-- the set of inks of a name
abbrev pub ink_set_named : List ℕ → Option InkSet
ink_set_named text = find (λ inks. bytes_eq text (ink_set_name inks)) ink_sets

-- the points that texts write, if each is a number from 0 to 256
abbrev pub points_of : List (List ℕ) → Option (List ℕ)
points_of texts = numbers_within 0 256 texts

-- the points of 17 texts
abbrev pub curve_of_parts : List (List ℕ) → Option (List ℕ)
curve_of_parts parts = if length parts == 17 then points_of parts else None

-- the curve that a text writes: 17 numbers from 0 to 256 with commas between
unfoldable pub curve_written : List ℕ → Option (List ℕ)
curve_written text = curve_of_parts (slice_split is_comma text)

-- the text of a curve
abbrev pub curve_text : List ℕ → List ℕ
curve_text curve = list_text curve
