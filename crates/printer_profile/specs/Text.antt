-- The text of a profile.
use Rattle.std.specs.Prelude.{◌≡◌, ◌<◌, ◌⊎◌, length, ℕ, ◌+◌, ◌-◌, ◌^◌, min, Bool, false, true, not, ◌==◌, ◌&&◌, if◌then◌else◌, List, [], ◌∷◌, ◌++◌, codes, find}
use Rattle.std.specs.Prelude.{replicate, slice_index_or, slice_set, Option, Some, None, Result, Ok, Err}
use Rattle.std.specs.Char.{is_ascii}
use Rattle.std.specs.List.{flat_map, list_all, list_any}
use Rattle.std.specs.Str.{bytes_eq}
use Rattle.std.specs.Str.Lines.{lines}
use Rattle.key_values.specs.Pairs.{is_key_value, key_of, value_of}
use Rattle.printer_definitions.specs.Printer.{Printer}
use Rattle.printer_profile.specs.declared.keys.Key.{Key}
use Rattle.printer_profile.specs.declared.keys.Version.{Version}
use Rattle.printer_profile.specs.declared.keys.Version.TheVariants.{One, Two}
use Rattle.printer_profile.specs.declared.reading.Given.{Given}
use Rattle.printer_profile.specs.declared.reading.TextCause.{TextCause}
use Rattle.printer_profile.specs.declared.reading.TextCause.TheVariants.{BadHead, NotAscii, NoEquals, UnknownKey, RepeatedKey}
use Rattle.printer_profile.specs.declared.reading.TextCause.TheVariants.{BadValue, Missing}
use Rattle.printer_profile.specs.declared.reading.TextFault.{TextFault}
use Rattle.printer_profile.specs.Keys.{all_keys, curve_keys, key_named, profile_key_row, unset}

-- the first line of a version
abbrev pub head_of : Version → List ℕ
head_of One = codes "escp2-profile 1"
head_of Two = codes "escp2-profile 2"

-- the version with a first line
abbrev pub version_of : List ℕ → Option Version
version_of first = find (λ version. bytes_eq first (head_of version)) (One ∷ Two ∷ [])

-- ---- printed

-- a key's line, with its end
abbrev pub key_line : Printer → Key → List ℕ
key_line p key = (profile_key_row key).name ++ codes "=" ++ (profile_key_row key).text p ++ codes "\n"

-- The canonical text: the first line of version 2, and a line of each key in the order of the table.
unfoldable pub profile_text_of : Printer → List ℕ
profile_text_of p = head_of Two ++ codes "\n" ++ flat_map (key_line p) all_keys

-- ---- read

-- an empty line or a comment
abbrev pub is_skipped : List ℕ → Bool
is_skipped [] = true
is_skipped (first ∷ line) = first == 35

-- before the first key line
abbrev pub nothing : Given
nothing = record { profile = unset; keys = replicate 18 false }

-- whether a key was given
abbrev pub is_given : Given → Key → Bool
is_given given key = slice_index_or given.keys ((profile_key_row key).place - 1) false

-- with a value that a key takes
abbrev pub with_value : Given → Key → Option Printer → Result Given TextCause
with_value given key None = Err BadValue
with_value given key (Some profile) =
    Ok (record { profile = profile; keys = slice_set given.keys ((profile_key_row key).place - 1) true })

-- with a value for the key of a name
abbrev pub with_key : Given → List ℕ → Option Key → Result Given TextCause
with_key given value None = Err UnknownKey
with_key given value (Some key) =
    if is_given given key then Err RepeatedKey else with_value given key ((profile_key_row key).put value given.profile)

-- with a line after the first
unfoldable pub with_line : Version → Given → List ℕ → Result Given TextCause
with_line version given line =
    if is_skipped line then Ok given
    else if not (list_all is_ascii line) then Err NotAscii
    else if not (is_key_value line) then Err NoEquals
    else with_key given (value_of line) (key_named version (key_of line))

-- the number of the next line, up to what 32 bits hold
abbrev pub next_line : ℕ → ℕ
next_line line = min (line + 1) (2 ^ 32 - 1)

abbrev pub fault_at : ℕ → TextCause → TextFault
fault_at line cause = record { line = line; cause = cause }

-- with these lines, the first of which has this number
unfoldable pub with_lines : Version → ℕ → Given → List (List ℕ) → Result Given TextFault
with_lines version number given [] = Ok given
with_lines version number given (line ∷ rest) = elim (with_line version given line) [
  | Ok more ↦ with_lines version (next_line number) more rest
  | Err cause ↦ Err (fault_at number cause)
]

-- the first required key that is absent
abbrev pub missing : Given → Option Key
missing given = find (λ key. (profile_key_row key).required && not (is_given given key)) all_keys

-- the profile, if no required key is absent
abbrev pub profile_unless : Given → Option Key → Result Printer TextFault
profile_unless given None = Ok given.profile
profile_unless given (Some key) = Err (fault_at 0 (Missing (profile_key_row key).place))

abbrev pub profile_given : Result Given TextFault → Result Printer TextFault
profile_given (Err fault) = Err fault
profile_given (Ok given) = profile_unless given (missing given)

-- what the lines after the first give, by the version of the first
abbrev pub profile_under : Option Version → List (List ℕ) → Result Printer TextFault
profile_under None rest = Err (fault_at 1 BadHead)
profile_under (Some version) rest = profile_given (with_lines version 2 nothing rest)

abbrev pub profile_of_lines : List (List ℕ) → Result Printer TextFault
profile_of_lines [] = Err (fault_at 1 BadHead)
profile_of_lines (first ∷ rest) = profile_under (version_of first) rest

-- What a text means: a profile, or the first fault.
unfoldable pub profile_text : List ℕ → Result Printer TextFault
profile_text text = profile_of_lines (lines text)

-- ---- the two versions

-- whether a line has the key of a curve
abbrev pub is_curve_line : List ℕ → Bool
is_curve_line line = list_any (λ key. bytes_eq (profile_key_row key).name (key_of line)) curve_keys

-- The answer is an unknown key, in a line that has the key of a curve. The lines are those after the first.
pub record StopsAtCurve (rest : List (List ℕ)) (answer : Result Printer TextFault) : Type 0 where
  pub place : ℕ
  pub within : place < length rest
  pub curve : is_curve_line (slice_index_or rest place []) ≡ true
  pub fault : answer ≡ Err (fault_at (min (place + 2) (2 ^ 32 - 1)) UnknownKey)

-- Two texts that differ in their first lines alone, of version 1 and of version 2, give the same answer; or the first
-- stops at a key of a curve.
abbrev pub VersionsAgree : List ℕ → List ℕ → Type 0
VersionsAgree a b = (rest : List (List ℕ)) → lines a ≡ head_of One ∷ rest → lines b ≡ head_of Two ∷ rest
    → (profile_text a ≡ profile_text b) ⊎ StopsAtCurve rest (profile_text a)
