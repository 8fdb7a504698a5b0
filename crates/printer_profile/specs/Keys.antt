-- The table of keys.
use Rattle.std.specs.Prelude.{ℕ, Bool, true, false, ◌==◌, List, [], ◌∷◌, ◌++◌, codes, find, slice_index, slice_index_or}
use Rattle.std.specs.Prelude.{slice_set, Option, Some, None, Result, Ok, Err}
use Rattle.std.specs.Fmt.{decimal}
use Rattle.std.specs.Option.{option_map}
use Rattle.std.specs.Str.{bytes_eq}
use Rattle.printer_definitions.specs.Printer.{Printer, tiny1}
use Rattle.printer_profile.specs.declared.keys.Key.{Key}
use Rattle.printer_profile.specs.declared.keys.Key.TheVariants as key
use Rattle.printer_profile.specs.declared.keys.Version.{Version}
use Rattle.printer_profile.specs.declared.keys.Version.TheVariants.{One, Two}
use Rattle.printer_profile.specs.declared.setting.SetFault.{SetFault}
use Rattle.printer_profile.specs.declared.setting.SetFault.TheVariants.{UnknownKey, BadValue}
use Rattle.key_values.specs.Numbers.{number_within}
use Rattle.printer_profile.specs.Values.{curve_text, curve_written, ink_set_name, ink_set_named}

-- A key: its place, counted from 1, its name, whether a text must have it, the profile with the value that a text
-- gives it, if the key takes it, and the text of its value.
pub record Row : Type 0 where
  pub place : ℕ
  pub name : List ℕ
  pub required : Bool
  pub put : List ℕ → Printer → Option Printer
  pub text : Printer → List ℕ

-- a key whose value is a number up to `most`
abbrev pub number_row : ℕ → List ℕ → Bool → ℕ → (Printer → ℕ) → (Printer → ℕ → Printer) → Row
number_row place name required most field with_field = record {
  place = place;
  name = name;
  required = required;
  put = λ text p. option_map (with_field p) (number_within 0 most text);
  text = λ p. decimal (field p);
}

-- the key of an ink's limit, by the ink's place among black, cyan, magenta and yellow
abbrev pub limit_row : ℕ → List ℕ → ℕ → Row
limit_row place name ink =
    number_row place name false 255 (λ p. slice_index p.limits ink) (λ p n. record p { limits = slice_set p.limits ink n })

-- the key of an ink's curve, by the ink's place
abbrev pub curve_row : ℕ → List ℕ → ℕ → Row
curve_row place name ink = record {
  place = place;
  name = name;
  required = false;
  put = λ text p. option_map (λ curve. record p { curves = slice_set p.curves ink curve }) (curve_written text);
  text = λ p. curve_text (slice_index_or p.curves ink []);
}

abbrev pub inks_row : Row
inks_row = record {
  place = 5;
  name = codes "inks";
  required = true;
  put = λ text p. option_map (λ inks. record p { inks = inks }) (ink_set_named text);
  text = λ p. ink_set_name p.inks;
}

-- the row of a key
abbrev pub profile_key_row : Key → Row
profile_key_row key.Hdpi = number_row 1 (codes "hdpi") true 65535 (λ p. p.hdpi) (λ p n. record p { hdpi = n })
profile_key_row key.Vdpi = number_row 2 (codes "vdpi") true 65535 (λ p. p.vdpi) (λ p n. record p { vdpi = n })
profile_key_row key.Nozzles = number_row 3 (codes "nozzles") true 255 (λ p. p.nozzles) (λ p n. record p { nozzles = n })
profile_key_row key.Pitch = number_row 4 (codes "pitch") true 255 (λ p. p.pitch) (λ p n. record p { pitch = n })
profile_key_row key.Inks = inks_row
profile_key_row key.BlackStart =
    number_row 6 (codes "black_start") false 255 (λ p. p.black_start) (λ p n. record p { black_start = n })
profile_key_row key.LimitBlack = limit_row 7 (codes "limit_k") 0
profile_key_row key.LimitCyan = limit_row 8 (codes "limit_c") 1
profile_key_row key.LimitMagenta = limit_row 9 (codes "limit_m") 2
profile_key_row key.LimitYellow = limit_row 10 (codes "limit_y") 3
profile_key_row key.Left = number_row 11 (codes "left") false 65535 (λ p. p.left) (λ p n. record p { left = n })
profile_key_row key.Right = number_row 12 (codes "right") false 65535 (λ p. p.right) (λ p n. record p { right = n })
profile_key_row key.Top = number_row 13 (codes "top") false 65535 (λ p. p.top) (λ p n. record p { top = n })
profile_key_row key.Bottom = number_row 14 (codes "bottom") false 65535 (λ p. p.bottom) (λ p n. record p { bottom = n })
profile_key_row key.CurveBlack = curve_row 15 (codes "curve_k") 0
profile_key_row key.CurveCyan = curve_row 16 (codes "curve_c") 1
profile_key_row key.CurveMagenta = curve_row 17 (codes "curve_m") 2
profile_key_row key.CurveYellow = curve_row 18 (codes "curve_y") 3

-- the keys of version 1, in the order of the table
abbrev pub first_keys : List Key
first_keys =
    key.Hdpi ∷ key.Vdpi ∷ key.Nozzles ∷ key.Pitch ∷ key.Inks ∷ key.BlackStart ∷ key.LimitBlack ∷ key.LimitCyan
    ∷ key.LimitMagenta ∷ key.LimitYellow ∷ key.Left ∷ key.Right ∷ key.Top ∷ key.Bottom ∷ []

-- the keys of the curves
abbrev pub curve_keys : List Key
curve_keys = key.CurveBlack ∷ key.CurveCyan ∷ key.CurveMagenta ∷ key.CurveYellow ∷ []

-- all keys, in the order of the table
abbrev pub all_keys : List Key
all_keys = first_keys ++ curve_keys

-- the keys of a version
abbrev pub keys_of : Version → List Key
keys_of One = first_keys
keys_of Two = all_keys

-- the key of a name, in a version
abbrev pub key_named : Version → List ℕ → Option Key
key_named version name = find (λ key. bytes_eq (profile_key_row key).name name) (keys_of version)

-- the key at a place of the table
abbrev pub key_at : ℕ → Option Key
key_at place = find (λ key. (profile_key_row key).place == place) all_keys

abbrev pub name_of : Option Key → List ℕ
name_of None = []
name_of (Some key) = (profile_key_row key).name

-- its name; empty at any other place
abbrev pub name_at : ℕ → List ℕ
name_at place = name_of (key_at place)

-- the profile before any key is set: the defaults, which are the values of `tiny1`, and 0 and `k` where there is none
abbrev pub unset : Printer
unset = record tiny1 {
  hdpi = 0;
  vdpi = 0;
  nozzles = 0;
  pitch = 0;
}

-- the profile with the new value, where the key takes it
abbrev pub put_or_fault : Option Printer → Result Printer SetFault
put_or_fault None = Err BadValue
put_or_fault (Some p) = Ok p

abbrev pub set_found : List ℕ → Printer → Option Key → Result Printer SetFault
set_found value p None = Err UnknownKey
set_found value p (Some key) = put_or_fault ((profile_key_row key).put value p)

-- the profile with the value that a text gives the key of a name
abbrev pub set_key : List ℕ → List ℕ → Printer → Result Printer SetFault
set_key name value p = set_found value p (key_named Two name)
