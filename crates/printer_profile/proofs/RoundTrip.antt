-- What is printed is read back.
use Rattle.std.proofs.Common.{◌≡◌, ℕ, zero, suc, ◌-◌, ◌<◌, ◌≤◌, ◌^◌, Bool, true, false, not, ◌&&◌, eqb, ltb, List, [], ◌∷◌, ◌++◌, length}
use Rattle.std.proofs.Common.{get_or, codes, Some, Ok, refl, ap, sym, ◌∙◌, arith, append_assoc}
use Rattle.std.specs.Char.{is_ascii, is_ascii_digit}
use Rattle.std.specs.Fmt.{decimal}
use Rattle.std.specs.List.{flat_map, list_all, slice_split}
use Rattle.std.specs.Option.{option_map}
use Rattle.std.specs.Prelude.{slice_index, slice_index_or, slice_set}
use Rattle.std.specs.Str.Lines.{lines, lines_of_parts}
use Rattle.std.proofs.lemmas.Bool.{and_parts}
use Rattle.std.proofs.lemmas.Bool.Decides.{nat_tests}
use Rattle.std.proofs.lemmas.Fmt.{digits_decimal}
use Rattle.std.proofs.lemmas.List.Splits.{length-slice_split, slice_split-cons_no, slice_split-cons_yes}
use Rattle.printer_definitions.specs.declared.inks.InkSet.{InkSet}
use Rattle.printer_definitions.specs.declared.inks.InkSet.TheVariants.{K, Cmy, Cmyk}
use Rattle.printer_definitions.specs.Printer.{Printer}
use Rattle.printer_profile.specs.declared.keys.Key.{Key}
use Rattle.printer_profile.specs.declared.keys.Key.TheVariants as key
use Rattle.printer_profile.specs.declared.reading.Given.{Given}
use Rattle.printer_profile.specs.Keys.{all_keys, profile_key_row}
use Rattle.printer_profile.specs.Text.{head_of, is_given, key_line, nothing, profile_given, profile_text}
use Rattle.printer_profile.specs.Text.{profile_text_of, with_key, with_line, with_lines}
use Rattle.key_values.specs.Numbers.{number_within}
use Rattle.key_values.specs.Lists.{list_text}
use Rattle.printer_profile.specs.Values.{curve_text, curve_written, ink_set_name, ink_set_named}
use Rattle.printer_profile.specs.Views.{has_points}
use Rattle.printer_profile.specs.declared.keys.Version.TheVariants.{Two}
use Rattle.std.proofs.lemmas.List.Folds.{list_all-append}
use Rattle.printer_profile.proofs.LineParts.{line_before}
use Rattle.key_values.proofs.Digits.{number_of_decimal, own}
use Rattle.printer_profile.proofs.TextLemmas.{line_of_key, lines_more, lines_done, text_with_head}
use Rattle.printer_profile.proofs.CurveTexts.{below_257, curve_read}

-- ---- lines

-- whether a byte may be in a line
printable : ℕ → Bool
printable b = ltb 31 b && ltb b 128

no_newline : (b : ℕ) → printable b ≡ true → eqb b 10 ≡ false
unfolding printable
no_newline b h = grind (arith, nat_tests)

no_return : (line : List ℕ) (i : ℕ) → list_all printable line ≡ true → eqb (get_or line i 0) 13 ≡ false
unfolding printable
no_return [] i h = refl
no_return (b ∷ line) zero h = let first = (and_parts (printable b) (list_all printable line) h).0 in grind (arith, nat_tests, first)
no_return (b ∷ line) (suc i) h = no_return line i (and_parts (printable b) (list_all printable line) h).1

-- a printable line ends at its newline
part_before : (line rest : List ℕ) → list_all printable line ≡ true
    → slice_split (λ b. eqb b 10) (line ++ 10 ∷ rest) ≡ line ∷ slice_split (λ b. eqb b 10) rest
part_before [] rest h = slice_split-cons_yes (λ b. eqb b 10) 10 rest refl
part_before (b ∷ line) rest h =
    let both = and_parts (printable b) (list_all printable line) h in
    slice_split-cons_no (λ b. eqb b 10) b (line ++ 10 ∷ rest) (no_newline b both.0) ∙ rw (part_before line rest both.1) refl

line_read : (line rest : List ℕ) → list_all printable line ≡ true → lines (line ++ 10 ∷ rest) ≡ line ∷ lines rest
line_read line rest h =
    ap lines_of_parts (part_before line rest h)
    ∙ line_before line _ _ (length-slice_split (λ b. eqb b 10) rest)
    ∙ rw (no_return line (length line - 1) h) refl

-- ---- keys

-- a profile that its types allow
pub record InRange (p : Printer) : Type 0 where
  pub hdpi : p.hdpi ≤ 65535
  pub vdpi : p.vdpi ≤ 65535
  pub nozzles : p.nozzles ≤ 255
  pub pitch : p.pitch ≤ 255
  pub black_start : p.black_start ≤ 255
  pub limit : (i : ℕ) → slice_index p.limits i ≤ 255
  pub limits : length p.limits ≡ 4
  pub points : (i : ℕ) → has_points (slice_index_or p.curves i []) ≡ true
  pub curve : (i : ℕ) → i < 4 → length (slice_index_or p.curves i []) ≡ 17
  pub curves : length p.curves ≡ 4
  pub left : p.left ≤ 65535
  pub right : p.right ≤ 65535
  pub top : p.top ≤ 65535
  pub bottom : p.bottom ≤ 65535

-- a profile with one field of another
copy_key : Printer → Key → Printer → Printer
copy_key p key.Hdpi q = record q { hdpi = p.hdpi }
copy_key p key.Vdpi q = record q { vdpi = p.vdpi }
copy_key p key.Nozzles q = record q { nozzles = p.nozzles }
copy_key p key.Pitch q = record q { pitch = p.pitch }
copy_key p key.Inks q = record q { inks = p.inks }
copy_key p key.BlackStart q = record q { black_start = p.black_start }
copy_key p key.LimitBlack q = record q { limits = slice_set q.limits 0 (slice_index p.limits 0) }
copy_key p key.LimitCyan q = record q { limits = slice_set q.limits 1 (slice_index p.limits 1) }
copy_key p key.LimitMagenta q = record q { limits = slice_set q.limits 2 (slice_index p.limits 2) }
copy_key p key.LimitYellow q = record q { limits = slice_set q.limits 3 (slice_index p.limits 3) }
copy_key p key.Left q = record q { left = p.left }
copy_key p key.Right q = record q { right = p.right }
copy_key p key.Top q = record q { top = p.top }
copy_key p key.Bottom q = record q { bottom = p.bottom }
copy_key p key.CurveBlack q = record q { curves = slice_set q.curves 0 (slice_index_or p.curves 0 []) }
copy_key p key.CurveCyan q = record q { curves = slice_set q.curves 1 (slice_index_or p.curves 1 []) }
copy_key p key.CurveMagenta q = record q { curves = slice_set q.curves 2 (slice_index_or p.curves 2 []) }
copy_key p key.CurveYellow q = record q { curves = slice_set q.curves 3 (slice_index_or p.curves 3 []) }

number_put : (most n : ℕ) (with_field : ℕ → Printer)
    → n ≤ most → most < 2 ^ 64 → option_map with_field (number_within 0 most (decimal n)) ≡ Some (with_field n)
number_put most n with_field small fits = ap (option_map with_field) (number_of_decimal 0 most n (omega arith) small fits)

curve_put : (p : Printer) → InRange p → (i : ℕ) (with_curve : List ℕ → Printer) → i < 4
    → option_map with_curve (curve_written (curve_text (slice_index_or p.curves i []))) ≡ Some (with_curve (slice_index_or p.curves i []))
curve_put p range i with_curve within =
    ap (option_map with_curve) (curve_read (slice_index_or p.curves i []) (range.curve i within) (range.points i))

ink_set_read : (inks : InkSet) → ink_set_named (ink_set_name inks) ≡ Some inks
ink_set_read K = refl
ink_set_read Cmy = refl
ink_set_read Cmyk = refl

-- a key takes the value that it has in another profile
taken : (p : Printer) → InRange p → (q : Printer) (k : Key) → (profile_key_row k).put ((profile_key_row k).text p) q ≡ Some (copy_key p k q)
unfolding copy_key
taken p range q key.Hdpi = number_put 65535 p.hdpi _ range.hdpi (omega arith)
taken p range q key.Vdpi = number_put 65535 p.vdpi _ range.vdpi (omega arith)
taken p range q key.Nozzles = number_put 255 p.nozzles _ range.nozzles (omega arith)
taken p range q key.Pitch = number_put 255 p.pitch _ range.pitch (omega arith)
taken p range q key.Inks = ap (option_map (λ inks. record q { inks = inks })) (ink_set_read p.inks)
taken p range q key.BlackStart = number_put 255 p.black_start _ range.black_start (omega arith)
taken p range q key.LimitBlack = number_put 255 (slice_index p.limits 0) _ (range.limit 0) (omega arith)
taken p range q key.LimitCyan = number_put 255 (slice_index p.limits 1) _ (range.limit 1) (omega arith)
taken p range q key.LimitMagenta = number_put 255 (slice_index p.limits 2) _ (range.limit 2) (omega arith)
taken p range q key.LimitYellow = number_put 255 (slice_index p.limits 3) _ (range.limit 3) (omega arith)
taken p range q key.Left = number_put 65535 p.left _ range.left (omega arith)
taken p range q key.Right = number_put 65535 p.right _ range.right (omega arith)
taken p range q key.Top = number_put 65535 p.top _ range.top (omega arith)
taken p range q key.Bottom = number_put 65535 p.bottom _ range.bottom (omega arith)
taken p range q key.CurveBlack = curve_put p range 0 _ (omega arith)
taken p range q key.CurveCyan = curve_put p range 1 _ (omega arith)
taken p range q key.CurveMagenta = curve_put p range 2 _ (omega arith)
taken p range q key.CurveYellow = curve_put p range 3 _ (omega arith)

-- texts of values are digits or names
digit_printable : (b : ℕ) → is_ascii_digit b ≡ true → printable b ≡ true
unfolding printable
digit_printable b h = grind (arith, nat_tests)

printable_ascii : (b : ℕ) → printable b ≡ true → is_ascii b ≡ true
unfolding printable
printable_ascii b h = grind (arith, nat_tests)

all_of : (p q : ℕ → Bool) → ((b : ℕ) → p b ≡ true → q b ≡ true) → (bytes : List ℕ) → list_all p bytes ≡ true → list_all q bytes ≡ true
all_of p q more [] h = refl
all_of p q more (b ∷ bytes) h =
    let both = and_parts (p b) (list_all p bytes) h in rw (more b both.0, all_of p q more bytes both.1) refl

decimal_printable : (most n : ℕ) → n ≤ most → most < 2 ^ 64 → list_all printable (decimal n) ≡ true
decimal_printable most n small fits = all_of is_ascii_digit printable digit_printable _ (digits_decimal own n (omega arith))

-- texts of curves are digits and commas
digits_printable : (n : ℕ) → ltb n 257 ≡ true → list_all printable (decimal n) ≡ true
digits_printable n small = decimal_printable 256 n (below_257 n small) (omega arith)

curve_printable : (curve : List ℕ) → has_points curve ≡ true → list_all printable (curve_text curve) ≡ true
unfolding list_text printable
curve_printable [] h = refl
curve_printable (n ∷ []) h = digits_printable n (and_parts (ltb n 257) true h).0
curve_printable (n ∷ m ∷ curve) h =
    let both = and_parts (ltb n 257) (has_points (m ∷ curve)) h in
    list_all-append printable (decimal n) (44 ∷ curve_text (m ∷ curve))
    ∙ rw (digits_printable n both.0, curve_printable (m ∷ curve) both.1) refl

ink_set_printable : (inks : InkSet) → list_all printable (ink_set_name inks) ≡ true
unfolding printable
ink_set_printable K = refl
ink_set_printable Cmy = refl
ink_set_printable Cmyk = refl

value_printable : (p : Printer) → InRange p → (k : Key) → list_all printable ((profile_key_row k).text p) ≡ true
value_printable p range key.Hdpi = decimal_printable 65535 p.hdpi range.hdpi (omega arith)
value_printable p range key.Vdpi = decimal_printable 65535 p.vdpi range.vdpi (omega arith)
value_printable p range key.Nozzles = decimal_printable 255 p.nozzles range.nozzles (omega arith)
value_printable p range key.Pitch = decimal_printable 255 p.pitch range.pitch (omega arith)
value_printable p range key.Inks = ink_set_printable p.inks
value_printable p range key.BlackStart = decimal_printable 255 p.black_start range.black_start (omega arith)
value_printable p range key.LimitBlack = decimal_printable 255 (slice_index p.limits 0) (range.limit 0) (omega arith)
value_printable p range key.LimitCyan = decimal_printable 255 (slice_index p.limits 1) (range.limit 1) (omega arith)
value_printable p range key.LimitMagenta = decimal_printable 255 (slice_index p.limits 2) (range.limit 2) (omega arith)
value_printable p range key.LimitYellow = decimal_printable 255 (slice_index p.limits 3) (range.limit 3) (omega arith)
value_printable p range key.Left = decimal_printable 65535 p.left range.left (omega arith)
value_printable p range key.Right = decimal_printable 65535 p.right range.right (omega arith)
value_printable p range key.Top = decimal_printable 65535 p.top range.top (omega arith)
value_printable p range key.Bottom = decimal_printable 65535 p.bottom range.bottom (omega arith)
value_printable p range key.CurveBlack = curve_printable _ (range.points 0)
value_printable p range key.CurveCyan = curve_printable _ (range.points 1)
value_printable p range key.CurveMagenta = curve_printable _ (range.points 2)
value_printable p range key.CurveYellow = curve_printable _ (range.points 3)

-- a key's line, without its end
bare_line : Key → List ℕ → List ℕ
bare_line k value = (profile_key_row k).name ++ codes "=" ++ value

bare_line_printable : (k : Key) (value : List ℕ) → list_all printable value ≡ true → list_all printable (bare_line k value) ≡ true
unfolding printable bare_line
bare_line_printable key.Hdpi value h = h
bare_line_printable _ value h = h

-- what a key's line gives
bare_line_gives : (given : Given) (k : Key) (value : List ℕ)
    → list_all is_ascii value ≡ true → with_key given value (Some k) ≡ with_line Two given (bare_line k value)
unfolding bare_line
bare_line_gives given key.Hdpi value h = line_of_key Two given _ value (Some key.Hdpi) refl h refl refl refl
bare_line_gives given k value h = line_of_key Two given _ value (Some k) refl h refl refl refl

-- a key's line is the first of the lines
key_line_read : (p : Printer) → InRange p
    → (k : Key) (rest : List ℕ) → lines (key_line p k ++ rest) ≡ bare_line k ((profile_key_row k).text p) ∷ lines rest
unfolding bare_line
key_line_read p range k rest =
    ap lines (append_assoc (bare_line k ((profile_key_row k).text p)) (10 ∷ []) rest)
    ∙ line_read (bare_line k ((profile_key_row k).text p)) rest (bare_line_printable k _ (value_printable p range k))

-- ---- all keys

copied : Printer → Given → Key → Given
copied p given k = record {
  profile = copy_key p k given.profile;
  keys = slice_set given.keys ((profile_key_row k).place - 1) true;
}

all_copied : Printer → Given → List Key → Given
all_copied p given [] = given
all_copied p given (k ∷ keys) = all_copied p (copied p given k) keys

-- no key is given before its line
all_new : Printer → Given → List Key → Bool
all_new p given [] = true
all_new p given (k ∷ keys) = not (is_given given k) && all_new p (copied p given k) keys

key_read : (p : Printer) → InRange p → (given : Given) (k : Key)
    → is_given given k ≡ false → with_line Two given (bare_line k ((profile_key_row k).text p)) ≡ Ok (copied p given k)
unfolding copied
key_read p range given k new =
    sym (bare_line_gives given k _ (all_of printable is_ascii printable_ascii _ (value_printable p range k)))
    ∙ rw (new, taken p range given.profile k) refl

not_true : (b : Bool) → not b ≡ true → b ≡ false
not_true b h = grind (arith, nat_tests)

keys_read : (p : Printer) → InRange p → (keys : List Key) (number : ℕ) (given : Given) → all_new p given keys ≡ true
    → with_lines Two number given (lines (flat_map (key_line p) keys)) ≡ Ok (all_copied p given keys)
unfolding all_copied all_new
keys_read p range [] number given new = lines_done Two number given [] refl
keys_read p range (k ∷ keys) number given new =
    let both = and_parts (not (is_given given k)) (all_new p (copied p given k) keys) new in
    ap (with_lines Two number given) (key_line_read p range k (flat_map (key_line p) keys))
    ∙ lines_more Two number given _ _ (key_read p range given k (not_true _ both.0))
    ∙ keys_read p range keys _ (copied p given k) both.1

-- all keys copied are the profile
four : {X : Type 0} (other : X) (xs : List X) → length xs ≡ 4
    → get_or xs 0 other ∷ get_or xs 1 other ∷ get_or xs 2 other ∷ get_or xs 3 other ∷ [] ≡ xs
four other [] h = absurd (omega arith)
four other (a ∷ []) h = absurd (omega arith)
four other (a ∷ b ∷ []) h = absurd (omega arith)
four other (a ∷ b ∷ c ∷ []) h = absurd (omega arith)
four other (a ∷ b ∷ c ∷ d ∷ []) h = refl
four other (a ∷ b ∷ c ∷ d ∷ e ∷ xs) h = absurd (omega arith)

whole : (p : Printer) → InRange p → profile_given (Ok (all_copied p nothing all_keys)) ≡ Ok p
unfolding all_copied copied copy_key
whole p range =
    ap (λ (limits : List ℕ). Ok (record p { limits = limits; curves = get_or p.curves 0 [] ∷ get_or p.curves 1 [] ∷ get_or p.curves 2 [] ∷ get_or p.curves 3 [] ∷ [] }))
    (four 0 p.limits range.limits)
    ∙ ap (λ (curves : List (List ℕ)). Ok (record p { curves = curves })) (four [] p.curves range.curves)

all_absent : (p : Printer) → all_new p nothing all_keys ≡ true
unfolding all_new copied
all_absent p = refl

head_read : (rest : List ℕ) → lines (head_of Two ++ 10 ∷ rest) ≡ head_of Two ∷ lines rest
unfolding printable
head_read rest = line_read (head_of Two) rest refl

pub printed_text : (p : Printer) → InRange p → profile_text (profile_text_of p) ≡ Ok p
unfolding profile_text_of
printed_text p range =
    let keys : List ℕ = flat_map (key_line p) all_keys in
    sym (text_with_head Two _ (head_of Two) (lines keys) (head_read keys) refl)
    ∙ ap profile_given (keys_read p range all_keys 2 nothing (all_absent p))
    ∙ whole p range
