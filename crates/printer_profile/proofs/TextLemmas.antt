-- What one line gives, and what the lines and the text then give.
use Rattle.std.proofs.Common.{◌≡◌, ℕ, true, false, List, [], ◌∷◌, length, Option, Some, None, Result, Ok, Err, refl, ap, sym, ◌∙◌, arith}
use Rattle.std.specs.Char.{is_ascii}
use Rattle.std.specs.List.{after_first, before_first, list_all, list_any}
use Rattle.std.specs.Str.Lines.{lines}
use Rattle.printer_definitions.specs.Printer.{Printer}
use Rattle.printer_profile.specs.declared.keys.Key.{Key}
use Rattle.printer_profile.specs.declared.keys.Version.{Version}
use Rattle.printer_profile.specs.declared.reading.Given.{Given}
use Rattle.printer_profile.specs.declared.reading.TextCause.{TextCause}
use Rattle.printer_profile.specs.declared.reading.TextCause.TheVariants.{BadHead, NotAscii, NoEquals}
use Rattle.printer_profile.specs.declared.reading.TextFault.{TextFault}
use Rattle.printer_profile.specs.Keys.{key_named}
use Rattle.key_values.specs.Pairs.{is_equals_sign}
use Rattle.printer_profile.specs.Text.{fault_at, is_skipped, next_line, nothing, profile_given, profile_of_lines}
use Rattle.printer_profile.specs.Text.{profile_text, profile_under, version_of, with_key, with_line, with_lines}

-- ---- one line

pub line_skipped : (version : Version) (given : Given) (line : List ℕ) → is_skipped line ≡ true → Ok given ≡ with_line version given line
unfolding with_line
line_skipped version given line skipped = rw skipped refl

pub line_not_ascii : (version : Version) (given : Given) (line : List ℕ)
    → is_skipped line ≡ false → list_all is_ascii line ≡ false → Err NotAscii ≡ with_line version given line
unfolding with_line
line_not_ascii version given line counts ascii = rw (counts, ascii) refl

pub line_no_equals : (version : Version) (given : Given) (line : List ℕ) → is_skipped line ≡ false
    → list_all is_ascii line ≡ true → list_any is_equals_sign line ≡ false → Err NoEquals ≡ with_line version given line
unfolding with_line
line_no_equals version given line counts ascii equals = rw (counts, ascii, equals) refl

pub line_of_key : (version : Version) (given : Given) (line value : List ℕ) (key : Option Key) → is_skipped line ≡ false
    → list_all is_ascii line ≡ true → list_any is_equals_sign line ≡ true → value ≡ after_first is_equals_sign line
    → key ≡ key_named version (before_first is_equals_sign line) → with_key given value key ≡ with_line version given line
unfolding with_line
line_of_key version given line value key counts ascii equals value_is key_is = rw (counts, ascii, equals, value_is, key_is) refl

-- ---- lines

pub lines_more : (version : Version) (number : ℕ) (given : Given) {more : Given} (line : List ℕ) (rest : List (List ℕ))
    → with_line version given line ≡ Ok more → with_lines version number given (line ∷ rest) ≡ with_lines version (next_line number) more rest
unfolding with_lines
lines_more version number given {more} line rest h =
    ap (λ (o : Result Given TextCause).
    elim o [ Ok more ↦ with_lines version (next_line number) more rest | Err cause ↦ Err (fault_at number cause) ]) h

pub lines_fault : (version : Version) (number : ℕ) (given : Given) {cause : TextCause} (line : List ℕ) (rest : List (List ℕ))
    → with_line version given line ≡ Err cause → with_lines version number given (line ∷ rest) ≡ Err (fault_at number cause)
unfolding with_lines
lines_fault version number given {cause} line rest h =
    ap (λ (o : Result Given TextCause).
    elim o [ Ok more ↦ with_lines version (next_line number) more rest | Err cause ↦ Err (fault_at number cause) ]) h

pub lines_done : (version : Version) (number : ℕ) (given : Given) (text : List ℕ) → length text ≡ 0 → with_lines version number given (lines text) ≡ Ok given
unfolding with_lines
lines_done version number given [] h = refl
lines_done version number given (b ∷ text) h = absurd (omega arith)

-- ---- a text

pub text_empty : (text : List ℕ) → length text ≡ 0 → Err (fault_at 1 BadHead) ≡ profile_text text
unfolding profile_text
text_empty [] h = refl
text_empty (b ∷ text) h = absurd (omega arith)

pub text_bad_head : (text first : List ℕ) (rest : List (List ℕ))
    → lines text ≡ first ∷ rest → version_of first ≡ None → Err (fault_at 1 BadHead) ≡ profile_text text
unfolding profile_text
text_bad_head text first rest cut none =
    sym (ap profile_of_lines cut ∙ ap (λ version. profile_under version rest) none)

pub text_with_head : (version : Version) (text first : List ℕ) (rest : List (List ℕ)) → lines text ≡ first ∷ rest
    → version_of first ≡ Some version → profile_given (with_lines version 2 nothing rest) ≡ profile_text text
unfolding profile_text
text_with_head version text first rest cut same =
    sym (ap profile_of_lines cut ∙ ap (λ version. profile_under version rest) same)

-- what the lines after the first one give
pub lines_end : (version : Version) (text first : List ℕ) (rest : List (List ℕ)) (read : Result Given TextFault)
    (answer : Result Printer TextFault) → lines text ≡ first ∷ rest → version_of first ≡ Some version
    → read ≡ with_lines version 2 nothing rest → answer ≡ profile_given read → answer ≡ profile_text text
lines_end version text first rest read answer cut same read_is answer_is =
    answer_is ∙ ap profile_given read_is ∙ text_with_head version text first rest cut same
