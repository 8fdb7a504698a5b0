-- The first line of a text.
use Rattle.std.proofs.Common.{◌≡◌, ℕ, ◌<◌, ◌+◌, Bool, true, false, ◌||◌, eqb, List, [], ◌∷◌}
use Rattle.std.proofs.Common.{length, refl, ap, ◌∙◌, arith}
use Rattle.std.specs.List.{after_first, before_first, list_any, position_or_len, slice_split}
use Rattle.std.specs.Str.Lines.{lines, lines_of_parts, strip_carriage_return}
use Rattle.std.proofs.lemmas.Bool.Decides.{nat_tests}
use Rattle.std.proofs.lemmas.List.Splits.{length-slice_split, slice_split-cons_no, slice_split_first}
use Rattle.key_values.proofs.Cuts.{some_place}

-- the line before a part that is not the last
pub line_before : (line : List ℕ) (parts : List (List ℕ)) (n : ℕ)
    → length parts ≡ n + 1 → lines_of_parts (line ∷ parts) ≡ strip_carriage_return line ∷ lines_of_parts parts
line_before line [] n h = absurd (omega arith)
line_before line (part ∷ parts) n h = refl

pub first_of_lines : (text line rest : List ℕ)
    → list_any (λ b. eqb b 10) text ≡ true → line ≡ before_first (λ b. eqb b 10) text
    → rest ≡ after_first (λ b. eqb b 10) text → lines text ≡ strip_carriage_return line ∷ lines rest
first_of_lines text line rest some line_is rest_is =
    let within : position_or_len (λ b. eqb b 10) text < length text = grind (arith, nat_tests, some_place (λ b. eqb b 10) text) in
    ap lines_of_parts (slice_split_first (λ b. eqb b 10) text 0 within)
    ∙ line_before _ _ _ (length-slice_split (λ b. eqb b 10) (after_first (λ b. eqb b 10) text))
    ∙ rw (line_is, rest_is) refl

or_fails : (a b : Bool) → (a || b) ≡ false → (a ≡ false) × (b ≡ false)
or_fails a b h = (grind (arith, nat_tests), grind (arith, nat_tests))

pub one_part : (p : ℕ → Bool) (text : List ℕ) → list_any p text ≡ false → slice_split p text ≡ text ∷ []
one_part p [] h = refl
one_part p (b ∷ text) h =
    let tests = or_fails (p b) (list_any p text) h in
    slice_split-cons_no p b text tests.0 ∙ rw (one_part p text tests.1) refl

last_part : (line : List ℕ) → 0 < length line → lines_of_parts (line ∷ []) ≡ line ∷ []
last_part line some = grind (arith, nat_tests)

pub last_of_lines : (text : List ℕ) → list_any (λ b. eqb b 10) text ≡ false → 0 < length text → lines text ≡ text ∷ []
last_of_lines text none some = ap lines_of_parts (one_part (λ b. eqb b 10) text none) ∙ last_part text some
