-- A text under the first line of version 1, and under that of version 2.
use Rattle.std.proofs.Common.{◌≡◌, ◌⊎◌, inl, inr, ℕ, zero, suc, ◌+◌, ◌-◌, ◌^◌, min, ◌<◌, ◌≤◌, Bool, true, false, not, ◌||◌, cond, List, [], ◌∷◌, ◌++◌}
use Rattle.std.proofs.Common.{length, find, get_or, Option, Some, None, Result, Ok, Err, refl, ap, sym, ◌∙◌, arith}
use Rattle.std.specs.Char.{is_ascii}
use Rattle.std.specs.List.{list_all, list_any}
use Rattle.std.specs.Str.{bytes_eq}
use Rattle.key_values.specs.Pairs.{is_key_value, key_of, value_of}
use Rattle.printer_profile.specs.declared.keys.Key.{Key}
use Rattle.printer_profile.specs.declared.keys.Version.TheVariants.{One, Two}
use Rattle.printer_profile.specs.declared.reading.Given.{Given}
use Rattle.printer_profile.specs.declared.reading.TextCause.{TextCause}
use Rattle.printer_profile.specs.declared.reading.TextFault.{TextFault}
use Rattle.printer_profile.specs.declared.reading.TextCause.TheVariants.{NotAscii, NoEquals, UnknownKey}
use Rattle.printer_profile.specs.Keys.{curve_keys, first_keys, key_named, profile_key_row}
use Rattle.printer_profile.specs.Text.{StopsAtCurve, VersionsAgree, fault_at, head_of, is_curve_line, is_skipped, next_line}
use Rattle.printer_profile.specs.Text.{nothing, profile_given, profile_text, with_key, with_line, with_lines}
use Rattle.printer_profile.proofs.TextLemmas.{lines_fault, lines_more, text_with_head}

module _ {X : Type 0} (test : X → Bool) where
  first_or_later : (x : X) (ys : List X) (here : Bool) → (find test ys ≡ None) ⊎ (list_any test ys ≡ true)
      → (cond here (Some x) (find test ys) ≡ None) ⊎ ((here || list_any test ys) ≡ true)
  first_or_later x ys true later = inr refl
  first_or_later x ys false later = later

  none_or_some : (ys : List X) → (find test ys ≡ None) ⊎ (list_any test ys ≡ true)
  none_or_some [] = inl refl
  none_or_some (y ∷ ys) = first_or_later y ys (test y) (none_or_some ys)

  only_later : (ys : List X) → (find test ys ≡ None) ⊎ (list_any test ys ≡ true)
      → (find test ys ≡ find test []) ⊎ ((find test [] ≡ None) × (list_any test ys ≡ true))
  only_later ys (inl none) = inl none
  only_later ys (inr some) = inr (refl, some)

  same_first : (x : X) (xs ys : List X) (here : Bool)
      → (find test (xs ++ ys) ≡ find test xs) ⊎ ((find test xs ≡ None) × (list_any test ys ≡ true))
      → (cond here (Some x) (find test (xs ++ ys)) ≡ cond here (Some x) (find test xs))
      ⊎ ((cond here (Some x) (find test xs) ≡ None) × (list_any test ys ≡ true))
  same_first x xs ys true later = inl refl
  same_first x xs ys false later = later

  -- what is found in a longer list is found in the shorter one, or only in what is added
  found : (xs ys : List X) → (find test (xs ++ ys) ≡ find test xs) ⊎ ((find test xs ≡ None) × (list_any test ys ≡ true))
  found [] ys = only_later ys (none_or_some ys)
  found (x ∷ xs) ys = same_first x xs ys (test x) (found xs ys)

by_tests : (skipped ascii pair : Bool) (given : Given) (value : List ℕ) (one two : Option Key) (curve : Bool)
    → (two ≡ one) ⊎ ((one ≡ None) × (curve ≡ true)) →
    let answer : Option Key → Result Given TextCause = λ key.
    cond skipped (Ok given) (cond (not ascii) (Err NotAscii) (cond (not pair) (Err NoEquals) (with_key given value key))) in
    (answer two ≡ answer one) ⊎ ((curve ≡ true) × (answer one ≡ Err UnknownKey))
by_tests skipped ascii pair given value one two curve (inl same) = inl (ap (λ key.
    cond skipped (Ok given) (cond (not ascii) (Err NotAscii) (cond (not pair) (Err NoEquals) (with_key given value key)))) same)
by_tests true ascii pair given value one two curve (inr only) = inl refl
by_tests false false pair given value one two curve (inr only) = inl refl
by_tests false true false given value one two curve (inr only) = inl refl
by_tests false true true given value one two curve (inr only) = inr (only.1, ap (with_key given value) only.0)

-- one line
line_agrees : (given : Given) (line : List ℕ) → (with_line Two given line ≡ with_line One given line)
    ⊎ ((is_curve_line line ≡ true) × (with_line One given line ≡ Err UnknownKey))
unfolding with_line
line_agrees given line =
    by_tests (is_skipped line) (list_all is_ascii line) (is_key_value line) given (value_of line) (key_named One (key_of line))
    (key_named Two (key_of line)) (is_curve_line line)
    (found (λ key. bytes_eq (profile_key_row key).name (key_of line)) first_keys curve_keys)

-- the lines stop at a line with the key of a curve
Stops : ℕ → List (List ℕ) → Result Given TextFault → Type 0
Stops number rest answer = (place : ℕ) × (place < length rest) × (is_curve_line (get_or rest place []) ≡ true)
    × (answer ≡ Err (fault_at (min (place + number) (2 ^ 32 - 1)) UnknownKey))

Agree : ℕ → Given → List (List ℕ) → Type 0
Agree number given rest = (with_lines One number given rest ≡ with_lines Two number given rest)
    ⊎ Stops number rest (with_lines One number given rest)

numbered : (place number : ℕ) → min (place + min (number + 1) (2 ^ 32 - 1)) (2 ^ 32 - 1) ≡ min (suc place + number) (2 ^ 32 - 1)
numbered place number = omega arith

same_number : (number : ℕ) → number ≤ 2 ^ 32 - 1 → number ≡ min (0 + number) (2 ^ 32 - 1)
same_number number small = omega arith

further : (number : ℕ) (given more : Given) (line : List ℕ) (rest : List (List ℕ)) → with_line One given line ≡ Ok more
    → with_line Two given line ≡ Ok more → Agree (next_line number) more rest → Agree number given (line ∷ rest)
unfolding Agree Stops
further number given more line rest one two (inl same) =
    inl (lines_more One number given line rest one ∙ same ∙ sym (lines_more Two number given line rest two))
further number given more line rest one two (inr (place, within, curve, fault)) =
    inr (
      suc place,
      omega arith,
      curve,
      lines_more One number given line rest one ∙ fault
          ∙ ap (λ line. Err (fault_at line UnknownKey)) (numbered place number),
    )

by_line : (number : ℕ) (given : Given) (line : List ℕ) (rest : List (List ℕ)) (answer : Result Given TextCause)
    → number ≤ 2 ^ 32 - 1 → with_line One given line ≡ answer → (with_line Two given line ≡ with_line One given line)
    ⊎ ((is_curve_line line ≡ true) × (with_line One given line ≡ Err UnknownKey))
    → ((more : Given) → Agree (next_line number) more rest) → Agree number given (line ∷ rest)
unfolding Agree Stops
by_line number given line rest answer small is (inr only) later =
    inr (
      zero,
      omega arith,
      only.0,
      lines_fault One number given line rest only.1
          ∙ ap (λ line. Err (fault_at line UnknownKey)) (same_number number small),
    )
by_line number given line rest (Err cause) small is (inl same) later =
    inl (lines_fault One number given line rest is ∙ sym (lines_fault Two number given line rest (same ∙ is)))
by_line number given line rest (Ok more) small is (inl same) later =
    further number given more line rest is (same ∙ is) (later more)

lines_agree : (rest : List (List ℕ)) (number : ℕ) (given : Given) → number ≤ 2 ^ 32 - 1 → Agree number given rest
unfolding Agree with_lines
lines_agree [] number given small = inl refl
lines_agree (line ∷ rest) number given small =
    by_line number given line rest (with_line One given line) small refl (line_agrees given line)
    (λ more. lines_agree rest (next_line number) more (omega arith))

of_lines : (a b : List ℕ) (rest : List (List ℕ)) → profile_given (with_lines One 2 nothing rest) ≡ profile_text a
    → profile_given (with_lines Two 2 nothing rest) ≡ profile_text b → Agree 2 nothing rest
    → (profile_text a ≡ profile_text b) ⊎ StopsAtCurve rest (profile_text a)
unfolding Agree Stops
of_lines a b rest one two (inl same) = inl (sym one ∙ ap profile_given same ∙ two)
of_lines a b rest one two (inr (place, within, curve, fault)) = inr (record {
  place = place;
  within = within;
  curve = curve;
  fault = sym one ∙ ap profile_given fault;
})

pub versions_agree : (a b : List ℕ) → VersionsAgree a b
versions_agree a b rest first second =
    of_lines a b rest (text_with_head One a (head_of One) rest first refl) (text_with_head Two b (head_of Two) rest second refl)
    (lines_agree rest 2 nothing (omega arith))
