-- The points of a text, one part after another.
use Rattle.std.proofs.Common.{◌≡◌, ℕ, zero, suc, ◌+◌, ◌-◌, ◌<◌, ◌≤◌, Bool, true, false, ◌&&◌, eqb, ltb, cond, List, [], ◌∷◌, ◌++◌}
use Rattle.std.proofs.Common.{length, take, get_or, set, replicate, Option, Some, None, refl, ap, sym, ◌∙◌, arith, append_assoc}
use Rattle.std.specs.Char.{is_ascii_digit}
use Rattle.std.specs.List.{after_first, before_first, list_all, list_any, position_or_len, slice_split}
use Rattle.std.specs.Option.{option_map}
use Rattle.std.proofs.lemmas.Bool.Decides.{nat_tests}
use Rattle.std.proofs.lemmas.List.{get_or-set_same, length-set, take_all, take_more, take-set-le}
use Rattle.std.proofs.lemmas.List.Splits.{length-slice_split, slice_split_first, slice_split_none}
use Rattle.key_values.proofs.Cuts.{some_place}
use Rattle.key_values.specs.Lists.{is_comma}
use Rattle.key_values.specs.Numbers.{number_within}
use Rattle.printer_profile.specs.Values.{curve_written, points_of}
use Rattle.printer_profile.specs.Views.{has_points}
use Rattle.key_values.proofs.Lists.{digits_no_comma}
use Rattle.printer_profile.proofs.LineParts.{one_part}

-- the points in front, and those of so many parts
unfoldable pub with_front : List ℕ → ℕ → List (List ℕ) → Option (List ℕ)
with_front front count parts = cond (eqb (length parts) count) (option_map (λ others. front ++ others) (points_of parts)) None

same_option : (points : Option (List ℕ)) → points ≡ option_map (λ others. [] ++ others) points
same_option None = refl
same_option (Some points) = refl

pub curve_start : (text : List ℕ) → curve_written text ≡ with_front [] 17 (slice_split is_comma text)
unfolding curve_written with_front
curve_start text =
    let parts : List (List ℕ) = slice_split is_comma text in
    ap (λ points. cond (eqb (length parts) 17) points None) (same_option (points_of parts))

no_points : Option (List ℕ)
no_points = None

either_none : (test : Bool) → cond test no_points None ≡ None
unfolding no_points
either_none true = refl
either_none false = refl

-- a count that differs
other_count : (front : List ℕ) (count : ℕ) (parts : List (List ℕ)) → eqb (length parts) count ≡ false → with_front front count parts ≡ None
unfolding with_front
other_count front count parts h = rw h refl

pub not_cut : (front rest : List ℕ) (count : ℕ) → 1 < count → list_any is_comma rest ≡ false
    → with_front front count (slice_split is_comma rest) ≡ None
not_cut front rest count more none =
    ap (with_front front count) (one_part is_comma rest none)
    ∙ other_count front count (rest ∷ []) (grind (arith, nat_tests))

pub cut_parts : (rest point others : List ℕ) → list_any is_comma rest ≡ true → point ≡ before_first is_comma rest
    → others ≡ after_first is_comma rest → slice_split is_comma rest ≡ point ∷ slice_split is_comma others
cut_parts rest point others some point_is others_is =
    let within : position_or_len is_comma rest < length rest = grind (arith, nat_tests, some_place is_comma rest) in
    slice_split_first is_comma rest 0 within ∙ rw (point_is, others_is) refl

pub no_point : (front point : List ℕ) (count : ℕ) (parts : List (List ℕ))
    → number_within 0 256 point ≡ None → with_front front count (point ∷ parts) ≡ None
unfolding with_front no_points
no_point front point count parts none = rw none (either_none (eqb (suc (length parts)) count))

same_test : (a b : ℕ) → eqb (suc a) (suc b) ≡ eqb a b
same_test a b = grind (arith, nat_tests)

moved : (front : List ℕ) (n : ℕ) (points : Option (List ℕ))
    → option_map (λ others. front ++ others) (option_map (λ others. n ∷ others) points)
    ≡ option_map (λ others. (front ++ n ∷ []) ++ others) points
moved front n None = refl
moved front n (Some points) = ap Some (sym (append_assoc front (n ∷ []) points))

pub more_points : (front point : List ℕ) (count n : ℕ) (parts : List (List ℕ)) → number_within 0 256 point ≡ Some n
    → with_front front (suc count) (point ∷ parts) ≡ with_front (front ++ n ∷ []) count parts
unfolding with_front
more_points front point count n parts some = rw (some, same_test (length parts) count, moved front n (points_of parts)) refl

-- ---- the last point

by_any : (rest : List ℕ) (test : Bool) → list_any is_comma rest ≡ test → number_within 0 256 rest ≡ None
    → (front : List ℕ) → with_front front 1 (slice_split is_comma rest) ≡ None
by_any rest false none none_read front = ap (with_front front 1) (one_part is_comma rest none) ∙ no_point front rest 1 [] none_read
by_any rest true some none_read front =
    let cut = cut_parts rest (before_first is_comma rest) (after_first is_comma rest) some refl refl in
    let long = length-slice_split is_comma (after_first is_comma rest) in
    ap (with_front front 1) cut
    ∙ other_count front 1 (before_first is_comma rest ∷ slice_split is_comma (after_first is_comma rest)) (grind (arith, nat_tests, long))

pub no_last : (front rest : List ℕ) → number_within 0 256 rest ≡ None → with_front front 1 (slice_split is_comma rest) ≡ None
no_last front rest none_read = by_any rest (list_any is_comma rest) refl none_read front

all_digits : (digits others small : Bool) (value n : ℕ)
    → cond ((digits && others) && small) (Some value) None ≡ Some n → digits ≡ true
all_digits true others small value n h = refl
all_digits false others small value n h = absurd (cc)

number_digits : (text : List ℕ) (n : ℕ) → number_within 0 256 text ≡ Some n → list_all is_ascii_digit text ≡ true
unfolding number_within
number_digits text n h = all_digits (list_all is_ascii_digit text) _ _ _ n h

pub last_point : (front rest : List ℕ) (n : ℕ) → number_within 0 256 rest ≡ Some n
    → with_front front 1 (slice_split is_comma rest) ≡ Some (front ++ n ∷ [])
unfolding with_front
last_point front rest n some =
    ap (with_front front 1) (slice_split_none is_comma rest (digits_no_comma rest (number_digits rest n some)))
    ∙ rw some refl

-- ---- the points so far

pub points_more : (curve : List ℕ) (place n : ℕ) → place < length curve → take (place + 1) (set curve place n) ≡ take place curve ++ n ∷ []
points_more curve place n within =
    take_more (set curve place n) place n (omega (arith, length-set curve place n))
    ∙ rw (take-set-le place curve place n (omega arith), get_or-set_same curve place n n within) refl

pub points_all : (curve : List ℕ) (n : ℕ) → length curve ≡ 17 → take 16 curve ++ n ∷ [] ≡ set curve 16 n
points_all curve n long =
    sym (points_more curve 16 n (omega arith)) ∙ take_all 17 (set curve 16 n) (omega (arith, length-set curve 16 n))

small_points : (x : ℕ) (others : Bool) → x ≤ 256 → others ≡ true → (ltb x 257 && others) ≡ true
small_points x others small h = grind (arith, nat_tests)

pub all_small : (curve : List ℕ) → ((i : ℕ) → get_or curve i 0 ≤ 256) → has_points curve ≡ true
all_small [] h = refl
all_small (x ∷ curve) h = small_points x (has_points curve) (h zero) (all_small curve (λ i. h (suc i)))

pub small_set : (curve : List ℕ) (place n : ℕ) → ((i : ℕ) → get_or curve i 0 ≤ 256) → n ≤ 256
    → (i : ℕ) → get_or (set curve place n) i 0 ≤ 256
small_set [] place n h small i = omega arith
small_set (x ∷ curve) zero n h small zero = small
small_set (x ∷ curve) zero n h small (suc i) = h (suc i)
small_set (x ∷ curve) (suc place) n h small zero = h zero
small_set (x ∷ curve) (suc place) n h small (suc i) = small_set curve place n (λ j. h (suc j)) small i

pub zeros_small : (n i : ℕ) → get_or (replicate n 0) i 0 ≤ 256
zeros_small zero i = omega arith
zeros_small (suc n) zero = omega arith
zeros_small (suc n) (suc i) = zeros_small n i

-- ---- the steps of the reader

pub parts_more : (curve rest point others : List ℕ) (place n : ℕ) → place < 16 → length curve ≡ 17
    → list_any is_comma rest ≡ true → point ≡ before_first is_comma rest → others ≡ after_first is_comma rest
    → number_within 0 256 point ≡ Some n → with_front (take place curve) (17 - place) (slice_split is_comma rest)
    ≡ with_front (take (place + 1) (set curve place n)) (17 - (place + 1)) (slice_split is_comma others)
parts_more curve rest point others place n before long some point_is others_is number =
    let left : 17 - place ≡ suc (17 - (place + 1)) = omega arith in
    ap (with_front (take place curve) (17 - place)) (cut_parts rest point others some point_is others_is)
    ∙ ap (λ count. with_front (take place curve) count (point ∷ slice_split is_comma others)) left
    ∙ more_points (take place curve) point (17 - (place + 1)) n (slice_split is_comma others) number
    ∙ ap (λ front. with_front front (17 - (place + 1)) (slice_split is_comma others))
    (sym (points_more curve place n (omega arith)))

pub parts_bad : (curve rest : List ℕ) (place : ℕ) → place ≡ 16 → number_within 0 256 rest ≡ None
    → with_front (take place curve) (17 - place) (slice_split is_comma rest) ≡ None
parts_bad curve rest place end none = rw end (no_last (take 16 curve) rest none)

pub parts_good : (curve rest : List ℕ) (place n : ℕ) → place ≡ 16 → length curve ≡ 17 → number_within 0 256 rest ≡ Some n
    → with_front (take place curve) (17 - place) (slice_split is_comma rest) ≡ Some (set curve 16 n)
parts_good curve rest place n end long some = rw end (last_point (take 16 curve) rest n some ∙ ap Some (points_all curve n long))
