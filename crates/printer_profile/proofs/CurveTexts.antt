-- The text of a curve, and the curve of a text.
use Rattle.std.proofs.Common.{◌≡◌, ℕ, zero, suc, ◌+◌, ◌<◌, ◌≤◌, true, ltb, List, [], ◌∷◌, ◌++◌}
use Rattle.std.proofs.Common.{length, map, take, get_or, set, Some, IsTrue, refl, ap, sym, ◌∙◌, arith, append_assoc}
use Rattle.std.specs.Fmt.{decimal}
use Rattle.std.specs.List.{AllByRecursion, list_all}
use Rattle.std.proofs.lemmas.Bool.{and_parts, ltb-true}
use Rattle.std.proofs.lemmas.Bool.Decides.{nat_tests}
use Rattle.std.proofs.lemmas.List.{length-map, take_all, take_more}
use Rattle.key_values.specs.Lists.{list_text}
use Rattle.key_values.proofs.Lists.{numbers_read, parts_written}
use Rattle.printer_profile.specs.Values.{curve_of_parts, curve_text, curve_written, points_of}
use Rattle.printer_profile.specs.Views.{has_points}

pub below_257 : (n : ℕ) → ltb n 257 ≡ true → n ≤ 256
below_257 n h = grind (arith, nat_tests)

pub each_has_points : (curves : List (List ℕ)) → IsTrue (list_all has_points curves)
    → (i : ℕ) → has_points (get_or curves i []) ≡ true
each_has_points [] h i = refl
each_has_points (curve ∷ curves) h zero = (and_parts (has_points curve) (list_all has_points curves) h).0
each_has_points (curve ∷ curves) h (suc i) =
    each_has_points curves (and_parts (has_points curve) (list_all has_points curves) h).1 i

pub points_kept : (curves : List (List ℕ)) (place : ℕ) (curve : List ℕ) → IsTrue (list_all has_points curves)
    → has_points curve ≡ true → IsTrue (list_all has_points (set curves place curve))
points_kept [] place curve h good = h
points_kept (other ∷ curves) zero curve h good =
    rw (good, (and_parts (has_points other) (list_all has_points curves) h).1) refl
points_kept (other ∷ curves) (suc place) curve h good =
    let both = and_parts (has_points other) (list_all has_points curves) h in
    rw (both.0, points_kept curves place curve both.1 good) refl

pub each_of_four : (curves : List (List ℕ)) → length (get_or curves 0 []) ≡ 17 → length (get_or curves 1 []) ≡ 17
    → length (get_or curves 2 []) ≡ 17 → length (get_or curves 3 []) ≡ 17 → (i : ℕ) → i < 4 → length (get_or curves i []) ≡ 17
each_of_four curves a b c d zero within = a
each_of_four curves a b c d (suc zero) within = b
each_of_four curves a b c d (suc (suc zero)) within = c
each_of_four curves a b c d (suc (suc (suc zero))) within = d
each_of_four curves a b c d (suc (suc (suc (suc i)))) within = absurd (omega arith)

-- ---- printed and read back

all_below : (curve : List ℕ) → has_points curve ≡ true → AllByRecursion (λ point. point < 257) curve
all_below [] h = tt
all_below (n ∷ curve) h =
    let both = and_parts (ltb n 257) (has_points curve) h in
    (ltb-true n 257 both.0, all_below curve both.1)

of_17 : (parts : List (List ℕ)) → length parts ≡ 17 → curve_of_parts parts ≡ points_of parts
of_17 parts h = rw h refl

pub curve_read : (curve : List ℕ) → length curve ≡ 17 → has_points curve ≡ true → curve_written (curve_text curve) ≡ Some curve
unfolding curve_written
curve_read [] long h = absurd (omega arith)
curve_read (n ∷ curve) long h =
    let small = all_below (n ∷ curve) h in
    ap curve_of_parts (parts_written 257 n curve (omega arith) small)
    ∙ of_17 (map decimal (n ∷ curve)) (length-map (n ∷ curve) decimal ∙ long)
    ∙ numbers_read 256 257 (n ∷ curve) refl (omega arith) small

-- ---- printed point by point

pub curve_first : (curve : List ℕ) → 0 < length curve → curve_text (take 1 curve) ≡ decimal (get_or curve 0 0)
unfolding list_text
curve_first [] some = absurd (omega arith)
curve_first (n ∷ curve) some = refl

one_more : (xs : List ℕ) (n : ℕ) → 0 < length xs → curve_text (xs ++ n ∷ []) ≡ curve_text xs ++ (44 ∷ decimal n)
unfolding list_text
one_more [] n some = absurd (omega arith)
one_more (a ∷ []) n some = refl
one_more (a ∷ b ∷ xs) n some =
    ap (λ (rest : List ℕ). decimal a ++ (44 ∷ rest)) (one_more (b ∷ xs) n (omega arith))
    ∙ sym (append_assoc (decimal a) (44 ∷ curve_text (b ∷ xs)) (44 ∷ decimal n))

text_more : (curve : List ℕ) (place : ℕ) → 0 < place → place < length curve
    → curve_text (take (place + 1) curve) ≡ curve_text (take place curve) ++ (44 ∷ decimal (get_or curve place 0))
text_more [] place some within = absurd (omega arith)
text_more (a ∷ curve) zero some within = absurd (omega arith)
text_more (a ∷ curve) (suc i) some within =
    ap curve_text (take_more (a ∷ curve) (suc i) 0 within)
    ∙ one_more (a ∷ take i curve) (get_or (a ∷ curve) (suc i) 0) (omega arith)

-- one point more
pub curve_more : (curve : List ℕ) (place : ℕ) (old so_far comma new : List ℕ) → 0 < place → place < length curve
    → so_far ≡ old ++ curve_text (take place curve) → comma ≡ so_far ++ (44 ∷ [])
    → new ≡ comma ++ decimal (get_or curve place 0) → new ≡ old ++ curve_text (take (place + 1) curve)
curve_more curve place old so_far comma new some within so_far_is comma_is new_is =
    let text : List ℕ = curve_text (take place curve) in
    let point : List ℕ = decimal (get_or curve place 0) in
    new_is ∙ ap (λ (bytes : List ℕ). bytes ++ point) (comma_is ∙ ap (λ (bytes : List ℕ). bytes ++ (44 ∷ [])) so_far_is)
    ∙ append_assoc (old ++ text) (44 ∷ []) point
    ∙ append_assoc old text (44 ∷ point)
    ∙ ap (λ (bytes : List ℕ). old ++ bytes) (sym (text_more curve place some within))

-- all points
pub curve_whole : (curve : List ℕ) (place : ℕ) (old new : List ℕ) → length curve ≤ place
    → new ≡ old ++ curve_text (take place curve) → new ≡ old ++ curve_text curve
curve_whole curve place old new end is = is ∙ ap (λ points. old ++ curve_text points) (take_all place curve end)
