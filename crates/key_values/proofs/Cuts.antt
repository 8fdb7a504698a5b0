-- A text around the first byte that passes a test.
use Rattle.std.proofs.Common.{◌≡◌, ℕ, ◌<◌, ◌≤◌, ◌+◌, ◌-◌, Bool, true, false, cond, ltb, List, [], ◌∷◌, length, take, drop}
use Rattle.std.proofs.Common.{Option, Some, None, MatchOption, refl, ap, sym, ◌∙◌, arith}
use Rattle.std.specs.List.{list_any, position, position_or_len}
use Rattle.std.proofs.Math.ListN.{drop_of_length-le}
use Rattle.std.proofs.lemmas.Bool.Decides.{nat_tests}
use Rattle.std.proofs.lemmas.List.{take_all, length-drop}
use Rattle.std.proofs.lemmas.Str.Pattern.{IsSplitOnceResult, split_once_first}
use denote.Ref.{Bor}
use Rattle.key_values.specs.Pairs.{IsCut, is_equals_sign, is_key_value, key_of, value_of}

-- an element passes exactly where the first that does is among them
pub some_place : {X : Type 0} (p : X → Bool) (xs : List X) → list_any p xs ≡ ltb (position_or_len p xs) (length xs)
some_place p [] = refl
some_place p (x ∷ xs) = grind (arith, nat_tests, some_place p xs)

-- the place of the first that passes
found_within : (first len i : ℕ) → Some i ≡ cond (ltb first len) (Some first) None → (ltb first len ≡ true) × (i ≡ first) × (first < len)
found_within first len i h = by_test (ltb first len) refl h where
  by_test : (test : Bool) → ltb first len ≡ test
      → Some i ≡ cond test (Some first) None → (ltb first len ≡ true) × (i ≡ first) × (first < len)
  by_test true passed found = (passed, cc, grind (arith, nat_tests))
  by_test false failed found = cc

found_none : (test : Bool) (n : ℕ) → None ≡ cond test (Some n) None → test ≡ false
found_none test n h = grind (arith, nat_tests)

pub cut_found : (p : ℕ → Bool) (text : List ℕ) (place : ℕ) (rest : List ℕ) → Some place ≡ position p text
    → rest ≡ take (length text - (place + 1)) (drop (place + 1) text) → IsCut p text (Some (take place text, rest))
cut_found p text place rest found is =
    let at = found_within _ _ _ found in
    let all : take (length text - (place + 1)) (drop (place + 1) text) ≡ drop (place + 1) text =
    take_all _ _ (omega (arith, length-drop (place + 1) text)) in
    (some_place p text ∙ at.0, ap (λ n. take n text) at.1, is ∙ all ∙ ap (λ n. drop (n + 1) text) at.1)

pub cut_none : (p : ℕ → Bool) (text : List ℕ) → None ≡ position p text → IsCut p text None
cut_none p text found = some_place p text ∙ found_none _ _ found

-- the two parts of a word, around its first `=`
pub parts_of : (word : List ℕ) (parts : Option (Bor (List ℕ) × Bor (List ℕ)))
    → IsSplitOnceResult 61 word parts → MatchOption parts (is_key_value word ≡ false) (λ x. (is_key_value word ≡ true)
    × (x.0.now ≡ key_of word) × (x.1.now ≡ value_of word))
parts_of word None split =
    let none = split_once_first 61 word None split (omega arith) in
    let past : ltb (position_or_len is_equals_sign word) (length word) ≡ false = grind (arith, nat_tests) in
    some_place is_equals_sign word ∙ past
parts_of word (Some x) split =
    let some = split_once_first 61 word (Some x) split (omega arith) in
    let within : ltb (position_or_len is_equals_sign word) (length word) ≡ true = grind (arith, nat_tests) in
    (some_place is_equals_sign word ∙ within, some.1, some.2)

-- a word without a `=` has no value
pub no_value : (word : List ℕ) → is_key_value word ≡ false → [] ≡ value_of word
no_value word h =
    let outside : ltb (position_or_len is_equals_sign word) (length word) ≡ false = sym (some_place is_equals_sign word) ∙ h in
    let past : length word ≤ position_or_len is_equals_sign word = grind (arith, nat_tests) in
    sym (drop_of_length-le word (omega arith))

-- a word without a `=` is its key
pub whole_key : (word : List ℕ) → is_key_value word ≡ false → word ≡ key_of word
whole_key word h =
    let outside : ltb (position_or_len is_equals_sign word) (length word) ≡ false = sym (some_place is_equals_sign word) ∙ h in
    let past : length word ≤ position_or_len is_equals_sign word = grind (arith, nat_tests) in
    sym (take_all _ word past)
