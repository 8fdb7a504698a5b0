-- The words from one on, and the first of them that passes a test.
use Rattle.std.proofs.Common.{◌≡◌, ℕ, suc, ◌<◌, ◌≤◌, ◌+◌, ◌-◌, Bool, true, false, cond, List, [], ◌∷◌, ◌++◌, length, take, drop}
use Rattle.std.proofs.Common.{Some, None, slice_get, add-one, refl, ap, ◌∙◌, arith}
use Rattle.std.specs.List.{find, list_any, position_from}
use Rattle.std.proofs.Math.ListN.{drop_of_length-le}
use Rattle.std.proofs.lemmas.Bool.Decides.{nat_tests}
use Rattle.std.proofs.lemmas.List.{drop_more, length-take-le, take_more}
use Rattle.std.proofs.lemmas.Option.{get_or_from_slice_get, slice_get_within}

-- the words after the command are counted from 1
pub behind : (words : List (List ℕ)) (k : ℕ) → slice_get (drop 1 words) k ≡ slice_get words (k + 1)
behind [] k = refl
behind (first ∷ words) k = rw add-one refl

pub word_behind : (words : List (List ℕ)) (i : ℕ) (word : List ℕ)
    → 1 ≤ i → slice_get words i ≡ Some word → slice_get (drop 1 words) (i - 1) ≡ Some word
word_behind words i word counted here =
    let place : i - 1 + 1 ≡ i = omega arith in
    behind words (i - 1) ∙ ap (slice_get words) place ∙ here

-- a word, in the list before it
pub taken : {X : Type 0} (xs : List X) (k : ℕ) (x : X) → slice_get xs k ≡ Some x → take (k + 1) xs ≡ take k xs ++ x ∷ []
taken xs k x here =
    take_more xs k x (slice_get_within xs k x here)
    ∙ ap (λ y. take k xs ++ y ∷ []) (get_or_from_slice_get xs k x x here)

-- a word, in the list from it on
pub left : {X : Type 0} (xs : List X) (k : ℕ) (x : X) → slice_get xs k ≡ Some x → drop k xs ≡ x ∷ drop (k + 1) xs
left xs k x here =
    drop_more xs k x (slice_get_within xs k x here) ∙ ap (λ y. y ∷ drop (k + 1) xs) (get_or_from_slice_get xs k x x here)

pub count_taken : (words : List (List ℕ)) (count : ℕ) (word : List ℕ)
    → slice_get words count ≡ Some word → length (take count words) ≡ count
count_taken words count word here =
    let within : count < length words = slice_get_within words count word here in
    length-take-le count words (omega arith)

-- ---- the first word that passes, from a word on

pub found : {X : Type 0} (p : X → Bool) (xs : List X) (k : ℕ) (x : X) → slice_get xs k ≡ Some x → p x ≡ true
    → find p (drop k xs) ≡ Some x
found p xs k x here passes = rw (left xs k x here, passes) refl

pub found_later : {X : Type 0} (p : X → Bool) (xs : List X) (k : ℕ) (x : X) → slice_get xs k ≡ Some x → p x ≡ false
    → find p (drop k xs) ≡ find p (drop (k + 1) xs)
found_later p xs k x here fails = rw (left xs k x here, fails) refl

pub not_found : {X : Type 0} (p : X → Bool) (xs : List X) (k : ℕ) → length xs ≤ k → find p (drop k xs) ≡ None
not_found p xs k all = ap (find p) (drop_of_length-le xs all)

pub at_place : {X : Type 0} (p : X → Bool) (n : ℕ) (xs : List X) (k : ℕ) (x : X) → slice_get xs k ≡ Some x → p x ≡ true
    → position_from p n (drop k xs) ≡ Some n
at_place p n xs k x here passes = rw (left xs k x here, passes) refl

pub at_later : {X : Type 0} (p : X → Bool) (n : ℕ) (xs : List X) (k : ℕ) (x : X) → slice_get xs k ≡ Some x → p x ≡ false
    → position_from p n (drop k xs) ≡ position_from p (n + 1) (drop (k + 1) xs)
at_later p n xs k x here fails = rw (left xs k x here, fails) refl

pub at_none : {X : Type 0} (p : X → Bool) (n : ℕ) (xs : List X) (k : ℕ) → length xs ≤ k → position_from p n (drop k xs) ≡ None
at_none p n xs k all = ap (position_from p n) (drop_of_length-le xs all)

-- ---- whether a word from one on and before another passes

pub one_before : {X : Type 0} (p : X → Bool) (xs : List X) (k n : ℕ) (x : X) → k < n → slice_get xs k ≡ Some x → p x ≡ true
    → list_any p (take (n - k) (drop k xs)) ≡ true
one_before p xs k n x before here passes =
    let next : n - k ≡ suc (n - (k + 1)) = omega arith in
    rw (next, left xs k x here, passes) refl

pub later_before : {X : Type 0} (p : X → Bool) (xs : List X) (k n : ℕ) (x : X) → k < n → slice_get xs k ≡ Some x → p x ≡ false
    → list_any p (take (n - k) (drop k xs)) ≡ list_any p (take (n - (k + 1)) (drop (k + 1) xs))
later_before p xs k n x before here fails =
    let next : n - k ≡ suc (n - (k + 1)) = omega arith in
    rw (next, left xs k x here, fails) refl

pub none_before : {X : Type 0} (p : X → Bool) (xs : List X) (k n : ℕ) → n ≤ k → list_any p (take (n - k) (drop k xs)) ≡ false
none_before p xs k n all = let none : n - k ≡ 0 = omega arith in rw none refl

-- ---- the first word that passes, and its place

pub find_none : {X : Type 0} (p : X → Bool) (xs : List X) → list_any p xs ≡ false → find p xs ≡ None
find_none p [] h = refl
find_none p (x ∷ xs) h = grind (arith, nat_tests, find_none p xs)

pub placed : {X : Type 0} (p : X → Bool) (k : ℕ) (xs : List X) (n : ℕ)
    → position_from p k xs ≡ Some n → (k ≤ n) × (n - k < length xs) × (find p xs ≡ slice_get xs (n - k))
placed p k [] n h = cc
placed p k (x ∷ xs) n h = by_test (p x) h (placed p (k + 1) xs n) where
  by_test : (test : Bool) → cond test (Some k) (position_from p (k + 1) xs) ≡ Some n → (position_from p (k + 1) xs
      ≡ Some n → (k + 1 ≤ n) × (n - (k + 1) < length xs) × (find p xs ≡ slice_get xs (n - (k + 1))))
      → (k ≤ n) × (n - k < length (x ∷ xs)) × (cond test (Some x) (find p xs) ≡ slice_get (x ∷ xs) (n - k))
  by_test true is later =
      let here : k ≡ n = cc in
      let first : n - k ≡ 0 = omega arith in
      (omega arith, omega arith, rw first refl)
  by_test false is later =
      let at = later is in
      let next : n - k ≡ suc (n - (k + 1)) = omega arith in
      (omega arith, omega arith, rw next at.2)

pub unplaced : {X : Type 0} (p : X → Bool) (k : ℕ) (xs : List X) → position_from p k xs ≡ None → find p xs ≡ None
unplaced p k [] h = refl
unplaced p k (x ∷ xs) h = by_test (p x) h (unplaced p (k + 1) xs) where
  by_test : (test : Bool) → cond test (Some k) (position_from p (k + 1) xs) ≡ None
      → (position_from p (k + 1) xs ≡ None → find p xs ≡ None) → cond test (Some x) (find p xs) ≡ None
  by_test true is later = cc
  by_test false is later = later is
