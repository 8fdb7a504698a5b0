-- Lists of dead nozzles, number by number.
use Rattle.std.proofs.Common.{◌≡◌, ℕ, ◌+◌, ◌<◌, ◌≤◌, Bool, true, false, ◌&&◌, ltb, leb, cond}
use Rattle.std.proofs.Common.{List, [], ◌∷◌, ◌++◌, length, drop, get_or, Option, Some, None, refl, ap, sym, ◌∙◌, arith, append_assoc, append-nil}
use Rattle.std.specs.List.{list_all, slice_split}
use Rattle.std.specs.Option.{option_and_then, option_map}
use Rattle.std.specs.Str.Parse.{digits_value}
use Rattle.std.proofs.lemmas.Bool.Decides.{nat_tests}
use Rattle.std.proofs.lemmas.List.{at_drop_more, at_drop_all}
use Rattle.key_values.specs.Lists.{is_comma, with_number}
use Rattle.key_values.specs.Numbers.{is_number, number_within}
use Rattle.job_words.specs.DeadLists.{dead_value, if_rising, is_rising, nozzles_of}

-- the same, each number from the least that may follow to 254
abbrev pub after : (ℕ → Option (List ℕ)) → Option ℕ → Option (List ℕ)
after read None = None
after read (Some n) = option_map (λ others. n ∷ others) (read (n + 1))

unfoldable pub rising_from : List (List ℕ) → ℕ → Option (List ℕ)
rising_from [] least = Some []
rising_from (text ∷ texts) least = after (rising_from texts) (number_within least 254 text)

-- whether numbers rise from the least on
abbrev pub rises_from : ℕ → List ℕ → Bool
rises_from least numbers = list_all (λ n. leb least n) numbers && is_rising numbers

unfoldable pub kept_from : ℕ → List ℕ → Option (List ℕ)
kept_from least numbers = cond (rises_from least numbers) (Some numbers) None

-- a number from 0 to 254 is one from the least on, or is below the least
abbrev pub if_least : ℕ → ℕ → Option ℕ
if_least least n = cond (leb least n) (Some n) None

bounded : (f : ℕ → Option ℕ) (test zeroth low high : Bool) (value : ℕ) → zeroth ≡ true → f value ≡ cond low (Some value) None
    → cond (test && (low && high)) (Some value) None ≡ option_and_then f (cond (test && (zeroth && high)) (Some value) None)
bounded f false zeroth low high value all is = refl
bounded f true false low high value all is = cc
bounded f true true true true value all is = sym is
bounded f true true true false value all is = refl
bounded f true true false true value all is = sym is
bounded f true true false false value all is = refl

from_zero : (n : ℕ) → leb 0 n ≡ true
from_zero n = grind (arith, nat_tests)

number_from : (least : ℕ) (text : List ℕ)
    → number_within least 254 text ≡ option_and_then (if_least least) (number_within 0 254 text)
unfolding number_within
number_from least text =
    let value : ℕ = digits_value 10 text in
    bounded (if_least least) (is_number text) (leb 0 value) (leb least value) (leb value 254) value (from_zero value) refl

-- what rises from the number after n on is above n
above : (n least : ℕ) (others : List ℕ) → leb least n ≡ true
    → (list_all (λ m. leb least m) others && (list_all (λ m. ltb n m) others)) ≡ list_all (λ m. leb (n + 1) m) others
above n least [] low = refl
above n least (m ∷ others) low = let later = above n least others low in grind (arith, nat_tests)

rises_more : (least n : ℕ) (others : List ℕ) → leb least n ≡ true → rises_from least (n ∷ others) ≡ rises_from (n + 1) others
rises_more least n others low =
    let one = above n least others low in
    grind (arith, nat_tests)

kept_more : (least n : ℕ) (low : Bool) → leb least n ≡ low → (others : Option (List ℕ))
    → option_and_then (kept_from least) (option_map (λ ns. n ∷ ns) others)
    ≡ after (λ m. option_and_then (kept_from m) others) (cond low (Some n) None)
unfolding kept_from
kept_more least n low is None = by_low low where
  by_low : (low : Bool) → None ≡ after (λ m. None) (cond low (Some n) None)
  by_low true = refl
  by_low false = refl
kept_more least n true is (Some others) = by_test (rises_from (n + 1) others) (rises_more least n others is) where
  by_test : (test : Bool) → rises_from least (n ∷ others) ≡ test
      → cond (rises_from least (n ∷ others)) (Some (n ∷ others)) None ≡ option_map (λ ns. n ∷ ns) (cond test (Some others) None)
  by_test true same = rw same refl
  by_test false same = rw same refl
kept_more least n false is (Some others) = let fails : rises_from least (n ∷ others) ≡ false = rw is refl in rw fails refl

after_same : (f g : ℕ → Option (List ℕ)) → ((n : ℕ) → f n ≡ g n) → (o : Option ℕ) → after f o ≡ after g o
after_same f g same None = refl
after_same f g same (Some n) = ap (option_map (λ others. n ∷ others)) (same (n + 1))

kept_is : (texts : List (List ℕ)) (least : ℕ) → option_and_then (kept_from least) (nozzles_of texts) ≡ rising_from texts least
unfolding kept_from rising_from
kept_is [] least = refl
kept_is (text ∷ texts) least =
    by_number (number_within 0 254 text) (kept_is texts)
    ∙ ap (after (rising_from texts)) (sym (number_from least text)) where
      by_number : (o : Option ℕ) → ((m : ℕ) → option_and_then (kept_from m) (nozzles_of texts) ≡ rising_from texts m)
          → option_and_then (kept_from least) (with_number o (nozzles_of texts)) ≡ after (rising_from texts) (option_and_then (if_least least) o)
      by_number None later = refl
      by_number (Some n) later =
          kept_more least n (leb least n) refl (nozzles_of texts)
          ∙ after_same (λ m. option_and_then (kept_from m) (nozzles_of texts)) (rising_from texts) later (if_least least n)

all_from_zero : (numbers : List ℕ) → list_all (λ n. leb 0 n) numbers ≡ true
all_from_zero [] = refl
all_from_zero (n ∷ numbers) = rw (from_zero n, all_from_zero numbers) refl

if_rising_is : (numbers : Option (List ℕ)) → option_and_then if_rising numbers ≡ option_and_then (kept_from 0) numbers
unfolding kept_from
if_rising_is None = refl
if_rising_is (Some numbers) = rw (all_from_zero numbers) refl

-- ---- what is read, and what is left

unfoldable pub with_front : List ℕ → ℕ → List (List ℕ) → Option (List ℕ)
with_front front least parts = option_map (λ others. front ++ others) (rising_from parts least)

no_front : (numbers : Option (List ℕ)) → numbers ≡ option_map (λ others. [] ++ others) numbers
no_front None = refl
no_front (Some numbers) = refl

pub dead_start : (text : List ℕ) → dead_value text ≡ with_front [] 0 (drop 0 (slice_split is_comma text))
unfolding dead_value with_front
dead_start text =
    if_rising_is (nozzles_of (slice_split is_comma text))
    ∙ kept_is (slice_split is_comma text) 0
    ∙ no_front (rising_from (slice_split is_comma text) 0)

-- the text at a place
part_at : (front part : List ℕ) (least k : ℕ) (parts : List (List ℕ)) → (k < length parts) × (part ≡ get_or parts k part)
    → with_front front least (drop k parts) ≡ with_front front least (part ∷ drop (k + 1) parts)
part_at front part least k parts here =
    at_drop_more (with_front front least) parts k part here.0
    ∙ ap (λ p. with_front front least (p ∷ drop (k + 1) parts)) (sym here.1)

bad_part : (front part : List ℕ) (least : ℕ) (parts : List (List ℕ)) → number_within least 254 part ≡ None
    → with_front front least (part ∷ parts) ≡ None
unfolding with_front rising_from
bad_part front part least parts none = rw none refl

moved : (front : List ℕ) (n : ℕ) (numbers : Option (List ℕ)) → option_map (λ others. front ++ others) (option_map (λ others. n ∷ others) numbers)
    ≡ option_map (λ others. (front ++ n ∷ []) ++ others) numbers
moved front n None = refl
moved front n (Some numbers) = ap Some (sym (append_assoc front (n ∷ []) numbers))

good_part : (front part : List ℕ) (least n : ℕ) (parts : List (List ℕ)) → number_within least 254 part ≡ Some n
    → with_front front least (part ∷ parts) ≡ with_front (front ++ n ∷ []) (n + 1) parts
unfolding with_front rising_from
good_part front part least n parts some = rw some (moved front n (rising_from parts (n + 1)))

no_part : (front : List ℕ) (least k : ℕ) (parts : List (List ℕ)) → length parts ≤ k → with_front front least (drop k parts) ≡ Some front
unfolding with_front rising_from
no_part front least k parts end =
    at_drop_all (with_front front least) parts k end ∙ ap Some (append-nil front)

-- the steps of the reader
pub bad_number : (text front part bytes : List ℕ) (least k : ℕ)
    → dead_value text ≡ with_front front least (drop k (slice_split is_comma text))
    → (k < length (slice_split is_comma text)) × (part ≡ get_or (slice_split is_comma text) k part)
    → bytes ≡ part → None ≡ number_within least 254 bytes → dead_value text ≡ None
bad_number text front part bytes least k read here same none =
    read ∙ part_at front part least k (slice_split is_comma text) here
    ∙ bad_part front part least (drop (k + 1) (slice_split is_comma text)) (ap (number_within least 254) (sym same) ∙ sym none)

pub good_number : (text front part bytes more : List ℕ) (least k n next : ℕ)
    → dead_value text ≡ with_front front least (drop k (slice_split is_comma text))
    → (k < length (slice_split is_comma text)) × (part ≡ get_or (slice_split is_comma text) k part)
    → bytes ≡ part → Some n ≡ number_within least 254 bytes → more ≡ front ++ n ∷ [] → next ≡ k + 1
    → dead_value text ≡ with_front more (n + 1) (drop next (slice_split is_comma text))
good_number text front part bytes more least k n next read here same some more_is one =
    read ∙ part_at front part least k (slice_split is_comma text) here
    ∙ good_part front part least n (drop (k + 1) (slice_split is_comma text)) (ap (number_within least 254) (sym same) ∙ sym some)
    ∙ rw (more_is, one) refl

pub all_numbers : (text front : List ℕ) (least k : ℕ)
    → dead_value text ≡ with_front front least (drop k (slice_split is_comma text))
    → length (slice_split is_comma text) ≤ k → Some front ≡ dead_value text
all_numbers text front least k read end = sym (read ∙ no_part front least k (slice_split is_comma text) end)
