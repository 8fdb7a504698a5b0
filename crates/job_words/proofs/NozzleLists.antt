-- The numbers of a list of dead nozzles.
use Rattle.std.proofs.Common.{◌≡◌, ℕ, ◌+◌, ◌-◌, ◌<◌, ◌≤◌, Bool, true, false, ◌&&◌, if◌then◌else◌, nat_lt, List, [], ◌∷◌}
use Rattle.std.proofs.Common.{drop, length, Option, Some, None, Ok, unwrap_or, refl, ap, ◌∙◌, subst, arith}
use Rattle.std.specs.List.{AllByRecursion, list_all, slice_split}
use Rattle.std.specs.Option.{option_and_then}
use Rattle.std.proofs.lemmas.Bool.{ltb-true, lt-ltb}
use Rattle.std.proofs.lemmas.Bool.Decides.{nat_tests}
use Rattle.dead_nozzles.specs.Dead.{IsRising}
use Rattle.key_values.specs.Lists.{is_comma, with_number}
use Rattle.key_values.specs.Numbers.{number_within}
use Rattle.key_values.proofs.Lists.{numbers_read, parts_written}
use Rattle.job_words.specs.declared.reading.Job.{Job}
use Rattle.job_words.specs.DeadLists.{dead_text, dead_value, if_rising, is_rising, nozzles_of}
use Rattle.job_words.specs.Jobs.{AreNozzles}
use Rattle.job_words.specs.Meaning.{given, job_meaning}
use Rattle.job_words.specs.Table.{dead_key}
use Rattle.job_words.proofs.Accepted.{words_accepted}
use Rattle.job_words.proofs.Bounds.{number_between}

-- ---- what is read

both_true : (a b : Bool) → (a && b) ≡ true → (a ≡ true) × (b ≡ true)
both_true a b h = (grind (arith, nat_tests), grind (arith, nat_tests))

all_above : (n : ℕ) (others : List ℕ) → list_all (λ other. nat_lt n other) others ≡ true → AllByRecursion (λ other. n < other) others
all_above n [] h = tt
all_above n (m ∷ others) h = let both = both_true _ _ h in (ltb-true n m both.0, all_above n others both.1)

rises : (numbers : List ℕ) → is_rising numbers ≡ true → IsRising numbers
rises [] h = tt
rises (n ∷ others) h = let both = both_true _ _ h in (all_above n others both.0, rises others both.1)

small_on : (texts : List (List ℕ)) (numbers : List ℕ) → nozzles_of texts ≡ Some numbers → AllByRecursion (λ number. number < 255) numbers
small_on [] numbers h = let none : [] ≡ numbers = cc in subst (λ ns. AllByRecursion (λ number. number < 255) ns) none tt
small_on (text ∷ texts) numbers h = by_number (number_within 0 254 text) (nozzles_of texts) refl h (small_on texts) where
  by_number : (o : Option ℕ) (others : Option (List ℕ)) → number_within 0 254 text ≡ o → with_number o others ≡ Some numbers
      → ((ns : List ℕ) → others ≡ Some ns → AllByRecursion (λ number. number < 255) ns) → AllByRecursion (λ number. number < 255) numbers
  by_number None others is h later = absurd (let differ : ◌≡◌ {A = Option (List ℕ)} None (Some numbers) = h in cc)
  by_number (Some n) None is h later = absurd (let differ : ◌≡◌ {A = Option (List ℕ)} None (Some numbers) = h in cc)
  by_number (Some n) (Some ns) is h later =
      let same : n ∷ ns ≡ numbers = cc in
      let between = number_between 0 254 n text is in
      subst (λ all. AllByRecursion (λ number. number < 255) all) same (omega (arith, between.most), later ns refl)

few_from : (least : ℕ) (numbers : List ℕ) → AllByRecursion (λ number. least ≤ number) numbers → IsRising numbers
    → AllByRecursion (λ number. number < 255) numbers → length numbers ≤ 255 - least
few_from least [] above rising small = omega arith
few_from least (n ∷ others) above rising small =
    let later = few_from (n + 1) others (next n others rising.0) rising.1 small.1 in
    omega (arith, later, above.0, small.0)
  where
    next : (n : ℕ) (others : List ℕ) → AllByRecursion (λ other. n < other) others → AllByRecursion (λ number. n + 1 ≤ number) others
    next n [] all = tt
    next n (m ∷ others) all = (omega (arith, all.0), next n others all.1)

from_zero : (numbers : List ℕ) → AllByRecursion (λ number. 0 ≤ number) numbers
from_zero [] = tt
from_zero (n ∷ others) = (omega arith, from_zero others)

nozzles : (numbers : List ℕ) → IsRising numbers → AllByRecursion (λ number. number < 255) numbers → AreNozzles numbers
nozzles numbers rising small =
    record { rising = rising; small = small; few = few_from 0 numbers (from_zero numbers) rising small }

kept : (numbers : Option (List ℕ)) (all : List ℕ) → option_and_then if_rising numbers ≡ Some all → (numbers ≡ Some all) × (is_rising all ≡ true)
kept None all h = absurd (let differ : ◌≡◌ {A = Option (List ℕ)} None (Some all) = h in cc)
kept (Some numbers) all h = by_test (is_rising numbers) refl h where
  by_test : (test : Bool) → is_rising numbers ≡ test → (if test then Some numbers else None) ≡ Some all
      → (Some numbers ≡ Some all) × (is_rising all ≡ true)
  by_test true is h = (h, let same : numbers ≡ all = cc in rw (← same) is)
  by_test false is h = absurd (let differ : ◌≡◌ {A = Option (List ℕ)} None (Some all) = h in cc)

read_nozzles : (text numbers : List ℕ) → dead_value text ≡ Some numbers → AreNozzles numbers
unfolding dead_value
read_nozzles text numbers h =
    let both = kept (nozzles_of (slice_split is_comma text)) numbers h in
    nozzles numbers (rises numbers both.1) (small_on (slice_split is_comma text) numbers both.0)

given_nozzles : (o : Option (List ℕ)) → AreNozzles (unwrap_or (option_and_then dead_value o) [])
given_nozzles None = nozzles [] tt tt
given_nozzles (Some text) = by_list (dead_value text) refl where
  by_list : (o : Option (List ℕ)) → dead_value text ≡ o → AreNozzles (unwrap_or o [])
  by_list None is = nozzles [] tt tt
  by_list (Some numbers) is = read_nozzles text numbers is

pub nozzles_of_job : (words : List (List ℕ)) (job : Job) → job_meaning words ≡ Ok job → AreNozzles job.dead.items
nozzles_of_job words job means =
    let all = words_accepted words job means in
    subst (λ (j : Job). AreNozzles j.dead.items) all.1.job_is (given_nozzles (given dead_key (drop 1 words)))

-- ---- what is written

all_pass : (n : ℕ) (others : List ℕ) → AllByRecursion (λ other. n < other) others → list_all (λ other. nat_lt n other) others ≡ true
all_pass n [] all = refl
all_pass n (m ∷ others) all = rw (lt-ltb n m all.0, all_pass n others all.1) refl

rising_passes : (numbers : List ℕ) → IsRising numbers → is_rising numbers ≡ true
rising_passes [] rising = refl
rising_passes (n ∷ others) rising = rw (all_pass n others rising.0, rising_passes others rising.1) refl

pub written_is_read : (numbers : List ℕ) → 1 ≤ length numbers → IsRising numbers → AllByRecursion (λ number. number < 255) numbers
    → dead_value (dead_text numbers) ≡ Some numbers
unfolding dead_value
written_is_read [] some rising small = absurd (omega arith)
written_is_read (n ∷ others) some rising small =
    ap (λ parts. option_and_then if_rising (nozzles_of parts)) (parts_written 255 n others (omega arith) small)
    ∙ ap (option_and_then if_rising) (numbers_read 254 255 (n ∷ others) refl (omega arith) small)
    ∙ rw (rising_passes (n ∷ others) rising) refl
