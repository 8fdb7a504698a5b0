-- Jobs with shingled passes, dead nozzles or a cap.
use Rattle.std.proofs.Common.{◌≡◌, ℕ, Bool, true, false, ◌&&◌, ◌||◌, if◌then◌else◌, List, [], ◌∷◌, ◌++◌, drop}
use Rattle.std.proofs.Common.{codes, Option, Some, None, Ok, is_some, unwrap_or, refl, ap, sym, ◌∙◌, subst, arith, append-nil, append_assoc}
use Rattle.std.specs.List.{find, list_any}
use Rattle.std.specs.Option.{option_and_then, option_map}
use Rattle.std.proofs.lemmas.Bool.Decides.{nat_tests}
use Rattle.std.proofs.lemmas.List.Folds.{list_any-append}
use Rattle.std.proofs.lemmas.Slice.Eq.{bytes_eq-Decides}
use Rattle.key_values.specs.Pairs.{key_of, value_of}
use Rattle.job_words.specs.declared.reading.Job.{Job}
use Rattle.job_words.specs.declared.table.Verb.{Verb}
use Rattle.job_words.specs.declared.table.Verb.TheVariants as verb
use Rattle.job_words.specs.Jobs.{IsOneWay}
use Rattle.job_words.specs.Meaning.{asks_for_shingles, faults_on, given_as, gives, job_meaning, refused}
use Rattle.job_words.specs.Rows.{command_row}
use Rattle.job_words.specs.Table.{CommandRow, KeyRow, cap_key, dead_key, key_named, shingle_key}
use Rattle.job_words.specs.DeadLists.{dead_value}
use Rattle.job_words.specs.Values.{cap_value, is_text, shingle_value}
use Rattle.job_words.proofs.Accepted.{IsGood, found_any, found_passes, good_word, words_accepted}
use Rattle.job_words.proofs.FirstWords.{find_none}
use Rattle.job_words.proofs.Steps.{first_good}

-- ---- words that exclude each other are not both there

-- whether words ask for shingled passes and list dead nozzles
abbrev pub asks_both : List (List ℕ) → Bool
asks_both words = list_any asks_for_shingles words && list_any (gives dead_key) words

-- a word gives one key alone
one_key : (one other : KeyRow) (word : List ℕ) → is_text one.name other.name ≡ false → gives one word ≡ true → gives other word ≡ false
one_key one other word apart here = let is : key_of word ≡ one.name = (bytes_eq-Decides (key_of word) one.name).0 here in rw is apart

one_of_both : (word : List ℕ) → (asks_for_shingles word && gives dead_key word) ≡ false
one_of_both word = by_test (gives shingle_key word) refl where
  by_test : (test : Bool) → gives shingle_key word ≡ test
      → ((test && is_text (value_of word) (codes "1")) && gives dead_key word) ≡ false
  by_test true here = rw (one_key shingle_key dead_key word refl here) (grind (arith, nat_tests))
  by_test false here = refl

excluded_any : (p q : List ℕ → Bool) (s d : Bool) (words : List (List ℕ))
    → list_any (λ other. (s && q other) || (d && p other)) words ≡ ((s && list_any q words) || (d && list_any p words))
excluded_any p q s d [] = grind (arith, nat_tests)
excluded_any p q s d (word ∷ words) = let later = excluded_any p q s d words in rw later (grind (arith, nat_tests))

any_more : (p : List ℕ → Bool) (words : List (List ℕ)) (word : List ℕ) → list_any p (words ++ word ∷ []) ≡ (list_any p words || p word)
any_more p words word = rw list_any-append (grind (arith, nat_tests))

not_both : (a b s d : Bool) → (a && b) ≡ false → ((s && b) || (d && a)) ≡ false → (s && d) ≡ false → ((a || s) && (b || d)) ≡ false
not_both a b s d old apart one = grind (arith, nat_tests)

one_more : (keys : List KeyRow) (earlier : List (List ℕ)) (word : List ℕ) → asks_both earlier ≡ false → IsGood keys earlier word
    → asks_both (earlier ++ word ∷ []) ≡ false
one_more keys earlier word old good =
    let apart = sym (excluded_any asks_for_shingles (gives dead_key) (asks_for_shingles word) (gives dead_key word) earlier) ∙ good.apart in
    rw (any_more asks_for_shingles earlier word, any_more (gives dead_key) earlier word)
    (not_both (list_any asks_for_shingles earlier) (list_any (gives dead_key) earlier) (asks_for_shingles word) (gives dead_key word)
    old apart (one_of_both word))

apart_on : (keys : List KeyRow) (words earlier : List (List ℕ)) → refused (faults_on keys) words earlier ≡ [] → asks_both earlier ≡ false
    → asks_both (earlier ++ words) ≡ false
apart_on keys [] earlier none old = ap asks_both (append-nil earlier) ∙ old
apart_on keys (word ∷ words) earlier none old =
    let first = first_good (faults_on keys) words earlier word none in
    ap asks_both (sym (append_assoc earlier (word ∷ []) words))
    ∙ apart_on keys words (earlier ++ word ∷ []) first.1 (one_more keys earlier word old (good_word keys earlier word first.0))

-- the words of a shingled job
shingled_text : (text : List ℕ) → shingle_value text ≡ Some true → is_text text (codes "1") ≡ true
shingled_text text h = by_test (is_text text (codes "0")) (is_text text (codes "1")) refl h where
  by_test : (zeroth first : Bool) → is_text text (codes "1") ≡ first
      → (if zeroth then Some false else if first then Some true else None) ≡ Some true → is_text text (codes "1") ≡ true
  by_test true first same h = absurd (let differ : false ≡ true = cc in cc)
  by_test false true same h = same
  by_test false false same h = absurd (let differ : ◌≡◌ {A = Option Bool} None (Some true) = h in cc)

asked : (words : List (List ℕ)) → unwrap_or (given_as shingle_key shingle_value words) false ≡ true → list_any asks_for_shingles words ≡ true
asked words h = by_word (find (gives shingle_key) words) refl h where
  by_word : (o : Option (List ℕ)) → find (gives shingle_key) words ≡ o
      → unwrap_or (option_and_then shingle_value (option_map value_of o)) false ≡ true → list_any asks_for_shingles words ≡ true
  by_word None found h = absurd cc
  by_word (Some word) found h = by_value (shingle_value (value_of word)) refl h where
    by_value : (o : Option Bool) → shingle_value (value_of word) ≡ o → unwrap_or o false ≡ true → list_any asks_for_shingles words ≡ true
    by_value None is h = absurd cc
    by_value (Some true) is h =
        found_any (gives shingle_key) asks_for_shingles words word found
        (rw (found_passes (gives shingle_key) words word found, shingled_text (value_of word) is) refl)
    by_value (Some false) is h = absurd cc

no_dead : (words : List (List ℕ)) → list_any (gives dead_key) words ≡ false → unwrap_or (given_as dead_key dead_value words) [] ≡ []
no_dead words none = ap (λ o. unwrap_or (option_and_then dead_value (option_map value_of o)) []) (find_none (gives dead_key) words none)

no_shingles : (words : List (List ℕ)) → list_any (gives shingle_key) words ≡ false → unwrap_or (given_as shingle_key shingle_value words) false ≡ false
no_shingles words none = ap (λ o. unwrap_or (option_and_then shingle_value (option_map value_of o)) false) (find_none (gives shingle_key) words none)

second_fails : (a b : Bool) → (a && b) ≡ false → a ≡ true → b ≡ false
second_fails a b both first = grind (arith, nat_tests)

pub one_way : (words : List (List ℕ)) (job : Job) → job_meaning words ≡ Ok job → IsOneWay job
one_way words job means =
    let all = words_accepted words job means in
    let others : List (List ℕ) = drop 1 words in
    let good = all.1 in
    subst (λ (j : Job). IsOneWay j) good.job_is
    (λ shingled. no_dead others (second_fails _ _ (apart_on all.0.keys others [] good.none_refused refl) (asked others shingled)))

-- ---- commands without the keys

no_key_on : (keys : List KeyRow) (key : KeyRow) (words earlier : List (List ℕ)) → is_some (key_named keys key.name) ≡ false
    → refused (faults_on keys) words earlier ≡ [] → list_any (gives key) words ≡ false
no_key_on keys key [] earlier unknown none = refl
no_key_on keys key (word ∷ words) earlier unknown none =
    let first = first_good (faults_on keys) words earlier word none in
    by_test (gives key word) refl (good_word keys earlier word first.0) (no_key_on keys key words (earlier ++ word ∷ []) unknown first.1) where
      by_test : (test : Bool) → gives key word ≡ test → IsGood keys earlier word → list_any (gives key) words ≡ false
          → (test || list_any (gives key) words) ≡ false
      by_test true here good later =
          let named : key_of word ≡ key.name = (bytes_eq-Decides (key_of word) key.name).0 here in
          absurd (let known = good.known in cc)
      by_test false here good later = later

abbrev pub IsWhole : Job → Type 0
IsWhole job = (job.shingle ≡ false) × (job.dead.items ≡ [])

whole : (keys : List KeyRow) (words : List (List ℕ)) → is_some (key_named keys shingle_key.name) ≡ false
    → is_some (key_named keys dead_key.name) ≡ false → refused (faults_on keys) words [] ≡ []
    → (unwrap_or (given_as shingle_key shingle_value words) false ≡ false) × (unwrap_or (given_as dead_key dead_value words) [] ≡ [])
whole keys words shingles dead none =
    (no_shingles words (no_key_on keys shingle_key words [] shingles none), no_dead words (no_key_on keys dead_key words [] dead none))

pub whole_head : (words : List (List ℕ)) (job : Job) → job_meaning words ≡ Ok job → (job.verb ≡ verb.Print → ⊥) → (job.verb ≡ verb.Trial → ⊥)
    → (job.shingle ≡ false) × (job.dead.items ≡ [])
whole_head words job means print trial =
    let all = words_accepted words job means in
    let command : CommandRow = all.0 in
    let good = all.1 in
    subst (λ (j : Job). IsWhole j) good.job_is
    (by_verb command.verb (drop 1 words)
    (λ same. print (ap (λ (j : Job). j.verb) (sym good.job_is) ∙ same)) (λ same. trial (ap (λ (j : Job). j.verb) (sym good.job_is) ∙ same))
    (ap (λ (row : CommandRow). refused (faults_on row.keys) (drop 1 words) []) good.row ∙ good.none_refused))
  where
    by_verb : (which : Verb) (others : List (List ℕ)) → (which ≡ verb.Print → ⊥) → (which ≡ verb.Trial → ⊥)
        → refused (faults_on (command_row which).keys) others [] ≡ []
        → (unwrap_or (given_as shingle_key shingle_value others) false ≡ false) × (unwrap_or (given_as dead_key dead_value others) [] ≡ [])
    by_verb verb.Print others print trial none = absurd (print refl)
    by_verb verb.Trial others print trial none = absurd (trial refl)
    by_verb verb.Dots others print trial none = whole (command_row verb.Dots).keys others refl refl none
    by_verb verb.List others print trial none = whole (command_row verb.List).keys others refl refl none
    by_verb verb.Profile others print trial none = whole (command_row verb.Profile).keys others refl refl none

-- ---- commands without a cap

no_cap : (keys : List KeyRow) (words : List (List ℕ)) → is_some (key_named keys cap_key.name) ≡ false → refused (faults_on keys) words [] ≡ []
    → given_as cap_key cap_value words ≡ None
no_cap keys words unknown none =
    ap (λ o. option_and_then cap_value (option_map value_of o)) (find_none (gives cap_key) words (no_key_on keys cap_key words [] unknown none))

-- only a job that prints has a cap
pub uncapped : (words : List (List ℕ)) (job : Job) → job_meaning words ≡ Ok job → (job.verb ≡ verb.Print → ⊥) → job.cap ≡ None
uncapped words job means print =
    let all = words_accepted words job means in
    let command : CommandRow = all.0 in
    let good = all.1 in
    subst (λ (j : Job). j.cap ≡ None) good.job_is
    (by_verb command.verb (drop 1 words) (λ same. print (ap (λ (j : Job). j.verb) (sym good.job_is) ∙ same))
    (ap (λ (row : CommandRow). refused (faults_on row.keys) (drop 1 words) []) good.row ∙ good.none_refused))
  where
    by_verb : (which : Verb) (others : List (List ℕ)) → (which ≡ verb.Print → ⊥) → refused (faults_on (command_row which).keys) others [] ≡ []
        → given_as cap_key cap_value others ≡ None
    by_verb verb.Print others print none = absurd (print refl)
    by_verb verb.Trial others print none = no_cap (command_row verb.Trial).keys others refl none
    by_verb verb.Dots others print none = no_cap (command_row verb.Dots).keys others refl none
    by_verb verb.List others print none = no_cap (command_row verb.List).keys others refl none
    by_verb verb.Profile others print none = no_cap (command_row verb.Profile).keys others refl none
