-- What is known of words that are accepted.
use Rattle.std.proofs.Common.{◌≡◌, ℕ, ◌+◌, ◌<◌, ◌≤◌, Bool, true, false, ◌&&◌, eqb, leb, ltb, cond, if◌then◌else◌}
use Rattle.std.proofs.Common.{List, [], ◌∷◌, ◌++◌, codes, length, map, Option, Some, None, Err, Ok, unwrap_or, refl, ap, sym, ◌∙◌, subst, arith, append-nil, append_assoc}
use Rattle.std.specs.List.{AllByRecursion, count_by, filter, find, list_all}
use Rattle.std.specs.Option.{option_map}
use Rattle.std.proofs.lemmas.Bool.{leb-true, ltb-true}
use Rattle.std.proofs.lemmas.Bool.Decides.{nat_tests}
use Rattle.std.proofs.lemmas.List.{length-map}
use Rattle.std.proofs.lemmas.List.Splits.{length-slice_split}
use Rattle.std.proofs.lemmas.List.Sums.{length-filter, sum_by_push}
use Rattle.std.proofs.lemmas.Slice.Eq.{bytes_eq-Decides}
use Rattle.key_values.specs.Pairs.{is_key_value, key_of, value_of}
use Rattle.key_values.specs.Lists.{is_comma}
use Rattle.job_words.specs.Meaning.{given, gives, refused}
use Rattle.job_words.specs.Table.{grain_key, profile_key, workers_key}
use Rattle.job_words.proofs.Bounds.{given_between}
use Rattle.job_words.proofs.Steps.{first_good as first_accepted}
use Rattle.separation_definitions.specs.Grain.{most_grain}
use Rattle.spool_words.specs.declared.faults.SpoolCause.{SpoolCause}
use Rattle.spool_words.specs.declared.faults.SpoolCause.TheVariants.{BadValue, NoSend, NotKeyValue}
use Rattle.spool_words.specs.declared.faults.SpoolFault.{SpoolFault}
use Rattle.spool_words.specs.declared.reading.SpoolRequest.{SpoolRequest}
use Rattle.spool_words.specs.Keys.{SpoolKey, key_named, profile_row, send_key, send_row}
use Rattle.spool_words.specs.Meaning.{fault_at, faults_at, faults_on, key_fault, names_of, profile_named, request_of, request_unless, sender_count}
use Rattle.spool_words.specs.Meaning.{spool_meaning, value_fault, word_fault}
use Rattle.spool_words.specs.Names.{are_names, is_name, names_in}
use Rattle.spool_words.specs.Requests.{AreNames, IsName, IsWithinBounds}

-- ---- an accepted word

good_value : (key : SpoolKey) (before : ℕ) (taken : Bool) → value_fault key before taken ≡ None → (before < key.most) × (taken ≡ true)
good_value key before taken h = by_tests (ltb before key.most) taken refl h where
  by_tests : (few taken : Bool) → ltb before key.most ≡ few → cond few (cond taken None (Some BadValue)) (Some key.excess) ≡ None
      → (before < key.most) × (taken ≡ true)
  by_tests true true same h = (ltb-true before key.most same, refl)
  by_tests true false same h = absurd cc
  by_tests false taken same h = absurd cc

-- a word with a key of the table: as many as may be have the key, and the key takes its value
good_key : (key : SpoolKey) (earlier : List (List ℕ)) (word : List ℕ) → key_named key.row.name ≡ Some key
    → word_fault earlier word ≡ None → gives key.row word ≡ true
    → (count_by (gives key.row) earlier < key.most) × (key.row.takes (value_of word) ≡ true)
unfolding word_fault
good_key key earlier word named h here = by_test (is_key_value word) h where
  by_test : (test : Bool) → (if test then key_fault earlier word (key_named (key_of word)) else Some NotKeyValue) ≡ None
      → (count_by (gives key.row) earlier < key.most) × (key.row.takes (value_of word) ≡ true)
  by_test true h =
      let is : key_of word ≡ key.row.name = (bytes_eq-Decides (key_of word) key.row.name).0 here in
      good_value key _ _ (ap (key_fault earlier word) (sym (ap key_named is ∙ named)) ∙ h)
  by_test false h = absurd cc

no_cause : (number : ℕ) (o : Option SpoolCause) → faults_at number o ≡ [] → o ≡ None
no_cause number None h = refl
no_cause number (Some cause) h = absurd cc

-- the first word of words that are accepted, and those behind it
first_good : (words earlier : List (List ℕ)) (word : List ℕ) → refused faults_on (word ∷ words) earlier ≡ []
    → (word_fault earlier word ≡ None) × (refused faults_on words (earlier ++ word ∷ []) ≡ [])
first_good words earlier word none =
    let first = first_accepted faults_on words earlier word none in
    (no_cause (length earlier + 1) (word_fault earlier word) first.0, first.1)

-- ---- there are at most eight

one_more : (earlier : List (List ℕ)) (word : List ℕ) → sender_count earlier ≤ 8 → word_fault earlier word ≡ None
    → sender_count (earlier ++ word ∷ []) ≤ 8
one_more earlier word few good =
    let push : sender_count (earlier ++ word ∷ []) ≡ sender_count earlier + cond (gives send_key word) 1 0 =
    sum_by_push (λ other. cond (gives send_key other) 1 0) earlier word in
    let bound = by_test (gives send_key word) refl in
    omega (arith, push, bound)
  where
    by_test : (test : Bool) → gives send_key word ≡ test → sender_count earlier + cond test 1 0 ≤ 8
    by_test true same = let fewer = (good_key send_row earlier word refl good same).0 in omega (arith, fewer)
    by_test false same = omega arith

few_on : (words earlier : List (List ℕ)) → refused faults_on words earlier ≡ [] → sender_count earlier ≤ 8 → sender_count (earlier ++ words) ≤ 8
few_on [] earlier none few = omega (arith, ap sender_count (append-nil earlier))
few_on (word ∷ words) earlier none few =
    let first = first_good words earlier word none in
    let all = few_on words (earlier ++ word ∷ []) first.1 (one_more earlier word few first.0) in
    omega (arith, all, ap sender_count (append_assoc earlier (word ∷ []) words))

pub few_senders : (words : List (List ℕ)) → refused faults_on words [] ≡ [] → sender_count words ≤ 8
few_senders words none = few_on words [] none (omega arith)

-- ---- their names

both : (a b : Bool) → (a && b) ≡ true → (a ≡ true) × (b ≡ true)
both true b h = (refl, h)
both false b h = cc

name_is : (name : List ℕ) → is_name name ≡ true → IsName name
name_is name h =
    let parts = both (leb 1 (length name)) (leb (length name) 255) h in
    record { some = leb-true 1 (length name) parts.0; most = leb-true (length name) 255 parts.1 }

each_name : (names : List (List ℕ)) → list_all is_name names ≡ true → AllByRecursion IsName names
each_name [] h = tt
each_name (name ∷ names) h =
    let parts = both (is_name name) (list_all is_name names) h in
    (name_is name parts.0, each_name names parts.1)

names_are : (text : List ℕ) → are_names (names_in text) ≡ true → AreNames (names_in text)
names_are text h =
    let parts = both (leb (length (names_in text)) 64) (list_all is_name (names_in text)) h in
    record {
      some = omega (arith, length-slice_split is_comma text);
      most = leb-true (length (names_in text)) 64 parts.0;
      each = each_name (names_in text) parts.1;
    }

names_on : (words earlier : List (List ℕ)) → refused faults_on words earlier ≡ [] → AllByRecursion AreNames (names_of words)
names_on [] earlier none = tt
names_on (word ∷ words) earlier none =
    let first = first_good words earlier word none in
    by_test (gives send_key word) refl first.0 (names_on words (earlier ++ word ∷ []) first.1) where
      by_test : (test : Bool) → gives send_key word ≡ test → word_fault earlier word ≡ None → AllByRecursion AreNames (names_of words)
          → AllByRecursion AreNames (map (λ other. names_in (value_of other)) (cond test (word ∷ filter (gives send_key) words) (filter (gives send_key) words)))
      by_test true same good later = (names_are (value_of word) (good_key send_row earlier word refl good same).1, later)
      by_test false same good later = later

-- ---- the profile's name

profile_on : (words earlier : List (List ℕ)) → refused faults_on words earlier ≡ [] → IsName (profile_named words)
profile_on [] earlier none = record { some = omega arith; most = omega arith }
profile_on (word ∷ words) earlier none =
    let first = first_good words earlier word none in
    by_test (gives profile_key word) refl first.0 (profile_on words (earlier ++ word ∷ []) first.1) where
      by_test : (test : Bool) → gives profile_key word ≡ test → word_fault earlier word ≡ None → IsName (profile_named words)
          → IsName (unwrap_or (option_map value_of (cond test (Some word) (find (gives profile_key) words))) (codes "p360cmyk"))
      by_test true same good later = name_is (value_of word) (good_key profile_row earlier word refl good same).1
      by_test false same good later = later

-- ---- the request

pub record IsAccepted (words : List (List ℕ)) (request : SpoolRequest) : Type 0 where
  pub none_refused : refused faults_on words [] ≡ []
  pub some_sender : 1 ≤ sender_count words
  pub request_is : request_of words ≡ request

some_if : (n : ℕ) → eqb n 0 ≡ false → 1 ≤ n
some_if n h = grind (arith, nat_tests)

pub words_accepted : (words : List (List ℕ)) (request : SpoolRequest) → spool_meaning words ≡ Ok request → IsAccepted words request
unfolding spool_meaning
words_accepted words request means = by_faults (refused faults_on words []) refl means where
  by_count : (test : Bool) → refused faults_on words [] ≡ [] → eqb (sender_count words) 0 ≡ test
      → (if test then Err (fault_at (length words + 1) NoSend) else Ok (request_of words)) ≡ Ok request → IsAccepted words request
  by_count true none same means = absurd cc
  by_count false none same means =
      record { none_refused = none; some_sender = some_if (sender_count words) same; request_is = cc }

  by_faults : (faults : List SpoolFault) → refused faults_on words [] ≡ faults → request_unless faults words ≡ Ok request → IsAccepted words request
  by_faults [] none means = by_count (eqb (sender_count words) 0) none refl means
  by_faults (fault ∷ faults) some means = absurd cc

pub within_bounds : (words : List (List ℕ)) (request : SpoolRequest) → spool_meaning words ≡ Ok request → IsWithinBounds words request
within_bounds words request means =
    let all = words_accepted words request means in
    let grain = given_between 0 most_grain 0 (given grain_key words) (record { least = omega arith; most = omega arith }) in
    let workers = given_between 1 64 1 (given workers_key words) (record { least = omega arith; most = omega arith }) in
    subst (λ (r : SpoolRequest). IsWithinBounds words r) all.request_is (record {
      most_grain = grain.most;
      some_workers = workers.least;
      most_workers = workers.most;
      some_senders = all.some_sender;
      most_senders = few_senders words all.none_refused;
      senders = length-map (filter (gives send_key) words) (λ word. names_in (value_of word)) ∙ length-filter (gives send_key) words;
      names = names_on words [] all.none_refused;
    })

pub profile_is_named : (words : List (List ℕ)) (request : SpoolRequest) → spool_meaning words ≡ Ok request → IsName (profile_named words)
profile_is_named words request means = profile_on words [] (words_accepted words request means).none_refused
