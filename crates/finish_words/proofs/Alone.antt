-- Words with a key of the finisher exclude no word.
use Rattle.std.proofs.Common.{◌≡◌, ℕ, Bool, true, false, List, [], ◌∷◌, Some, refl, sym, ◌∙◌}
use Rattle.std.specs.List.{list_any}
use Rattle.std.proofs.lemmas.Slice.Eq.{bytes_eq-Decides}
use Rattle.key_values.specs.Pairs.{key_of}
use Rattle.job_words.specs.Meaning.{excludes, gives}
use Rattle.job_words.specs.Table.{KeyRow, dead_key, key_named, shingle_key}
use Rattle.job_words.specs.Values.{is_text}
use Rattle.job_words.proofs.Accepted.{found_has, found_passes}
use Rattle.finish_words.specs.Keys.{key_table}

-- the name of a key is neither `shingle` nor `dead`
abbrev pub IsApart : KeyRow → Type 0
IsApart key = (is_text key.name shingle_key.name ≡ false) × (is_text key.name dead_key.name ≡ false)

apart : (key : KeyRow) (name : List ℕ) → key_named key_table name ≡ Some key → IsApart key
apart key name found =
    found_has IsApart (λ (row : KeyRow). is_text name row.name) key_table key ((refl, refl), ((refl, refl), ((refl, refl), tt))) found

all_fail : {X : Type 0} (p : X → Bool) (xs : List X) → ((x : X) → p x ≡ false) → list_any p xs ≡ false
all_fail p [] fails = refl
all_fail p (x ∷ xs) fails = rw (fails x) (all_fail p xs fails)

none_excluded : (word : List ℕ) (earlier : List (List ℕ)) → gives shingle_key word ≡ false → gives dead_key word ≡ false
    → list_any (excludes word) earlier ≡ false
none_excluded word earlier shingled dead = all_fail (excludes word) earlier (λ other. rw (shingled, dead) refl)

pub never_excluded : (key : KeyRow) (earlier : List (List ℕ)) (word name : List ℕ) → name ≡ key_of word
    → Some key ≡ key_named key_table name → false ≡ list_any (excludes word) earlier
never_excluded key earlier word name named found =
    let here : is_text name key.name ≡ true = found_passes (λ (row : KeyRow). is_text name row.name) key_table key (sym found) in
    let is : key_of word ≡ key.name = sym named ∙ (bytes_eq-Decides name key.name).0 here in
    let other = apart key name (sym found) in
    sym (none_excluded word earlier (rw is other.0) (rw is other.1))
