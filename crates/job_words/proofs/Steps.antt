-- Words, one after the other, of which the first are accepted.
use Rattle.std.proofs.Common.{◌≡◌, ℕ, ◌≤◌, ◌+◌, List, [], ◌∷◌, ◌++◌, length, take, drop, Some, slice_get, refl, ◌∙◌}
use Rattle.std.proofs.Math.ListN.{drop_of_length-le}
use Rattle.job_words.specs.Meaning.{refused}
use Rattle.job_words.proofs.FirstWords.{left, taken}

-- the first of the words are accepted
abbrev pub AreAccepted : {F : Type 0} → (List (List ℕ) → List ℕ → List F) → List (List ℕ) → ℕ → Type 0
AreAccepted faults words count = refused faults words [] ≡ refused faults (drop count words) (take count words)

-- the faults from one word on
refused_more : {F : Type 0} (faults : List (List ℕ) → List ℕ → List F) (words : List (List ℕ)) (count : ℕ) (word : List ℕ)
    → slice_get words count ≡ Some word → refused faults (drop count words) (take count words)
    ≡ faults (take count words) word ++ refused faults (drop (count + 1) words) (take (count + 1) words)
unfolding refused
refused_more faults words count word here = rw (left words count word here, taken words count word here) refl

pub one_more : {F : Type 0} (faults : List (List ℕ) → List ℕ → List F) (words : List (List ℕ)) (count next : ℕ) (word : List ℕ)
    → next ≡ count + 1 → AreAccepted faults words count → slice_get words count ≡ Some word
    → faults (take count words) word ≡ [] → AreAccepted faults words next
one_more faults words count next word one h here none = rw one (h ∙ rw (refused_more faults words count word here, none) refl)

pub first_refused : {F : Type 0} (faults : List (List ℕ) → List ℕ → List F) (words : List (List ℕ)) (count : ℕ) (word : List ℕ)
    (fault : F) → AreAccepted faults words count → slice_get words count ≡ Some word
    → faults (take count words) word ≡ fault ∷ [] → slice_get (refused faults words []) 0 ≡ Some fault
first_refused faults words count word fault h here is = rw (h, refused_more faults words count word here, is) refl

pub all_accepted : {F : Type 0} (faults : List (List ℕ) → List ℕ → List F) (words : List (List ℕ)) (count : ℕ)
    → AreAccepted faults words count → length words ≤ count → refused faults words [] ≡ []
unfolding refused
all_accepted faults words count h all = h ∙ rw (drop_of_length-le words all) refl

both_empty : {F : Type 0} (xs ys : List F) → xs ++ ys ≡ [] → (xs ≡ []) × (ys ≡ [])
both_empty [] ys none = (refl, none)
both_empty (x ∷ xs) ys none = absurd cc

-- where none is refused, the first is not, and none behind it
pub first_good : {F : Type 0} (faults : List (List ℕ) → List ℕ → List F) (words earlier : List (List ℕ)) (word : List ℕ)
    → refused faults (word ∷ words) earlier ≡ []
    → (faults earlier word ≡ []) × (refused faults words (earlier ++ word ∷ []) ≡ [])
unfolding refused
first_good faults words earlier word none = both_empty (faults earlier word) _ none
