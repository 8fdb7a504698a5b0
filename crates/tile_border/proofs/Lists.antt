-- `list_of`: its length, its values, and that no other list has them.
use Rattle.std.proofs.Common.{◌≡◌, ℕ, ◌<◌, List, get_or, length, sym, ◌∙◌, arith}
use Rattle.std.proofs.lemmas.List.{ext_get_or}
use Rattle.std.proofs.lemmas.List.FromFn.{get_or-map-range_with_len, length-map-range_with_len}
use Rattle.tile_border.specs.Content.{list_of}

pub list-len : {A : Type 0} (f : ℕ → A) (n : ℕ) → length (list_of f n) ≡ n
unfolding list_of
list-len f n = length-map-range_with_len f 0 n

pub list-at : {A : Type 0} (f : ℕ → A) (n i : ℕ) (d : A) → i < n → get_or (list_of f n) i d ≡ f i
unfolding list_of
list-at f n i d inside = get_or-map-range_with_len f 0 n i i d inside (omega arith)

-- a list with these values and this length is that list
pub list-is : {A : Type 0} (d : A) (xs : List A) (f : ℕ → A) (n : ℕ) → length xs ≡ n → ((i : ℕ) → i < n → get_or xs i d ≡ f i)
    → xs ≡ list_of f n
list-is d xs f n len same =
    ext_get_or d xs (list_of f n) (len ∙ sym (list-len f n)) (λ i inside. same i (omega arith) ∙ sym (list-at f n i d (omega arith)))
