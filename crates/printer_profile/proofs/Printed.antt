-- The lines of the keys, one after another.
use Rattle.std.proofs.Common.{◌≡◌, ℕ, ◌+◌, ◌<◌, ◌≤◌, List, ◌++◌, length, take, get_or, ap, sym, ◌∙◌}
use Rattle.std.specs.List.{flat_map}
use Rattle.std.proofs.lemmas.List.{flat_map_more, take_all, take_more}

-- one piece more
pub pieces_more : {X : Type 0} (piece : X → List ℕ) (front : List ℕ) (xs : List X) (i : ℕ) (d : X) (old new : List ℕ)
    → i < length xs → old ≡ front ++ flat_map piece (take i xs)
    → new ≡ old ++ piece (get_or xs i d) → new ≡ front ++ flat_map piece (take (i + 1) xs)
pieces_more piece front xs i d old new within so_far is =
    is ∙ ap (λ (bytes : List ℕ). bytes ++ piece (get_or xs i d)) so_far
    ∙ flat_map_more piece front (take i xs) (get_or xs i d)
    ∙ ap (λ some. front ++ flat_map piece some) (sym (take_more xs i d within))

-- all pieces
pub pieces_all : {X : Type 0} (piece : X → List ℕ) (front : List ℕ) (xs : List X) (i : ℕ) (new : List ℕ)
    → length xs ≤ i → new ≡ front ++ flat_map piece (take i xs) → new ≡ front ++ flat_map piece xs
pieces_all piece front xs i new end so_far = so_far ∙ ap (λ some. front ++ flat_map piece some) (take_all i xs end)
