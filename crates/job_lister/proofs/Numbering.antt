-- Numbers one after another.
use Rattle.std.proofs.Common.{◌≡◌, ℕ, ◌+◌, ◌<◌, List, [], ◌∷◌, ◌++◌, codes, length, take, get_or, refl, sym, ◌∙◌, ap, append_assoc}
use Rattle.std.specs.Fmt.{decimal}
use Rattle.std.proofs.lemmas.List.{take_more}
use Rattle.job_lister.specs.Listing.{numbers}

numbers-append : (ns ms : List ℕ) → numbers (ns ++ ms) ≡ numbers ns ++ numbers ms
numbers-append [] ms = refl
numbers-append (n ∷ ns) ms = ap (λ bs. (codes " " ++ decimal n) ++ bs) (numbers-append ns ms)
    ∙ sym (append_assoc (codes " " ++ decimal n) (numbers ns) (numbers ms))

-- one more number
pub numbers_more : (ns : List ℕ) (i : ℕ) (before now next : List ℕ) → i < length ns → now ≡ before ++ numbers (take i ns)
    → next ≡ now ++ numbers (get_or ns i 0 ∷ []) → next ≡ before ++ numbers (take (i + 1) ns)
numbers_more ns i before now next inside so_far is =
    is ∙ ap (λ bs. bs ++ numbers (get_or ns i 0 ∷ [])) so_far
    ∙ append_assoc before (numbers (take i ns)) (numbers (get_or ns i 0 ∷ []))
    ∙ ap (λ bs. before ++ bs) (sym (numbers-append (take i ns) (get_or ns i 0 ∷ [])) ∙ ap numbers (sym (take_more ns i 0 inside)))
