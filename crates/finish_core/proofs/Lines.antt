-- The lines of the tenths of a page's length.
use Rattle.std.proofs.Common.{◌≡◌, ℕ, zero, suc, ◌+◌, ◌-◌, ◌≤◌, List, [], ◌∷◌, ◌++◌, sym, ◌∙◌, ap, arith, append-nil}
use Rattle.std.proofs.lemmas.Grind.{flat_map-append}
use Rattle.std.specs.List.{flat_map}
use Rattle.base_definitions.specs.Counting.{count_from}
use Rattle.page_tally.specs.declared.tally.Tally.{Tally}
use Rattle.page_tally.specs.Lines.{progress_line}

-- one number more
count_snoc : (n many : ℕ) → count_from n (suc many) ≡ count_from n many ++ (n + many) ∷ []
count_snoc n zero = let same : n ≡ n + 0 = omega arith in ap (λ k. k ∷ []) same
count_snoc n (suc many) =
    let same : n + 1 + many ≡ n + suc many = omega arith in
    ap (λ ks. n ∷ ks) (count_snoc (n + 1) many ∙ ap (λ k. count_from (n + 1) many ++ k ∷ []) same)

-- none
pub lines_none : (t : Tally) (first tenth : ℕ) → tenth ≡ first → flat_map (progress_line t) (count_from (first + 1) (tenth - first)) ≡ []
lines_none t first tenth is =
    let none : tenth - first ≡ 0 = omega (arith, is) in
    ap (λ n. flat_map (progress_line t) (count_from (first + 1) n)) none

-- one more
pub lines_snoc : (t : Tally) (first tenth : ℕ) → first ≤ tenth
    → flat_map (progress_line t) (count_from (first + 1) (tenth - first)) ++ progress_line t (tenth + 1)
    ≡ flat_map (progress_line t) (count_from (first + 1) (tenth + 1 - first))
lines_snoc t first tenth within =
    let f : ℕ → List ℕ = progress_line t in
    let many : ℕ = tenth - first in
    let before : List ℕ = count_from (first + 1) many in
    let here : tenth + 1 ≡ first + 1 + many = omega (arith, within) in
    let more : suc many ≡ tenth + 1 - first = omega (arith, within) in
    ap (λ n. flat_map f before ++ f n) here
    ∙ ap (λ bs. flat_map f before ++ bs) (sym (append-nil (f (first + 1 + many))))
    ∙ sym (flat_map-append f before ((first + 1 + many) ∷ []))
    ∙ ap (flat_map f) (sym (count_snoc (first + 1) many))
    ∙ ap (λ n. flat_map f (count_from (first + 1) n)) more

-- how many there are at the end of a range, which may be empty
pub lines_all : (first last tenth : ℕ) → (last ≤ first → tenth ≡ first) → (first ≤ last → tenth ≤ last) → last ≤ tenth
    → tenth - first ≡ last - first
lines_all first last tenth empty within past = grind arith
