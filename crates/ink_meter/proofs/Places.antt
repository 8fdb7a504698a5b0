-- A loop over places of a list, each of whose elements stands for a value, that changes one value after another.
use Rattle.std.proofs.Common.{◌≡◌, ℕ, ◌+◌, ◌-◌, ◌<◌, List, [], ◌∷◌, ◌++◌, Some, slice_get, map, length, take}
use Rattle.std.proofs.Common.{drop, get_or, set, All, ap, sym, ◌∙◌, subst, arith}
use Rattle.std.proofs.lemmas.List.{get_or-append_right, get_or-drop, get_or-map, length-map, length-take-le, map-set, take_more}
use Rattle.std.proofs.lemmas.Option.{slice_get-get_or}
use Rattle.std.proofs.lemmas.List.Edits.{map_over_more}
use Rattle.std.proofs.lemmas.List.Elements.{All-append, All-cons, All-get_or, All-nil}

-- the value of a list's element at a place
pub value_at : {B A : Type 0} (f : B → A) (xs : List B) (i : ℕ) (x : B)
    → i < length xs → x ≡ get_or xs i x → f x ≡ get_or (map f xs) i (f x)
value_at f xs i x h is = ap f is ∙ sym (get_or-map f xs i x (f x) h)

-- the first i values are changed, and the others are not
abbrev pub ChangesSoFar : {B A : Type 0} (f : B → A) (step : A → A) (old now : List B) (i : ℕ) → Type 0
ChangesSoFar f step old now i = map f now ≡ map step (take i (map f old)) ++ drop i (map f old)

unchanged : {A : Type 0} (step : A → A) (vs : List A) (i : ℕ) (d : A)
    → i < length vs → get_or (map step (take i vs) ++ drop i vs) i d ≡ get_or vs i d
unchanged step vs i d h =
    let long : length (map step (take i vs)) ≡ i = length-map (take i vs) step ∙ length-take-le i vs (omega arith) in
    let here : i + (i - i) ≡ i = omega arith in
    get_or-append_right (map step (take i vs)) (drop i vs) i i d long (omega arith)
    ∙ (get_or-drop i vs (i - i) d ∙ ap (λ k. get_or vs k d) here)

-- the value at the loop's place is unchanged
same_value : {B A : Type 0} (f : B → A) (step : A → A) (old now : List B) (i : ℕ) (x : B)
    → i < length old → length now ≡ length old → ChangesSoFar f step old now i
    → x ≡ get_or now i x → f x ≡ get_or (map f old) i (f x)
same_value f step old now i x h same so_far is =
    value_at f now i x (omega arith) is
    ∙ (ap (λ us. get_or us i (f x)) so_far ∙ unchanged step (map f old) i (f x) (omega (arith, length-map old f)))

pub value_meets : {B A : Type 0} (P : A → Type 0) (f : B → A) (step : A → A) (old now : List B) (i : ℕ) (x : B)
    → i < length old → length now ≡ length old → ChangesSoFar f step old now i
    → x ≡ get_or now i x → All P (map f old) → P (f x)
value_meets P f step old now i x h same so_far is all =
    subst P (sym (same_value f step old now i x h same so_far is)) (All-get_or P (map f old) i (f x) (omega (arith, length-map old f)) all)

pub one_more : {B A : Type 0} (f : B → A) (step : A → A) (old now : List B) (i : ℕ) (x y : B)
    → i < length old → length now ≡ length old → ChangesSoFar f step old now i
    → x ≡ get_or now i x → f y ≡ step (f x) → ChangesSoFar f step old (set now i y) (i + 1)
one_more f step old now i x y h same so_far is changed =
    map-set f now i y ∙ (ap (set (map f now) i) changed
    ∙ map_over_more step (map f old) (map f now) i (f x) (omega (arith, length-map old f)) so_far (value_at f now i x (omega arith) is))

pub stands_at : {B A : Type 0} (f : B → A) (xs : List B) (i : ℕ) (x : B)
    → i < length xs → x ≡ get_or xs i x → slice_get (map f xs) i ≡ Some (f x)
stands_at f xs i x h is = slice_get-get_or (map f xs) i (f x) (omega (arith, length-map xs f)) ∙ ap Some (sym (value_at f xs i x h is))

pub meets_more : {B A : Type 0} (P : A → Type 0) (f : B → A) (xs : List B) (i : ℕ) (x : B)
    → i < length xs → x ≡ get_or xs i x → P (f x) → All P (take i (map f xs)) → All P (take (i + 1) (map f xs))
meets_more P f xs i x h is here before =
    let more : take (i + 1) (map f xs) ≡ take i (map f xs) ++ f x ∷ [] =
    take_more (map f xs) i (f x) (omega (arith, length-map xs f)) ∙ ap (λ v. take i (map f xs) ++ v ∷ []) (sym (value_at f xs i x h is)) in
    subst (All P) (sym more) (All-append P (take i (map f xs)) (f x ∷ []) before (All-cons P (f x) [] here (All-nil P)))
