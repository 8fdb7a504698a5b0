-- The rows under the nozzles of a head, one after another.
use Rattle.std.proofs.Common.{◌≡◌, ℕ, suc, ◌+◌, ◌==◌, Bool, true, false, not, ◌||◌, List, map, sym, ◌∙◌, ap}
use Rattle.std.specs.List.{list_all, list_any}
use Rattle.base_definitions.specs.Packed.{packed}
use Rattle.page_writer.proofs.Dotless.{packed-any}
use Rattle.base_definitions.specs.Counting.{count_from}

-- a row is packed without a dot
pub nozzle_blank : (f : ℕ → List Bool) (i : ℕ) {left n : ℕ} (many : ℕ) {blank : Bool} → left ≡ suc n
    → list_any (list_any (λ on. on)) (map f (count_from 0 many)) ≡ list_any (list_any (λ on. on)) (map f (count_from i left))
    → blank ≡ list_all (λ byte. byte == 0) (packed (f i)) → blank ≡ true
    → list_any (list_any (λ on. on)) (map f (count_from 0 many)) ≡ list_any (list_any (λ on. on)) (map f (count_from (i + 1) n))
nozzle_blank f i {n} many more so_far test none =
    so_far ∙ ap (λ n. list_any (list_any (λ on. on)) (map f (count_from i n))) more
    ∙ ap (λ t. t || list_any (list_any (λ on. on)) (map f (count_from (i + 1) n))) (packed-any (f i)
    ∙ ap not (sym test ∙ none))

-- a row has a dot
pub nozzle_fires : (f : ℕ → List Bool) (i : ℕ) {left n : ℕ} (many : ℕ) {blank : Bool} → left ≡ suc n
    → list_any (list_any (λ on. on)) (map f (count_from 0 many)) ≡ list_any (list_any (λ on. on)) (map f (count_from i left))
    → blank ≡ list_all (λ byte. byte == 0) (packed (f i)) → blank ≡ false
    → true ≡ list_any (list_any (λ on. on)) (map f (count_from 0 many))
nozzle_fires f i {n} many more so_far test some =
    sym (so_far ∙ ap (λ n. list_any (list_any (λ on. on)) (map f (count_from i n))) more
    ∙ ap (λ t. t || list_any (list_any (λ on. on)) (map f (count_from (i + 1) n))) (packed-any (f i)
    ∙ ap not (sym test ∙ some)))

-- no nozzle is left
pub nozzles_none : (f : ℕ → List Bool) (i left many : ℕ) → left ≡ 0
    → list_any (list_any (λ on. on)) (map f (count_from 0 many)) ≡ list_any (list_any (λ on. on)) (map f (count_from i left))
    → false ≡ list_any (list_any (λ on. on)) (map f (count_from 0 many))
nozzles_none f i left many none so_far = sym (so_far ∙ ap (λ n. list_any (list_any (λ on. on)) (map f (count_from i n))) none)
