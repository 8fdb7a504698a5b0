-- The slots of waiting tiles, tile by tile.
use Rattle.std.proofs.Common.{◌≡◌, ℕ, ◌+◌, ◌/◌, ◌%◌, ◌&&◌, List, [], ◌∷◌, ◌++◌, refl, sym, ◌∙◌, ap, subst, append_assoc, nat_lt, replicate}
use Rattle.std.proofs.Common.{add-one}
use Rattle.board_steps.specs.Content.{fresh_of}
use Rattle.board_steps.specs.Graph.{only_if}
use Rattle.board_steps.specs.Rule.{fresh_in}
use Rattle.board_steps.specs.Steps.{fresh_slots}
use Rattle.board_steps.specs.declared.rule.Cell.{Cell}
use Rattle.board_steps.specs.declared.rule.Cell.TheVariants.{Dots}
use Rattle.tile_shape.specs.Geometry.{columns_of}
use Rattle.tile_shape.specs.declared.tiles.Shape.{Shape}

-- four slots one after another
four : (l : List Cell) (x y z w : Cell) → (((l ++ x ∷ []) ++ y ∷ []) ++ z ∷ []) ++ w ∷ [] ≡ l ++ x ∷ y ∷ z ∷ w ∷ []
four l x y z w = simp (append_assoc) refl

-- The slots of tile n, in a window of C columns, after those of the tiles before it.
pub one-more : (s : Shape) (inks C n : ℕ) {l₀ l₁ l₂ l₃ l₄ : List Cell} {x y z : Cell} {w : List (List ℕ)} → C ≡ columns_of s
    → l₀ ≡ fresh_slots (fresh_in s inks) n → l₁ ≡ l₀ ++ x ∷ [] → l₂ ≡ l₁ ++ y ∷ [] → l₃ ≡ l₂ ++ z ∷ []
    → l₄ ≡ l₃ ++ Dots w ∷ [] → w ≡ replicate inks (replicate {A = ℕ} 256 0)
    → ((q : ℕ) → x ≡ fresh_of inks 0 (only_if (nat_lt 0 (n % C)) q))
    → ((q : ℕ) → y ≡ fresh_of inks 1 (only_if (nat_lt (n % C + 1) C && nat_lt 0 (n / C)) q))
    → ((q : ℕ) → z ≡ fresh_of inks 2 (only_if (nat_lt 0 (n / C)) q)) → l₄ ≡ fresh_slots (fresh_in s inks) (n + 1)
one-more s inks C n {l₀} {l₁} {l₂} {l₃} {l₄} {x} {y} {z} {w} is e₀ e₁ e₂ e₃ e₄ ew ex ey ez =
    let f : ℕ → Cell = fresh_in s inks n in
    let P : ℕ → Type 0 = λ C. ((q : ℕ) → x ≡ fresh_of inks 0 (only_if (nat_lt 0 (n % C)) q)) in
    let Q : ℕ → Type 0 = λ C. ((q : ℕ) → y ≡ fresh_of inks 1 (only_if (nat_lt (n % C + 1) C && nat_lt 0 (n / C)) q)) in
    let R : ℕ → Type 0 = λ C. ((q : ℕ) → z ≡ fresh_of inks 2 (only_if (nat_lt 0 (n / C)) q)) in
    let fx : x ≡ f 0 = subst P is ex _ in
    let fy : y ≡ f 1 = subst Q is ey _ in
    let fz : z ≡ f 2 = subst R is ez _ in
    e₄ ∙ ap (λ l. l ++ Dots w ∷ []) (e₃ ∙ ap (λ l. l ++ z ∷ []) (e₂ ∙ ap (λ l. l ++ y ∷ []) (e₁ ∙ ap (λ l. l ++ x ∷ []) e₀)))
    ∙ four (fresh_slots (fresh_in s inks) n) x y z (Dots w)
    ∙ (λ i. fresh_slots (fresh_in s inks) n ++ fx i ∷ fy i ∷ fz i ∷ Dots (ew i) ∷ []) ∙ ap (fresh_slots (fresh_in s inks)) (sym (add-one n))
