-- The shares of a row, one after another.
use Rattle.std.proofs.Common.{◌≡◌, ℕ, ℤ, pos, ◌+◌, ◌<◌, ◌+ℤ◌, ◌*ℤ◌, List, drop, get_or, length, ap, arith}
use Rattle.std.proofs.lemmas.Int.{ints}
use Rattle.std.proofs.lemmas.List.{drop_more}
use Rattle.diffusion_definitions.specs.Diffusion.{weighted_from}

sums : (whole parts r new a more rest : ℤ) → whole ≡ parts +ℤ rest → rest ≡ a +ℤ more → r ≡ a → new ≡ parts +ℤ r → whole ≡ new +ℤ more
sums whole parts r new a more rest so_far next share sum = omega (arith, ints)

-- one share more
pub one_more : (i : ℕ) (shares : List ℕ) (f : ℕ → ℤ) (parts r new whole : ℤ) → i < length shares
    → whole ≡ parts +ℤ weighted_from i (drop i shares) f → r ≡ pos (get_or shares i 0) *ℤ f i → new ≡ parts +ℤ r
    → whole ≡ new +ℤ weighted_from (i + 1) (drop (i + 1) shares) f
one_more i shares f parts r new whole inside so_far share sum =
    sums whole parts r new (pos (get_or shares i 0) *ℤ f i) (weighted_from (i + 1) (drop (i + 1) shares) f)
    (weighted_from i (drop i shares) f) so_far (ap (λ (ss : List ℕ). weighted_from i ss f) (drop_more shares i 0 inside)) share sum
