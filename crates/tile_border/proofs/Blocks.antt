-- `block` has the errors that `Holds` asks for, and is the only such list of its length.
use Rattle.std.proofs.Common.{◌≡◌, ℕ, ℤ, pos, ◌+◌, ◌*◌, ◌/◌, ◌%◌, ◌<◌, List, get_or, length, sym, ◌∙◌, ap, ap₂, arith, mod-lt}
use Rattle.std.proofs.Math.Nat.{div-add-mod, div-lt_iff_lt-mul, mul_comm}
use Rattle.std.proofs.lemmas.Nat.{div-mul-add, mod-mul-add, mul-add-lt}
use Rattle.diffusion_definitions.specs.Diffusion.{Errors}
use Rattle.tile_edges.specs.Edges.{Holds, skewed}
use Rattle.tile_border.specs.Content.{block}
use Rattle.tile_border.proofs.Lists.{list-at, list-is}

-- error i of row t has index wide * t + i
place : (wide t i : ℕ) → wide * t + i ≡ t * wide + i
place wide t i = ap (λ n. n + i) (mul_comm wide t)

place-row : (wide t i : ℕ) → i < wide → (wide * t + i) / wide ≡ t
place-row wide t i inside = ap (λ n. n / wide) (place wide t i) ∙ div-mul-add t wide i inside

place-in : (wide t i : ℕ) → i < wide → (wide * t + i) % wide ≡ i
place-in wide t i inside = ap (λ n. n % wide) (place wide t i) ∙ mod-mul-add t wide i inside

place-below : (rows wide t i : ℕ) → t < rows → i < wide → wide * t + i < rows * wide
place-below rows wide t i row inside =
    let below = mul-add-lt t wide i rows row inside in
    let same = mul_comm wide rows in
    let here = place wide t i in
    let total : ℕ = wide * rows in
    let all : ℕ = rows * wide in
    let at : ℕ = t * wide in
    let n : ℕ = wide * t + i in
    let below' : at + i < total = below in
    let same' : total ≡ all = same in
    let here' : n ≡ at + i = here in
    let answer : n < all = omega arith in
    answer

pub block-holds : (e : Errors) (j p u rows wide : ℕ) → Holds e j p u rows wide (block e j p u rows wide)
unfolding block
block-holds e j p u rows wide = record {
  at = λ t i row inside.
      list-at (λ n. skewed e j (p + n / wide) (u + n % wide)) (rows * wide) (wide * t + i) (pos 0) (place-below rows wide t i row inside)
      ∙ ap₂ (λ m n. skewed e j (p + m) (u + n)) (place-row wide t i inside) (place-in wide t i inside);
}

pub block-is : (e : Errors) (j p u rows wide : ℕ) (xs : List ℤ) → 0 < wide → length xs ≡ rows * wide → Holds e j p u rows wide xs
    → xs ≡ block e j p u rows wide
unfolding block
block-is e j p u rows wide xs some len holds =
    list-is (pos 0) xs (λ n. skewed e j (p + n / wide) (u + n % wide)) (rows * wide) len (λ n inside.
    ap (λ m. get_or xs m (pos 0)) (sym (div-add-mod n wide))
    ∙ holds.at (n / wide) (n % wide) ((div-lt_iff_lt-mul some).1 inside) (mod-lt n some))
