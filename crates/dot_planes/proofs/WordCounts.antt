-- The dots of bytes, counted part by part, and those of eight bytes in one word.
use Rattle.std.proofs.Common.{◌≡◌, ℕ, suc, ◌+◌, ◌-◌, ◌*◌, ◌^◌, ◌<◌, List, [], ◌∷◌, count_ones, drop, get_or, sum_by, take, arith, refl, ◌∙◌, ap}
use Rattle.std.specs.Int.{w64, from_le_bytes}
use Rattle.std.proofs.Math.Seq.{take-add}
use Rattle.std.proofs.lemmas.List.Sums.{sum_by-append, sum_by-cons}
use Rattle.std.proofs.lemmas.Nat.{ones_cat, ones_le_self}

-- one more byte below the others
ones-below : (high byte : ℕ) → byte < 256 → count_ones (byte + 256 * high) ≡ count_ones byte + count_ones high
ones-below high byte low =
    let is : byte + 256 * high ≡ high * 2 ^ 8 + byte = omega arith in
    let cat : count_ones (high * 2 ^ 8 + byte) ≡ count_ones high + count_ones byte = ones_cat 8 high byte low in
    omega (arith, ap count_ones is, cat)

-- eight bytes, one below another
ones-eight : (a b c d e f g h : ℕ) → a < 256 → b < 256 → c < 256 → d < 256 → e < 256 → f < 256 → g < 256 → h < 256
    → count_ones (a + 256 * (b + 256 * (c + 256 * (d + 256 * (e + 256 * (f + 256 * (g + 256 * h)))))))
    ≡ count_ones a + (count_ones b + (count_ones c + (count_ones d + (count_ones e + (count_ones f + (count_ones g + count_ones h))))))
ones-eight a b c d e f g h la lb lc ld le lf lg lh = simp ones-below

-- the word that eight bytes are has as many set digits as they have
pub word-ones : (a b c d e f g h : ℕ) → a < 256 → b < 256 → c < 256 → d < 256 → e < 256 → f < 256 → g < 256 → h < 256
    → count_ones (from_le_bytes w64 (a ∷ b ∷ c ∷ d ∷ e ∷ f ∷ g ∷ h ∷ []))
    ≡ sum_by count_ones (a ∷ b ∷ c ∷ d ∷ e ∷ f ∷ g ∷ h ∷ [])
word-ones a b c d e f g h la lb lc ld le lf lg lh =
    let is : from_le_bytes w64 (a ∷ b ∷ c ∷ d ∷ e ∷ f ∷ g ∷ h ∷ [])
    ≡ a + 256 * (b + 256 * (c + 256 * (d + 256 * (e + 256 * (f + 256 * (g + 256 * h)))))) = omega arith in
    ap count_ones is ∙ ones-eight a b c d e f g h la lb lc ld le lf lg lh ∙ omega arith

-- one part of a row more
pub part_more : (from len to : ℕ) (bytes : List ℕ) → to ≡ from + len
    → sum_by count_ones (take to bytes) ≡ sum_by count_ones (take from bytes) + sum_by count_ones (take (from + len - from) (drop from bytes))
part_more from len to bytes is =
    let part : len ≡ from + len - from = omega arith in
    ap (λ n. sum_by count_ones (take n bytes)) is ∙ ap (sum_by count_ones) (take-add from len bytes)
    ∙ sum_by-append count_ones (take from bytes) (take len (drop from bytes))
    ∙ ap (λ n. sum_by count_ones (take from bytes) + sum_by count_ones (take n (drop from bytes))) part

-- bytes of 0 have no dots
pub zero_ones : (bytes : List ℕ) → ((k : ℕ) → get_or bytes k 0 ≡ 0) → sum_by count_ones bytes ≡ 0
zero_ones [] none = refl
zero_ones (b ∷ rest) none =
    let byte : b ≡ 0 = none 0 in
    let first : count_ones b ≡ 0 = omega (arith, ones_le_self b) in
    let others : sum_by count_ones rest ≡ 0 = zero_ones rest (λ k. none (suc k)) in
    omega (arith, sum_by-cons count_ones b rest, first, others)
