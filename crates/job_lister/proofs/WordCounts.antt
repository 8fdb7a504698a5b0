-- The dots of eight bytes, counted in one word.
use Rattle.std.proofs.Common.{◌≡◌, ℕ, ◌+◌, ◌*◌, ◌^◌, ◌<◌, [], ◌∷◌, count_ones, sum_by, arith, ◌∙◌, ap}
use Rattle.std.specs.Int.{w64, from_le_bytes}
use Rattle.std.proofs.lemmas.Nat.{ones_cat}

-- one more byte below the others
ones-below : (high byte : ℕ) → byte < 256 → count_ones (byte + 256 * high) ≡ count_ones byte + count_ones high
ones-below high byte low =
    let is : byte + 256 * high ≡ high * 2 ^ 8 + byte = omega arith in
    let cat : count_ones (high * 2 ^ 8 + byte) ≡ count_ones high + count_ones byte = ones_cat 8 high byte low in
    omega (arith, ap count_ones is, cat)

-- eight bytes, one below another
ones-eight : (a b c d e f g h : ℕ) → a < 256 → b < 256 → c < 256 → d < 256 → e < 256 → f < 256 → g < 256 → h < 256
    → count_ones (a + 256 * (b + 256 * (c + 256 * (d + 256 * (e + 256 * (f + 256 * (g + 256 * h)))))))
    ≡ count_ones a + (count_ones b + (count_ones c + (count_ones d + (count_ones e + (count_ones f + (count_ones g + count_ones h))))))
ones-eight a b c d e f g h la lb lc ld le lf lg lh = simp ones-below

-- the word that eight bytes are has as many set digits as they have
pub word-ones : (a b c d e f g h : ℕ) → a < 256 → b < 256 → c < 256 → d < 256 → e < 256 → f < 256 → g < 256 → h < 256
    → count_ones (from_le_bytes w64 (a ∷ b ∷ c ∷ d ∷ e ∷ f ∷ g ∷ h ∷ []))
    ≡ sum_by count_ones (a ∷ b ∷ c ∷ d ∷ e ∷ f ∷ g ∷ h ∷ [])
word-ones a b c d e f g h la lb lc ld le lf lg lh =
    let is : from_le_bytes w64 (a ∷ b ∷ c ∷ d ∷ e ∷ f ∷ g ∷ h ∷ [])
    ≡ a + 256 * (b + 256 * (c + 256 * (d + 256 * (e + 256 * (f + 256 * (g + 256 * h)))))) = omega arith in
    ap count_ones is ∙ ones-eight a b c d e f g h la lb lc ld le lf lg lh ∙ omega arith
