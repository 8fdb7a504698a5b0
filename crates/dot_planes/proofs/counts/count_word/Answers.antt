use Rattle.std.proofs.Common.{◌≡◌, ℕ, ◌<◌, List, [], ◌∷◌, length, slice_index, arith, refl, Fits, w8}
use Rattle.dot_planes.proofs.WordCounts.{word-ones}
use Rattle.dot_planes.proofs.counts.count_word.Goals as goal

-- a list of eight is its eight items
eight : (bytes : List ℕ) → length bytes ≡ 8
    → bytes ≡ slice_index bytes 0 ∷ slice_index bytes 1 ∷ slice_index bytes 2 ∷ slice_index bytes 3 ∷ slice_index bytes 4
    ∷ slice_index bytes 5 ∷ slice_index bytes 6 ∷ slice_index bytes 7 ∷ []
eight (a ∷ b ∷ c ∷ d ∷ e ∷ f ∷ g ∷ h ∷ []) len = refl
eight [] len = absurd (omega arith)
eight (a ∷ []) len = absurd (omega arith)
eight (a ∷ b ∷ []) len = absurd (omega arith)
eight (a ∷ b ∷ c ∷ []) len = absurd (omega arith)
eight (a ∷ b ∷ c ∷ d ∷ []) len = absurd (omega arith)
eight (a ∷ b ∷ c ∷ d ∷ e ∷ []) len = absurd (omega arith)
eight (a ∷ b ∷ c ∷ d ∷ e ∷ f ∷ []) len = absurd (omega arith)
eight (a ∷ b ∷ c ∷ d ∷ e ∷ f ∷ g ∷ []) len = absurd (omega arith)
eight (a ∷ b ∷ c ∷ d ∷ e ∷ f ∷ g ∷ h ∷ i ∷ rest) len = absurd (omega arith)

-- each item is a byte
low : (n : ℕ) → Fits w8 n → n < 256
low n fits = omega (arith, fits)

pub returns-clause-is : goal.returns-clause-is
returns-clause-is c = grind (arith, eight, low, word-ones)
