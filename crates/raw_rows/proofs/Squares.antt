-- Rows of sixteen lanes, interleaved four times over.
use Rattle.std.proofs.Common.{ℕ, ◌≡◌, ◌+◌, ◌*◌, ◌/◌, ◌%◌, ◌<◌, ◌∙◌, ◌++◌, ap, arith, zero, suc, List, [], ◌∷◌, get_or, set}
use Rattle.std.proofs.Common.{length, length-set, get_or-set_same, get_or-set_other}
use Rattle.std.proofs.lemmas.Bool.{cases_eq}
use Rattle.std.proofs.lemmas.List.{get_or-append-add, get_or_append_left}
use Rattle.raw_rows.specs.Squares.{IsSquare, lane}

-- the lanes of two vectors in turn
pub turns : (f : ℕ → ℕ) (m : ℕ) → m < 16
    → get_or (f 0 ∷ f 16 ∷ f 1 ∷ f 17 ∷ f 2 ∷ f 18 ∷ f 3 ∷ f 19 ∷ f 4 ∷ f 20 ∷ f 5 ∷ f 21 ∷ f 6 ∷ f 22 ∷ f 7 ∷ f 23 ∷ []) m 0 ≡ f
    (m / 2 + 16 * (m % 2))
turns f zero h = ap f (omega arith)
turns f (suc zero) h = ap f (omega arith)
turns f (suc (suc zero)) h = ap f (omega arith)
turns f (suc (suc (suc zero))) h = ap f (omega arith)
turns f (suc (suc (suc (suc zero)))) h = ap f (omega arith)
turns f (suc (suc (suc (suc (suc zero))))) h = ap f (omega arith)
turns f (suc (suc (suc (suc (suc (suc zero)))))) h = ap f (omega arith)
turns f (suc (suc (suc (suc (suc (suc (suc zero))))))) h = ap f (omega arith)
turns f (suc (suc (suc (suc (suc (suc (suc (suc zero)))))))) h = ap f (omega arith)
turns f (suc (suc (suc (suc (suc (suc (suc (suc (suc zero))))))))) h = ap f (omega arith)
turns f (suc (suc (suc (suc (suc (suc (suc (suc (suc (suc zero)))))))))) h = ap f (omega arith)
turns f (suc (suc (suc (suc (suc (suc (suc (suc (suc (suc (suc zero))))))))))) h = ap f (omega arith)
turns f (suc (suc (suc (suc (suc (suc (suc (suc (suc (suc (suc (suc zero)))))))))))) h = ap f (omega arith)
turns f (suc (suc (suc (suc (suc (suc (suc (suc (suc (suc (suc (suc (suc zero))))))))))))) h = ap f (omega arith)
turns f (suc (suc (suc (suc (suc (suc (suc (suc (suc (suc (suc (suc (suc (suc zero)))))))))))))) h = ap f (omega arith)
turns f (suc (suc (suc (suc (suc (suc (suc (suc (suc (suc (suc (suc (suc (suc (suc zero))))))))))))))) h = ap f (omega arith)
turns f (suc (suc (suc (suc (suc (suc (suc (suc (suc (suc (suc (suc (suc (suc (suc (suc m)))))))))))))))) h = let no : ⊥ = omega arith in absurd no

pub square_more : (y : List (List ℕ)) (n : ℕ) (v : List ℕ) → n < 16 → length v ≡ 16 → IsSquare y → IsSquare (set y n v)
square_more y n v small long s = grind (arith, cases_eq, get_or-set_other, get_or-set_same, length-set)

-- Two more vectors, of vectors q and q + 8 in turn.
pub riffle_more : (x y : List (List ℕ)) (low high : List ℕ) (q : ℕ) → q < 8 → IsSquare x → IsSquare y
    → ((m : ℕ) → m < 16 → get_or low m 0 ≡ get_or (get_or x q [] ++ get_or x (q + 8) []) (m / 2 + 16 * (m % 2)) 0)
    → ((m : ℕ) → m < 16 → get_or high m 0 ≡ get_or (get_or x q [] ++ get_or x (q + 8) []) (8 + (m / 2 + 16 * (m % 2))) 0)
    → ((i m : ℕ) → i < 2 * q → m < 16 → lane y i m ≡ lane x (i / 2 + 8 * (m % 2)) (8 * (i % 2) + m / 2))
    → (i m : ℕ) → i < 2 * (q + 1) → m < 16
    → lane (set (set y (2 * q) low) (2 * q + 1) high) i m ≡ lane x (i / 2 + 8 * (m % 2)) (8 * (i % 2) + m / 2)
riffle_more x y low high q small sx sy is_low is_high done i m below few =
    grind (arith, cases_eq, get_or-append-add, get_or-set_other, get_or-set_same, get_or_append_left, length-set)

-- four times over, rows are columns
pub four_times : (x0 x1 x2 x3 x4 : List (List ℕ))
    → ((i m : ℕ) → i < 16 → m < 16 → lane x1 i m ≡ lane x0 (i / 2 + 8 * (m % 2)) (8 * (i % 2) + m / 2))
    → ((i m : ℕ) → i < 16 → m < 16 → lane x2 i m ≡ lane x1 (i / 2 + 8 * (m % 2)) (8 * (i % 2) + m / 2))
    → ((i m : ℕ) → i < 16 → m < 16 → lane x3 i m ≡ lane x2 (i / 2 + 8 * (m % 2)) (8 * (i % 2) + m / 2))
    → ((i m : ℕ) → i < 16 → m < 16 → lane x4 i m ≡ lane x3 (i / 2 + 8 * (m % 2)) (8 * (i % 2) + m / 2))
    → (i m : ℕ) → i < 16 → m < 16 → lane x4 i m ≡ lane x0 m i
four_times x0 x1 x2 x3 x4 h1 h2 h3 h4 i m row column = grind arith
