-- Every other dot of a row.
use Rattle.std.proofs.Common.{◌≡◌, ℕ, zero, suc, ◌%◌, Bool, true, false, not, ◌&&◌, List, [], ◌∷◌, length, refl, sym, ◌∙◌, ap, arith}
use Rattle.std.specs.List.{list_any}
use Rattle.std.proofs.lemmas.Bool.{and_parts, and_right}
use Rattle.base_definitions.specs.Packed.{at}
use Rattle.page_definitions.specs.RasterRows.{FiresHalf}
use Rattle.page_definitions.specs.Shingled.{every_other}

-- whether the dot at a column is one of every other dot
abbrev pub kept : Bool → ℕ → Bool
kept first zero = first
kept first (suc x) = kept (not first) x

-- the dots that are left out when the first one is kept are kept when it is left out
pub kept-not : (first : Bool) (x : ℕ) → kept (not first) x ≡ not (kept first x)
kept-not true zero = refl
kept-not false zero = refl
kept-not true (suc x) = kept-not false x
kept-not false (suc x) = kept-not true x

-- the columns that are kept are all even or all odd
kept-even : (x : ℕ) → kept true x ≡ true → x % 2 ≡ 0
kept-even zero e = refl
kept-even (suc zero) e = cc
kept-even (suc (suc x)) e = let below : x % 2 ≡ 0 = kept-even x e in omega arith

kept-odd : (x : ℕ) → kept false x ≡ true → x % 2 ≡ 1
kept-odd zero e = cc
kept-odd (suc x) e = let below : x % 2 ≡ 0 = kept-even x e in omega arith

-- every other dot of a row, by its columns
pub at-other : (first : Bool) (row : List Bool) (x : ℕ) → at (every_other first row) x ≡ (kept first x && at row x)
at-other first [] x = sym (and_right (kept first x) (at [] x) refl)
at-other true (dot ∷ row) zero = refl
at-other false (dot ∷ row) zero = refl
at-other true (dot ∷ row) (suc x) = at-other false row x
at-other false (dot ∷ row) (suc x) = at-other true row x

-- they are as many as the row's
pub other-len : (first : Bool) (row : List Bool) → length (every_other first row) ≡ length row
other-len first [] = refl
other-len true (dot ∷ row) = ap suc (other-len false row)
other-len false (dot ∷ row) = ap suc (other-len true row)

-- a row of which every other dot has one has a dot
pub other-any : (first : Bool) (row : List Bool) → list_any (λ on. on) (every_other first row) ≡ true → list_any (λ on. on) row ≡ true
other-any first [] e = e
other-any true (true ∷ row) e = refl
other-any true (false ∷ row) e = other-any false row e
other-any false (true ∷ row) e = refl
other-any false (false ∷ row) e = other-any true row e

-- every other dot of a row is not at both even and odd columns
pub other-half : (i : ℕ) (first : Bool) (row : List Bool) → FiresHalf i (λ x. at (every_other first row) x)
other-half i first row x y on_x on_y = grind (arith, and_parts, at-other, kept, kept-even, kept-odd)
