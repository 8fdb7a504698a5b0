-- One pixel more.
use Rattle.std.proofs.Common.{◌≡◌, ℕ, ℤ, pos, ◌+◌, ◌-◌, ◌*◌, ◌<◌, ◌≤◌, ◌+ℤ◌, ◌&&◌, Bool, true, false, List, [], ◌∷◌, ◌++◌}
use Rattle.std.proofs.Common.{get_or, length, length-append, inl, inr, sym, ◌∙◌, ap, arith, subst}
use Rattle.std.proofs.Math.Nat.{mul-le-mul_right}
use Rattle.std.proofs.lemmas.Bool.{and_from, cases_eq, cases_lt, lt-ltb}
use Rattle.std.proofs.lemmas.Int.{ints}
use Rattle.std.proofs.lemmas.List.{get_or_append_left, get_or_at, get_or_past}
use Rattle.std.specs.Int.{int_div_euclid}
use Rattle.diffusion_definitions.specs.Diffusion.{EachInRange, Errors, InRange, Table, divisor, error_of, five, inside, is_dot, on, value, value_at, weighted}
use Rattle.diffusion_definitions.proofs.Ranges.{carried_in, five_in, none_in, two_in}
use Rattle.diffusion_kernel.specs.Tables.{table_of}
use Rattle.diffusion_kernel.proofs.Printed.{IsPrinted, printed}
use Rattle.diffusion_definitions.proofs.Places.{taken_from}
use Rattle.diffusion_definitions.proofs.Solve.{errors_solve}
use Rattle.plain_diffusion.specs.Fills.{above_of, amount_of}
use Rattle.plain_diffusion.specs.Known.{AreDots, AreErrors, GivesInRange, errors_of, given_of, plane_of}
use Rattle.plain_diffusion.specs.declared.fills.InkWindow.{InkWindow}
use Rattle.plain_diffusion.proofs.Places.{row_more}

-- ---- what the pixel at column x and row y has to show

pub value_is : (w : InkWindow) (y x : ℕ) (g : ℤ) → g ≡ given_of w y x
    → value_at (table_of w.kernel) (plane_of w) (errors_of w) y x
    ≡ pos (16 * amount_of w.fill x y) +ℤ int_div_euclid g (pos (divisor (table_of w.kernel)))
value_is w y x g is =
    let k : Table = table_of w.kernel in
    let few : IsPrinted k = printed w.kernel in
    taken_from k (plane_of w) (errors_of w) y x (omega (arith, few.right)) (omega (arith, few.below)) (omega (arith, few.below2))
    ∙ ap (λ z. pos (16 * amount_of w.fill x y) +ℤ int_div_euclid z (pos (divisor k))) (sym is)

-- the same error by another number
fits_as : (w : InkWindow) (t n m : ℕ) → n ≡ m → InRange (errors_of w t n) → InRange (errors_of w t m)
fits_as w t n m same fits = let P : ℕ → Type 0 = λ k. InRange (errors_of w t k) in subst P same fits

two_fit : (w : InkWindow) (t x : ℕ) → ((i : ℕ) → i < 2 → InRange (errors_of w t (x + 3 - i)))
    → EachInRange (errors_of w t (x + 3) ∷ errors_of w t (x + 2) ∷ [])
two_fit w t x fits = two_in _ _ (fits_as w t _ _ (omega arith) (fits 0 (omega arith))) (fits_as w t _ _ (omega arith) (fits 1 (omega arith)))

five_fit : (w : InkWindow) (t x : ℕ) → ((i : ℕ) → i < 5 → InRange (errors_of w t (x + 6 - i))) → EachInRange (five (errors_of w t) (x + 2))
five_fit w t x fits = five_in _ _ _ _ _
    (fits_as w t (x + 6 - 4) (x + 2) (omega arith) (fits 4 (omega arith)))
    (fits_as w t (x + 6 - 3) (x + 2 + 1) (omega arith) (fits 3 (omega arith)))
    (fits_as w t (x + 6 - 2) (x + 2 + 2) (omega arith) (fits 2 (omega arith)))
    (fits_as w t (x + 6 - 1) (x + 2 + 3) (omega arith) (fits 1 (omega arith)))
    (fits_as w t (x + 6 - 0) (x + 2 + 4) (omega arith) (fits 0 (omega arith)))

pub carried_fits : (w : InkWindow) (y x : ℕ) (g : ℤ) → g ≡ given_of w y x → GivesInRange w y x
    → InRange (int_div_euclid g (pos (divisor (table_of w.kernel))))
unfolding value
carried_fits w y x g is fits =
    let k : Table = table_of w.kernel in
    let e : Errors = errors_of w in
    let same : List ℤ = e (y + 2) (x + 3) ∷ e (y + 2) (x + 2) ∷ [] in
    let up1 : List ℤ = five (e (y + 1)) (x + 2) in
    let up2 : List ℤ = five (e y) (x + 2) in
    let carried : ℤ = int_div_euclid (weighted k same up1 up2) (pos (divisor k)) in
    let own : InRange carried = carried_in k same up1 up2 (printed w.kernel).some (two_fit w (y + 2) x fits.same)
    (five_fit w (y + 1) x fits.up1) (five_fit w y x fits.up2) in
    let both : pos (16 * amount_of w.fill x y) +ℤ carried
    ≡ pos (16 * amount_of w.fill x y) +ℤ int_div_euclid g (pos (divisor k)) = value_is w y x g is in
    let equal : carried ≡ int_div_euclid g (pos (divisor k)) = omega (arith, ints, both) in
    subst InRange equal own

-- ---- the pixel at column x and row y is the next one

-- pixels of two rows are apart
before_row : (width y y' x x' : ℕ) → y < y' → x < width → y * width + x < y' * width + x'
before_row width y y' x x' less inside =
    let rows : (y + 1) * width ≤ y' * width = mul-le-mul_right width (omega arith) in
    omega (arith, rows, row_more width y)

-- what holds of all pixels so far and of the next one
pub next_pixel : (P : ℕ → ℕ → Type 0) (width y x : ℕ) → x < width
    → ((r c : ℕ) → c < width → r * width + c < y * width + x → P r c) → P y x
    → (r c : ℕ) → c < width → r * width + c < y * width + x + 1 → P r c
next_pixel P width y x wide before here r c inside low = elim (cases_eq r y) [
  | inl same ↦ elim (cases_eq c x) [
    | inl is ↦
        let Q : ℕ → Type 0 = λ m. P m c in
        let R : ℕ → Type 0 = λ m. P y m in
        subst Q (sym same) (subst R (sym is) here)
    | inr other ↦
        let rows : r * width ≡ y * width = ap (λ m. m * width) same in
        before r c inside (omega (arith, rows))
  ]
  | inr apart ↦ elim (cases_lt r y) [
    | inl above ↦ before r c inside (before_row width r y c x above inside)
    | inr below ↦
        let past : y * width + x < r * width + c = before_row width y r x c (omega arith) wide in
        absurd (omega arith)
  ]
]

pub fits_more : (es : List ℤ) (v : ℤ) → EachInRange es → InRange v → EachInRange (es ++ v ∷ [])
fits_more es v all fits i = elim (cases_lt i (length es)) [
  | inl inside ↦ let P : ℤ → Type 0 = λ z. InRange z in subst P (sym (get_or_append_left es (v ∷ []) (pos 0) i inside)) (all i)
  | inr past ↦ elim (cases_eq i (length es)) [
    | inl last ↦ let P : ℤ → Type 0 = λ z. InRange z in
        subst P (sym (get_or_at es v [] (pos 0) i (sym last))) fits
    | inr over ↦ let P : ℤ → Type 0 = λ z. InRange z in
        subst P (sym (get_or_past (es ++ v ∷ []) i (pos 0) (omega (arith, length-append es (v ∷ []))))) none_in
  ]
]

pub errors_more : (w : InkWindow) (es : List ℤ) (y x : ℕ) (v : ℤ) → AreErrors w es → length es ≡ y * w.width + x
    → y < w.height → x < w.width → v ≡ error_of (value_at (table_of w.kernel) (plane_of w) (errors_of w) y x) → InRange v
    → AreErrors w (es ++ v ∷ [])
errors_more w es y x v known len low wide is fits =
    let solves = errors_solve (table_of w.kernel) (plane_of w) (λ t n. above_of w.above w.width t n) in
    let all : List ℤ = es ++ v ∷ [] in
    let P : ℕ → ℕ → Type 0 = λ r c. r < w.height → get_or all (r * w.width + c) (pos 0) ≡ errors_of w (r + 2) (c + 4) in
    record {
      above = known.above;
      fits = fits_more es v known.fits fits;
      pixels = λ r c row column inside.
          next_pixel P w.width y x wide
          (λ r c column before row. get_or_append_left es (v ∷ []) (pos 0) (r * w.width + c) (omega (arith, len))
          ∙ known.pixels r c row column (omega (arith, len)))
          (λ row. get_or_at es v [] (pos 0) (y * w.width + x) len ∙ is ∙ sym (solves.pixel y x low wide))
          r c column (omega (arith, len, length-append es (v ∷ []))) row;
    }

pub dots_more : (w : InkWindow) (ds : List Bool) (y x : ℕ) (v : Bool) → AreDots w ds → length ds ≡ y * w.width + x
    → y < w.height → x < w.width → v ≡ is_dot (value_at (table_of w.kernel) (plane_of w) (errors_of w) y x)
    → AreDots w (ds ++ v ∷ [])
dots_more w ds y x v known len low wide is =
    let all : List Bool = ds ++ v ∷ [] in
    let P : ℕ → ℕ → Type 0 = λ r c. r < w.height
    → get_or all (r * w.width + c) false ≡ on (table_of w.kernel) (plane_of w) (errors_of w) r c in
    let dot : Bool = is_dot (value_at (table_of w.kernel) (plane_of w) (errors_of w) y x) in
    let in_plane : inside (plane_of w) y x ≡ true = and_from _ _ (lt-ltb x w.width wide) (lt-ltb y w.height low) in
    record {
      pixels = λ r c row column inside.
          next_pixel P w.width y x wide
          (λ r c column before row. get_or_append_left ds (v ∷ []) false (r * w.width + c) (omega (arith, len))
          ∙ known.pixels r c row column (omega (arith, len)))
          (λ row. get_or_at ds v [] false (y * w.width + x) len ∙ is ∙ sym (ap (λ b. b && dot) in_plane))
          r c column (omega (arith, len, length-append ds (v ∷ []))) row;
    }
