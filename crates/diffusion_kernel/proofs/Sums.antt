-- The sums of the code, in numbers of 16 and 32 bits.
use Rattle.std.proofs.Common.{ℕ, ℤ, pos, ◌≡◌, ◌<◌, ◌≤◌, ◌+◌, ◌-◌, ◌*◌, ◌/◌, ◌%◌, ◌-ℤ◌, negsuc, nat_abs, ◌+ℤ◌, ◌*ℤ◌, to_z, of_z, w16, w32}
use Rattle.std.proofs.Common.{FitsSigned, arith, ap, ◌∙◌, lit≤, subst, sym}
use Rattle.std.proofs.lemmas.Int.{ints}
use Rattle.std.proofs.lemmas.Nat.{div-mul-add}
use Rattle.std.proofs.Math.Nat.{add-mul-div_left, div-lt_iff_lt-mul}
use Rattle.std.specs.Int.{int_div_euclid}
use Rattle.diffusion_definitions.specs.Diffusion.{InRange, IsParts}
use Rattle.diffusion_definitions.proofs.Ranges.{quotient_in}

-- a number as 32 bits hold it
abbrev pub fixed : ℤ → ℤ
fixed z = to_z w32 (of_z w32 z)

-- a number as 16 bits hold it
abbrev pub held : ℤ → ℤ
held z = to_z w16 (of_z w16 z)

-- a few parts fit 32 bits
pub fits : {z : ℤ} {m : ℕ} → IsParts m z → m ≤ 4000 → FitsSigned w32 z
fits h few = omega (arith, ints)

pub same : {z : ℤ} {m : ℕ} → IsParts m z → m ≤ 4000 → fixed z ≡ z
same h few = omega (arith, ints)

pub plus : {y z : ℤ} {m n : ℕ} → IsParts m y → IsParts n z → m + n ≤ 4000 → IsParts (m + n) (fixed y +ℤ fixed z)
plus a b few = record { low = omega (arith, ints); high = omega (arith, ints) }

pub kept : {z : ℤ} {m : ℕ} → IsParts m z → m ≤ 4000 → IsParts m (fixed z)
kept h few = record { low = omega (arith, ints); high = omega (arith, ints) }

-- an error that is held in 16 bits is itself
pub share_is : (s : ℕ) (e r : ℤ) → InRange e → r ≡ pos s *ℤ held e → r ≡ pos s *ℤ e
share_is s e r h is = let kept : held e ≡ e = omega (arith, ints) in is ∙ ap (λ x. pos s *ℤ x) kept

in_line : (a b c d e : ℤ) → (((a +ℤ b) +ℤ c) +ℤ d) +ℤ e ≡ a +ℤ (b +ℤ (c +ℤ (d +ℤ (e +ℤ pos 0))))
in_line a b c d e = omega (arith, ints)

in_groups : (a b c d : ℤ) → ((a +ℤ b) +ℤ c) +ℤ d ≡ (a +ℤ (b +ℤ pos 0)) +ℤ (c +ℤ d)
in_groups a b c d = omega (arith, ints)

-- the sum of a row's five shares
pub row_sum : {r0 r1 r2 r3 r4 y0 y1 y2 y3 y4 : ℤ} → IsParts 255 r0 → IsParts 255 r1 → IsParts 255 r2 → IsParts 255 r3 → IsParts 255 r4
    → r0 ≡ y0 → r1 ≡ y1 → r2 ≡ y2 → r3 ≡ y3 → r4 ≡ y4
    → fixed (fixed (fixed (fixed (fixed r0 +ℤ fixed r1) +ℤ fixed r2) +ℤ fixed r3) +ℤ fixed r4) ≡ y0 +ℤ (y1 +ℤ (y2 +ℤ (y3 +ℤ (y4 +ℤ pos 0))))
row_sum {y0} {y1} {y2} {y3} {y4} h0 h1 h2 h3 h4 e0 e1 e2 e3 e4 =
    let f0 = same h0 (lit≤ tt) in
    let f1 = same h1 (lit≤ tt) in
    let f2 = same h2 (lit≤ tt) in
    let f3 = same h3 (lit≤ tt) in
    let f4 = same h4 (lit≤ tt) in
    let s1 = plus h0 h1 (lit≤ tt) in
    let s2 = plus s1 h2 (lit≤ tt) in
    let s3 = plus s2 h3 (lit≤ tt) in
    let s4 = plus s3 h4 (lit≤ tt) in
    let g1 = same s1 (lit≤ tt) in
    let g2 = same s2 (lit≤ tt) in
    let g3 = same s3 (lit≤ tt) in
    let g4 = same s4 (lit≤ tt) in
    let flat = in_line y0 y1 y2 y3 y4 in
    cc

-- the sum of two shares and two rows
pub near_sum : {r0 r1 r2 r3 y0 y1 y2 y3 : ℤ} → IsParts 255 r0 → IsParts 255 r1 → IsParts 1275 r2 → IsParts 1275 r3
    → r0 ≡ y0 → r1 ≡ y1 → r2 ≡ y2 → r3 ≡ y3
    → fixed (fixed (fixed (fixed r0 +ℤ fixed r1) +ℤ fixed r2) +ℤ fixed r3) ≡ (y0 +ℤ (y1 +ℤ pos 0)) +ℤ (y2 +ℤ y3)
near_sum {y0} {y1} {y2} {y3} h0 h1 h2 h3 e0 e1 e2 e3 =
    let f0 = same h0 (lit≤ tt) in
    let f1 = same h1 (lit≤ tt) in
    let f2 = same h2 (lit≤ tt) in
    let f3 = same h3 (lit≤ tt) in
    let s1 = plus h0 h1 (lit≤ tt) in
    let s2 = plus s1 h2 (lit≤ tt) in
    let s3 = plus s2 h3 (lit≤ tt) in
    let g1 = same s1 (lit≤ tt) in
    let g2 = same s2 (lit≤ tt) in
    let g3 = same s3 (lit≤ tt) in
    let flat = in_groups y0 y1 y2 y3 in
    cc

pub parts_as : (m : ℕ) (y z : ℤ) → y ≡ z → IsParts m z → IsParts m y
parts_as m y z e h = subst (IsParts m) (sym e) h

-- a division of a number that is raised to 0 or above
pub raised_quotient : (z : ℤ) (d n : ℕ) → 1 ≤ d → pos n ≡ z +ℤ pos (2040 * d)
    → pos (n / d) -ℤ pos 2040 ≡ int_div_euclid z (pos d)
raised_quotient (pos a) d n some is =
    let sum : n ≡ a + d * 2040 = omega (arith, ints) in
    let part : n / d ≡ a / d + 2040 = ap (λ m. m / d) sum ∙ add-mul-div_left a 2040 some in
    omega (arith, ints)
raised_quotient (negsuc a) d n some is =
    let q : ℕ = a / d in
    let r : ℕ = a % d in
    let whole : d * q + r ≡ a = omega arith in
    let left : r < d = omega arith in
    let low : a < 2040 * d = omega (arith, ints, is) in
    let few : q < 2040 = (div-lt_iff_lt-mul some).1 low in
    let s : ℕ = 2039 - q in
    let both : s + q ≡ 2039 = omega arith in
    let split : (s + q) * d ≡ 2039 * d = ap (λ m. m * d) both in
    let sum : n ≡ s * d + (d - 1 - r) = omega (arith, ints) in
    let part : n / d ≡ s = ap (λ m. m / d) sum ∙ div-mul-add s d (d - 1 - r) (omega arith) in
    omega (arith, ints)

-- parts of errors, raised to 0 or above, as 32 bits hold them
abbrev pub raised : ℤ → ℕ → ℤ
raised z d = fixed (fixed z +ℤ fixed (pos 2040 *ℤ to_z w32 d))

-- the quotient that the code computes
pub quotient_is : (z : ℤ) (d : ℕ) → 1 ≤ d → d ≤ 48 → IsParts d z
    → fixed (to_z w32 (nat_abs (raised z d) / d) -ℤ pos 2040) ≡ int_div_euclid z (pos d)
quotient_is z d some few parts =
    let n : ℕ = nat_abs (raised z d) in
    let is : pos n ≡ z +ℤ pos (2040 * d) = omega (arith, ints, parts.low, parts.high) in
    let q = raised_quotient z d n some is in
    let range : InRange (int_div_euclid z (pos d)) = quotient_in z d some parts in
    omega (arith, ints, q, range.low, range.high)
