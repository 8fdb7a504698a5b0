-- Values by sums of errors that are held with 2040 added.
use Rattle.std.proofs.Common.{ℕ, ℤ, Bool, true, false, pos, ◌≡◌, ◌+◌, ◌-◌, ◌*◌, ◌/◌, ◌%◌, ◌≤◌, ◌+ℤ◌, ◌-ℤ◌, [], ◌∷◌, arith, ap, refl}
use Rattle.std.proofs.Common.{◌∙◌, sym, leb, cond, lit≤, List}
use mir.Val.{bool_byte}
use Rattle.std.proofs.lemmas.Int.{ints}
use Rattle.std.proofs.lemmas.Bool.{cond_both, leb-true, leb-false}
use Rattle.std.specs.Int.{int_div_euclid}
use Rattle.diffusion_definitions.specs.Diffusion.{Table, divisor, floyd, jarvis, stucki, value, weighted}
use Rattle.diffusion_kernel.proofs.Sums.{raised_quotient}
use Rattle.tile_lanes.specs.Held.{error_held}

-- The value is held as a sum that is divided by the divisor d, where t is the weighted sum of the held errors.
pub value_held : (k : Table) (a d t held : ℕ) (same up1 up2 : List ℤ) → divisor k ≡ d → 1 ≤ d
    → pos t ≡ weighted k same up1 up2 +ℤ pos (2040 * d) → held ≡ 16 * a + t / d → error_held held ≡ value k a same up1 up2
unfolding value
value_held k a d t held same up1 up2 is_d some is_t is_held =
    let z : ℤ = weighted k same up1 up2 in
    let part : pos (t / d) -ℤ pos 2040 ≡ int_div_euclid z (pos d) = raised_quotient z d t some is_t in
    let whole : error_held (16 * a + t / d) ≡ pos (16 * a) +ℤ (pos (t / d) -ℤ pos 2040) = omega (arith, ints) in
    ap error_held is_held ∙ whole ∙ ap (λ q. pos (16 * a) +ℤ q) (part ∙ ap (λ n. int_div_euclid z (pos n)) (sym is_d))

jarvis_part : (s7 s5 s3 s1 : ℕ) → s7 + s3 ≤ 24474
    → (2 * s7 + s5 + s3 + (s5 + s1 + (24476 - (s7 + s3))) / 4 - 6119) / 12 ≡ (7 * s7 + 5 * s5 + 3 * s3 + s1) / 48
jarvis_part s7 s5 s3 s1 few = omega arith

bit_is : (b : Bool) → bool_byte b ≡ cond b 1 0
bit_is true = refl
bit_is false = refl

stucki_part : (s8 s4 s2 s1 q w left : ℕ) → q ≡ 2 * s8 + s4 + (2 * s2 + s1) / 4 → w ≡ q / 21
    → left ≡ 2 * (q - 21 * w) + (2 * s2 + s1) / 2 % 2
    → 2 * w + bool_byte (leb 21 left) ≡ (8 * s8 + 4 * s4 + 2 * s2 + s1) / 42
stucki_part s8 s4 s2 s1 q w left is_q is_w is_left = grind (arith, bit_is, cond_both, leb-false, leb-true)

pub jarvis_is : (a v o1 o2 b0 b1 b2 b3 b4 d0 d1 d2 d3 d4 : ℕ) → v ≡ a → o1 + b2 + (b0 + b4 + d1 + d3) ≤ 24474
    → error_held (16 * v + (2 * (o1 + b2) + (o2 + b1 + b3 + d2) + (b0 + b4 + d1 + d3) + (o2 + b1 + b3 + d2 + (d0 + d4) + (24476 - (o1 + b2 + (b0 + b4 + d1 + d3)))) / 4 - 6119) / 12)
    ≡ value jarvis a (error_held o1 ∷ error_held o2 ∷ [])
    (error_held b0 ∷ error_held b1 ∷ error_held b2 ∷ error_held b3 ∷ error_held b4 ∷ [])
    (error_held d0 ∷ error_held d1 ∷ error_held d2 ∷ error_held d3 ∷ error_held d4 ∷ [])
jarvis_is a v o1 o2 b0 b1 b2 b3 b4 d0 d1 d2 d3 d4 is_v few =
    let s7 : ℕ = o1 + b2 in
    let s5 : ℕ = o2 + b1 + b3 + d2 in
    let s3 : ℕ = b0 + b4 + d1 + d3 in
    let part = jarvis_part s7 s5 s3 (d0 + d4) few in
    value_held jarvis a 48 (7 * s7 + 5 * s5 + 3 * s3 + (d0 + d4)) _ _ _ _ refl (lit≤ tt) (omega (arith, ints)) (omega (arith, is_v, part))

pub stucki_is : (a v f o1 o2 b0 b1 b2 b3 b4 d0 d1 d2 d3 d4 q w : ℕ) → v ≡ a
    → q ≡ 2 * (o1 + b2) + (o2 + b1 + b3 + d2) + (2 * (b0 + b4 + d1 + d3) + (d0 + d4)) / 4 → w ≡ q / 21
    → f ≡ bool_byte (leb 21 (2 * (q - 21 * w) + (2 * (b0 + b4 + d1 + d3) + (d0 + d4)) / 2 % 2))
    → error_held (16 * v + 2 * w + f)
    ≡ value stucki a (error_held o1 ∷ error_held o2 ∷ [])
    (error_held b0 ∷ error_held b1 ∷ error_held b2 ∷ error_held b3 ∷ error_held b4 ∷ [])
    (error_held d0 ∷ error_held d1 ∷ error_held d2 ∷ error_held d3 ∷ error_held d4 ∷ [])
stucki_is a v f o1 o2 b0 b1 b2 b3 b4 d0 d1 d2 d3 d4 q w is_v is_q is_w is_f =
    let s8 : ℕ = o1 + b2 in
    let s4 : ℕ = o2 + b1 + b3 + d2 in
    let s2 : ℕ = b0 + b4 + d1 + d3 in
    let s1 : ℕ = d0 + d4 in
    let part : 2 * w + f ≡ (8 * s8 + 4 * s4 + 2 * s2 + s1) / 42 = ap (λ g. 2 * w + g) is_f ∙ stucki_part s8 s4 s2 s1 q w _ is_q is_w refl in
    value_held stucki a 42 (8 * s8 + 4 * s4 + 2 * s2 + s1) _ _ _ _ refl (lit≤ tt) (omega (arith, ints)) (omega (arith, is_v, part))

pub floyd_is : (a v own u1 u2 u3 : ℕ) (left b0 b4 : ℤ) (far : List ℤ) → v ≡ a
    → error_held (16 * v + (4 * (own + u1 + own + u2) - (own + u1) + (u2 + u3)) / 16)
    ≡ value floyd a (error_held own ∷ left ∷ []) (b0 ∷ error_held u3 ∷ error_held u2 ∷ error_held u1 ∷ b4 ∷ []) far
floyd_is a v own u1 u2 u3 left b0 b4 far is_v =
    value_held floyd a 16 (7 * own + 3 * u1 + 5 * u2 + u3) _ _ _ _ refl (lit≤ tt) (omega (arith, ints)) (omega (arith, is_v))
