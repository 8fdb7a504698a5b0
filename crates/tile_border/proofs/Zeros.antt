-- Edges of no errors.
use Rattle.std.proofs.Common.{◌≡◌, ℕ, ℤ, pos, ◌<◌, List, [], get_or, length, replicate, ap, arith, inl, inr, set, sym, ◌∙◌, subst}
use Rattle.std.proofs.Common.{get_or-set_other, get_or-set_same, to_z, of_z, w16}
use Rattle.std.proofs.lemmas.Bool.{cases_eq, cases_lt}
use Rattle.std.proofs.lemmas.Int.{ints}
use Rattle.std.proofs.lemmas.List.{get_or-replicate, get_or_past, length-replicate}
use Rattle.diffusion_definitions.specs.Diffusion.{EachInRange, InRange}
use Rattle.tile_border.specs.Inks.{AreZeros, errors_of}

pub some_zeros : (len n : ℕ) → get_or (replicate len (pos 0)) n (pos 0) ≡ pos 0
some_zeros len n = elim (cases_lt n len) [
  | inl inside ↦ get_or-replicate len n (pos 0) (pos 0) inside
  | inr past ↦ get_or_past (replicate len (pos 0)) n (pos 0) (omega (arith, length-replicate len (pos 0)))
]

pub zeros : (inks len : ℕ) (edge : List (List ℤ)) → edge ≡ replicate inks (replicate len (pos 0)) → AreZeros edge
zeros inks len edge is = record {
  at = λ ink n. ap (λ (e : List (List ℤ)). get_or (errors_of e ink) n (pos 0)) is ∙ elim (cases_lt ink inks) [
    | inl inside ↦ ap (λ (e : List ℤ). get_or e n (pos 0)) (get_or-replicate inks ink (replicate len (pos 0)) [] inside) ∙ some_zeros len n
    | inr past ↦ ap (λ (e : List ℤ). get_or e n (pos 0))
        (get_or_past (replicate inks (replicate len (pos 0))) ink [] (omega (arith, length-replicate inks (replicate len (pos 0)))))
  ];
}

pub zero_fits : InRange (pos 0)
zero_fits = record { low = omega (arith, ints); high = omega (arith, ints) }

-- ---- errors in range

-- an error in range is kept in 16 bits
pub kept : (e : ℤ) → InRange e → to_z w16 (of_z w16 e) ≡ e
kept e fits = let low = fits.low in let high = fits.high in omega (arith, ints)

pub even_fits : (len : ℕ) (e : ℤ) → InRange e → EachInRange (replicate len e)
even_fits len e fits n = let Q : ℤ → Type 0 = λ z. InRange z in elim (cases_lt n len) [
  | inl inside ↦ subst Q (sym (get_or-replicate len n e (pos 0) inside)) fits
  | inr past ↦ subst Q (sym (get_or_past (replicate len e) n (pos 0) (omega (arith, length-replicate len e)))) zero_fits
]

pub set_fits : (errors : List ℤ) (at : ℕ) (e : ℤ) → at < length errors → InRange e → EachInRange errors → EachInRange (set errors at e)
set_fits errors at e room fits all n = let Q : ℤ → Type 0 = λ z. InRange z in elim (cases_eq n at) [
  | inl here ↦ subst Q (sym (ap (λ m. get_or (set errors at e) m (pos 0)) here ∙ get_or-set_same errors at e (pos 0) room)) fits
  | inr other ↦ subst Q (sym (get_or-set_other errors at n e (pos 0) other)) (all n)
]

pub even_kept : (len : ℕ) (e : ℤ) → InRange e → EachInRange (replicate len (to_z w16 (of_z w16 e)))
even_kept len e fits = let Q : ℤ → Type 0 = λ z. EachInRange (replicate len z) in subst Q (sym (kept e fits)) (even_fits len e fits)
