-- The ends of an edge's two rows, error by error.
use Rattle.std.proofs.Common.{◌≡◌, ℕ, ℤ, pos, ◌+◌, ◌*◌, ◌/◌, ◌%◌, ◌<◌, ◌≤◌, List, get_or, length, length-set, set, ap, arith, inl, inr, sym}
use Rattle.std.proofs.Common.{◌∙◌, subst, get_or-set_other, get_or-set_same, to_z, of_z, w16}
use Rattle.std.proofs.lemmas.Bool.{cases_eq}
use Rattle.diffusion_definitions.specs.Diffusion.{EachInRange, InRange}
use Rattle.tile_edges.specs.Tops.{IsCut}
use Rattle.tile_border.proofs.Zeros.{kept, set_fits, zero_fits}

-- where the n-th of the twelve stands
abbrev pub place_of : ℕ → ℕ
place_of n = 58 + 64 * (n / 6) + n % 6

-- The first so many are there, and all are in range.
pub record AreEnds (edge : List ℤ) (many : ℕ) (ends : List ℤ) : Type 0 where
  pub long : length ends ≡ 12
  pub are : (n : ℕ) → n < many → get_or ends n (pos 0) ≡ get_or edge (place_of n) (pos 0)
  pub fits : EachInRange ends

pub ends_more : (edge ends : List ℤ) (many : ℕ) → many < 12 → EachInRange edge → AreEnds edge many ends
    → AreEnds edge (many + 1) (set ends many (get_or edge (place_of many) (pos 0)))
ends_more edge ends many low fits e =
    let error : ℤ = get_or edge (place_of many) (pos 0) in
    let room : many < length ends = omega (arith, e.long) in
    record {
      long = length-set ends many error ∙ e.long;
      are = λ n below. elim (cases_eq n many) [
        | inl here ↦ ap (λ m. get_or (set ends many error) m (pos 0)) here ∙ get_or-set_same ends many error (pos 0) room
            ∙ ap (λ m. get_or edge (place_of m) (pos 0)) (sym here)
        | inr other ↦ get_or-set_other ends many n error (pos 0) other ∙ e.are n (omega arith)
      ];
      fits = set_fits ends many error room (fits (place_of many)) e.fits;
    }

pub ends_cut : (edge other ends : List ℤ) (many : ℕ) → edge ≡ other → 12 ≤ many → AreEnds edge many ends → IsCut other ends
ends_cut edge other ends many same all e = record {
  at = λ t i row offset.
      let place : place_of (6 * t + i) ≡ 64 * t + 58 + i = omega arith in
      e.are (6 * t + i) (omega arith) ∙ ap (λ m. get_or edge m (pos 0)) place
      ∙ ap (λ (xs : List ℤ). get_or xs (64 * t + 58 + i) (pos 0)) same;
}

pub no_ends : (edge ends : List ℤ) → length ends ≡ 12 → ((n : ℕ) → get_or ends n (pos 0) ≡ pos 0) → AreEnds edge 0 ends
no_ends edge ends long zero = record {
  long = long;
  are = λ n below. absurd (omega arith);
  fits = λ n. let Q : ℤ → Type 0 = λ z. InRange z in subst Q (sym (zero n)) zero_fits;
}

-- the error as it was read
pub ends_read : (edge ends : List ℤ) (many : ℕ) → many < 12 → EachInRange edge → AreEnds edge many ends
    → AreEnds edge (many + 1) (set ends many (to_z w16 (of_z w16 (get_or edge (place_of many) (pos 0)))))
ends_read edge ends many low fits e =
    let error : ℤ = get_or edge (place_of many) (pos 0) in
    let Q : ℤ → Type 0 = λ z. AreEnds edge (many + 1) (set ends many z) in
    subst Q (sym (kept error (fits (place_of many)))) (ends_more edge ends many low fits e)
