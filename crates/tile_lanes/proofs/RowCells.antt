-- Places of a tile with a pixel and without one.
use Rattle.std.proofs.Common.{ℕ, ℤ, pos, ◌≡◌, ◌+◌, ◌-◌, ◌*◌, ◌<◌, ◌≤◌, ◌∙◌, true, false, ltb, leb, ap, sym, arith, inl, inr}
use Rattle.std.proofs.Common.{[], ◌∷◌, ◌&&◌}
use Rattle.std.proofs.lemmas.Bool.{cases_lt, and_parts, and_cases, ltb-true, ltb-false, leb-true, leb-false}
use Rattle.diffusion_definitions.specs.Diffusion.{Table, Plane, Errors, Solves, inside, is_dot, value_at}
use Rattle.tile_edges.specs.Edges.{skewed}
use Rattle.tile_lanes.specs.Rows.{is_place, shown}

pub two : {a b c d : ℤ} → a ≡ c → b ≡ d → (a ∷ b ∷ []) ≡ (c ∷ d ∷ [])
two {a} {b} {c} {d} h i = ap (λ (x : ℤ). x ∷ b ∷ []) h ∙ ap (λ (x : ℤ). c ∷ x ∷ []) i

pub five_are : {a b c d e a1 b1 c1 d1 e1 : ℤ} → a ≡ a1 → b ≡ b1 → c ≡ c1 → d ≡ d1 → e ≡ e1
    → (a ∷ b ∷ c ∷ d ∷ e ∷ []) ≡ (a1 ∷ b1 ∷ c1 ∷ d1 ∷ e1 ∷ [])
five_are h1 h2 h3 h4 h5 = cc

-- Where there is no pixel the error is 0.
no_pixel : (k : Table) (p : Plane) (e : Errors) (j r u : ℕ) → Solves k p e → is_place p j r u ≡ false
    → skewed e j (r + 2) (u + 6) ≡ pos 0
no_pixel k p e j r u s none =
    let y : ℕ = 32 * j + r in
    let row : 32 * j + (r + 2) ≡ y + 2 = omega arith in
    let n : ℕ = u + 6 + 2 - 2 * (r + 2) in
    ap (λ m. e m n) row ∙ elim (cases_lt u (2 * r)) [
      | inl before ↦ s.left y n (omega arith)
      | inr from ↦
          let x : ℕ = u - 2 * r in
          let place : n ≡ x + 4 = omega arith in
          ap (e (y + 2)) place ∙ elim (cases_lt x p.width) [
            | inl wide ↦ s.below y (x + 4) (elim (and_cases (leb (2 * r) u) (inside p y x) none) [
              | inl a ↦ let b = leb-false (2 * r) u a in omega arith
              | inr a ↦ elim (and_cases (ltb x p.width) (ltb y p.height) a) [
                | inl b ↦ let d = ltb-false x p.width b in omega arith
                | inr b ↦ ltb-false y p.height b
              ]
            ])
            | inr far ↦ s.right y x far
          ]
    ]

-- Where there is no pixel, the error is 0 and there is no dot.
pub none_right : (k : Table) (p : Plane) (e : Errors) (c j r o : ℕ)
    → Solves k p e → is_place p j r (64 * c + o) ≡ false
    → record { err : pos 0 ≡ skewed e j (r + 2) (64 * c + (6 + o)); on : false ≡ shown k p e j r (64 * c + o) }
none_right k p e c j r o s none =
    let u : ℕ = 64 * c + o in
    let moved : 64 * c + o + 6 ≡ 64 * c + (6 + o) = omega arith in
    record {
      err = sym (no_pixel k p e j r u s none) ∙ ap (skewed e j (r + 2)) moved;
      on = ap (λ b. b && is_dot (value_at k p e (32 * j + r) (u - 2 * r))) (sym none);
    }

-- What a place with a pixel says of its row and column.
pub record IsInside (p : Plane) (y x r u : ℕ) : Type 0 where
  pub from : 2 * r ≤ u
  pub across : x < p.width
  pub down : y < p.height

pub place_inside : (p : Plane) (j r u : ℕ) → is_place p j r u ≡ true → IsInside p (32 * j + r) (u - 2 * r) r u
place_inside p j r u place = grind (arith, and_parts, leb-true, ltb-true)
