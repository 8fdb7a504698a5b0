-- A plane, slab by slab.
use Rattle.std.proofs.Common.{◌≡◌, ℕ, ℤ, ◌%◌, ◌+◌, ◌-◌, ◌*◌, ◌<◌, ◌≤◌, List, [], ◌∷◌, ltb, ◌&&◌, sym, refl, ◌∙◌}
use Rattle.std.proofs.Common.{ap, arith, inl, inr}
use Rattle.std.proofs.lemmas.Bool.{cases_eq, cases_lt}
use Rattle.diffusion_definitions.specs.Diffusion.{Errors, Plane, Solves, Table, cut, error_of, errors, five, inside}
use Rattle.diffusion_definitions.specs.Diffusion.{is_dot, no_top, on, rest, value, value_at}
use Rattle.diffusion_definitions.proofs.Slab.{first_rows, slab}
use Rattle.diffusion_definitions.proofs.SlabDots.{first_dots, slab_dots}
use Rattle.diffusion_definitions.proofs.Solve.{errors_solve}
use Rattle.dot_planes.specs.Tables.{AmountTable, amount}
use Rattle.wavefront_team.specs.Dots.{Dots}
use Rattle.wavefront_team.specs.Slabs.{AreSlabErrors, DiffusesSlab}
use Rattle.tile_border.specs.Tops.{edges_of}
use Rattle.tile_edges.proofs.TopLaws.{bottoms_are_top}
use Rattle.tile_edges.specs.Tops.{IsBelow}
use Rattle.tile_lanes.specs.Done.{plane_of, window_of}
use Rattle.tile_shape.specs.Geometry.{bands_of}
use Rattle.page_halftoner.specs.Halftones.{InkPlanes, IsUpTo}

-- two planes of one size have the same amounts
record IsSame (p q : Plane) : Type 0 where
  pub width : q.width ≡ p.width
  pub height : q.height ≡ p.height
  pub amounts : (y x : ℕ) → y < p.height → x < p.width → q.amount y x ≡ p.amount y x

-- what solves the rule in the one solves it in the other
same_solves : (k : Table) (p q : Plane) (e : Errors) → IsSame p q → Solves k p e → Solves k q e
same_solves k p q e same s = record {
  pixel = λ y x low across.
      let v : ℕ → ℤ = λ a. error_of
      (value k a (e (y + 2) (x + 3) ∷ e (y + 2) (x + 2) ∷ []) (five (e (y + 1)) (x + 2)) (five (e y) (x + 2))) in
      let low' : y < p.height = omega (arith, same.height) in
      let across' : x < p.width = omega (arith, same.width) in
      s.pixel y x low' across' ∙ ap v (sym (same.amounts y x low' across'));
  left = s.left;
  right = λ y x out. s.right y x (omega (arith, same.width));
  below = λ y n out. s.below y n (omega (arith, same.height));
}

-- and has the same dots
same_dots : (k : Table) (p q : Plane) (e : Errors) (y x : ℕ) → IsSame p q → y < p.height → x < p.width → on k q e y x ≡ on k p e y x
same_dots k p q e y x same low across =
    let v : ℕ → ℤ = λ a. value k a (e (y + 2) (x + 3) ∷ e (y + 2) (x + 2) ∷ []) (five (e (y + 1)) (x + 2)) (five (e y) (x + 2)) in
    ap (λ w. (ltb x w && ltb y q.height) && is_dot (value_at k q e y x)) same.width
    ∙ ap (λ h. (ltb x p.width && ltb y h) && is_dot (value_at k q e y x)) same.height
    ∙ ap (λ a. inside p y x && is_dot (v a)) (same.amounts y x low across)

-- A row is put after the held rows.
pub row_more : (k : Table) (p : InkPlanes) (i d n : ℕ) (planes : Dots) (top : List (List (List ℤ))) (old new : AmountTable)
    → IsUpTo k p i d n planes top old
    → ((x : ℕ) → x < p.plain.width → amount new i n x ≡ p.plain.amount (d + n) x)
    → ((r x : ℕ) → r < n → x < p.plain.width → amount new i r x ≡ amount old i r x)
    → IsUpTo k p i d (n + 1) planes top new
row_more k p i d n planes top old new up are above = record {
  dots = up.dots;
  errors_are = up.errors_are;
  amounts = λ y x below across. elim (cases_eq y n) [
    | inl here ↦ ap (λ m. amount new i m x) here ∙ are x across ∙ ap (λ m. p.plain.amount (d + m) x) (sym here)
    | inr other ↦ above y x (omega arith) across ∙ up.amounts y x (omega arith) across
  ];
}

-- A slab is diffused: its rows are rows of the plane with grain, below the errors of the rows before them.
pub slab_more : (k : Table) (planes : InkPlanes) (i d n : ℕ) (held rows rows' : AmountTable)
    (top bottom : List (List (List ℤ))) (old new : Dots)
    → DiffusesSlab k rows top bottom d old new
    → IsUpTo k planes i d n old top held
    → ((y x : ℕ) → y < rows.rows → x < planes.grained.width → amount rows i y x ≡ planes.grained.amount (d + y) x)
    → i < rows.inks → rows.width ≡ planes.grained.width → 1 ≤ rows.rows
    → d + rows.rows ≤ planes.grained.height → old.rows ≡ planes.grained.height
    → (d + rows.rows < planes.grained.height → rows.rows % 32 ≡ 0)
    → IsUpTo k planes i (d + rows.rows) 0 new bottom rows'
slab_more k planes i d n held rows rows' top bottom old new done up grained ink wide some low tall whole =
    let p : Plane = planes.grained in
    let e : Errors = errors k p no_top in
    let h : ℕ = rows.rows in
    let q : Plane = plane_of rows i in
    let behind : Plane = rest d p in
    let f : Errors = λ t. e (d + t) in
    let g : Errors = errors k (cut h behind) f in
    let g_is : (y : ℕ) → y < h + 2 → g y ≡ e (d + y) = λ y few. first_rows k behind f h (omega arith) y few ∙ slab k p no_top d y in
    let same : IsSame (cut h behind) q =
    record { width = wide; height = refl; amounts = λ y x below across. grained y x below across } in
    let solves : Solves k q g = same_solves k (cut h behind) q g same (errors_solve k (cut h behind) f) in
    let below : IsBelow (edges_of top i) g = λ t n two. ap (λ row. row n) (g_is t (omega arith)) ∙ up.errors_are (omega arith) t n two in
    let are : AreSlabErrors k rows top i g = record { ink = ink; solves = solves; below = below } in
    record {
      dots = λ y x above across. elim (cases_lt y d) [
        | inl before ↦ done.others i y x (omega (arith, tall)) (inl before) ∙ up.dots y x before across
        | inr from ↦
            let m : ℕ = y - d in
            let row : d + m ≡ y = omega arith in
            let few : m < h = omega arith in
            ap (λ n. new.dot i n x) (sym row) ∙ done.dots i g are m x few (omega (arith, wide))
            ∙ same_dots k (cut h behind) q g m x same few across
            ∙ first_dots k behind f g h (omega arith) (λ a n less. ap (λ r. r n) (g_is a less)) m x few
            ∙ slab_dots k p e f d (λ a n. refl) m x
            ∙ ap (λ n. on k p e n x) row
      ];
      errors_are = λ more.
          let bands : h % 32 ≡ 0 = whole more in
          let end : 32 * (bands_of (window_of rows) - 1 + 1) ≡ h = omega (arith, bands, some) in
          let next = bottoms_are_top k q g (window_of rows) (edges_of bottom i) (bands_of (window_of rows) - 1) solves
          (record { width = refl; height = refl }) (done.bottom_is.bottoms i g are) in
          λ t n two.
          let place : d + h + t ≡ d + (h + t) = omega arith in
          let from : h + t ≡ 32 * (bands_of (window_of rows) - 1 + 1) + t = omega (arith, end) in
          ap (λ m. e m n) place ∙ sym (ap (λ row. row n) (g_is (h + t) (omega arith))) ∙ ap (λ m. g m n) from ∙ next t n two;
      amounts = λ y x none across. absurd (omega arith);
    }
