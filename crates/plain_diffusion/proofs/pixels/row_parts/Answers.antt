use Rattle.std.proofs.Common.{◌≡◌, ◌*ℤ◌, ◌-◌, ◌<◌, ℕ, ℤ, ap, arith, get_or, inl, inr, length, pos, subst, sym, ◌∙◌, to_z, of_z, w16, w32}
use Rattle.std.proofs.lemmas.Bool.{cases_eq}
use Rattle.std.proofs.lemmas.Int.{ints}
use Rattle.diffusion_definitions.specs.Diffusion.{InRange}
use Rattle.plain_diffusion.specs.Known.{errors_of}
use Rattle.plain_diffusion.proofs.Rows.{one_more}
use Rattle.plain_diffusion.proofs.pixels.row_parts.Goals as goal

pub loop-i-preserved : goal.loop-i-preserved
loop-i-preserved c =
    let v = c.loop-i.invariant in
    let i : ℕ = c.loop-i.i in
    let inside : i < length c.args.shares.now = c.loop-i-test.true in
    let f : ℕ → ℤ = λ j. errors_of c.args.window.now c.args.t (c.args.n - j) in
    let r : ℤ = c.error_at.result in
    let range : InRange r = c.error_at.ensures.in_range in
    let is : r ≡ f i = c.error_at.ensures.is in
    let held : to_z w16 (of_z w16 r) ≡ r = omega (arith, ints) in
    let part = c.part-parts.ensures.in_range in
    let share : c.part-parts.result ≡ pos (get_or c.args.shares.now i 0) *ℤ f i =
    c.part-parts.ensures.is ∙ ap (λ z. pos (get_or c.args.shares.now i 0) *ℤ z) (held ∙ is) in
    record {
      few_parts = record { low = omega (arith, ints); high = omega (arith, ints) };
      fits = λ j low. elim (cases_eq j i) [
        | inl here ↦
            let P : ℕ → Type 0 = λ m. InRange (f m) in
            subst P (sym here) (subst InRange is range)
        | inr other ↦ v.fits j (omega arith)
      ];
      so_far = one_more i c.args.shares.now f (to_z w32 c.loop-i.parts-bits) c.part-parts.result _ _ inside v.so_far share (omega (arith, ints));
    }
