use Rattle.std.proofs.Common.{◌≡◌, ℤ, arith, sym, ◌∙◌, to_z, of_z, w16}
use Rattle.std.proofs.lemmas.Int.{ints}
use Rattle.diffusion_definitions.specs.Diffusion.{InRange}
use Rattle.plain_diffusion.proofs.Places.{left_is, top_is}
use Rattle.plain_diffusion.proofs.pixels.error_at.Goals as goal

pub returns-then-t-lt2-clause-is : goal.returns-then-t-lt2-clause-is
returns-then-t-lt2-clause-is c =
    let r : ℤ = c.error_above.result in
    let fits : InRange r = c.error_above.ensures.in_range in
    let kept : to_z w16 (of_z w16 r) ≡ r = omega (arith, ints) in
    kept ∙ c.error_above.ensures.is c.args.t c.args.n (omega (arith, ints)) (omega (arith, ints))
    ∙ sym (top_is c.args.window.now c.args.t c.args.n c.if-t-lt2.true)

pub returns-then-n-lt4-clause-is : goal.returns-then-n-lt4-clause-is
returns-then-n-lt4-clause-is c = sym (left_is c.args.window.now c.args.t c.args.n c.if-t-lt2.false c.if-n-lt4.true)
