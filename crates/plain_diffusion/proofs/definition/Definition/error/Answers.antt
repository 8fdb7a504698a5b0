use Rattle.std.proofs.Common.{◌≡◌, ◌<◌, ◌+ℤ◌, ℤ, ap, arith, pos, subst, sym, ◌∙◌, to_z, of_z, w32, w64}
use Rattle.std.proofs.lemmas.Int.{ints, to_z-of_z}
use Rattle.diffusion_definitions.specs.Diffusion.{InRange}
use Rattle.plain_diffusion.specs.Known.{errors_of}
use Rattle.plain_diffusion.specs.declared.fills.InkWindow.{InkWindow}
use Rattle.plain_diffusion.proofs.Places.{outside_is, top_is}
use Rattle.plain_diffusion.proofs.definition.Definition.error.Goals as goal

pub returns-then-y-lt0-clause-known : goal.returns-then-y-lt0-clause-known
returns-then-y-lt0-clause-known c = λ t n row column.
    let r : ℤ = c.error_above.result in
    let fits : InRange r = c.error_above.ensures.in_range in
    let kept : to_z w32 (of_z w32 c.from.result) ≡ r = omega (arith, ints) in
    let two : t < 2 = omega (arith, ints) in
    let x_is : to_z w64 (of_z w64 c.args.x) ≡ c.args.x = to_z-of_z w64 c.args.x c.ranges.x in
    let y_is : to_z w64 (of_z w64 c.args.y) ≡ c.args.y = to_z-of_z w64 c.args.y c.ranges.y in
    let Q : InkWindow → Type 0 = λ w. to_z w32 (of_z w32 c.from.result) ≡ errors_of w t n in
    subst Q c.self.view_is (kept
    ∙ c.error_above.ensures.is t n (row ∙ ap (λ z. z +ℤ pos 2) (sym y_is)) (column ∙ ap (λ z. z +ℤ pos 4) (sym x_is))
    ∙ sym (top_is c.self.inside.window t n two))

pub returns-in-None-clause-known : goal.returns-in-None-clause-known
returns-in-None-clause-known c = λ t n row column.
    let x_is : to_z w64 (of_z w64 c.args.x) ≡ c.args.x = to_z-of_z w64 c.args.x c.ranges.x in
    let y_is : to_z w64 (of_z w64 c.args.y) ≡ c.args.y = to_z-of_z w64 c.args.y c.ranges.y in
    let Q : InkWindow → Type 0 = λ w. pos 0 ≡ errors_of w t n in
    subst Q c.self.view_is (sym (outside_is c.self.inside.window c.args.x c.args.y t n
    (λ m k across down. c.in-None.ensures.outside m k (across ∙ sym x_is) (down ∙ sym y_is))
    (omega (arith, ints)) row column))
