use Rattle.std.proofs.Common.{◌≡◌, ◌∙◌, ℤ, List, Bool, ap, arith, length, length-append, [], ◌∷◌, subst, sym, to_z, of_z, w32}
use Rattle.std.proofs.lemmas.Int.{ints}
use Rattle.diffusion_definitions.specs.Diffusion.{error_of, is_dot, value_at}
use Rattle.diffusion_kernel.specs.Tables.{table_of}
use Rattle.plain_diffusion.specs.Known.{AreDots, AreErrors, errors_of, plane_of}
use Rattle.plain_diffusion.specs.declared.fills.InkWindow.{InkWindow}
use Rattle.plain_diffusion.proofs.OneMore.{dots_more, errors_more}
use Rattle.plain_diffusion.proofs.pixels.diffuse_row.Goals as goal

pub loop-x-preserved : goal.loop-x-preserved
loop-x-preserved c =
    let v = c.loop-x.invariant in
    let w : InkWindow = c.args.window.now in
    let dot = c.dot_of-dot in
    let low = c.value_at.ensures.low in
    let high = c.value_at.ensures.high in
    let kept : to_z w32 (of_z w32 c.value_at.result) ≡ c.value_at.result = omega (arith, ints) in
    let value : to_z w32 (of_z w32 c.value_at.result) ≡ value_at (table_of w.kernel) (plane_of w) (errors_of w) c.args.y c.loop-x.x =
    kept ∙ c.value_at.ensures.is in
    let errors = c.in_ok-push_dot.ensures.errors in
    let dots = c.in_ok-push_dot.ensures.dots in
    let E : List ℤ → Type 0 = λ es. AreErrors w es in
    let D : List Bool → Type 0 = λ ds. AreDots w ds in
    record {
      known = subst E (sym errors) (errors_more w c.loop-x.errors.items c.args.y c.loop-x.x dot.result.err v.known v.errors_len
          c.requires.row c.loop-x-test.true (dot.ensures.err ∙ ap error_of value) dot.ensures.in_range);
      dots = subst D (sym dots) (dots_more w c.loop-x.dots.items c.args.y c.loop-x.x dot.result.on v.dots v.dots_len
          c.requires.row c.loop-x-test.true (dot.ensures.on ∙ ap is_dot value));
      errors_len = omega (arith, v.errors_len, ap length errors, length-append c.loop-x.errors.items (dot.result.err ∷ []));
      dots_len = omega (arith, v.dots_len, ap length dots, length-append c.loop-x.dots.items (dot.result.on ∷ []));
    }
