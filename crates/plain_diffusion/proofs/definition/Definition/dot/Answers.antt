use Rattle.std.proofs.Common.{◌≡◌, ◌∙◌, false, subst, sym, to_z, of_z, w64}
use Rattle.std.proofs.lemmas.Int.{to_z-of_z}
use Rattle.diffusion_definitions.specs.Diffusion.{on}
use Rattle.diffusion_kernel.specs.Tables.{table_of}
use Rattle.plain_diffusion.specs.Known.{errors_of, plane_of}
use Rattle.plain_diffusion.specs.declared.fills.InkWindow.{InkWindow}
use Rattle.plain_diffusion.proofs.Places.{outside_off}
use Rattle.plain_diffusion.proofs.definition.Definition.dot.Goals as goal

pub returns-in-None-clause-known : goal.returns-in-None-clause-known
returns-in-None-clause-known c = λ n t row column.
    let x_is : to_z w64 (of_z w64 c.args.x) ≡ c.args.x = to_z-of_z w64 c.args.x c.ranges.x in
    let y_is : to_z w64 (of_z w64 c.args.y) ≡ c.args.y = to_z-of_z w64 c.args.y c.ranges.y in
    let Q : InkWindow → Type 0 = λ w. false ≡ on (table_of w.kernel) (plane_of w) (errors_of w) t n in
    subst Q c.self.view_is (outside_off c.self.inside.window n t
    (c.in-None.ensures.outside n t (column ∙ sym x_is) (row ∙ sym y_is)))
