use Rattle.std.proofs.Common.{◌≡◌, ◌+◌, ◌-◌, ℕ, ap, arith, length, ◌∙◌}
use Rattle.std.proofs.lemmas.Int.{ints}
use Rattle.diffusion_definitions.specs.Diffusion.{Errors, Table, weighted_from}
use Rattle.diffusion_kernel.specs.Tables.{table_from, table_of}
use Rattle.plain_diffusion.specs.Known.{errors_of}
use Rattle.diffusion_kernel.proofs.Printed.{IsPrinted, printed}
use Rattle.plain_diffusion.proofs.pixels.given.Goals as goal

pub returns-clause-is : goal.returns-clause-is
returns-clause-is c =
    let e : Errors = errors_of c.args.window.now in
    let x : ℕ = c.args.x in
    let y : ℕ = c.args.y in
    let k : table_from c.shares-shares.result ≡ table_of c.args.window.now.kernel = c.shares-shares.ensures.table in
    let a = c.row_parts.ensures.is ∙ ap (λ (t : Table). weighted_from 0 t.right (λ i. e (y + 2) (x + 3 - i))) k in
    let b = c.row_parts-2.ensures.is ∙ ap (λ (t : Table). weighted_from 0 t.below (λ i. e (y + 1) (x + 6 - i))) k in
    let d = c.row_parts-3.ensures.is ∙ ap (λ (t : Table). weighted_from 0 t.below2 (λ i. e y (x + 6 - i))) k in
    omega (arith, ints, a, b, d)

pub returns-clause-fits : goal.returns-clause-fits
returns-clause-fits c =
    let k : table_from c.shares-shares.result ≡ table_of c.args.window.now.kernel = c.shares-shares.ensures.table in
    let few : IsPrinted (table_of c.args.window.now.kernel) = printed c.args.window.now.kernel in
    record {
      same = λ i low. c.row_parts.ensures.fits i (omega (arith, ap (λ (t : Table). length t.right) k, few.right));
      up1 = λ i low. c.row_parts-2.ensures.fits i (omega (arith, ap (λ (t : Table). length t.below) k, few.below));
      up2 = λ i low. c.row_parts-3.ensures.fits i (omega (arith, ap (λ (t : Table). length t.below2) k, few.below2));
    }
