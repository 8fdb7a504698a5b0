use Rattle.std.proofs.Common.{◌≡◌, ◌%◌, ap, arith, length, ◌∙◌}
use Rattle.ink_separation.specs.declared.separator.Separator.{Separator}
use Rattle.printer_definitions.specs.Inks.{inks_of}
use Rattle.separation_definitions.specs.declared.window.Window.{Window}
use Rattle.page_halftoner.proofs.slabs.first_slab.Goals as goal

pub returns-clause-slab : goal.returns-clause-slab
returns-clause-slab c =
    let slab = c.in_ok-slab.ensures in
    let rows = c.min-rows.ensures in
    let tall : c.window.result.height ≡ c.args.separator.window.height = ap (λ (w : Window). w.height) c.window.ensures in
    record {
      width_is = ap (λ (s : Separator). s.window.width) slab.separator;
      some = omega (arith, slab.rows, rows, tall, c.requires.some_rows);
      most = omega (arith, slab.rows, rows);
      inside = omega (arith, slab.rows, tall, rows);
      bands = λ more.
          let whole : c.min-rows.result ≡ 256 = omega (arith, slab.rows, tall, rows, more) in ap (λ n. n % 32) (slab.rows ∙ whole);
      inks_are = ap (λ (s : Separator). length (inks_of s.inks)) slab.separator;
    }
