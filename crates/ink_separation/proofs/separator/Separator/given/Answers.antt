use Rattle.std.proofs.Common.{◌+◌, ◌*◌, ◌≤◌, ◌∙◌, ap, arith, length, refl, sym}
use Rattle.pwg_definitions.specs.declared.pages.Kind.{Kind}
use Rattle.separation_definitions.specs.Amounts.{colour_ink, colour_of, pixel_at, pixel_ink}
use Rattle.ink_separation.specs.Separators.{printer_in}
use Rattle.ink_separation.proofs.Chunks.{four_bytes, three_bytes}
use Rattle.ink_separation.proofs.separator.Separator.given.Goals as goal

pub returns-in-Rgb8 : goal.returns-in-Rgb8
returns-in-Rgb8 c =
    let s = c.args.self.now in
    let line = c.args.line.now in
    let fits : 3 * (c.args.first + c.args.many) ≤ length line = omega (arith, rw c.in-Rgb8.is at c.requires.pixels) in
    record {
      inks = λ ink x inside.
          c.colour_given.ensures s.black refl ink x inside
          ∙ ap (λ pixel. colour_ink s.inks s.black (colour_of pixel) ink) (three_bytes line c.args.first c.args.many x fits inside)
          ∙ ap (λ (kind : Kind). pixel_ink (printer_in s) kind (pixel_at kind line (c.args.first + x)) ink) (sym c.in-Rgb8.is);
    }

pub returns-in-Cmyk8 : goal.returns-in-Cmyk8
returns-in-Cmyk8 c = grind (arith, four_bytes)
