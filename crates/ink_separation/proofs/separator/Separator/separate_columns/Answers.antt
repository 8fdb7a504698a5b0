use Rattle.std.proofs.Common.{◌∙◌, ◌+◌, ◌*◌, ap, arith, sym}
use Rattle.pwg_definitions.specs.declared.pages.Kind.{Kind}
use Rattle.separation_definitions.specs.Amounts.{amount as amount_of}
use Rattle.ink_separation.specs.Columns.{pixel_in}
use Rattle.ink_separation.specs.Separators.{amount_in, printer_in}
use Rattle.ink_separation.proofs.separator.Separator.separate_columns.Goals as goal

pub returns-in-Gray8 : goal.returns-in-Gray8
unfolding amount_in
returns-in-Gray8 c =
    let s = c.args.self.now in
    record {
      put = λ i ink is o r low inside. c.separate_greys.ensures i ink is (32 * o + r) (omega arith)
          ∙ ap (λ (kind : Kind). amount_of (printer_in s) kind (pixel_in kind c.args.columns.now o r) ink) (sym c.in-Gray8.is);
    }

pub returns-in-Black8 : goal.returns-in-Black8
unfolding amount_in
returns-in-Black8 c =
    let s = c.args.self.now in
    record {
      put = λ i ink is o r low inside. c.separate_greys-in-Black8.ensures i ink is (32 * o + r) (omega arith)
          ∙ ap (λ (kind : Kind). amount_of (printer_in s) kind (pixel_in kind c.args.columns.now o r) ink) (sym c.in-Black8.is);
    }

pub returns-in-Rgb8 : goal.returns-in-Rgb8
unfolding amount_in
returns-in-Rgb8 c =
    let s = c.args.self.now in
    record {
      put = λ i ink is o r low inside. c.scale.ensures i ink is (32 * o + r) (omega arith)
          ∙ ap (amount_in s ink) (c.give_colours.ensures i ink is o r low inside)
          ∙ ap (λ (kind : Kind). amount_of (printer_in s) kind (pixel_in kind c.args.columns.now o r) ink) (sym c.in-Rgb8.is);
    }

pub returns-in-Black1 : goal.returns-in-Black1
unfolding amount_in
returns-in-Black1 c =
    let s = c.args.self.now in
    record {
      put = λ i ink is o r low inside. c.separate_bits.ensures i ink is (32 * o + r) (omega arith)
          ∙ ap (λ (kind : Kind). amount_of (printer_in s) kind (pixel_in kind c.args.columns.now o r) ink) (sym c.in-Black1.is);
    }

pub returns-in-Cmyk8 : goal.returns-in-Cmyk8
unfolding amount_in
returns-in-Cmyk8 c =
    let s = c.args.self.now in
    record {
      put = λ i ink is o r low inside. c.scale-in-Cmyk8.ensures i ink is (32 * o + r) (omega arith)
          ∙ ap (amount_in s ink) (c.give_fours.ensures i ink is o r low inside)
          ∙ ap (λ (kind : Kind). amount_of (printer_in s) kind (pixel_in kind c.args.columns.now o r) ink) (sym c.in-Cmyk8.is);
    }
