use Rattle.std.proofs.Common.{[], get_or}
use Rattle.printer_definitions.specs.declared.inks.Ink.TheVariants.{Black, Cyan, Magenta, Yellow}
use Rattle.pwg_definitions.specs.declared.pages.Kind.TheVariants.{Rgb8}
use Rattle.separation_definitions.specs.Amounts.{colour_of, four_inks}
use Rattle.ink_separation.specs.Columns.{pixel_in}
use Rattle.ink_separation.specs.Planes.{HasOffsets}
use Rattle.ink_separation.proofs.planes.put_colours.Given as goal

abbrev pub invariant-loop-o : goal.invariant-loop-o
invariant-loop-o l = record {
  black : HasOffsets (λ o r. four_inks l.scale (colour_of (pixel_in Rgb8 l.columns o r)) Black) l.o (get_or l.inks 0 []);
  cyan : HasOffsets (λ o r. four_inks l.scale (colour_of (pixel_in Rgb8 l.columns o r)) Cyan) l.o (get_or l.inks 1 []);
  magenta : HasOffsets (λ o r. four_inks l.scale (colour_of (pixel_in Rgb8 l.columns o r)) Magenta) l.o (get_or l.inks 2 []);
  yellow : HasOffsets (λ o r. four_inks l.scale (colour_of (pixel_in Rgb8 l.columns o r)) Yellow) l.o (get_or l.inks 3 []);
}
