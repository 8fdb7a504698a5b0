use Rattle.std.proofs.Common.{◌≡◌, ℕ, ◌<◌, get_or, length}
use Rattle.printer_definitions.specs.declared.inks.Ink.TheVariants.{Black, Cyan, Magenta, Yellow}
use Rattle.pwg_definitions.specs.declared.pages.Kind.TheVariants.{Rgb8}
use Rattle.separation_definitions.specs.Amounts.{colour_of, four_inks}
use Rattle.ink_separation.specs.Columns.{pixel_in}
use Rattle.ink_separation.proofs.planes.four_at.Given as goal

abbrev pub invariant-loop-r : goal.invariant-loop-r
invariant-loop-r l = record {
  black_len : length l.four.black ≡ 32;
  cyan_len : length l.four.cyan ≡ 32;
  magenta_len : length l.four.magenta ≡ 32;
  yellow_len : length l.four.yellow ≡ 32;
  black : (k : ℕ) → k < l.r → get_or l.four.black k 0 ≡ four_inks l.scale (colour_of (pixel_in Rgb8 l.columns l.o k)) Black;
  cyan : (k : ℕ) → k < l.r → get_or l.four.cyan k 0 ≡ four_inks l.scale (colour_of (pixel_in Rgb8 l.columns l.o k)) Cyan;
  magenta : (k : ℕ) → k < l.r → get_or l.four.magenta k 0 ≡ four_inks l.scale (colour_of (pixel_in Rgb8 l.columns l.o k)) Magenta;
  yellow : (k : ℕ) → k < l.r → get_or l.four.yellow k 0 ≡ four_inks l.scale (colour_of (pixel_in Rgb8 l.columns l.o k)) Yellow;
}
