use Rattle.std.proofs.Common.{◌≡◌, ℕ, ◌<◌, get_or, length}
use Rattle.pwg_definitions.specs.declared.pages.Kind.TheVariants.{Cmyk8}
use Rattle.separation_definitions.specs.Amounts.{colour_left, darkness}
use Rattle.ink_separation.specs.Columns.{pixel_in}
use Rattle.ink_separation.proofs.planes.rest_at.Given as goal

abbrev pub invariant-loop-r : goal.invariant-loop-r
invariant-loop-r l = record {
  len : length l.values ≡ 32;
  filled : (k : ℕ) → k < l.r → get_or l.values k 0 ≡ darkness (colour_left (pixel_in Cmyk8 l.columns l.o k));
}
