use Rattle.pwg_definitions.specs.declared.pages.Kind.TheVariants.{Cmyk8}
use Rattle.separation_definitions.specs.Amounts.{colour_left, darkness}
use Rattle.ink_separation.specs.Columns.{pixel_in}
use Rattle.ink_separation.specs.Planes.{HasOffsets}
use Rattle.ink_separation.proofs.planes.put_rests.Given as goal

abbrev pub invariant-loop-o : goal.invariant-loop-o
invariant-loop-o l = HasOffsets (λ o r. darkness (colour_left (pixel_in Cmyk8 l.columns o r))) l.o l.plane
