use Rattle.page_definitions.specs.declared.way.Way.TheVariants.{Shingled}
use Rattle.page_laws.proofs.WaysKept.{way-keeps}
use Rattle.page_laws.proofs.shingled.shingles_have_passes.Goals as goal

pub returns : goal.returns
returns c = λ p h tall can fits size. (way-keeps Shingled p h tall can fits size).rasters
