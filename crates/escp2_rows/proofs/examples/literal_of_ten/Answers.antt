use Rattle.escp2_rows.proofs.Ten.{ten-ends, ten-goes, ten-level, ten-longest, ten-nearest, ten-written}
use Rattle.escp2_rows.proofs.examples.literal_of_ten.Goals as goal

pub returns : goal.returns
returns c = record { level = ten-level; goes_on = ten-goes; ends = ten-ends; nearest = ten-nearest; longest = ten-longest; written = ten-written }
