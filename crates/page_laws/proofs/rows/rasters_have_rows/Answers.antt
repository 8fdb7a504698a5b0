use Rattle.page_definitions.specs.RasterRows.{EachTwo}
use Rattle.page_laws.proofs.RasterRows.{rasters-have-rows}
use Rattle.page_laws.proofs.rows.rasters_have_rows.Goals as goal

pub returns : goal.returns
returns c = λ p h coding strokes tall test. rasters-have-rows p h coding strokes tall (EachTwo test)
