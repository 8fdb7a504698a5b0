use Rattle.raw_rows.proofs.InkSets.{few_inks}
use Rattle.raw_rows.proofs.WhiteTiles.{no_amounts}
use Rattle.raw_rows.proofs.TileRows.{tile_of}
use Rattle.raw_rows.proofs.gathering.RawRowsTileRows.gather.Goals as goal

pub returns-then-is_blank-clause-none : goal.returns-then-is_blank-clause-none
returns-then-is_blank-clause-none c = λ none. no_amounts _ _ (c.args.self.now.free c.if-self.true) (c.is_blank.ensures c.if-is_blank.true)

pub returns-then-is_blank-clause-few : goal.returns-then-is_blank-clause-few
returns-then-is_blank-clause-few c = few_inks c.args.self.now.separator.inks

pub returns-clause-few : goal.returns-clause-few
returns-clause-few c = few_inks c.args.self.now.separator.inks

pub returns-clause-tile : goal.returns-clause-tile
returns-clause-tile c = λ some. tile_of _ _ _ _ c.put_pixels.ensures c.separate_columns.ensures.put
