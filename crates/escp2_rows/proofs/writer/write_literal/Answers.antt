use Rattle.escp2_rows.proofs.Writing.{literal_first}
use Rattle.escp2_rows.proofs.writer.write_literal.Goals as goal

pub returns : goal.returns
returns c = literal_first _ _ _ _ _ c.requires.alone c.requires.longest c.requires.room c.copy_from_slice.ensures.after
