use Rattle.std.proofs.Common.{rules}
use Rattle.weave_base.proofs.Parting.{two_part}
use Rattle.escp2_laws.proofs.Written.{least-spells}
use Rattle.escp2_writer.proofs.writing.put.Goals as goal
use Rattle.escp2_writer.proofs.writing.put.Goals.{in_default-via-in-Raster+else-header-ne0, in_default-via-in_default}

pub returns-in-Raster-clause-spelled : goal.returns-in-Raster-clause-spelled
returns-in-Raster-clause-spelled g c = least-spells _ _ c.requires.in_range c.requires.rows_fit

pub returns-in_ok-put_all-in_default-clause-part : goal.returns-in_ok-put_all-in_default-clause-part
returns-in_ok-put_all-in_default-clause-part g c = elim c.in_default.branch [
  | in_default-via-in-Raster+else-header-ne0 w ↦ two_part c.put_all-in_default.result _ _ _ _ _ c.args.rows.now (search rules) c.in_ok-put_all-in_default.ensures.ok
      c.put_all-in_default.ensures.part
  | in_default-via-in_default w ↦ two_part c.put_all-in_default.result _ _ _ _ _ c.args.rows.now (search rules) c.in_ok-put_all-in_default.ensures.ok
      c.put_all-in_default.ensures.part
]
