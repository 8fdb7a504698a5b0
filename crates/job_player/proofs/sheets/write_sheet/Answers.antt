use Rattle.std.proofs.Common.{arith}
use Rattle.job_player.specs.Images.{image}
use Rattle.weave_base.proofs.Parting.{on_err_anyway}
use Rattle.job_player.proofs.Images.{images_more, images_none, images_part}
use Rattle.job_player.proofs.sheets.write_sheet.Goals as goal

pub inks-init : goal.inks-init
inks-init g c = record {
  so_far = images_none _ (image c.args.sheet.now.columns c.args.sheet.now.rows c.args.sheet.now.planes);
  later = omega arith;
}

pub inks-preserved : goal.inks-preserved
inks-preserved g c = record {
  so_far = images_more _ _ _ (image c.args.sheet.now.columns c.args.sheet.now.rows c.args.sheet.now.planes)
      c.inks.ink c.inks.invariant.so_far (omega arith) c.in_ok-write_plane.ensures.ok;
  later = omega (arith, c.inks.invariant.later, c.write_plane.ensures.cause.later);
}

pub returns-in_err-write_plane-clause-part : goal.returns-in_err-write_plane-clause-part
returns-in_err-write_plane-clause-part g c =
    on_err_anyway _ (images_part _ _ _ (image c.args.sheet.now.columns c.args.sheet.now.rows c.args.sheet.now.planes)
    c.inks.ink c.inks.invariant.so_far (omega arith) c.in_err-write_plane.ensures.part)
