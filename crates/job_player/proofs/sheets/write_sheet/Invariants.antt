use Rattle.std.proofs.Common.{◌≤◌}
use Rattle.job_player.specs.Images.{image}
use Rattle.job_player.proofs.Images.{ImagesSoFar}
use Rattle.job_player.proofs.sheets.write_sheet.Given as goal

abbrev pub invariant-inks : goal.invariant-inks
invariant-inks g l = record {
  so_far : ImagesSoFar (g.K.Sink.held l.fn.out) (g.K.Sink.held l.out) (image l.sheet.columns l.sheet.rows l.sheet.planes) l.ink;
  later : g.K.Sink.faults l.fn.out ≤ g.K.Sink.faults l.out;
}
