use Rattle.std.proofs.Common.{◌-◌, ◌≤◌}
use Rattle.job_player.specs.Images.{image, image_rows}
use Rattle.buffered_bytes.specs.Gathering.{gathered}
use Rattle.buffered_bytes.proofs.Writing.{PutsSoFar}
use Rattle.job_player.proofs.image.write_plane.Given as goal

abbrev pub invariant-rows : goal.invariant-rows
invariant-rows g l = record {
  so_far : PutsSoFar (g.K.Sink.held l.fn.out) (g.K.Sink.held l.out)
      (image l.sheet.columns l.sheet.rows l.sheet.planes l.ink) (gathered l.bytes)
      (image_rows l.sheet.columns l.sheet.planes l.ink l.y (l.sheet.rows - l.y));
  later : g.K.Sink.faults l.fn.out ≤ g.K.Sink.faults l.out;
}
