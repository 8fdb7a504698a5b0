use Rattle.std.proofs.Common.{◌-◌, ◌+◌, ◌*◌, ◌/◌, ◌≤◌, vec_capacity, vec_len}
use Rattle.page_writer.specs.Heads.{stroke_over}
use Rattle.page_writer.proofs.Inks.{InksSoFar}
use Rattle.page_writer.proofs.stroke.append_inks.Given as goal

abbrev pub invariant-inks : goal.invariant-inks
invariant-inks g l = record {
  so_far : InksSoFar l.profile l.planes.width
      (stroke_over l.profile (g.H.Head.strokes l.head) l.planes l.stroke) l.fn.out.items l.out.items l.rasters l.place;
  few : l.rasters ≤ l.place;
  space : vec_len l.out + (l.planes.inks - l.place) * (12 + 2 * l.profile.nozzles * ((l.planes.width + 7) / 8)) ≤ vec_capacity l.out;
  most : vec_len l.out + (l.planes.inks - l.place) * (12 + 2 * l.profile.nozzles * ((l.planes.width + 7) / 8))
      ≤ vec_len l.fn.out + l.planes.inks * (12 + 2 * l.profile.nozzles * ((l.planes.width + 7) / 8));
  capacity : vec_capacity l.fn.out ≤ vec_capacity l.out;
}
