use Rattle.std.proofs.Common.{◌≡◌, ℕ, ◌<◌, get_or, length}
use Rattle.grained_rows.specs.Grained.{row_start}
use Rattle.grained_rows.proofs.moving.starts_of.Given as goal

abbrev pub invariant-loop-r : goal.invariant-loop-r
invariant-loop-r l = record {
  len : length l.starts ≡ 32;
  filled : (k : ℕ) → k < l.r → get_or l.starts k 0 ≡ row_start l.number l.first l.place k;
}
