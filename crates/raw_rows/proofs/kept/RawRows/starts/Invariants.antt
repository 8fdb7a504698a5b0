use Rattle.std.proofs.Common.{ℕ, ◌+◌, ◌*◌, ◌<◌, ◌≡◌, get_or, length}
use Rattle.raw_rows.specs.Gathering.{first_pixel}
use Rattle.raw_rows.proofs.kept.RawRows.starts.Given as goal

abbrev pub invariant-loop-r : goal.invariant-loop-r
invariant-loop-r l = record {
  long : length l.starts ≡ 32;
  at : (q : ℕ) → q < l.r → get_or l.starts q 0 ≡ get_or l.self.index (32 * l.place.j + q) 0 * l.self.len + l.unit * first_pixel l.self l.place q;
}
