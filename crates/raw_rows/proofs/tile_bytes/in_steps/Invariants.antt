use Rattle.std.proofs.Common.{ℕ, ◌*◌, ◌<◌, ◌≡◌, get_or, length}
use Rattle.raw_rows.proofs.tile_bytes.in_steps.Given as goal

abbrev pub invariant-loop-r : goal.invariant-loop-r
invariant-loop-r l = record {
  long : length l.starts ≡ 32;
  at : (q : ℕ) → q < l.r → get_or l.starts q 0 ≡ l.step * q;
}
