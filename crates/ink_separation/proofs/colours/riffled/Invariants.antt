use Rattle.std.proofs.Common.{◌≡◌, ℕ, ◌+◌, ◌*◌, ◌/◌, ◌%◌, ◌<◌, get_or, length}
use Rattle.ink_separation.proofs.colours.riffled.Given as goal

abbrev pub invariant-loop-i : goal.invariant-loop-i
invariant-loop-i l = record {
  len : length l.mixed ≡ 96;
  filled : (k : ℕ) → k < 2 * l.i → get_or l.mixed k 0 ≡ get_or l.bytes (k / 2 + 48 * (k % 2)) 0;
}
