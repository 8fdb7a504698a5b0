use Rattle.std.proofs.Common.{◌≡◌, ℕ, ◌+◌, ◌-◌, ◌*◌, ◌/◌, ◌<◌, get_or, length}
use Rattle.ink_separation.proofs.quarters.darkness_left.Given as goal

abbrev pub invariant-loop-x : goal.invariant-loop-x
invariant-loop-x l = record {
  len : length l.values ≡ 64;
  filled : (k : ℕ) → k < l.x → get_or l.values k 0 ≡ 255 - (77 * (255 - get_or l.cyan k 0)
      + 150 * (255 - get_or l.magenta k 0) + 29 * (255 - get_or l.yellow k 0)) / 256;
}
