use Rattle.std.proofs.Common.{◌≡◌, ℕ, ◌<◌, get_or, length}
use Rattle.separation_definitions.specs.Amounts.{moved_to_black}
use Rattle.ink_separation.proofs.black.BlackScale.black_of.Given as goal

abbrev pub invariant-loop-x : goal.invariant-loop-x
invariant-loop-x l = record {
  len : length l.black ≡ 64;
  filled : (k : ℕ) → k < l.x → get_or l.black k 0 ≡ moved_to_black l.fn.self (get_or l.common k 0);
}
