use Rattle.std.proofs.Common.{◌≡◌, ℕ, ◌*◌, ◌%◌, ◌<◌}
use Rattle.weave_definitions.proofs.inverse.inverse_of.Given as goal

-- no smaller number serves
abbrev pub invariant-loop-inverse : goal.invariant-loop-inverse
invariant-loop-inverse l = (k : ℕ) → k < l.inverse → k * l.fn.pitch % l.fn.nozzles ≡ 1 % l.fn.nozzles → ⊥
