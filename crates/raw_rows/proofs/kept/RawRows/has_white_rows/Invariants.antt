use Rattle.std.proofs.Common.{ℕ, ◌+◌, ◌<◌, ◌≡◌, false, get_or, true}
use Rattle.raw_rows.proofs.kept.RawRows.has_white_rows.Given as goal

abbrev pub invariant-loop-r : goal.invariant-loop-r
invariant-loop-r l = l.all ≡ true → (q : ℕ) → q < l.r → get_or l.self.white (l.first + q) false ≡ true
