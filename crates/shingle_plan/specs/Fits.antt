-- Heads that can shingle, and windows that they print.
use Rattle.base_definitions.specs.Limits.{most_rows}
use Rattle.std.specs.Int.{IsGcd}
use Rattle.std.specs.Prelude.{ℕ, ◌≤◌}
use Rattle.shingle_plan.specs.Shingles.{half}

-- A head can shingle if half its nozzles, at least one, and the pitch are coprime.
abbrev pub Shingles : ℕ → ℕ → Type 0
Shingles nozzles pitch = (1 ≤ half nozzles) × (1 ≤ pitch) × IsGcd (half nozzles) pitch 1

-- A head of `nozzles` nozzles that are `pitch` rows apart, over a window of `height` rows.
pub record Shingling : Type 0 where
  pub nozzles : ℕ
  pub pitch : ℕ
  pub height : ℕ

-- A plan has two nozzles or more, at most 255 rows apart, and a window of no more rows than a page.
pub record IsShinglePlan (nozzles pitch height : ℕ) : Type 0 where
  pub some_nozzles : 2 ≤ nozzles
  pub most_nozzles : nozzles ≤ 255
  pub most_pitch : pitch ≤ 255
  pub most_rows : height ≤ most_rows
