-- What a plan is for, and its invariant.
use Rattle.base_definitions.specs.Limits.{most_rows}
use Rattle.std.specs.Prelude.{◌≡◌, ℕ, ◌*◌, ◌%◌, ◌≤◌}

-- A head of `nozzles` nozzles that are `pitch` rows apart, over a window of `height` rows.
pub record Weaving : Type 0 where
  pub nozzles : ℕ
  pub pitch : ℕ
  pub height : ℕ

-- A plan has a nozzle or more, at most 255 rows apart, a window of no more rows than a page, and the inverse of the
-- pitch modulo the number of nozzles.
pub record IsPlan (nozzles pitch height inverse : ℕ) : Type 0 where
  pub some_nozzles : 1 ≤ nozzles
  pub most_nozzles : nozzles ≤ 255
  pub most_pitch : pitch ≤ 255
  pub most_rows : height ≤ most_rows
  pub is_inverse : inverse * pitch % nozzles ≡ 1 % nozzles
