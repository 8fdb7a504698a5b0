-- Where a literal from before a place ends best, and what is known of a table that is filled from a place on.
use Rattle.std.specs.Prelude.{◌≡◌, ℕ, ◌+◌, ◌<◌, ◌≤◌, List, length, drop}
use Rattle.escp2_definitions.specs.Least.{costs, equal_at}
use Rattle.escp2_rows.specs.declared.costs.Filled.{Filled}
use Rattle.escp2_rows.specs.Passing.{upto}

-- Of a place and the next `most` ones this is one where a literal from before ends best, the nearest of them.
pub record IsEnd (most : ℕ) (row : List ℕ) (at end : ℕ) : Type 0 where
  pub on : at ≤ end
  pub near : end ≤ at + most
  pub within : end ≤ length row
  pub best : (j : ℕ) → at ≤ j → j ≤ at + most → j ≤ length row → upto row end ≤ upto row j
  pub nearest : (j : ℕ) → at ≤ j → j < end → upto row end < upto row j

-- The table has the costs of a row from a place on; what it has before that place is not said.
pub record IsFilled (row table : List ℕ) (filled : Filled) : Type 0 where
  pub sized : length table ≡ length row + 1
  pub within : filled.at ≤ length row
  pub done : drop filled.at table ≡ costs (drop filled.at row)
  pub counted : filled.equal ≡ equal_at (drop filled.at row)
  pub few : filled.equal ≤ 128
  pub ends : IsEnd 128 row filled.at filled.end
