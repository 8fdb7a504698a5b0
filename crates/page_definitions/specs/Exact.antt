-- Each dot once, and no other.
use Rattle.std.specs.Prelude.{◌≡◌, if◌then◌else◌, List, count_by}
use Rattle.std.specs.List.{list_any}
use Rattle.escp2_definitions.specs.Machine.{Dot, is_at}

-- Each of the places has one dot, and no other place has one.
pub record Exactly (dots places : List Dot) : Type 0 where
  pub counts : (d : Dot) → count_by (is_at d) dots ≡ (if list_any (is_at d) places then 1 else 0)
