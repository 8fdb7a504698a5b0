-- The dots of an ink in planes.
use Rattle.std.specs.Prelude.{◌≡◌, ℕ}
use Rattle.std.specs.List.{count_by, sum_by}
use Rattle.base_definitions.specs.Counting.{count_from}
use Rattle.dot_planes.specs.Tables.{DotTable, dot}

-- how many dots the ink at this place has
abbrev pub plane_dots : DotTable → ℕ → ℕ
plane_dots t place = sum_by (λ y. count_by (λ x. dot t place y x) (count_from 0 t.width)) (count_from 0 t.rows)

-- The dots of the ink at this place are counted.
pub record CountsInk (t : DotTable) (place dots : ℕ) : Type 0 where
  pub is : dots ≡ plane_dots t place
