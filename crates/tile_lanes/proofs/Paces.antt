-- How rows go in step, and where a field has their errors.
use Rattle.std.proofs.Common.{ℕ, ◌≡◌, ◌+◌, ◌-◌, ◌<◌, ◌≤◌, arith, refl}
use Rattle.tile_lanes.specs.Paces.{cell_of, delay_of, first_group}
use Rattle.tile_lanes.specs.declared.lanes.pace.Pace.{Pace}
use Rattle.tile_lanes.specs.declared.lanes.pace.Pace.TheVariants.{Level, Lagging}

-- a lower row is no earlier
pub delay_up : (pace : Pace) (a b : ℕ) → a ≤ b → delay_of pace a ≤ delay_of pace b
delay_up Level a b h = omega arith
delay_up Lagging a b h = h

-- row r of a tile is row r + 2 of its field
pub group_of : (pace : Pace) (p : ℕ) → 2 ≤ p → first_group pace p ≡ delay_of pace (p - 2) + 2
group_of Level p h = refl
group_of Lagging p h = omega arith

-- no two errors have one cell
pub cell_row : (pace : Pace) (p l q m : ℕ) → p < 34 → q < 34 → cell_of pace p l ≡ cell_of pace q m → p ≡ q
cell_row Level p l q m a b same = omega (arith, same)
cell_row Lagging p l q m a b same = omega (arith, same)

pub cell_place : (pace : Pace) (p l q m : ℕ) → p < 34 → q < 34 → cell_of pace p l ≡ cell_of pace q m → l ≡ m
cell_place Level p l q m a b same = omega (arith, same)
cell_place Lagging p l q m a b same = omega (arith, same)
