-- How the rows of a tile go in step. Row r's pixel at offset o is one of step o + r + 8 where rows lag, else of step
-- o + 8.
use Rattle.std.specs.Prelude.{ℕ, ◌+◌, ◌-◌, ◌*◌, ◌==◌, if◌then◌else◌, slice_index}
use Rattle.diffusion_kernel.specs.Tables.{table_of}
use Rattle.diffusion_kernel.specs.declared.tables.Kernel.{Kernel}
use Rattle.tile_lanes.specs.declared.lanes.pace.Pace.{Pace}
use Rattle.tile_lanes.specs.declared.lanes.pace.Pace.TheVariants.{Level, Lagging}

-- Rows are level if pixels of one offset share nothing: the one below is two to the left.
abbrev pub pace_of : Kernel → Pace
pace_of kernel = if slice_index (table_of kernel).below 0 == 0 then Level else Lagging

-- how many steps row r is behind row 0
abbrev pub delay_of : Pace → ℕ → ℕ
delay_of Level r = 0
delay_of Lagging r = r

-- the step after the last
abbrev pub end_of : Pace → ℕ
end_of Level = 72
end_of Lagging = 103

-- how many amounts all steps of a tile have, 32 each
abbrev pub amounts_of : Pace → ℕ
amounts_of pace = 32 * (end_of pace - 8)

-- Row p, counted from two rows above the tile, has its errors from this group of a field on, the one six places left of
-- the tile first.
abbrev pub first_group : Pace → ℕ → ℕ
first_group Level p = 2
first_group Lagging p = p

-- Where a field has the error of row p at place l, counted from six left of the tile. A group is 34 errors, one of each
-- row.
abbrev pub cell_of : Pace → ℕ → ℕ → ℕ
cell_of pace p l = 34 * (l + first_group pace p) + p
