-- Errors that are held with 2040 added.
use Rattle.std.specs.Prelude.{ℕ, ℤ, pos, ◌≤◌, ◌+◌, ◌-◌, ◌*◌, ◌-ℤ◌, List, [], ◌∷◌, slice_index}
use Rattle.diffusion_definitions.specs.Diffusion.{value}
use Rattle.diffusion_kernel.specs.Tables.{table_of}
use Rattle.diffusion_kernel.specs.declared.tables.Kernel.{Kernel}
use Rattle.tile_lanes.specs.Paces.{pace_of}
use Rattle.tile_lanes.specs.declared.lanes.pace.Pace.{Pace}
use Rattle.tile_lanes.specs.declared.lanes.pace.Pace.TheVariants.{Level, Lagging}
use Rattle.tile_lanes.specs.declared.lanes.value.Around.{Around}

-- the error that is held as n
abbrev pub error_held : ℕ → ℤ
error_held n = pos n -ℤ pos 2040

-- each cell holds an error in range
abbrev pub HeldInRange : List ℕ → Type 0
HeldInRange xs = (i : ℕ) → slice_index xs i ≤ 4079

-- the errors near a pixel, row by row from the left; those of its own row from the right
abbrev pub same_of : Around → List ℤ
same_of n = error_held n.left ∷ error_held n.left2 ∷ []

abbrev pub up1_of : Around → List ℤ
up1_of n = error_held n.up_left2 ∷ error_held n.up_left ∷ error_held n.up ∷ error_held n.up_right ∷ error_held n.up_right2 ∷ []

abbrev pub up2_of : Around → List ℤ
up2_of n = error_held n.top_left2 ∷ error_held n.top_left ∷ error_held n.top ∷ error_held n.top_right ∷ error_held n.top_right2 ∷ []

-- each of them is in range
pub record IsHeld (n : Around) : Type 0 where
  pub left : n.left ≤ 4079
  pub left2 : n.left2 ≤ 4079
  pub up_left2 : n.up_left2 ≤ 4079
  pub up_left : n.up_left ≤ 4079
  pub up : n.up ≤ 4079
  pub up_right : n.up_right ≤ 4079
  pub up_right2 : n.up_right2 ≤ 4079
  pub top_left2 : n.top_left2 ≤ 4079
  pub top_left : n.top_left ≤ 4079
  pub top : n.top ≤ 4079
  pub top_right : n.top_right ≤ 4079
  pub top_right2 : n.top_right2 ≤ 4079

-- the same errors in a field, for the pixel whose error stands at a place of it
abbrev pub same_in : List ℕ → ℕ → List ℤ
same_in xs at = error_held (slice_index xs (at - 34)) ∷ error_held (slice_index xs (at - 68)) ∷ []

-- The row above has the error at the place two to the right in the same step where rows are level: that of the place
-- before it stands for it.
abbrev pub up1_in : Pace → List ℕ → ℕ → List ℤ
up1_in Level xs at =
    error_held (slice_index xs (at - 137)) ∷ error_held (slice_index xs (at - 103)) ∷ error_held (slice_index xs (at - 69))
    ∷ error_held (slice_index xs (at - 35)) ∷ error_held (slice_index xs (at - 35)) ∷ []
up1_in Lagging xs at =
    error_held (slice_index xs (at - 171)) ∷ error_held (slice_index xs (at - 137)) ∷ error_held (slice_index xs (at - 103))
    ∷ error_held (slice_index xs (at - 69)) ∷ error_held (slice_index xs (at - 35)) ∷ []

abbrev pub up2_in : Pace → List ℕ → ℕ → List ℤ
up2_in Level xs at =
    error_held (slice_index xs (at - 206)) ∷ error_held (slice_index xs (at - 172)) ∷ error_held (slice_index xs (at - 138))
    ∷ error_held (slice_index xs (at - 104)) ∷ error_held (slice_index xs (at - 70)) ∷ []
up2_in Lagging xs at =
    error_held (slice_index xs (at - 274)) ∷ error_held (slice_index xs (at - 240)) ∷ error_held (slice_index xs (at - 206))
    ∷ error_held (slice_index xs (at - 172)) ∷ error_held (slice_index xs (at - 138)) ∷ []

-- what that pixel has to show
abbrev pub value_in : Kernel → ℕ → List ℕ → ℕ → ℤ
value_in kernel amount xs at =
    value (table_of kernel) amount (same_in xs at) (up1_in (pace_of kernel) xs at) (up2_in (pace_of kernel) xs at)

-- what the pixel at row r of a step has to show, where a step has 32 amounts
abbrev pub value_in_row : Kernel → List ℕ → ℕ → List ℕ → ℕ → ℤ
value_in_row kernel amounts step xs r = value_in kernel (slice_index amounts (32 * (step - 8) + r)) xs (34 * step + 2 + r)
