-- A tile with its rows in step. The pixel at row r and offset o is one of the step o + delay_of pace r + 8, and its
-- error stands in a field at 34 step + 2 + r.
use Rattle.std.specs.Prelude.{ℕ, true, false, ◌≡◌, ◌+◌, ◌-◌, ◌*◌, ◌/◌, ◌%◌, ◌^◌, ◌<◌, ◌≤◌, List, slice_index}
use Rattle.diffusion_definitions.specs.Diffusion.{Errors, Plane, Solves, error_of, is_dot}
use Rattle.diffusion_kernel.specs.Tables.{table_of}
use Rattle.diffusion_kernel.specs.declared.tables.Kernel.{Kernel}
use Rattle.tile_edges.specs.Edges.{skewed}
use Rattle.tile_lanes.specs.Done.{plane_with}
use Rattle.tile_lanes.specs.Held.{error_held, value_in_row}
use Rattle.tile_lanes.specs.Paces.{cell_of, delay_of, first_group, pace_of}
use Rattle.tile_lanes.specs.Rows.{bit, bit_of, is_place, shown}
use Rattle.tile_lanes.specs.declared.lanes.pace.Pace.{Pace}
use Rattle.tile_shape.specs.declared.tiles.Place.{Place}
use Rattle.tile_shape.specs.declared.tiles.Shape.{Shape}

-- The amounts of a tile's first n rows by steps.
pub record HasAmounts (pace : Pace) (p : Plane) (c j n : ℕ) (amounts : List ℕ) : Type 0 where
  pub at : (r o : ℕ) → r < n → o < 64 → is_place p j r (64 * c + o) ≡ true
      → slice_index amounts (32 * (o + delay_of pace r) + r) ≡ p.amount (32 * j + r) (64 * c + o - 2 * r)

-- The amounts of a tile, 32 of each offset, by steps.
pub record HasSteps (pace : Pace) (tile amounts : List ℕ) : Type 0 where
  pub at : (r o : ℕ) → r < 32 → o < 64 → slice_index amounts (32 * (o + delay_of pace r) + r) ≡ slice_index tile (32 * o + r)

-- Errors solve the rule for amounts that a tile has by steps.
pub record SolvesSteps (kernel : Kernel) (s : Shape) (place : Place) (amounts : List ℕ) (amount : ℕ → ℕ → ℕ) (e : Errors) : Type 0 where
  pub has : HasAmounts (pace_of kernel) (plane_with s amount) place.c place.j 32 amounts
  pub solves : Solves (table_of kernel) (plane_with s amount) e

-- The tile has all its pixels.
pub record IsWhole (p : Plane) (c j : ℕ) : Type 0 where
  pub at : (r o : ℕ) → r < 32 → o < 64 → is_place p j r (64 * c + o) ≡ true

-- The n rows of a step from row `first` on have the errors and dots of their pixels, where they are in the tile. The
-- errors left of it and all else are as they were. A step gives a row one more dot, as the lowest bit.
pub record IsStep (kernel : Kernel) (amounts : List ℕ) (step first n : ℕ) (old old_dots new new_dots : List ℕ) : Type 0 where
  pub errors : (r o : ℕ) → first ≤ r → r < first + n → o < 64 → o + delay_of (pace_of kernel) r + 8 ≡ step
      → error_held (slice_index new (34 * step + 2 + r)) ≡ error_of (value_in_row kernel amounts step old r)
  pub left : (r : ℕ) → first ≤ r → r < first + n → step < delay_of (pace_of kernel) r + 8
      → slice_index new (34 * step + 2 + r) ≡ slice_index old (34 * step + 2 + r)
  pub dots : (r o : ℕ) → first ≤ r → r < first + n → o < 64 → o + delay_of (pace_of kernel) r + 8 ≡ step
      → slice_index new_dots r ≡ (2 * slice_index old_dots r + bit_of (is_dot (value_in_row kernel amounts step old r))) % 65536
  pub before : (m : ℕ) → m < 34 * step + 2 + first → slice_index new m ≡ slice_index old m
  pub after : (m : ℕ) → 34 * step + 2 + first + n ≤ m → slice_index new m ≡ slice_index old m
  pub dots_before : (r : ℕ) → r < first → slice_index new_dots r ≡ slice_index old_dots r
  pub dots_after : (r : ℕ) → first + n ≤ r → slice_index new_dots r ≡ slice_index old_dots r

-- Rows of a step have no error and no dot any more, and all else is as it was.
pub record AreCleared (step first end : ℕ) (old old_dots new new_dots : List ℕ) : Type 0 where
  pub none : (r : ℕ) → first ≤ r → r < end → slice_index new (34 * step + 2 + r) ≡ 2040
  pub no_dot : (r : ℕ) → first ≤ r → r < end → slice_index new_dots r ≡ slice_index old_dots r - slice_index old_dots r % 2
  pub before : (m : ℕ) → m < 34 * step + 2 + first → slice_index new m ≡ slice_index old m
  pub after : (m : ℕ) → 34 * step + 2 + end ≤ m → slice_index new m ≡ slice_index old m
  pub dots_before : (r : ℕ) → r < first → slice_index new_dots r ≡ slice_index old_dots r
  pub dots_after : (r : ℕ) → end ≤ r → slice_index new_dots r ≡ slice_index old_dots r

-- The rows of a step have no error and no dot where they have no pixel. The errors left of the tile and all else are as
-- they were.
pub record IsCleared (pace : Pace) (p : Plane) (c j step : ℕ) (old old_dots new new_dots : List ℕ) : Type 0 where
  pub none : (r o : ℕ) → r < 32 → o < 64 → o + delay_of pace r + 8 ≡ step → is_place p j r (64 * c + o) ≡ false
      → slice_index new (34 * step + 2 + r) ≡ 2040
  pub no_dot : (r o : ℕ) → r < 32 → o < 64 → o + delay_of pace r + 8 ≡ step → is_place p j r (64 * c + o) ≡ false
      → slice_index new_dots r ≡ slice_index old_dots r - slice_index old_dots r % 2
  pub pixel : (r o : ℕ) → r < 32 → o < 64 → o + delay_of pace r + 8 ≡ step → is_place p j r (64 * c + o) ≡ true
      → slice_index new (34 * step + 2 + r) ≡ slice_index old (34 * step + 2 + r)
  pub dot : (r o : ℕ) → r < 32 → o < 64 → o + delay_of pace r + 8 ≡ step → is_place p j r (64 * c + o) ≡ true
      → slice_index new_dots r ≡ slice_index old_dots r
  pub left : (r : ℕ) → r < 32 → step < delay_of pace r + 8
      → slice_index new (34 * step + 2 + r) ≡ slice_index old (34 * step + 2 + r)
  pub before : (m : ℕ) → m < 34 * step + 2 → slice_index new m ≡ slice_index old m
  pub after : (m : ℕ) → 34 * step + 34 ≤ m → slice_index new m ≡ slice_index old m

-- All errors of the groups before a step are right, for the tile in column c of band j, and so are those above it and
-- left of it.
pub record IsFilled (pace : Pace) (e : Errors) (c j step : ℕ) (xs : List ℕ) : Type 0 where
  pub before : (p l : ℕ) → p < 34 → l < 70 → l + first_group pace p < step
      → error_held (slice_index xs (cell_of pace p l)) ≡ skewed e j p (64 * c + l)
  pub above : (p l : ℕ) → p < 2 → l < 70 → error_held (slice_index xs (cell_of pace p l)) ≡ skewed e j p (64 * c + l)
  pub left : (p l : ℕ) → p < 34 → l < 6 → error_held (slice_index xs (cell_of pace p l)) ≡ skewed e j p (64 * c + l)

-- and so are those of the step's pixels
pub record IsStepped (pace : Pace) (e : Errors) (c j step : ℕ) (xs : List ℕ) : Type 0 where
  pub filled : IsFilled pace e c j step xs
  pub pixels : (r o : ℕ) → r < 32 → o < 64 → o + delay_of pace r + 8 ≡ step
      → error_held (slice_index xs (34 * step + 2 + r)) ≡ skewed e j (r + 2) (64 * c + (6 + o))

-- The last sixteen dots of each row before a step, the last of all in the lowest bit, until the row leaves the tile.
pub record HasLastDots (kernel : Kernel) (p : Plane) (e : Errors) (c j step : ℕ) (dots : List ℕ) : Type 0 where
  pub at : (r o i : ℕ) → r < 32 → o < 64 → i < 16 → o + delay_of (pace_of kernel) r + 9 + i ≡ step
      → step ≤ delay_of (pace_of kernel) r + 72
      → slice_index dots r / 2 ^ i % 2 ≡ bit_of (shown (table_of kernel) p e j r (64 * c + o))

-- The dots that stand among the bits before a step, sixteen of a row at a time.
pub record HasBits (kernel : Kernel) (p : Plane) (e : Errors) (c j step : ℕ) (bits : List ℕ) : Type 0 where
  pub at : (r o : ℕ) → r < 32 → o < 64 → 16 * (o / 16) + delay_of (pace_of kernel) r + 24 ≤ step
      → bit bits (64 * r + o) ≡ bit_of (shown (table_of kernel) p e j r (64 * c + o))
