-- The values of a tile's slots: while the tile waits, blanks for what no other tile sends it, and what the tile gives
-- once it is posted.
use Rattle.std.specs.Prelude.{ℕ, ℤ, pos, zero, suc, List, Option, None, Some, replicate}
use Rattle.board_core.specs.Numbers.{place_of}
use Rattle.diffusion_kernel.specs.declared.tables.Kernel.{Kernel}
use Rattle.dot_planes.specs.Tables.{AmountTable}
use Rattle.tile_lanes.specs.Done.{window_of}
use Rattle.tile_border.specs.Works.{Border}
use Rattle.tile_border.specs.Content.{given}
use Rattle.board_steps.specs.declared.rule.Cell.{Cell}
use Rattle.board_steps.specs.declared.rule.Cell.TheVariants.{Empty, Right, Bottom, Corner, Dots}

-- a blank of a direction, in this many inks: an edge of errors 0, or no dots
abbrev pub blank_of : ℕ → ℕ → Cell
blank_of inks zero = Right (replicate inks (replicate 192 (pos 0)))
blank_of inks (suc zero) = Bottom (replicate inks (replicate 128 (pos 0)))
blank_of inks (suc (suc zero)) = Corner (replicate inks (replicate 12 (pos 0)))
blank_of inks (suc (suc (suc d))) = Dots (replicate inks (replicate {A = ℕ} 256 0))

-- The slot of a waiting tile for a direction: a blank where no tile sends it that edge, and empty where one does.
abbrev pub fresh_of : ℕ → ℕ → Option ℕ → Cell
fresh_of inks d None = blank_of inks d
fresh_of inks d (Some q) = Empty

-- what a tile gives in a direction, and its dots for direction 3
abbrev pub cell_of : Border → ℕ → Cell
cell_of b zero = Right b.side
cell_of b (suc zero) = Bottom b.bottom
cell_of b (suc (suc zero)) = Corner b.corner
cell_of b (suc (suc (suc d))) = Dots b.bits

-- what tile t gives in the direction d
unfoldable pub content_of : AmountTable → Kernel → List (List (List ℤ)) → ℕ → ℕ → Cell
content_of rows kernel top t d = cell_of (given kernel rows top (place_of (window_of rows) t)) d
