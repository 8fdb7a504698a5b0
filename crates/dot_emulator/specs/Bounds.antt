-- The bounds of a printer's state, in 1/3600 inch.
use Rattle.std.specs.Prelude.{ℕ, ◌+◌, ◌*◌}
use Rattle.base_definitions.specs.Limits.{most_columns}

-- No position across is past this: `ESC $` moves to at most 65535 units of 255, and a raster from there on across at
-- most the columns of a page, of 255 each.
abbrev pub farthest_across : ℕ
farthest_across = (65535 + most_columns) * 255
