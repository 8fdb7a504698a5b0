-- From what pixels give to an ink to its amounts.
use Rattle.std.specs.Prelude.{ℕ, ◌*◌, ◌/◌, slice_index}
use Rattle.printer_definitions.specs.declared.inks.Ink.{Ink}
use Rattle.printer_definitions.specs.declared.inks.Ink.TheVariants.{Black, Cyan, Magenta, Yellow}
use Rattle.ink_separation.specs.declared.scales.Scale.{Scale}
use Rattle.ink_separation.specs.declared.scales.Scale.TheVariants.{Straight, Table, Whole}

-- the amount of a number that is given
abbrev pub scaled : Scale → ℕ → ℕ
scaled Whole a = a
scaled (Straight limit) a = a * limit / 255
scaled (Table amounts) a = slice_index amounts a

-- what belongs to an ink, of four
abbrev pub by_ink : Scale → Scale → Scale → Scale → Ink → Scale
by_ink black cyan magenta yellow Black = black
by_ink black cyan magenta yellow Cyan = cyan
by_ink black cyan magenta yellow Magenta = magenta
by_ink black cyan magenta yellow Yellow = yellow
