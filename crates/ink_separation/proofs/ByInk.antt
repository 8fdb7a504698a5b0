-- The scales of four inks.
use Rattle.std.proofs.Common.{◌≡◌, ℕ, ◌*◌, ◌/◌, ◌<◌, List, [], get_or, slice_index_or}
use Rattle.printer_definitions.specs.declared.inks.Ink.{Ink}
use Rattle.printer_definitions.specs.declared.inks.Ink.TheVariants.{Black, Cyan, Magenta, Yellow}
use Rattle.printer_definitions.specs.Inks.{ink_place}
use Rattle.printer_definitions.specs.Printer.{tone_on}
use Rattle.ink_separation.specs.Scaling.{by_ink, scaled}
use Rattle.ink_separation.specs.declared.scales.Scale.{Scale}

-- the scale is that of the ink at a place
abbrev pub IsScale : List (List ℕ) → List ℕ → ℕ → Scale → Type 0
IsScale curves limits place scale =
    (a : ℕ) → a < 256 → scaled scale a ≡ tone_on (slice_index_or curves place []) a * get_or limits place 0 / 255

pub scales_are : (curves : List (List ℕ)) (limits : List ℕ) (k c m y : Scale)
    → IsScale curves limits 0 k → IsScale curves limits 1 c → IsScale curves limits 2 m → IsScale curves limits 3 y
    → (ink : Ink) → IsScale curves limits (ink_place ink) (by_ink k c m y ink)
scales_are curves limits k c m y black cyan magenta yellow Black = black
scales_are curves limits k c m y black cyan magenta yellow Cyan = cyan
scales_are curves limits k c m y black cyan magenta yellow Magenta = magenta
scales_are curves limits k c m y black cyan magenta yellow Yellow = yellow
