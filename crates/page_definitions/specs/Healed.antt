-- The strokes of a head with dead nozzles over a window: live nozzles alone fire, and make up for the dead ones.
use Rattle.std.specs.Prelude.{◌≡◌, ℕ, ◌+◌, Bool, true, false, List, map, length}
use Rattle.base_definitions.specs.Counting.{count_from}
use Rattle.dead_nozzles.specs.Dead.{has}
use Rattle.dead_nozzles.specs.Plans.{shot_row}
use Rattle.dead_nozzles.specs.Strokes.{Head, Shot, HeadStroke, all_strokes, missing}
use Rattle.page_definitions.specs.Dots.{Halftone}
use Rattle.page_definitions.specs.PageBytes.{fired_row, page_coding}
use Rattle.page_definitions.specs.Strokes.{Stroke, Strokes, strokes_bytes}
use Rattle.printer_definitions.specs.declared.inks.Ink.{Ink}
use Rattle.printer_definitions.specs.Printer.{Printer, head_rows}
use Rattle.weave_definitions.specs.Weave.{pass_count}

-- the head of a printer, with these nozzles dead, over a window of `height` rows
abbrev pub worn_head : List ℕ → Printer → ℕ → Head
worn_head dead p height = record { nozzles = p.nozzles; pitch = p.pitch; height = height; dead = dead }

-- the rows that an ink's nozzles fire by these shots, one for each nozzle; blank where a nozzle fires none
abbrev pub shot_rows : Printer → Halftone → List Shot → Ink → List (List Bool)
shot_rows p h shots ink = map (λ i. fired_row h ink (shot_row shots i)) (count_from 0 p.nozzles)

-- a stroke, with the rows that its nozzles fire
abbrev pub healed_stroke : Printer → Halftone → HeadStroke → Stroke
healed_stroke p h stroke = record { start = stroke.start; rows = shot_rows p h stroke.shots }

-- The strokes over a window of the head with these nozzles dead.
abbrev pub healed : List ℕ → Printer → Halftone → Strokes
healed dead p h = record { above = head_rows p; list = map (healed_stroke p h) (all_strokes (worn_head dead p h.height)) }

-- The bytes that print a halftone with these nozzles dead on a sheet of this length in units.
unfoldable pub healed_bytes : List ℕ → Printer → Halftone → ℕ → List ℕ
healed_bytes dead p h len = strokes_bytes page_coding p h.width h.height len (healed dead p h)

-- no more strokes than these: the passes of the weave over a window of `height` rows, and one for each missing row
abbrev pub healed_passes : List ℕ → Printer → ℕ → ℕ
healed_passes dead p height = pass_count p.nozzles p.pitch height + length (missing (worn_head dead p height))

-- A row of a raster whose nozzle is dead has no dot.
abbrev pub IsSpared : List ℕ → ℕ → (ℕ → Bool) → Type 0
IsSpared dead nozzle dot = has dead nozzle ≡ true → (x : ℕ) → dot x ≡ false
