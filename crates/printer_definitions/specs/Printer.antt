-- A printer, and what follows from its numbers. Lengths on paper are in 1/3600 inch.
use Rattle.std.specs.Prelude.{ℕ, ◌+◌, ◌-◌, ◌*◌, ◌/◌, ◌%◌, min, List, [], ◌∷◌, slice_index, slice_index_or}
use Rattle.printer_definitions.specs.declared.inks.Ink.{Ink}
use Rattle.printer_definitions.specs.declared.inks.InkSet.{InkSet}
use Rattle.printer_definitions.specs.declared.inks.InkSet.TheVariants.{K}
use Rattle.printer_definitions.specs.Inks.{ink_place}

-- A printer: its resolutions, its head, its inks and its margins.
pub record Printer : Type 0 where
  -- dots an inch across the page, rows of dots an inch down it
  pub hdpi : ℕ
  pub vdpi : ℕ
  -- nozzles of each ink, rows of dots from one nozzle to the next
  pub nozzles : ℕ
  pub pitch : ℕ
  pub inks : InkSet
  -- the darkness from which on black replaces what cyan, magenta and yellow have in common
  pub black_start : ℕ
  -- the greatest amounts of black, cyan, magenta and yellow, 0 to 255
  pub limits : List ℕ
  -- the tone curves of black, cyan, magenta and yellow: 17 points each, the tones of the amounts 0, 16, .. 256
  pub curves : List (List ℕ)
  -- the margins, in pixels of the page
  pub left : ℕ
  pub right : ℕ
  pub top : ℕ
  pub bottom : ℕ

-- the step from one column of dots to the next
abbrev pub column_step : Printer → ℕ
column_step p = 3600 / p.hdpi

-- the step from one row of dots to the next
abbrev pub row_step : Printer → ℕ
row_step p = 3600 / p.vdpi

-- the step from one nozzle to the next
abbrev pub nozzle_step : Printer → ℕ
nozzle_step p = p.pitch * 3600 / p.vdpi

-- the step from one row of dots to the next, in units of 5/3600 inch
abbrev pub row_units : Printer → ℕ
row_units p = 720 / p.vdpi

-- how many rows the first nozzle is above the last
abbrev pub head_rows : Printer → ℕ
head_rows p = (p.nozzles - 1) * p.pitch

-- the greatest amount of an ink
abbrev pub limit_of : Printer → Ink → ℕ
limit_of p ink = slice_index p.limits (ink_place ink)

-- the tone of an amount by a curve: on the straight line between two points of the curve, at most 255
abbrev pub tone_on : List ℕ → ℕ → ℕ
tone_on curve a =
    let before : ℕ = slice_index curve (a / 16) in
    let behind : ℕ = slice_index curve (a / 16 + 1) in
    min 255 (before + (behind - before) * (a % 16) / 16)

-- the curve of an ink
abbrev pub curve_of : Printer → Ink → List ℕ
curve_of p ink = slice_index_or p.curves (ink_place ink) []

-- the tone of an amount of an ink
abbrev pub tone_of : Printer → Ink → ℕ → ℕ
tone_of p ink a = tone_on (curve_of p ink) a

-- the curve that leaves each amount as it is
abbrev pub straight_curve : List ℕ
straight_curve =
    0 ∷ 16 ∷ 32 ∷ 48 ∷ 64 ∷ 80 ∷ 96 ∷ 112 ∷ 128 ∷ 144 ∷ 160 ∷ 176 ∷ 192 ∷ 208 ∷ 224 ∷ 240 ∷ 256 ∷ []

-- the built-in printer `tiny1`: 360 dots an inch, one nozzle, black, no margins, straight curves
abbrev pub tiny1 : Printer
tiny1 = record {
  hdpi = 360;
  vdpi = 360;
  nozzles = 1;
  pitch = 1;
  inks = K;
  black_start = 0;
  limits = 255 ∷ 255 ∷ 255 ∷ 255 ∷ [];
  curves = straight_curve ∷ straight_curve ∷ straight_curve ∷ straight_curve ∷ [];
  left = 0;
  right = 0;
  top = 0;
  bottom = 0;
}
