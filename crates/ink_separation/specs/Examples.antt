-- Printers and pixels of the examples.
use Rattle.std.specs.Prelude.{ℕ, List, [], ◌∷◌}
use Rattle.std.specs.List.{range_with_len}
use Rattle.printer_definitions.specs.declared.inks.Ink.TheVariants.{Black, Cyan, Magenta, Yellow}
use Rattle.printer_definitions.specs.declared.inks.InkSet.{InkSet}
use Rattle.printer_definitions.specs.Printer.{Printer, straight_curve, tiny1}
use Rattle.pwg_definitions.specs.declared.pages.Kind.{Kind}
use Rattle.separation_definitions.specs.Amounts.{amount}

-- a curve that halves each amount
abbrev pub half_curve : List ℕ
half_curve = 0 ∷ 8 ∷ 16 ∷ 24 ∷ 32 ∷ 40 ∷ 48 ∷ 56 ∷ 64 ∷ 72 ∷ 80 ∷ 88 ∷ 96 ∷ 104 ∷ 112 ∷ 120 ∷ 128 ∷ []

-- a printer of black with this curve and a limit of 224
abbrev pub light_printer : Printer
light_printer = record tiny1 {
  limits = 224 ∷ 255 ∷ 255 ∷ 255 ∷ [];
  curves = half_curve ∷ straight_curve ∷ straight_curve ∷ straight_curve ∷ [];
}

-- the amounts of black, cyan, magenta and yellow of a pixel, on a printer with a set of inks, straight curves and no
-- limit
abbrev pub amounts_by : InkSet → Kind → List ℕ → List ℕ
amounts_by inks kind pixel =
    let p : Printer = record tiny1 { inks = inks } in
    amount p kind pixel Black ∷ amount p kind pixel Cyan ∷ amount p kind pixel Magenta ∷ amount p kind pixel Yellow ∷ []

-- the numbers from 1 to 256
abbrev pub numbered : List ℕ
numbered = range_with_len 1 256
