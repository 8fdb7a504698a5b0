-- The inks of a printer.
use Rattle.std.specs.Prelude.{ℕ, Bool, ◌==◌, List, [], ◌∷◌}
use Rattle.printer_definitions.specs.declared.inks.Ink.{Ink}
use Rattle.printer_definitions.specs.declared.inks.Ink.TheVariants.{Black, Cyan, Magenta, Yellow}
use Rattle.printer_definitions.specs.declared.inks.InkSet.{InkSet}
use Rattle.printer_definitions.specs.declared.inks.InkSet.TheVariants.{K, Cmy, Cmyk}

-- the inks of a set, in the order in which they are fired
abbrev pub inks_of : InkSet → List Ink
inks_of K = Black ∷ []
inks_of Cmy = Cyan ∷ Magenta ∷ Yellow ∷ []
inks_of Cmyk = Black ∷ Cyan ∷ Magenta ∷ Yellow ∷ []

-- an ink's number in the order black, cyan, magenta, yellow
abbrev pub ink_place : Ink → ℕ
ink_place Black = 0
ink_place Cyan = 1
ink_place Magenta = 2
ink_place Yellow = 3

-- whether two inks are the same
abbrev pub same_ink : Ink → Ink → Bool
same_ink i j = ink_place i == ink_place j
