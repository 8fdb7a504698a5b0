-- Sheets on which no dot was fired.
use Rattle.std.proofs.Common.{◌≡◌, ℕ, suc, zero, ◌<◌, Bool, false, List, [], ◌∷◌, Some, refl, sym, ◌∙◌, ap, arith, length, nat_lt}
use Rattle.std.specs.List.{list_any}
use Rattle.std.proofs.lemmas.Bool.{ltb-false}
use Rattle.dot_emulator.specs.declared.sheet.Sheet.{Sheet}
use Rattle.dot_emulator.specs.Runs.{IsGiven, IsSheet}
use Rattle.dot_emulator.specs.Sheets.{IsBlankFrom, dot_at}
use Rattle.dot_planes.specs.Tables.{dot}
use Rattle.escp2_definitions.specs.declared.command.Command.{Command}
use Rattle.escp2_definitions.specs.declared.command.Command.TheVariants as c
use Rattle.escp2_definitions.specs.Machine.{Dot, Machine, Sheet as PrintedSheet, given, has_dots, is_at}
use Rattle.printer_definitions.specs.declared.inks.Ink.{Ink}
use Rattle.printer_definitions.specs.declared.inks.Ink.TheVariants.{Black, Cyan, Magenta, Yellow}
use Rattle.printer_definitions.specs.Inks.{ink_place}
use Rattle.printer_definitions.specs.Printer.{Printer, column_step, row_step}

-- the dots of the first sheet
abbrev dots_of : List PrintedSheet → List Dot
dots_of [] = []
dots_of (s ∷ sheets) = s.dots

-- a sheet that is given has the machine's dots
given-dots : (p : Printer) (m : Machine) (command : Command) (s : PrintedSheet) → given p m command ≡ s ∷ [] → s.dots ≡ m.dots
given-dots p m c.Eject s is = sym (ap dots_of is)
given-dots p m c.Init s is = absurd (omega (arith, ap length is))
given-dots p m c.Graphics s is = absurd (omega (arith, ap length is))
given-dots p m (c.Unit n) s is = absurd (omega (arith, ap length is))
given-dots p m (c.MicroWeave n) s is = absurd (omega (arith, ap length is))
given-dots p m (c.OneWay n) s is = absurd (omega (arith, ap length is))
given-dots p m (c.Length n) s is = absurd (omega (arith, ap length is))
given-dots p m (c.Margins top bottom) s is = absurd (omega (arith, ap length is))
given-dots p m (c.DownTo n) s is = absurd (omega (arith, ap length is))
given-dots p m (c.DownBy n) s is = absurd (omega (arith, ap length is))
given-dots p m (c.Across n) s is = absurd (omega (arith, ap length is))
given-dots p m c.Return s is = absurd (omega (arith, ap length is))
given-dots p m (c.Colour ink) s is = absurd (omega (arith, ap length is))
given-dots p m (c.Raster header) s is = absurd (omega (arith, ap length is))

none-of : (dots : List Dot) → nat_lt 0 (length dots) ≡ false → dots ≡ []
none-of [] none = refl
none-of (d ∷ dots) none = absurd (omega (arith, ltb-false 0 (suc (length dots)) none))

ink_of : (i : ℕ) → i < 4 → (ink : Ink) × (i ≡ ink_place ink)
ink_of zero few = (Black, refl)
ink_of (suc zero) few = (Cyan, refl)
ink_of (suc (suc zero)) few = (Magenta, refl)
ink_of (suc (suc (suc zero))) few = (Yellow, refl)
ink_of (suc (suc (suc (suc n)))) few = absurd (omega (arith, few))

blank-sheet : (p : Printer) (s : PrintedSheet) (sheet : Sheet) → IsSheet p s sheet → s.dots ≡ [] → IsBlankFrom 0 sheet.planes
blank-sheet p s sheet is none = λ i y x few low past.
    let ink = ink_of i (omega (arith, few, sheet.inks)) in
    ap (λ n. dot sheet.planes n y x) ink.1 ∙ is.dots.places ink.0 y x low
    ∙ ap (list_any (is_at (dot_at (column_step p) (row_step p) ink.0 y x))) none

-- a sheet that is given where no dot was fired has none
pub given_blank : (p : Printer) (m : Machine) (command : Command) (sheet : Sheet) (some : Bool)
    → IsGiven p (given p m command) (Some sheet) → some ≡ has_dots m → some ≡ false → IsBlankFrom 0 sheet.planes
given_blank p m command sheet some gives is none =
    let blank : m.dots ≡ [] = none-of m.dots (sym is ∙ none) in
    blank-sheet p gives.0 sheet gives.2 (given-dots p m command gives.0 gives.1 ∙ blank)
