use Rattle.std.proofs.Common.{◌≡◌, ℕ, ◌<◌, Some, slice_get}
use Rattle.printer_definitions.specs.Inks.{inks_of}
use Rattle.printer_definitions.specs.declared.inks.Ink.{Ink}
use Rattle.ink_separation.specs.Separators.{amount_in}
use Rattle.ink_separation.proofs.separator.Separator.white_is_free.Given as goal

abbrev pub invariant-loop-i : goal.invariant-loop-i
invariant-loop-i l = (i : ℕ) (ink : Ink) → i < l.i → slice_get (inks_of l.self.inks) i ≡ Some ink → amount_in l.self ink 0 ≡ 0
