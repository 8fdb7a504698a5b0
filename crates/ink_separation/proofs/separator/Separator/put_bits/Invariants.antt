use Rattle.std.proofs.Common.{◌≡◌, ◌≢◌, ◌⊎◌, ℕ, ◌+◌, ◌<◌, ◌≤◌, Some, slice_get, get_or}
use Rattle.dot_planes.specs.Tables.{HasSizeAs, amount}
use Rattle.printer_definitions.specs.Inks.{inks_of}
use Rattle.printer_definitions.specs.declared.inks.Ink.{Ink}
use Rattle.separation_definitions.specs.Amounts.{grey_ink}
use Rattle.ink_separation.specs.Separators.{amount_in}
use Rattle.ink_separation.proofs.separator.Separator.put_bits.Given as goal

abbrev pub invariant-loop-i : goal.invariant-loop-i
invariant-loop-i l = record {
  size : HasSizeAs l.initial.out l.out;
  put : (i : ℕ) (ink : Ink) → i < l.i → slice_get (inks_of l.self.inks) i ≡ Some ink → (k : ℕ) → k < l.many
      → amount l.out i l.at (l.x + k)
      ≡ amount_in l.self ink (grey_ink l.self.inks ink (get_or l.bits k 0));
  rest : (i c : ℕ) → l.i ≤ i → amount l.out i l.at c ≡ amount l.initial.out i l.at c;
  beside : (i c : ℕ) → (c < l.x) ⊎ (l.x + l.many ≤ c) → amount l.out i l.at c ≡ amount l.initial.out i l.at c;
  others : (i y c : ℕ) → y ≢ l.at → y < l.initial.out.rows → amount l.out i y c ≡ amount l.initial.out i y c;
}
