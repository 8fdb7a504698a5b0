use Rattle.std.proofs.Common.{◌≡◌, length}
use Rattle.std.specs.Str.Lines.{lines}
use Rattle.printer_profile.specs.Text.{nothing, with_lines}
use Rattle.printer_profile.proofs.reading.read_lines.Given as goal

abbrev pub invariant-lines : goal.invariant-lines
invariant-lines l = with_lines l.fn.version 2 nothing (lines l.fn.text) ≡ with_lines l.fn.version l.number l.given (lines l.rest)

abbrev pub decreases-lines : goal.decreases-lines
decreases-lines l = length l.rest
