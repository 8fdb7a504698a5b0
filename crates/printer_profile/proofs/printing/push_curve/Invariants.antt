use Rattle.std.proofs.Common.{◌≡◌, ◌≤◌, ◌+◌, ◌*◌, ◌++◌, take}
use Rattle.arrayvec.specs.ArrayString.{array_string_len}
use Rattle.printer_profile.specs.Values.{curve_text}
use Rattle.printer_profile.proofs.printing.push_curve.Given as goal

abbrev pub invariant-points : goal.invariant-points
invariant-points l = record {
  bytes : l.out.bytes ≡ l.fn.out.bytes ++ curve_text (take l.place l.curve);
  len : array_string_len l.out + 1 ≤ array_string_len l.fn.out + 6 * l.place;
}
