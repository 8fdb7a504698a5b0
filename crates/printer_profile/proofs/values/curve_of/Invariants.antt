use Rattle.std.proofs.Common.{◌≡◌, ℕ, ◌≤◌, ◌-◌, get_or, length, take}
use Rattle.std.specs.List.{slice_split}
use Rattle.key_values.specs.Lists.{is_comma}
use Rattle.printer_profile.specs.Values.{curve_written}
use Rattle.printer_profile.proofs.CurveParts.{with_front}
use Rattle.printer_profile.proofs.values.curve_of.Given as goal

abbrev pub invariant-points : goal.invariant-points
invariant-points l = record {
  parts : curve_written l.fn.text ≡ with_front (take l.place l.curve) (17 - l.place) (slice_split is_comma l.rest);
  len : length l.curve ≡ 17;
  points : (i : ℕ) → get_or l.curve i 0 ≤ 256;
}
