use Rattle.std.proofs.Common.{◌≡◌, ◌≤◌, ◌+◌, ◌*◌, ◌++◌, codes, take}
use Rattle.arrayvec.specs.ArrayString.{array_string_len}
use Rattle.std.specs.List.{flat_map}
use Rattle.printer_profile.specs.declared.keys.Version.TheVariants.{Two}
use Rattle.printer_profile.specs.Keys.{all_keys}
use Rattle.printer_profile.specs.Text.{head_of, key_line}
use Rattle.printer_profile.proofs.printing.push_text.Given as goal

abbrev pub invariant-keys : goal.invariant-keys
invariant-keys l = record {
  bytes : l.out.bytes ≡ head_of Two ++ codes "\n" ++ flat_map (key_line l.p) (take l.key-index all_keys);
  len : array_string_len l.out ≤ 16 + 114 * l.key-index;
}
