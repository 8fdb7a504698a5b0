use Rattle.std.proofs.Common.{◌≡◌, ◌≤◌, take, true}
use Rattle.std.specs.Char.{is_ascii_digit}
use Rattle.std.specs.List.{list_all}
use Rattle.std.specs.Str.Parse.{digits_value}
use Rattle.key_values.proofs.numbers.number_within.Given as goal

abbrev pub invariant-digits : goal.invariant-digits
invariant-digits l = record {
  value : l.number ≡ digits_value 10 (take l.byte-index l.text);
  most : l.number ≤ l.most;
  digits : list_all is_ascii_digit (take l.byte-index l.text) ≡ true;
}
