use Rattle.std.proofs.Common.{◌≡◌, ◌≤◌, ◌+◌, ◌*◌, ◌++◌, take}
use Rattle.arrayvec.specs.ArrayString.{array_string_len}
use Rattle.job_lister.specs.Listing.{numbers}
use Rattle.job_lister.proofs.numbers.push_numbers.Given as goal

abbrev pub invariant-loop-n : goal.invariant-loop-n
invariant-loop-n l = record {
  bytes : l.out.bytes ≡ l.initial.out.bytes ++ numbers (take l.n-index l.ns);
  len : array_string_len l.out ≤ array_string_len l.initial.out + 11 * l.n-index;
}
