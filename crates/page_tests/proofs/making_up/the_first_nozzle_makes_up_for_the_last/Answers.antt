use Rattle.std.proofs.Common.{refl}
use Rattle.std.proofs.lemmas.Nat.Gcd.{IsGcd-from_mod, IsGcd-from_zero}
use Rattle.page_tests.proofs.making_up.the_first_nozzle_makes_up_for_the_last.Goals as goal

pub make-requires-clause-coprime : goal.make-requires-clause-coprime
make-requires-clause-coprime g c = IsGcd-from_mod 3 2 1 (IsGcd-from_mod 2 1 1 (IsGcd-from_zero 1 0 refl))
