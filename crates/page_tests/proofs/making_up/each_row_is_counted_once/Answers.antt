use Rattle.std.proofs.Common.{refl}
use Rattle.std.proofs.lemmas.Nat.Gcd.{IsGcd-from_mod, IsGcd-from_zero}
use Rattle.page_tests.proofs.making_up.each_row_is_counted_once.Goals as goal

pub count_each_row-requires-2-clause-coprime : goal.count_each_row-requires-2-clause-coprime
count_each_row-requires-2-clause-coprime g c = IsGcd-from_mod 2 1 1 (IsGcd-from_zero 1 0 refl)

pub count_each_row-requires-3-clause-coprime : goal.count_each_row-requires-3-clause-coprime
count_each_row-requires-3-clause-coprime g c = IsGcd-from_mod 3 2 1 (IsGcd-from_mod 2 1 1 (IsGcd-from_zero 1 0 refl))

pub count_each_row-requires-4-clause-coprime : goal.count_each_row-requires-4-clause-coprime
count_each_row-requires-4-clause-coprime g c = IsGcd-from_mod 3 2 1 (IsGcd-from_mod 2 1 1 (IsGcd-from_zero 1 0 refl))

pub count_each_row-requires-5-clause-coprime : goal.count_each_row-requires-5-clause-coprime
count_each_row-requires-5-clause-coprime g c =
    IsGcd-from_mod 8 5 1 (IsGcd-from_mod 5 3 1 (IsGcd-from_mod 3 2 1 (IsGcd-from_mod 2 1 1 (IsGcd-from_zero 1 0 refl))))

pub count_each_row-requires-6-clause-coprime : goal.count_each_row-requires-6-clause-coprime
count_each_row-requires-6-clause-coprime g c = IsGcd-from_mod 15 4 1 (IsGcd-from_mod 4 3 1 (IsGcd-from_mod 3 1 1 (IsGcd-from_zero 1 0 refl)))
