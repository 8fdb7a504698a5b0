-- Refusals, one after another.
use Rattle.std.proofs.Common.{◌≡◌, ℕ, ◌+◌, ◌-◌, ◌*◌, ◌/◌, ◌%◌, ◌==◌, ◌≤◌, Bool, true, false, nat_le, List, []}
use Rattle.std.proofs.Common.{◌∷◌, ◌++◌, refl, ◌∙◌, sym, arith, inl, inr}
use Rattle.std.specs.Prelude.{Some, None}
use Rattle.std.specs.List.{AllByRecursion}
use Rattle.std.proofs.lemmas.Bool.{cases_lt, eqb-true, le-leb, lt-leb}
use Rattle.std.proofs.Math.Nat.{div-mul-le_self, le-div_iff_mul-le, lt-div-mul-add, mod-eq-sub-div-mul, mul-le-mul_right}
use Rattle.escp2_definitions.specs.Machine.{Refusal, first_refusal, refuse}
use Rattle.escp2_definitions.specs.declared.stops.EmulatorFault.{EmulatorFault}

abbrev Holds : Refusal → Type 0
Holds r = r.holds ≡ false

-- where no refusal holds, each test is false, and the later ones decide
pub record NoneOf (tests : List Refusal) : Type 0 where
  pub each : AllByRecursion Holds tests
  pub more : (others : List Refusal) → first_refusal (tests ++ others) ≡ first_refusal others

some-is-none : {A : Type 0} {X : Type 0} (x : X) → Some x ≡ None → A
some-is-none x e = cc

none-at : (b : Bool) (fault : EmulatorFault) (tests : List Refusal)
    → first_refusal (refuse b fault ∷ tests) ≡ None → (first_refusal tests ≡ None → NoneOf tests)
    → NoneOf (refuse b fault ∷ tests)
none-at true fault tests none behind = some-is-none fault none
none-at false fault tests none behind = let later = behind none in record { each = (refl, later.each); more = later.more }

pub none-of : (tests : List Refusal) → first_refusal tests ≡ None → NoneOf tests
none-of [] none = record { each = tt; more = λ others. refl }
none-of (test ∷ tests) none = none-at test.holds test.fault tests none (none-of tests)

-- ---- the grid

-- a multiple is its quotient's
pub multiple : (n d : ℕ) → (n % d == 0) ≡ true → n / d * d ≡ n
multiple n d whole = omega (arith, eqb-true (n % d) 0 whole, mod-eq-sub-div-mul n d, div-mul-le_self n d)

-- the first row at or below a place
pub ends-at : (bottom row n : ℕ) → 1 ≤ row → nat_le bottom (n * row) ≡ nat_le ((bottom + row - 1) / row) n
ends-at bottom row n some = elim (cases_lt n ((bottom + row - 1) / row)) [
  | inl above ↦
      let product : (n + 1) * row ≤ (bottom + row - 1) / row * row = mul-le-mul_right row (omega arith) in
      let more : (n + 1) * row ≡ n * row + row = grind arith in
      lt-leb bottom (n * row) (omega (arith, div-mul-le_self (bottom + row - 1) row, product, more)) ∙ sym (lt-leb _ n above)
  | inr below ↦
      let product : (bottom + row - 1) / row * row ≤ n * row = mul-le-mul_right row below in
      le-leb bottom (n * row) (omega (arith, lt-div-mul-add {a = bottom + row - 1} {b = row} some, product)) ∙ sym (le-leb _ n below)
]

pub div-mono : (a b r : ℕ) → 1 ≤ r → a ≤ b → a / r ≤ b / r
div-mono a b r some le = (le-div_iff_mul-le {k = r} {x = a / r} {y = b} some).1 (omega (arith, div-mul-le_self a r))
