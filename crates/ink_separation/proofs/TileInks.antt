-- Amounts of a tile, ink after ink.
use Rattle.std.proofs.Common.{◌≡◌, ℕ, ◌+◌, ◌<◌, ◌≤◌, List, [], Some, inl, inr, length, get_or, set, slice_get, ◌∙◌, ap, arith, sym}
use Rattle.std.proofs.Common.{get_or-set_other, get_or-set_same, length-set}
use Rattle.std.proofs.lemmas.Bool.{cases_lt}
use Rattle.std.proofs.lemmas.Option.{get_or_from_slice_get, slice_get_within}
use Rattle.printer_definitions.specs.Inks.{inks_of}
use Rattle.printer_definitions.specs.declared.inks.Ink.{Ink}
use Rattle.printer_definitions.specs.declared.inks.InkSet.{InkSet}
use Rattle.printer_definitions.specs.declared.inks.InkSet.TheVariants.{K, Cmy, Cmyk}
use Rattle.ink_separation.specs.Separated.{tile_amount}

-- an ink at a place is the only one
only : (inks : InkSet) (n : ℕ) (a b : Ink) → slice_get (inks_of inks) n ≡ Some a → slice_get (inks_of inks) n ≡ Some b → a ≡ b
only inks n a b one other = sym (get_or_from_slice_get (inks_of inks) n a a one) ∙ get_or_from_slice_get (inks_of inks) n b a other

-- The first n inks of a set have their amounts, and the others are unchanged.
pub record HasInks (set : InkSet) (f : ℕ → Ink → ℕ → ℕ) (n : ℕ) (old new : List (List ℕ)) : Type 0 where
  pub long : length new ≡ length old
  pub put : (i : ℕ) (ink : Ink) → i < n → slice_get (inks_of set) i ≡ Some ink → (k : ℕ) → k < 2048 → tile_amount new i k ≡ f i ink k
  pub rest : (i k : ℕ) → n ≤ i → tile_amount new i k ≡ tile_amount old i k

-- one ink more
pub inks_more : (inks : InkSet) (f : ℕ → Ink → ℕ → ℕ) (n at : ℕ) (ink : Ink) (plane : List ℕ) (old now : List (List ℕ)) → at ≡ n
    → n < length now → slice_get (inks_of inks) n ≡ Some ink → ((k : ℕ) → k < 2048 → get_or plane k 0 ≡ f n ink k)
    → HasInks inks f n old now → HasInks inks f (n + 1) old (set now at plane)
inks_more inks f n at ink plane old now place room is puts has = record {
  long = length-set now at plane ∙ has.long;
  put = λ i other low here k inside. elim (cases_lt i n) [
    | inl before ↦
        ap (λ (xs : List ℕ). get_or xs k 0) (get_or-set_other now at i plane [] (omega arith)) ∙ has.put i other before here k inside
    | inr from ↦
        let same : i ≡ n = omega arith in
        let there : slice_get (inks_of inks) n ≡ Some other = ap (λ m. slice_get (inks_of inks) m) (sym same) ∙ here in
        let set_at : i ≡ at = omega arith in
        ap (λ m. get_or (get_or (set now at plane) m []) k 0) set_at
        ∙ ap (λ (xs : List ℕ). get_or xs k 0) (get_or-set_same now at plane [] (omega arith)) ∙ puts k inside
        ∙ ap (λ j. f n j k) (only inks n ink other is there) ∙ ap (λ m. f m other k) (sym same)
  ];
  rest = λ i k after. ap (λ (xs : List ℕ). get_or xs k 0) (get_or-set_other now at i plane [] (omega arith)) ∙ has.rest i k (omega arith);
}

-- an ink of a set stands before its end
pub within : (inks : InkSet) (i : ℕ) (ink : Ink) → slice_get (inks_of inks) i ≡ Some ink → i < length (inks_of inks)
within inks i ink is = slice_get_within (inks_of inks) i ink is

-- one ink more in which a number is 0
pub free_more : (inks : InkSet) (f : Ink → ℕ) (n : ℕ) (ink : Ink) → slice_get (inks_of inks) n ≡ Some ink → f ink ≡ 0
    → ((i : ℕ) (other : Ink) → i < n → slice_get (inks_of inks) i ≡ Some other → f other ≡ 0)
    → (i : ℕ) (other : Ink) → i < n + 1 → slice_get (inks_of inks) i ≡ Some other → f other ≡ 0
free_more inks f n ink is none before i other low at = elim (cases_lt i n) [
  | inl less ↦ before i other less at
  | inr from ↦
      let same : i ≡ n = omega arith in
      ap f (sym (only inks n ink other is (ap (λ m. slice_get (inks_of inks) m) (sym same) ∙ at))) ∙ none
]

-- no set has more than four inks
pub few : (inks : InkSet) → length (inks_of inks) ≤ 4
few K = omega arith
few Cmy = omega arith
few Cmyk = omega arith
