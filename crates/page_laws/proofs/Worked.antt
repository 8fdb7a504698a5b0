-- The worked strokes print their window.
use Rattle.std.proofs.lemmas.Grind.{common_steps}
use Rattle.std.proofs.Common.{◌≡◌, ℕ, ◌+◌, ◌*◌, ◌<◌, ◌≤◌, Bool, true, ◌==◌, inl, List, [], ◌∷◌, length, refl, arith}
use Rattle.std.specs.List.{list_any, AllByRecursion}
use Rattle.std.proofs.lemmas.Bool.{agree_below, agree_below_at, eqb-true}
use Rattle.std.proofs.lemmas.Nat.Gcd.{IsGcd-from_mod, IsGcd-from_zero}
use Rattle.printer_definitions.specs.declared.inks.Ink.{Ink}
use Rattle.printer_definitions.specs.declared.inks.Ink.TheVariants.{Black}
use Rattle.escp2_laws.specs.Examples.{three_nozzles}
use Rattle.separation_definitions.specs.CanPrint.{CanPrint}
use Rattle.page_definitions.specs.Strokes.{Fires, IsOnWindow, IsWhole, Strokes}
use Rattle.page_laws.specs.Shingles.{fired_twice, made_up, two_black_rows}
use Rattle.page_laws.proofs.Hits.{FiresEachDot, fires-exactly, hits}

-- rows of eight columns for each nozzle, on the window
abbrev AllWhole : Strokes → Type 0
AllWhole strokes = AllByRecursion (λ stroke. (ink : Ink) → IsWhole 3 8 (stroke.rows ink)) strokes.list

abbrev AllOn : Strokes → Type 0
AllOn strokes = AllByRecursion (λ stroke. (ink : Ink) → IsOnWindow 2 strokes.above 2 stroke.start (stroke.rows ink)) strokes.list

-- the printer can print
pub three-can : CanPrint three_nozzles
three-can = record {
  across = inl refl;
  down = inl refl;
  some_nozzles = omega arith;
  most_nozzles = omega arith;
  some_pitch = omega arith;
  coprime = IsGcd-from_mod 3 2 1 (IsGcd-from_mod 2 1 1 (IsGcd-from_zero 1 0 refl));
  small_step = omega arith;
  head_room = omega arith;
}

-- three rows of eight columns
three-whole : (a b d : List Bool) → length a ≡ 8 → length b ≡ 8 → length d ≡ 8 → IsWhole 3 8 (a ∷ b ∷ d ∷ [])
three-whole a b d ea eb ed = record { many = refl; wide = (ea, (eb, (ed, tt))) }

-- of three rows, those with dots are on the window
three-on : (above start : ℕ) (a b d : List Bool)
    → (list_any (λ on. on) a ≡ true → (above ≤ start) × (start < above + 2))
    → (list_any (λ on. on) b ≡ true → (above ≤ start + 2) × (start + 2 < above + 2))
    → (list_any (λ on. on) d ≡ true → (above ≤ start + 4) × (start + 4 < above + 2))
    → IsOnWindow 2 above 2 start (a ∷ b ∷ d ∷ [])
three-on above start a b d on_a on_b on_d = grind arith

-- strokes that the test finds to fire each place of both rows once fire each dot
told : (strokes : Strokes) → agree_below (λ x. hits three_nozzles strokes.above strokes.list Black 0 x == 1) (λ x. true) 8 ≡ true
    → agree_below (λ x. hits three_nozzles strokes.above strokes.list Black 1 x == 1) (λ x. true) 8 ≡ true
    → FiresEachDot three_nozzles two_black_rows strokes
told strokes first second = grind (arith, agree_below_at, eqb-true, hits)

-- Shingled rows print their window.
pub shingles-fire : Fires three_nozzles two_black_rows fired_twice
shingles-fire = grind (arith, common_steps, AllOn, AllWhole, fires-exactly, three-can, three-on, three-whole, told)

-- Rows that are made up print their window.
pub made_up-fire : Fires three_nozzles two_black_rows made_up
made_up-fire = grind (arith, common_steps, AllOn, AllWhole, fires-exactly, three-can, three-on, three-whole, told)
