-- One more row of a step.
use mir.Val.{bool_byte}
use Rattle.std.proofs.Common.{ℕ, ℤ, Bool, ◌%◌, ◌≡◌, ◌≢◌, ◌+◌, ◌-◌, ◌*◌, ◌<◌, ◌≤◌, ◌∙◌, ap, sym, arith, inl, inr}
use Rattle.std.proofs.Common.{List}
use Rattle.std.proofs.Common.{get_or, set, length, get_or-set_same, get_or-set_other}
use Rattle.std.proofs.lemmas.Bool.{cases_eq, cases_lt}
use Rattle.std.proofs.lemmas.List.{set_past}
use Rattle.diffusion_definitions.specs.Diffusion.{error_of, is_dot, value}
use Rattle.diffusion_kernel.specs.Tables.{table_of}
use Rattle.diffusion_kernel.specs.declared.tables.Kernel.{Kernel}
use Rattle.tile_lanes.specs.Held.{HeldInRange, error_held, same_in, up1_in, up2_in, value_in, value_in_row}
use Rattle.tile_lanes.specs.Lanes.{IsStep}
use Rattle.tile_lanes.specs.Paces.{delay_of, pace_of}
use Rattle.tile_lanes.specs.Rows.{bit_of}
use Rattle.tile_lanes.specs.declared.lanes.pace.Pace.{Pace}
use Rattle.tile_lanes.specs.declared.lanes.pace.Pace.TheVariants.{Level, Lagging}
use Rattle.tile_lanes.proofs.RowCells.{five_are, two}
use Rattle.tile_lanes.proofs.Bits.{bit_is}

pub held_more : (xs : List ℕ) (at v : ℕ) → HeldInRange xs → v ≤ 4079 → HeldInRange (set xs at v)
held_more xs at v all fits i = grind (arith, cases_eq, cases_lt, get_or-set_other, get_or-set_same, set_past)

-- ---- a step

pub none_stepped : {kernel : Kernel} {amounts : List ℕ} {step first : ℕ} {xs dots : List ℕ}
    → IsStep kernel amounts step first 0 xs dots xs dots
none_stepped {dots} = grind arith

-- a value among the errors of a field, from one among the errors that were read from it
pub value_here : (kernel : Kernel) (amount v : ℕ) (same up1 up2 : List ℤ) (xs : List ℕ) (at : ℕ)
    → same ≡ same_in xs at → up1 ≡ up1_in (pace_of kernel) xs at → up2 ≡ up2_in (pace_of kernel) xs at
    → error_held v ≡ value (table_of kernel) amount same up1 up2 → error_held v ≡ value_in kernel amount xs at
value_here kernel amount v same up1 up2 xs at is_same is_up1 is_up2 is = cc

-- A field that is as before in all earlier groups has the same errors near a pixel.
cell_kept : (xs old : List ℕ) (at bound d : ℕ) → at < bound + 34 → 274 ≤ at
    → ((m : ℕ) → m < bound → get_or xs m 0 ≡ get_or old m 0)
    → 34 ≤ d → d ≤ 274 → error_held (get_or xs (at - d) 0) ≡ error_held (get_or old (at - d) 0)
cell_kept xs old at bound d near far kept h i = let there : at - d < bound = omega arith in ap error_held (kept (at - d) there)

up1_kept : (pace : Pace) (xs old : List ℕ) (at : ℕ)
    → ((d : ℕ) → 34 ≤ d → d ≤ 274 → error_held (get_or xs (at - d) 0) ≡ error_held (get_or old (at - d) 0))
    → up1_in pace xs at ≡ up1_in pace old at
up1_kept Level xs old at cell = grind (arith, five_are)
up1_kept Lagging xs old at cell = grind (arith, five_are)

up2_kept : (pace : Pace) (xs old : List ℕ) (at : ℕ)
    → ((d : ℕ) → 34 ≤ d → d ≤ 274 → error_held (get_or xs (at - d) 0) ≡ error_held (get_or old (at - d) 0))
    → up2_in pace xs at ≡ up2_in pace old at
up2_kept Level xs old at cell = grind (arith, five_are)
up2_kept Lagging xs old at cell = grind (arith, five_are)

-- So it gives the same value.
pub value_kept : (kernel : Kernel) (amount : ℕ) (xs old : List ℕ) (at bound : ℕ) → at < bound + 34 → 274 ≤ at
    → ((m : ℕ) → m < bound → get_or xs m 0 ≡ get_or old m 0)
    → value_in kernel amount xs at ≡ value_in kernel amount old at
value_kept kernel amount xs old at bound near far kept = grind (arith, cell_kept, two, up1_kept, up2_kept)

pub step_more : (kernel : Kernel) (amounts : List ℕ) (step first n at v : ℕ) {d f : ℕ} {on : Bool} {z : ℤ} {old old_dots xs dots : List ℕ}
    → at ≡ 34 * step + 2 + (first + n) → first + n < 32 → 8 ≤ step → at < length xs → first + n < length dots
    → z ≡ value_in kernel (get_or amounts (32 * (step - 8) + (first + n)) 0) xs at
    → (delay_of (pace_of kernel) (first + n) + 8 ≤ step → error_held v ≡ error_of z)
    → (step < delay_of (pace_of kernel) (first + n) + 8 → v ≡ get_or xs at 0)
    → d ≡ (get_or dots (first + n) 0 * 2 % 65536 + f) % 65536 → f ≡ bool_byte on → on ≡ is_dot z
    → IsStep kernel amounts step first n old old_dots xs dots
    → IsStep kernel amounts step first (n + 1) old old_dots (set xs at v) (set dots (first + n) d)
step_more kernel amounts step first n at v {d} {f} {on} {z} {old} {old_dots} {xs} {dots} is_at small late room more is_z is_v is_left is_d is_f is_on s =
    let q : ℕ = first + n in
    let here : z ≡ value_in_row kernel amounts step old q =
    is_z
    ∙ value_kept kernel (get_or amounts (32 * (step - 8) + q) 0) xs old at (34 * step + 2) (omega arith) (omega arith)
    (λ m h. s.before m (omega arith))
    ∙ ap (value_in kernel (get_or amounts (32 * (step - 8) + q) 0) old) is_at in
    let bit : f ≡ bit_of (is_dot (value_in_row kernel amounts step old q)) = is_f ∙ bit_is on
    ∙ ap bit_of (is_on ∙ ap is_dot here) in
    let rest : get_or dots q 0 ≡ get_or old_dots q 0 = s.dots_after q (omega arith) in
    record {
      errors = λ r o h g few t. elim (cases_eq r q) [
        | inl last ↦
            let place : 34 * step + 2 + r ≡ at = omega arith in
            let moved : delay_of (pace_of kernel) r ≡ delay_of (pace_of kernel) q = ap (delay_of (pace_of kernel)) last in
            ap (λ m. error_held (get_or (set xs at v) m 0)) place ∙ ap error_held (get_or-set_same xs at v 0 room)
            ∙ is_v (omega (arith, moved, t))
            ∙ ap error_of here ∙ ap (λ m. error_of (value_in_row kernel amounts step old m)) (sym last)
        | inr not ↦
            let other : 34 * step + 2 + r ≢ at = omega arith in
            ap error_held (get_or-set_other xs at (34 * step + 2 + r) v 0 other) ∙ s.errors r o h (omega arith) few t
      ];
      left = λ r h g beside. elim (cases_eq r q) [
        | inl last ↦
            let place : 34 * step + 2 + r ≡ at = omega arith in
            let moved : delay_of (pace_of kernel) r ≡ delay_of (pace_of kernel) q = ap (delay_of (pace_of kernel)) last in
            ap (λ m. get_or (set xs at v) m 0) place ∙ get_or-set_same xs at v 0 room
            ∙ is_left (omega (arith, moved, beside))
            ∙ ap (λ m. get_or xs m 0) (sym place) ∙ s.after (34 * step + 2 + r) (omega arith)
        | inr not ↦
            let other : 34 * step + 2 + r ≢ at = omega arith in
            get_or-set_other xs at (34 * step + 2 + r) v 0 other ∙ s.left r h (omega arith) beside
      ];
      dots = λ r o h g few t. elim (cases_eq r q) [
        | inl last ↦
            ap (λ m. get_or (set dots q d) m 0) last ∙ get_or-set_same dots q d 0 more ∙ is_d
            ∙ (let twice : (get_or dots q 0 * 2 % 65536 + f) % 65536 ≡ (2 * get_or old_dots q 0 + f) % 65536 = omega (arith, rest) in twice)
            ∙ ap (λ b. (2 * get_or old_dots q 0 + b) % 65536) bit
            ∙ ap (λ m. (2 * get_or old_dots m 0 + bit_of (is_dot (value_in_row kernel amounts step old m))) % 65536) (sym last)
        | inr not ↦ get_or-set_other dots q r d 0 not ∙ s.dots r o h (omega arith) few t
      ];
      before = λ m h. let other : m ≢ at = omega arith in get_or-set_other xs at m v 0 other ∙ s.before m h;
      after = λ m h. let other : m ≢ at = omega arith in get_or-set_other xs at m v 0 other ∙ s.after m (omega arith);
      dots_before = λ r h. let other : r ≢ q = omega arith in get_or-set_other dots q r d 0 other ∙ s.dots_before r h;
      dots_after = λ r h. let other : r ≢ q = omega arith in get_or-set_other dots q r d 0 other ∙ s.dots_after r (omega arith);
    }

-- Sixteen rows, and then the others, among which are no errors that those read.
pub both_stepped : {kernel : Kernel} {amounts : List ℕ} (step : ℕ) {f0 d0 f1 d1 f2 d2 : List ℕ} → 8 ≤ step
    → IsStep kernel amounts step 0 16 f0 d0 f1 d1 → IsStep kernel amounts step 16 16 f1 d1 f2 d2
    → IsStep kernel amounts step 0 32 f0 d0 f2 d2
both_stepped {kernel} {amounts} step {f0} {f1} {d1} late a b = record {
  errors = λ r o h g few t. elim (cases_lt r 16) [
    | inl up ↦ ap error_held (b.before (34 * step + 2 + r) (omega arith)) ∙ a.errors r o h up few t
    | inr down ↦ b.errors r o down (omega arith) few t ∙ ap error_of (same r g)
  ];
  left = λ r h g beside. elim (cases_lt r 16) [
    | inl up ↦ b.before (34 * step + 2 + r) (omega arith) ∙ a.left r h up beside
    | inr down ↦ b.left r down (omega arith) beside ∙ a.after (34 * step + 2 + r) (omega arith)
  ];
  dots = λ r o h g few t. elim (cases_lt r 16) [
    | inl up ↦ b.dots_before r up ∙ a.dots r o h up few t
    | inr down ↦
        b.dots r o down (omega arith) few t ∙ ap (λ z. (2 * get_or d1 r 0 + bit_of (is_dot z)) % 65536) (same r g)
        ∙ ap (λ d. (2 * d + bit_of (is_dot (value_in_row kernel amounts step f0 r))) % 65536) (a.dots_after r down)
  ];
  before = λ m h. b.before m (omega arith) ∙ a.before m h;
  after = λ m h. b.after m (omega arith) ∙ a.after m (omega arith);
  dots_before = λ r h. let no : ⊥ = omega arith in absurd no;
  dots_after = λ r h. b.dots_after r h ∙ a.dots_after r (omega arith);
}
  where
    same : (r : ℕ) → r < 32 → value_in_row kernel amounts step f1 r ≡ value_in_row kernel amounts step f0 r
    same r small = value_kept kernel (get_or amounts (32 * (step - 8) + r) 0) f1 f0 (34 * step + 2 + r) (34 * step + 2) (omega arith)
        (omega arith) (λ m h. a.before m (omega arith))
