-- The cells of a field are right after a step, and so are the dots.
use Rattle.std.proofs.Common.{ℕ, ℤ, Bool, true, false, ◌≡◌, ◌≢◌, ◌+◌, ◌-◌, ◌*◌, ◌/◌, ◌%◌, ◌^◌, ◌<◌, ◌≤◌, ◌∙◌, ◌&&◌}
use Rattle.std.proofs.Common.{ap, refl, sym, arith, inl}
use Rattle.std.proofs.Common.{inr, zero, suc, List, [], ◌∷◌, get_or, slice_index}
use Rattle.std.proofs.lemmas.Bool.{cases_lt, cases_Bool}
use Rattle.diffusion_definitions.specs.Diffusion.{Errors, Plane, Solves, Table, error_of, five, is_dot, value, value_at}
use Rattle.diffusion_kernel.specs.Tables.{table_of}
use Rattle.diffusion_kernel.specs.declared.tables.Kernel.{Kernel}
use Rattle.tile_edges.specs.Edges.{skewed}
use Rattle.tile_lanes.specs.Held.{error_held, same_in, up1_in, up2_in, value_in, value_in_row}
use Rattle.tile_lanes.specs.Lanes.{HasAmounts, HasBits, HasLastDots, IsCleared, IsFilled, IsStep, IsStepped}
use Rattle.tile_lanes.specs.Paces.{cell_of, delay_of, first_group, pace_of}
use Rattle.tile_lanes.specs.Rows.{bit, bit_of, is_place, shown}
use Rattle.tile_lanes.specs.declared.lanes.pace.Pace.{Pace}
use Rattle.tile_lanes.specs.declared.lanes.pace.Pace.TheVariants.{Level, Lagging}
use Rattle.tile_lanes.proofs.LevelRows.{four_count, level_apart}
use Rattle.tile_lanes.proofs.Paces.{group_of}
use Rattle.tile_lanes.proofs.RowCells.{five_are, none_right, place_inside, two}

-- A cell that is right, by its place of the plane.
cell_right : (pace : Pace) (e : Errors) (c j t : ℕ) (xs : List ℕ) → IsFilled pace e c j t xs → (p l n y x : ℕ)
    → p < 34 → l < 70 → l + first_group pace p < t → n ≡ cell_of pace p l → y ≡ 32 * j + p → x + 2 * p ≡ 64 * c + l + 2
    → error_held (get_or xs n 0) ≡ e y x
cell_right pace e c j t xs f p l n y x band small visited is_n is_y is_x = grind arith

-- The errors near a pixel of a step, as they stand in a field.
same_right : (pace : Pace) (e : Errors) (c j t r o y x : ℕ) (xs : List ℕ) → IsFilled pace e c j t xs → r < 32 → o < 64
    → o + delay_of pace r + 8 ≡ t → y ≡ 32 * j + r → x + 2 * r ≡ 64 * c + o
    → same_in xs (34 * t + 2 + r) ≡ e (y + 2) (x + 3) ∷ e (y + 2) (x + 2) ∷ []
same_right Level e c j t r o y x xs f row small is_t is_y is_x = two
    (cell_right Level e c j t xs f (r + 2) (5 + o) (34 * t + 2 + r - 34) (y + 2) (x + 3)
    (omega arith) (omega arith) (omega arith) (omega arith) (omega arith) (omega arith))
    (cell_right Level e c j t xs f (r + 2) (4 + o) (34 * t + 2 + r - 68) (y + 2) (x + 2)
    (omega arith) (omega arith) (omega arith) (omega arith) (omega arith) (omega arith))
same_right Lagging e c j t r o y x xs f row small is_t is_y is_x = two
    (cell_right Lagging e c j t xs f (r + 2) (5 + o) (34 * t + 2 + r - 34) (y + 2) (x + 3)
    (omega arith) (omega arith) (omega arith) (omega arith) (omega arith) (omega arith))
    (cell_right Lagging e c j t xs f (r + 2) (4 + o) (34 * t + 2 + r - 68) (y + 2) (x + 2)
    (omega arith) (omega arith) (omega arith) (omega arith) (omega arith) (omega arith))

-- Where rows are level, the fifth of the row above is not there yet: the fourth stands for it.
up1_level : (e : Errors) (c j t r o y x : ℕ) (xs : List ℕ) → IsFilled Level e c j t xs → r < 32 → o < 64
    → o + 8 ≡ t → y ≡ 32 * j + r → x + 2 * r ≡ 64 * c + o
    → up1_in Level xs (34 * t + 2 + r)
    ≡ e (y + 1) (x + 2) ∷ e (y + 1) (x + 2 + 1) ∷ e (y + 1) (x + 2 + 2) ∷ e (y + 1) (x + 2 + 3) ∷ e (y + 1) (x + 2 + 3) ∷ []
up1_level e c j t r o y x xs f row small is_t is_y is_x =
    let at : ℕ = 34 * t + 2 + r in
    let near = λ (d l n : ℕ). λ (b : l < 70) (v : l + 2 < t) (i : at - d ≡ 34 * (l + 2) + (r + 1)) (u : n + 2 * (r + 1) ≡ 64 * c + l + 2).
    cell_right Level e c j t xs f (r + 1) l (at - d) (y + 1) n (omega arith) b v i (omega arith) u in
    let fourth = near 35 (5 + o) (x + 2 + 3) (omega arith) (omega arith) (omega arith) (omega arith) in
    five_are
    (near 137 (2 + o) (x + 2) (omega arith) (omega arith) (omega arith) (omega arith))
    (near 103 (3 + o) (x + 2 + 1) (omega arith) (omega arith) (omega arith) (omega arith))
    (near 69 (4 + o) (x + 2 + 2) (omega arith) (omega arith) (omega arith) (omega arith)) fourth fourth

up1_lagging : (e : Errors) (c j t r o y x : ℕ) (xs : List ℕ) → IsFilled Lagging e c j t xs → r < 32 → o < 64
    → o + r + 8 ≡ t → y ≡ 32 * j + r → x + 2 * r ≡ 64 * c + o
    → up1_in Lagging xs (34 * t + 2 + r) ≡ five (e (y + 1)) (x + 2)
up1_lagging e c j t r o y x xs f row small is_t is_y is_x =
    let at : ℕ = 34 * t + 2 + r in
    let near = λ (d l n : ℕ). λ (b : l < 70) (v : l + (r + 1) < t) (i : at - d ≡ 34 * (l + (r + 1)) + (r + 1)) (u : n + 2 * (r + 1) ≡ 64 * c + l + 2).
    cell_right Lagging e c j t xs f (r + 1) l (at - d) (y + 1) n (omega arith) b v i (omega arith) u in
    five_are
    (near 171 (2 + o) (x + 2) (omega arith) (omega arith) (omega arith) (omega arith))
    (near 137 (3 + o) (x + 2 + 1) (omega arith) (omega arith) (omega arith) (omega arith))
    (near 103 (4 + o) (x + 2 + 2) (omega arith) (omega arith) (omega arith) (omega arith))
    (near 69 (5 + o) (x + 2 + 3) (omega arith) (omega arith) (omega arith) (omega arith))
    (near 35 (6 + o) (x + 2 + 4) (omega arith) (omega arith) (omega arith) (omega arith))

up2_lagging : (e : Errors) (c j t r o y x : ℕ) (xs : List ℕ) → IsFilled Lagging e c j t xs → r < 32 → o < 64
    → o + r + 8 ≡ t → y ≡ 32 * j + r → x + 2 * r ≡ 64 * c + o
    → up2_in Lagging xs (34 * t + 2 + r) ≡ five (e y) (x + 2)
up2_lagging e c j t r o y x xs f row small is_t is_y is_x =
    let at : ℕ = 34 * t + 2 + r in
    let near = λ (d l n : ℕ). λ (b : l < 70) (v : l + r < t) (i : at - d ≡ 34 * (l + r) + r) (u : n + 2 * r ≡ 64 * c + l + 2).
    cell_right Lagging e c j t xs f r l (at - d) y n (omega arith) b v i is_y u in
    five_are
    (near 274 o (x + 2) (omega arith) (omega arith) (omega arith) (omega arith))
    (near 240 (1 + o) (x + 2 + 1) (omega arith) (omega arith) (omega arith) (omega arith))
    (near 206 (2 + o) (x + 2 + 2) (omega arith) (omega arith) (omega arith) (omega arith))
    (near 172 (3 + o) (x + 2 + 3) (omega arith) (omega arith) (omega arith) (omega arith))
    (near 138 (4 + o) (x + 2 + 4) (omega arith) (omega arith) (omega arith) (omega arith))

up2_level : (e : Errors) (c j t r o y x : ℕ) (xs : List ℕ) → IsFilled Level e c j t xs → r < 32 → o < 64
    → o + 8 ≡ t → y ≡ 32 * j + r → x + 2 * r ≡ 64 * c + o
    → up2_in Level xs (34 * t + 2 + r) ≡ five (e y) (x + 2)
up2_level e c j t r o y x xs f row small is_t is_y is_x =
    let at : ℕ = 34 * t + 2 + r in
    let near = λ (d l n : ℕ). λ (b : l < 70) (v : l + 2 < t) (i : at - d ≡ 34 * (l + 2) + r) (u : n + 2 * r ≡ 64 * c + l + 2).
    cell_right Level e c j t xs f r l (at - d) y n (omega arith) b v i is_y u in
    five_are
    (near 206 o (x + 2) (omega arith) (omega arith) (omega arith) (omega arith))
    (near 172 (1 + o) (x + 2 + 1) (omega arith) (omega arith) (omega arith) (omega arith))
    (near 138 (2 + o) (x + 2 + 2) (omega arith) (omega arith) (omega arith) (omega arith))
    (near 104 (3 + o) (x + 2 + 3) (omega arith) (omega arith) (omega arith) (omega arith))
    (near 70 (4 + o) (x + 2 + 4) (omega arith) (omega arith) (omega arith) (omega arith))

-- The errors near a pixel, as they stand in the plane, give it its value.
value_paced : (pace : Pace) (k : Table) (e : Errors) (c j t r o y x a : ℕ) (xs : List ℕ)
    → (pace ≡ Level → slice_index k.below 0 ≡ 0) → IsFilled pace e c j t xs → r < 32
    → o < 64 → o + delay_of pace r + 8 ≡ t → y ≡ 32 * j + r → x + 2 * r ≡ 64 * c + o
    → value k a (same_in xs (34 * t + 2 + r)) (up1_in pace xs (34 * t + 2 + r)) (up2_in pace xs (34 * t + 2 + r))
    ≡ value k a (e (y + 2) (x + 3) ∷ e (y + 2) (x + 2) ∷ []) (five (e (y + 1)) (x + 2)) (five (e y) (x + 2))
value_paced Level k e c j t r o y x a xs apart f row small is_t is_y is_x =
    let at : ℕ = 34 * t + 2 + r in
    let own : List ℤ = e (y + 2) (x + 3) ∷ e (y + 2) (x + 2) ∷ [] in
    let up : ℕ → ℤ = e (y + 1) in
    let step : o + 8 ≡ t = omega (arith, is_t) in
    ap (λ s. value k a s (up1_in Level xs at) (up2_in Level xs at)) (same_right Level e c j t r o y x xs f row small is_t is_y is_x)
    ∙ ap (λ u. value k a own u (up2_in Level xs at)) (up1_level e c j t r o y x xs f row small step is_y is_x)
    ∙ four_count k a own (up2_in Level xs at) (up (x + 2)) (up (x + 2 + 1)) (up (x + 2 + 2)) (up (x + 2 + 3)) _ _ (apart refl)
    ∙ ap (value k a own (five up (x + 2))) (up2_level e c j t r o y x xs f row small step is_y is_x)
value_paced Lagging k e c j t r o y x a xs apart f row small is_t is_y is_x =
    let at : ℕ = 34 * t + 2 + r in
    let own : List ℤ = e (y + 2) (x + 3) ∷ e (y + 2) (x + 2) ∷ [] in
    ap (λ s. value k a s (up1_in Lagging xs at) (up2_in Lagging xs at)) (same_right Lagging e c j t r o y x xs f row small is_t is_y is_x)
    ∙ ap (λ u. value k a own u (up2_in Lagging xs at)) (up1_lagging e c j t r o y x xs f row small is_t is_y is_x)
    ∙ ap (value k a own (five (e (y + 1)) (x + 2))) (up2_lagging e c j t r o y x xs f row small is_t is_y is_x)

value_right : (kernel : Kernel) (p : Plane) (e : Errors) (c j t r o : ℕ) (amounts xs : List ℕ)
    → HasAmounts (pace_of kernel) p c j 32 amounts
    → IsFilled (pace_of kernel) e c j t xs
    → r < 32 → o < 64 → o + delay_of (pace_of kernel) r + 8 ≡ t → is_place p j r (64 * c + o) ≡ true
    → value_in_row kernel amounts t xs r ≡ value_at (table_of kernel) p e (32 * j + r) (64 * c + o - 2 * r)
value_right kernel p e c j t r o amounts xs h f row small is_t place =
    let y : ℕ = 32 * j + r in
    let x : ℕ = 64 * c + o - 2 * r in
    let inside = place_inside p j r (64 * c + o) place in
    let from : 2 * r ≤ 64 * c + o = inside.from in
    let there : 32 * (t - 8) + r ≡ 32 * (o + delay_of (pace_of kernel) r) + r = omega (arith, is_t) in
    let amount : get_or amounts (32 * (t - 8) + r) 0 ≡ p.amount y x = ap (λ m. get_or amounts m 0) there
    ∙ h.at r o row small place in
    ap (λ a. value_in kernel a xs (34 * t + 2 + r)) amount
    ∙ value_paced (pace_of kernel) (table_of kernel) e c j t r o y x (p.amount y x) xs (level_apart kernel) f row small is_t refl (omega arith)

error_right : (kernel : Kernel) (p : Plane) (e : Errors) (c j t r o : ℕ) (amounts xs : List ℕ)
    → Solves (table_of kernel) p e → HasAmounts (pace_of kernel) p c j 32 amounts
    → IsFilled (pace_of kernel) e c j t xs
    → r < 32 → o < 64 → o + delay_of (pace_of kernel) r + 8 ≡ t → is_place p j r (64 * c + o) ≡ true
    → error_of (value_in_row kernel amounts t xs r) ≡ skewed e j (r + 2) (64 * c + (6 + o))
error_right kernel p e c j t r o amounts xs s h f row small is_t place = grind (arith, place_inside, value_right)

dot_right : (kernel : Kernel) (p : Plane) (e : Errors) (c j t r o : ℕ) (amounts xs : List ℕ)
    → HasAmounts (pace_of kernel) p c j 32 amounts → IsFilled (pace_of kernel) e c j t xs
    → r < 32 → o < 64 → o + delay_of (pace_of kernel) r + 8 ≡ t → is_place p j r (64 * c + o) ≡ true
    → is_dot (value_in_row kernel amounts t xs r) ≡ shown (table_of kernel) p e j r (64 * c + o)
dot_right kernel p e c j t r o amounts xs h f row small is_t place = grind (arith, value_right)

-- ---- a step

-- the cells of earlier groups, of the two rows above and left of the tile stay
pub step_kept : (kernel : Kernel) (p : Plane) (e : Errors) (c j t : ℕ) (amounts f0 d0 f1 d1 f2 d2 : List ℕ)
    → IsFilled (pace_of kernel) e c j t f0 → IsStep kernel amounts t 0 32 f0 d0 f1 d1
    → IsCleared (pace_of kernel) p c j t f1 d1 f2 d2 → IsFilled (pace_of kernel) e c j t f2
step_kept kernel p e c j t amounts f0 d0 f1 d1 f2 d2 f s g = grind (arith, cases_lt, group_of)

pub step_right : (kernel : Kernel) (p : Plane) (e : Errors) (c j t : ℕ) {amounts f0 d0 f1 d1 f2 d2 : List ℕ}
    → Solves (table_of kernel) p e → HasAmounts (pace_of kernel) p c j 32 amounts
    → IsFilled (pace_of kernel) e c j t f0 → IsStep kernel amounts t 0 32 f0 d0 f1 d1
    → IsCleared (pace_of kernel) p c j t f1 d1 f2 d2 → IsStepped (pace_of kernel) e c j t f2
step_right kernel p e c j t {amounts} {f0} {d0} {f1} {d1} {f2} {d2} solves h f s g = record {
  filled = step_kept kernel p e c j t amounts f0 d0 f1 d1 f2 d2 f s g;
  pixels = λ r o row small is_t. elim (cases_Bool (is_place p j r (64 * c + o))) [
    | inl place ↦ ap error_held (g.pixel r o row small is_t place) ∙ s.errors r o (omega arith) row small is_t
        ∙ error_right kernel p e c j t r o amounts f0 solves h f row small is_t place
    | inr none ↦ ap error_held (g.none r o row small is_t none)
        ∙ (none_right (table_of kernel) p e c j r o solves none).err
  ];
}

-- ---- dots

-- one more dot as the lowest bit
lowest : (d new : ℕ) (b : Bool) → new ≡ (2 * d + bit_of b) % 65536 → new % 2 ≡ bit_of b
lowest d new true h = omega (arith, h)
lowest d new false h = omega (arith, h)

shifted : (d new : ℕ) (b : Bool) → new ≡ (2 * d + bit_of b) % 65536 → new / 2 ≡ d % 32768
shifted d new true h = omega (arith, h)
shifted d new false h = omega (arith, h)

higher : (d new i : ℕ) → i < 15 → new / 2 ≡ d % 32768 → new / 2 ^ (i + 1) % 2 ≡ d / 2 ^ i % 2
higher d new zero h is = omega (arith, is)
higher d new (suc zero) h is = omega (arith, is)
higher d new (suc (suc zero)) h is = omega (arith, is)
higher d new (suc (suc (suc zero))) h is = omega (arith, is)
higher d new (suc (suc (suc (suc zero)))) h is = omega (arith, is)
higher d new (suc (suc (suc (suc (suc zero))))) h is = omega (arith, is)
higher d new (suc (suc (suc (suc (suc (suc zero)))))) h is = omega (arith, is)
higher d new (suc (suc (suc (suc (suc (suc (suc zero))))))) h is = omega (arith, is)
higher d new (suc (suc (suc (suc (suc (suc (suc (suc zero)))))))) h is = omega (arith, is)
higher d new (suc (suc (suc (suc (suc (suc (suc (suc (suc zero))))))))) h is = omega (arith, is)
higher d new (suc (suc (suc (suc (suc (suc (suc (suc (suc (suc zero)))))))))) h is = omega (arith, is)
higher d new (suc (suc (suc (suc (suc (suc (suc (suc (suc (suc (suc zero))))))))))) h is = omega (arith, is)
higher d new (suc (suc (suc (suc (suc (suc (suc (suc (suc (suc (suc (suc zero)))))))))))) h is = omega (arith, is)
higher d new (suc (suc (suc (suc (suc (suc (suc (suc (suc (suc (suc (suc (suc zero))))))))))))) h is = omega (arith, is)
higher d new (suc (suc (suc (suc (suc (suc (suc (suc (suc (suc (suc (suc (suc (suc zero)))))))))))))) h is = omega (arith, is)
higher d new (suc (suc (suc (suc (suc (suc (suc (suc (suc (suc (suc (suc (suc (suc (suc i))))))))))))))) h is = let no : ⊥ = omega arith in absurd no

pub dots_right : (kernel : Kernel) (p : Plane) (e : Errors) (c j t : ℕ) {amounts f0 d0 f1 d1 f2 d2 : List ℕ}
    → HasAmounts (pace_of kernel) p c j 32 amounts → IsFilled (pace_of kernel) e c j t f0
    → IsStep kernel amounts t 0 32 f0 d0 f1 d1 → IsCleared (pace_of kernel) p c j t f1 d1 f2 d2
    → HasLastDots kernel p e c j t d0 → HasLastDots kernel p e c j (t + 1) d2
dots_right kernel p e c j t {amounts} {f0} {d0} {d1} {d2} h f s g last = record { at = go }
  where
    half : (r o : ℕ) → r < 32 → o < 64 → o + delay_of (pace_of kernel) r + 8 ≡ t → get_or d2 r 0 / 2 ≡ get_or d1 r 0 / 2
    half r o row small now = elim (cases_Bool (is_place p j r (64 * c + o))) [
      | inl place ↦ ap (λ m. m / 2) (g.dot r o row small now place)
      | inr none ↦ let less = g.no_dot r o row small now none in omega (arith, less)
    ]

    go : (r o i : ℕ) → r < 32 → o < 64 → i < 16 → o + delay_of (pace_of kernel) r + 9 + i ≡ t + 1
        → t + 1 ≤ delay_of (pace_of kernel) r + 72
        → get_or d2 r 0 / 2 ^ i % 2 ≡ bit_of (shown (table_of kernel) p e j r (64 * c + o))
    go r o zero row small few is_t in_tile =
        let now : o + delay_of (pace_of kernel) r + 8 ≡ t = omega arith in
        elim (cases_Bool (is_place p j r (64 * c + o))) [
          | inl place ↦
              let low : get_or d1 r 0 % 2 ≡ bit_of (is_dot (value_in_row kernel amounts t f0 r)) =
              lowest (get_or d0 r 0) (get_or d1 r 0) _ (s.dots r o (omega arith) row small now) in
              let same = g.dot r o row small now place in
              let here : get_or d2 r 0 / 2 ^ 0 % 2 ≡ get_or d1 r 0 % 2 = omega (arith, same) in
              here ∙ low ∙ ap bit_of (dot_right kernel p e c j t r o amounts f0 h f row small now place)
          | inr none ↦
              let gone = g.no_dot r o row small now none in
              let here : get_or d2 r 0 / 2 ^ 0 % 2 ≡ 0 = omega (arith, gone) in
              here
              ∙ ap (λ b. bit_of (b && is_dot (value_at (table_of kernel) p e (32 * j + r) (64 * c + o - 2 * r)))) (sym none)
        ]
    go r o (suc i) row small few is_t in_tile =
        let q : ℕ = o + i + 1 in
        let now : q + delay_of (pace_of kernel) r + 8 ≡ t = omega arith in
        let inside : q < 64 = omega arith in
        let moved : get_or d2 r 0 / 2 ≡ get_or d0 r 0 % 32768 =
        half r q row inside now ∙ shifted (get_or d0 r 0) (get_or d1 r 0) _ (s.dots r q (omega arith) row inside now) in
        let next : suc i ≡ i + 1 = omega arith in
        ap (λ m. get_or d2 r 0 / 2 ^ m % 2) next
        ∙ higher (get_or d0 r 0) (get_or d2 r 0) i (omega arith) moved ∙ last.at r o i row small (omega arith) (omega arith) (omega arith)

-- sixteen dots of two rows go to the bits
pub bits_more : (kernel : Kernel) (p : Plane) (e : Errors) (c j t : ℕ) (dots old new : List ℕ)
    → HasLastDots kernel p e c j (t + 1) dots → HasBits kernel p e c j t old
    → ((r o : ℕ) → r < 32 → o < 64 → 16 * (o / 16) + delay_of (pace_of kernel) r + 23 ≡ t → bit new (64 * r + o) ≡ get_or dots r 0 / 2 ^ (15 - o % 16) % 2)
    → ((r o : ℕ) → r < 32 → o < 64 → 16 * (o / 16) + delay_of (pace_of kernel) r + 23 ≢ t → bit new (64 * r + o) ≡ bit old (64 * r + o))
    → HasBits kernel p e c j (t + 1) new
bits_more kernel p e c j t dots old new last f there kept = grind (arith, cases_lt)

-- ---- the next group

pub step_filled : (pace : Pace) (e : Errors) (c j t : ℕ) (xs : List ℕ) → IsStepped pace e c j t xs
    → IsFilled pace e c j (t + 1) xs
step_filled pace e c j t xs s = record {
  before = λ p l band small visited. elim (cases_lt (l + first_group pace p) t) [
    | inl earlier ↦ s.filled.before p l band small earlier
    | inr from ↦ elim (cases_lt p 2) [
      | inl up ↦ s.filled.above p l up small
      | inr in_band ↦ elim (cases_lt l 6) [
        | inl beside ↦ s.filled.left p l band beside
        | inr inside ↦
            let r : ℕ = p - 2 in
            let o : ℕ = l - 6 in
            let place : cell_of pace p l ≡ 34 * t + 2 + r = omega arith in
            let group = group_of pace p in_band in
            let row : r + 2 ≡ p = omega arith in
            let offset : 6 + o ≡ l = omega arith in
            ap (λ m. error_held (get_or xs m 0)) place ∙ s.pixels r o (omega arith) (omega arith) (omega (arith, group))
            ∙ ap (λ q. skewed e j q (64 * c + (6 + o))) row ∙ ap (λ q. skewed e j p (64 * c + q)) offset
      ]
    ]
  ];
  above = s.filled.above;
  left = s.filled.left;
}
