-- Amounts of a tile by steps, sixteen rows at a time.
use Rattle.std.proofs.Common.{Bool, true, false, ℕ, ◌≡◌, ◌≢◌, ◌+◌, ◌-◌, ◌*◌, ◌/◌, ◌%◌, ◌<◌, ◌≤◌, ◌⊎◌, ◌∙◌, ◌++◌, ap, sym, subst, refl, arith, inl, inr, zero, suc, List, [], ◌∷◌, get_or}
use Rattle.std.proofs.Common.{length}
use Rattle.std.proofs.lemmas.Bool.{cases_eq, cases_lt}
use Rattle.std.proofs.lemmas.List.{get_or-append-add, get_or-map, get_or_append_left}
use Rattle.std.proofs.lemmas.Simd.{get_or-put_chunk_at, get_or-put_chunk_above, get_or-put_chunk_below}
use lib.Lanes.{pick_l, put_chunk}
use Rattle.tile_lanes.specs.Lanes.{HasSteps}
use Rattle.tile_lanes.specs.Order.{AreAllBehind, AreBehind, AreSpread, IsBlend, IsPut, IsRead, KeepsOthers, odd_of, spread}
use Rattle.tile_lanes.specs.declared.lanes.pace.Pace.TheVariants.{Lagging}

-- ---- lanes of two vectors

-- what holds of each lane of sixteen
pub sixteen : (P : ℕ → Type 0) → P 0 → P 1 → P 2 → P 3 → P 4 → P 5 → P 6 → P 7 → P 8 → P 9 → P 10 → P 11 → P 12 → P 13 → P 14 → P 15
    → (m : ℕ) → m < 16 → P m
sixteen P a b c d e f g h i j k l m n o p zero low = a
sixteen P a b c d e f g h i j k l m n o p (suc zero) low = b
sixteen P a b c d e f g h i j k l m n o p (suc (suc zero)) low = c
sixteen P a b c d e f g h i j k l m n o p (suc (suc (suc zero))) low = d
sixteen P a b c d e f g h i j k l m n o p (suc (suc (suc (suc zero)))) low = e
sixteen P a b c d e f g h i j k l m n o p (suc (suc (suc (suc (suc zero))))) low = f
sixteen P a b c d e f g h i j k l m n o p (suc (suc (suc (suc (suc (suc zero)))))) low = g
sixteen P a b c d e f g h i j k l m n o p (suc (suc (suc (suc (suc (suc (suc zero))))))) low = h
sixteen P a b c d e f g h i j k l m n o p (suc (suc (suc (suc (suc (suc (suc (suc zero)))))))) low = i
sixteen P a b c d e f g h i j k l m n o p (suc (suc (suc (suc (suc (suc (suc (suc (suc zero))))))))) low = j
sixteen P a b c d e f g h i j k l m n o p (suc (suc (suc (suc (suc (suc (suc (suc (suc (suc zero)))))))))) low = k
sixteen P a b c d e f g h i j k l m n o p (suc (suc (suc (suc (suc (suc (suc (suc (suc (suc (suc zero))))))))))) low = l
sixteen P a b c d e f g h i j k l m n o p (suc (suc (suc (suc (suc (suc (suc (suc (suc (suc (suc (suc zero)))))))))))) low = m
sixteen P a b c d e f g h i j k l m n o p (suc (suc (suc (suc (suc (suc (suc (suc (suc (suc (suc (suc (suc zero))))))))))))) low = n
sixteen P a b c d e f g h i j k l m n o p (suc (suc (suc (suc (suc (suc (suc (suc (suc (suc (suc (suc (suc (suc zero)))))))))))))) low = o
sixteen P a b c d e f g h i j k l m n o p (suc (suc (suc (suc (suc (suc (suc (suc (suc (suc (suc (suc (suc (suc (suc zero))))))))))))))) low = p
sixteen P a b c d e f g h i j k l m n o p (suc (suc (suc (suc (suc (suc (suc (suc (suc (suc (suc (suc (suc (suc (suc (suc q)))))))))))))))) low = absurd (omega arith)

-- where each lane stands in two vectors that are blended, one after the other
abbrev pub place_in : Bool → ℕ → ℕ
place_in pairs m = m + 16 * (1 - odd_of pairs m)

abbrev pub places : Bool → List ℕ
places false = 16 ∷ 1 ∷ 18 ∷ 3 ∷ 20 ∷ 5 ∷ 22 ∷ 7 ∷ 24 ∷ 9 ∷ 26 ∷ 11 ∷ 28 ∷ 13 ∷ 30 ∷ 15 ∷ []
places true = 16 ∷ 17 ∷ 2 ∷ 3 ∷ 20 ∷ 21 ∷ 6 ∷ 7 ∷ 24 ∷ 25 ∷ 10 ∷ 11 ∷ 28 ∷ 29 ∷ 14 ∷ 15 ∷ []

places_are : (pairs : Bool) (m : ℕ) → m < 16 → get_or (places pairs) m 0 ≡ place_in pairs m
places_are false m low = sixteen (λ i. get_or (places false) i 0 ≡ place_in false i) refl refl refl refl refl refl refl refl refl refl refl refl refl refl refl refl m low
places_are true m low = sixteen (λ i. get_or (places true) i 0 ≡ place_in true i) refl refl refl refl refl refl refl refl refl refl refl refl refl refl refl refl m low

places_long : (pairs : Bool) → length (places pairs) ≡ 16
places_long false = refl
places_long true = refl

-- the lanes at these places
blend_is : (pairs : Bool) (before here : List ℕ) → length before ≡ 16 → IsBlend pairs before here (pick_l 0 (before ++ here) (places pairs))
blend_is pairs before here long = record {
  odd = λ m low odd.
      let place : place_in pairs m ≡ m = omega (arith, odd) in
      lane m low ∙ ap (λ k. get_or (before ++ here) k 0) place ∙ get_or_append_left before here 0 m (omega (arith, long));
  even = λ m low even.
      let place : place_in pairs m ≡ length before + m = omega (arith, even, long) in
      lane m low ∙ ap (λ k. get_or (before ++ here) k 0) place ∙ get_or-append-add before here m 0;
}
  where
    lane : (m : ℕ) → m < 16 → get_or (pick_l 0 (before ++ here) (places pairs)) m 0 ≡ get_or (before ++ here) (place_in pairs m) 0
    lane m low =
        let count = places_long pairs in
        get_or-map (λ k. get_or (before ++ here) k 0) (places pairs) m 0 0 (omega (arith, count))
        ∙ ap (λ k. get_or (before ++ here) k 0) (places_are pairs m low)

pub blend_out : {pairs is : Bool} {out : List ℕ} (before here : List ℕ) → pairs ≡ is → out ≡ pick_l 0 (before ++ here) (places is)
    → length before ≡ 16 → IsBlend pairs before here out
blend_out {pairs} {is} {out} before here same is_out long =
    subst (λ v. IsBlend pairs before here v) (sym is_out)
    (subst (λ p. IsBlend p before here (pick_l 0 (before ++ here) (places is))) (sym same) (blend_is is before here long))

-- ---- amounts are put

pub four_put : (four : List ℕ) (at : ℕ) (old : List ℕ) → length four ≡ 4 → at + 4 ≤ length old → IsPut four at old (put_chunk at old four)
four_put four at old long room = record {
  there = λ i low. get_or-put_chunk_at at old four i 0 (omega (arith, long)) (omega (arith, long));
  kept = λ n off. elim off [
    | inl under ↦ get_or-put_chunk_below at old four n 0 under
    | inr past ↦ get_or-put_chunk_above at old four n 0 (omega (arith, long))
  ];
}

-- Four lanes of a vector, from lane `first` on, are put.
pub record IsPutFrom (part : List ℕ) (first at : ℕ) (old new : List ℕ) : Type 0 where
  pub there : (i : ℕ) → i < 4 → get_or new (at + i) 0 ≡ get_or part (first + i) 0
  pub kept : (n : ℕ) → (n < at) ⊎ (at + 4 ≤ n) → get_or new n 0 ≡ get_or old n 0

pub put_from : (part four : List ℕ) (first at : ℕ) (old new : List ℕ) → ((i : ℕ) → i < 4 → get_or four i 0 ≡ get_or part (first + i) 0)
    → IsPut four at old new → IsPutFrom part first at old new
put_from part four first at old new lanes put = record { there = λ i low. put.there i low ∙ lanes i low; kept = put.kept }

-- four lanes of a vector that was joined with itself
pub four_of : (part : List ℕ) (first : ℕ) → first + 4 ≤ length part → (i : ℕ) → i < 4
    → get_or (get_or (part ++ part) first 0 ∷ get_or (part ++ part) (first + 1) 0 ∷ get_or (part ++ part) (first + 2) 0
    ∷ get_or (part ++ part) (first + 3) 0 ∷ []) i 0 ≡ get_or part (first + i) 0
four_of part first room zero low =
    let place : first ≡ first + 0 = omega arith in
    get_or_append_left part part 0 first (omega arith) ∙ ap (λ k. get_or part k 0) place
four_of part first room (suc zero) low = get_or_append_left part part 0 (first + 1) (omega arith)
four_of part first room (suc (suc zero)) low = get_or_append_left part part 0 (first + 2) (omega arith)
four_of part first room (suc (suc (suc zero))) low = get_or_append_left part part 0 (first + 3) (omega arith)
four_of part first room (suc (suc (suc (suc i)))) low = absurd (omega arith)

pub all_spread : (part : List ℕ) (at : ℕ) (a b c d e : List ℕ)
    → IsPutFrom part 0 at a b → IsPutFrom part 4 (at + 132) b c → IsPutFrom part 8 (at + 264) c d → IsPutFrom part 12 (at + 396) d e
    → AreSpread part at a e
all_spread part at a b c d e f g h i = record {
  there = λ m low. elim (cases_lt m 4) [
    | inl one ↦
        let place : spread at m ≡ at + m = omega (arith, one) in
        let lane : 0 + m ≡ m = omega arith in
        ap (λ k. get_or e k 0) place ∙ i.kept (at + m) (inl (omega (arith, one))) ∙ h.kept (at + m) (inl (omega (arith, one)))
        ∙ g.kept (at + m) (inl (omega (arith, one))) ∙ f.there m one ∙ ap (λ k. get_or part k 0) lane
    | inr past ↦ elim (cases_lt m 8) [
      | inl two ↦
          let j : ℕ = m - 4 in
          let place : spread at m ≡ at + 132 + j = omega (arith, past, two) in
          let lane : 4 + j ≡ m = omega (arith, past) in
          ap (λ k. get_or e k 0) place ∙ i.kept (at + 132 + j) (inl (omega (arith, two))) ∙ h.kept (at + 132 + j) (inl (omega (arith, two)))
          ∙ g.there j (omega (arith, two)) ∙ ap (λ k. get_or part k 0) lane
      | inr past2 ↦ elim (cases_lt m 12) [
        | inl three ↦
            let j : ℕ = m - 8 in
            let place : spread at m ≡ at + 264 + j = omega (arith, past2, three) in
            let lane : 8 + j ≡ m = omega (arith, past2) in
            ap (λ k. get_or e k 0) place ∙ i.kept (at + 264 + j) (inl (omega (arith, three)))
            ∙ h.there j (omega (arith, three)) ∙ ap (λ k. get_or part k 0) lane
        | inr past3 ↦
            let j : ℕ = m - 12 in
            let place : spread at m ≡ at + 396 + j = omega (arith, past3, low) in
            let lane : 12 + j ≡ m = omega (arith, past3) in
            ap (λ k. get_or e k 0) place ∙ i.there j (omega (arith, low)) ∙ ap (λ k. get_or part k 0) lane
      ]
    ]
  ];
  kept = λ n off.
      i.kept n (away n 12 (at + 396) (λ k low same. off (12 + k) (omega arith) (omega (arith, same))))
      ∙ h.kept n (away n 8 (at + 264) (λ k low same. off (8 + k) (omega arith) (omega (arith, same))))
      ∙ g.kept n (away n 4 (at + 132) (λ k low same. off (4 + k) (omega arith) (omega (arith, same))))
      ∙ f.kept n (away n 0 at (λ k low same. off k (omega arith) (omega (arith, same))));
}
  where
    away : (n first from : ℕ) → ((k : ℕ) → k < 4 → n ≢ from + k) → (n < from) ⊎ (from + 4 ≤ n)
    away n first from off = elim (cases_lt n from) [
      | inl under ↦ inl under
      | inr late ↦ elim (cases_lt n (from + 4)) [
        | inl inside ↦ absurd (off (n - from) (omega arith) (omega arith))
        | inr past ↦ inr past
      ]
    ]

-- ---- a step

-- A lane of the blended vectors is an amount of the tile at the offset that the lane reads.
lane_is : (tile : List ℕ) (first here before before2 before3 m : ℕ) (a b c d near far part : List ℕ) → m < 16
    → ((m : ℕ) → m < 16 → get_or a m 0 ≡ get_or tile (32 * here + first + m) 0)
    → ((m : ℕ) → m < 16 → get_or b m 0 ≡ get_or tile (32 * before + first + m) 0)
    → ((m : ℕ) → m < 16 → get_or c m 0 ≡ get_or tile (32 * before2 + first + m) 0)
    → ((m : ℕ) → m < 16 → get_or d m 0 ≡ get_or tile (32 * before3 + first + m) 0)
    → IsBlend false b a near → IsBlend false d c far → IsBlend true far near part
    → (step o : ℕ) → o < 64 → step ≡ o + m % 4 → IsRead step 0 here → IsRead step 1 before → IsRead step 2 before2 → IsRead step 3 before3
    → get_or part m 0 ≡ get_or tile (32 * o + (first + m)) 0
lane_is tile first here before before2 before3 m a b c d near far part low is_a is_b is_c is_d is_near is_far is_part
    step o small at read read1 read2 read3 = elim (cases_eq (m / 2 % 2) 1) [
      | inl pair ↦ is_part.odd m low pair ∙ elim (cases_eq (m % 2) 1) [
        | inl odd ↦
            let n : before3 + 3 ≡ step = read3.right (omega arith) (omega arith) in
            let place : 32 * before3 + first + m ≡ 32 * o + (first + m) = omega (arith, n) in
            is_far.odd m low odd ∙ is_d m low ∙ ap (λ k. get_or tile k 0) place
        | inr even ↦
            let n : before2 + 2 ≡ step = read2.right (omega arith) (omega arith) in
            let place : 32 * before2 + first + m ≡ 32 * o + (first + m) = omega (arith, n) in
            is_far.even m low (omega arith) ∙ is_c m low ∙ ap (λ k. get_or tile k 0) place
      ]
      | inr single ↦ is_part.even m low (omega arith) ∙ elim (cases_eq (m % 2) 1) [
        | inl odd ↦
            let n : before + 1 ≡ step = read1.right (omega arith) (omega arith) in
            let place : 32 * before + first + m ≡ 32 * o + (first + m) = omega (arith, n) in
            is_near.odd m low odd ∙ is_b m low ∙ ap (λ k. get_or tile k 0) place
        | inr even ↦
            let n : here + 0 ≡ step = read.right (omega arith) (omega arith) in
            let place : 32 * here + first + m ≡ 32 * o + (first + m) = omega (arith, n) in
            is_near.even m low (omega arith) ∙ is_a m low ∙ ap (λ k. get_or tile k 0) place
      ]
    ]

-- where a lane of a step is put
spread_place : (first step m : ℕ) → spread (32 * (first + step) + first) m ≡ 32 * (first + step + 4 * (m / 4)) + (first + m)
spread_place first step m = omega arith

pub put_more : (tile : List ℕ) (first step : ℕ) {here before before2 before3 : ℕ} {a b c d near far part old new : List ℕ} → first ≤ 16
    → IsRead step 0 here → IsRead step 1 before → IsRead step 2 before2 → IsRead step 3 before3
    → ((m : ℕ) → m < 16 → get_or a m 0 ≡ get_or tile (32 * here + first + m) 0)
    → ((m : ℕ) → m < 16 → get_or b m 0 ≡ get_or tile (32 * before + first + m) 0)
    → ((m : ℕ) → m < 16 → get_or c m 0 ≡ get_or tile (32 * before2 + first + m) 0)
    → ((m : ℕ) → m < 16 → get_or d m 0 ≡ get_or tile (32 * before3 + first + m) 0)
    → IsBlend false b a near → IsBlend false d c far → IsBlend true far near part
    → AreSpread part (32 * (first + step) + first) old new
    → AreBehind tile first step old → AreBehind tile first (step + 1) new
put_more tile first step {here} {before} {before2} {before3} {a} {b} {c} {d} {near} {far} {part} {old} {new}
    half read read1 read2 read3 is_a is_b is_c is_d is_near is_far is_part put f = record {
      at = λ m o low small upto. elim (cases_eq (o + m % 4) step) [
        | inl last ↦
            let where_put = spread_place first step m in
            let place : 32 * (first + o + m) + (first + m) ≡ spread (32 * (first + step) + first) m = omega (arith, last, where_put) in
            ap (λ k. get_or new k 0) place ∙ put.there m low
            ∙ lane_is tile first here before before2 before3 m a b c d near far part low is_a is_b is_c is_d is_near is_far is_part
            step o small (sym last) read read1 read2 read3
        | inr not ↦
            put.kept (32 * (first + o + m) + (first + m)) (λ n few same. let where_put = spread_place first step n in
            let row : m ≡ n = omega (arith, same, where_put) in
            not (omega (arith, same, where_put, row)))
            ∙ f.at m o low small (omega arith)
      ];
    }

pub rows_kept : (first step : ℕ) (part old new : List ℕ) → first ≤ 16 → AreSpread part (32 * (first + step) + first) old new
    → KeepsOthers first old new
rows_kept first step part old new half put = record {
  others = λ t r row out. put.kept (32 * t + r) (λ n few same. let where_put = spread_place first step n in
      let here : r ≡ first + n = omega (arith, same, where_put) in omega (arith, out, here));
}

-- ---- all rows and steps

half_stays : (tile : List ℕ) (end first other : ℕ) (old new : List ℕ) → first ≤ 16 → (other + 16 ≤ first) ⊎ (first + 16 ≤ other)
    → KeepsOthers other old new → AreBehind tile first end old → AreBehind tile first end new
half_stays tile end first other old new half apart kept f = record {
  at = λ m o low small upto. kept.others (first + o + m) (first + m) (omega arith) (out m low) ∙ f.at m o low small upto;
}
  where
    out : (m : ℕ) → m < 16 → (first + m < other) ⊎ (other + 16 ≤ first + m)
    out m low = elim apart [ inl under ↦ inr (omega arith) | inr over ↦ inl (omega arith) ]

pub both_halves : (tile : List ℕ) (step : ℕ) (old now new : List ℕ)
    → (AreBehind tile 0 step old → AreBehind tile 0 (step + 1) now) → KeepsOthers 0 old now
    → (AreBehind tile 16 step now → AreBehind tile 16 (step + 1) new) → KeepsOthers 16 now new
    → AreAllBehind tile step old → AreAllBehind tile (step + 1) new
both_halves tile step old now new upper kept lower kept2 all = record {
  upper = half_stays tile (step + 1) 0 16 now new (omega arith) (inr (omega arith)) kept2 (upper all.upper);
  lower = lower (half_stays tile step 16 0 old now (omega arith) (inl (omega arith)) kept all.lower);
}

pub no_steps : (tile old : List ℕ) → AreAllBehind tile 0 old
no_steps tile old = record {
  upper = record { at = λ m o low small upto. absurd (omega arith) };
  lower = record { at = λ m o low small upto. absurd (omega arith) };
}

-- After the last step all amounts are there.
pub all_steps : (tile new : List ℕ) → AreAllBehind tile 67 new → HasSteps Lagging tile new
all_steps tile new all = record {
  at = λ r o row small. elim (cases_lt r 16) [
    | inl up ↦
        let place : 32 * (o + r) + r ≡ 32 * (0 + o + r) + (0 + r) = omega arith in
        let source : 32 * o + (0 + r) ≡ 32 * o + r = omega arith in
        ap (λ k. get_or new k 0) place ∙ all.upper.at r o up small (omega arith) ∙ ap (λ k. get_or tile k 0) source
    | inr down ↦
        let m : ℕ = r - 16 in
        let place : 32 * (o + r) + r ≡ 32 * (16 + o + m) + (16 + m) = omega (arith, down) in
        let source : 32 * o + (16 + m) ≡ 32 * o + r = omega (arith, down) in
        ap (λ k. get_or new k 0) place ∙ all.lower.at m o (omega arith) small (omega arith) ∙ ap (λ k. get_or tile k 0) source
  ];
}
