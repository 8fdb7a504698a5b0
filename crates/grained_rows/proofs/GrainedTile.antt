-- The tile of rows with grain.
use Rattle.std.proofs.Common.{ℕ, zero, suc, ◌≡◌, ◌<◌, ◌≤◌, ◌⊎◌, ◌+◌, ◌-◌, ◌*◌, ◌/◌, ◌%◌, inl, inr, List, [], Some, ap, arith, get_or, length, refl, set, slice_get, sym, ◌∙◌}
use Rattle.std.proofs.Common.{get_or-set_other, get_or-set_same}
use Rattle.std.proofs.lemmas.Bool.{cases_eq}
use Rattle.std.proofs.lemmas.Option.{get_or_from_slice_get}
use Rattle.dot_planes.specs.Gathered.{HasNoAmounts, HasTile}
use Rattle.dot_planes.specs.Tables.{AmountTable, amount}
use Rattle.printer_definitions.specs.Inks.{ink_place, inks_of}
use Rattle.printer_definitions.specs.declared.inks.Ink.{Ink}
use Rattle.printer_definitions.specs.declared.inks.Ink.TheVariants.{Black}
use Rattle.raw_rows.specs.Raw.{ink_at}
use Rattle.raw_rows.proofs.Cells.{cell_is}
use Rattle.separation_definitions.specs.Grain.{grain_place, grained, reach}
use Rattle.tile_shape.specs.declared.tiles.Place.{Place}
use Rattle.grained_rows.specs.Grained.{GrainsInks, GrainsOffsets, grained_amount, grained_by, grained_table, row_start}
use Rattle.grained_rows.specs.declared.grain.InkGrain.{InkGrain}

-- no offsets
pub no_offsets : (g : InkGrain) (ink : Ink) (first : ℕ) (p : Place) (tile : List ℕ) → GrainsOffsets g ink first p 0 tile tile
no_offsets g ink first p tile =
    record { pixel = λ r offset x y low at. absurd (omega arith); others = λ k above. refl }

-- the place of a pixel in the recurrence
place_is : (number first : ℕ) (p : Place) (r o x y : ℕ) → x + 2 * r ≡ 64 * p.c + o → y ≡ 32 * p.j + r
    → (row_start number first p r + 49471 * o) % 65536 ≡ (49471 * x + 37344 * (first + y) + 16384 * number) % 65536
place_is number first p r o x y across down = omega arith

-- the same for an ink, by the place where its row begins
ink_place_is : (ink : Ink) (number first : ℕ) (p : Place) (start r o x y : ℕ) → number ≡ ink_place ink → start ≡ row_start number first p r
    → x + 2 * r ≡ 64 * p.c + o → y ≡ 32 * p.j + r → (start + 49471 * o) % 65536 ≡ grain_place ink x (first + y)
ink_place_is ink number first p start r o x y number_is start_is across down =
    ap (λ n. (n + 49471 * o) % 65536) start_is ∙ place_is number first p r o x y across down
    ∙ ap (λ n. (49471 * x + 37344 * (first + y) + 16384 * n) % 65536) number_is

-- one more offset
pub offset_more : (g : InkGrain) (ink : Ink) (first : ℕ) (p : Place) (o number limit : ℕ) (starts a b c : List ℕ) → number ≡ ink_place ink
    → limit ≡ get_or g.limits number 0
    → ((r : ℕ) → r < 32 → get_or starts r 0 ≡ row_start number first p r)
    → ((r : ℕ) → r < 32
    → get_or c (32 * o + r) 0 ≡ grained g.grain limit ((get_or starts r 0 + 49471 * o) % 65536) (get_or b (32 * o + r) 0))
    → ((n : ℕ) → (n < 32 * o) ⊎ (32 * o + 32 ≤ n) → get_or c n 0 ≡ get_or b n 0)
    → GrainsOffsets g ink first p o a b → GrainsOffsets g ink first p (o + 1) a c
offset_more g ink first p o number limit starts a b c number_is limit_is starts_are there others before = record {
  pixel = λ r offset x y low at. elim (cases_eq offset o) [
    | inl same ↦
        let limited : limit ≡ get_or g.limits (ink_place ink) 0 = limit_is ∙ ap (λ n. get_or g.limits n 0) number_is in
        let place : (get_or starts r 0 + 49471 * o) % 65536 ≡ grain_place ink x (first + y) =
        ink_place_is ink number first p (get_or starts r 0) r o x y number_is (starts_are r at.in_band) (omega (arith, at.across)) at.down in
        ap (λ m. get_or c (32 * m + r) 0) same ∙ there r at.in_band
        ∙ ap (λ n. grained g.grain n ((get_or starts r 0 + 49471 * o) % 65536) (get_or b (32 * o + r) 0)) limited
        ∙ ap (λ n. grained g.grain (get_or g.limits (ink_place ink) 0) n (get_or b (32 * o + r) 0)) place
        ∙ ap (grained_by g ink x (first + y)) (before.others (32 * o + r) (omega arith) ∙ sym (ap (λ m. get_or a (32 * m + r) 0) same))
    | inr differs ↦ others (32 * offset + r) (inl (omega (arith, at.in_band))) ∙ before.pixel r offset x y (omega arith) at
  ];
  others = λ k above. others k (inr (omega arith)) ∙ before.others k (omega arith);
}

-- one more ink
pub ink_grained : (g : InkGrain) (first : ℕ) (p : Place) (i at : ℕ) (ink : Ink) (a b : List (List ℕ)) (tile : List ℕ) → at ≡ i
    → at < length b → slice_get (inks_of g.inks) i ≡ Some ink → GrainsInks g first p i a b
    → GrainsOffsets g ink first p 64 (get_or b at []) tile → GrainsInks g first p (i + 1) a (set b at tile)
ink_grained g first p i at ink a b tile is_at room has inks offsets =
    let is : ink_at g.inks i ≡ ink = get_or_from_slice_get (inks_of g.inks) i ink Black has in
    grind (arith, cases_eq, get_or-set_other, get_or-set_same)

-- A tile of the rows with grain.
pub tile_grained : (g : InkGrain) (first : ℕ) (p : Place) (t : AmountTable) (n : ℕ) (old new : List (List ℕ)) → t.inks ≡ n
    → HasTile t p old → GrainsInks g first p n old new → HasTile (grained_table g first t) p new
tile_grained g first p t n old new many has grains = record {
  ink = λ i low. record {
    pixel = λ r offset x y in_band pixel at.
        (grains.ink i (omega arith)).pixel r offset x y at.in_tile at
        ∙ ap (grained_by g (ink_at g.inks i) x (first + y)) ((has.ink i low).pixel r offset x y in_band pixel at)
        ∙ sym (cell_is (grained_amount g first t) t.inks t.rows t.width i y x low pixel.down pixel.across);
  };
}

-- Grain 0 leaves a tile as it is.
pub tile_kept : (g : InkGrain) (first : ℕ) (p : Place) (t : AmountTable) (inks : List (List ℕ)) → g.grain ≡ 0 → HasTile t p inks
    → HasTile (grained_table g first t) p inks
tile_kept g first p t inks none has = record {
  ink = λ i low. record {
    pixel = λ r offset x y in_band pixel at.
        let ink : Ink = ink_at g.inks i in
        (has.ink i low).pixel r offset x y in_band pixel at
        ∙ sym (ap (λ n. grained n (get_or g.limits (ink_place ink) 0) (grain_place ink x (first + y)) (amount t i y x)) none)
        ∙ sym (cell_is (grained_amount g first t) t.inks t.rows t.width i y x low pixel.down pixel.across);
  };
}

-- Grain leaves an amount of 0 as it is.
none_moved : (grain limit place : ℕ) → place < 65536 → grained grain limit place 0 ≡ 0
none_moved zero limit place low = refl
none_moved (suc n) limit place low =
    let still : reach (suc n) limit 0 ≡ 0 = omega arith in
    ap (λ far. 0 + place * (2 * far + 1) / 65536 - far) still ∙ omega arith

-- Rows with grain have no amounts where the rows have none.
pub none_grained : (g : InkGrain) (first : ℕ) (p : Place) (t : AmountTable) → HasNoAmounts t p → HasNoAmounts (grained_table g first t) p
none_grained g first p t none = record {
  ink = λ i low. record {
    pixel = λ r offset x y pixel at.
        let ink : Ink = ink_at g.inks i in
        cell_is (grained_amount g first t) t.inks t.rows t.width i y x low pixel.down pixel.across
        ∙ ap (grained_by g ink x (first + y)) ((none.ink i low).pixel r offset x y pixel at)
        ∙ none_moved g.grain (get_or g.limits (ink_place ink) 0) (grain_place ink x (first + y)) (omega arith);
  };
}
