-- A tile with nothing to diffuse: all its errors are 0, and it has no dot.
use Rattle.std.proofs.Common.{ℕ, ℤ, pos, ◌≡◌, ◌+◌, ◌-◌, ◌*◌, ◌/◌, ◌%◌, ◌^◌, ◌<◌, ◌≤◌, ◌∙◌, true, false, ap, refl, sym, arith, inl, inr}
use Rattle.std.proofs.Common.{zero, suc, List, [], ◌∷◌, get_or, replicate}
use Rattle.std.proofs.Math.Nat.{zero-div}
use Rattle.std.proofs.lemmas.Bool.{cases_Bool, and_left, and_right}
use Rattle.diffusion_definitions.specs.Diffusion.{Errors, Plane, Solves, error_of, five, is_dot, value, value_at}
use Rattle.diffusion_kernel.specs.Tables.{table_of}
use Rattle.diffusion_kernel.specs.declared.tables.Kernel.{Kernel}
use Rattle.diffusion_kernel.specs.declared.tables.Kernel.TheVariants.{Floyd, Jarvis, Stucki}
use Rattle.dot_planes.specs.Gathered.{HasNoAmount, HasPixels}
use Rattle.tile_edges.specs.Edges.{Holds, skewed}
use Rattle.tile_edges.specs.Reads.{HasError, ReadsAt}
use Rattle.tile_edges.proofs.AtHand.{at_hand}
use Rattle.tile_lanes.specs.Blank.{AreZero, HandsNothing, IsBlank}
use Rattle.tile_lanes.specs.Done.{IsDone, IsReady, plane_with}
use Rattle.tile_lanes.specs.Rows.{bit, bit_of, is_place, shown}
use Rattle.tile_lanes.proofs.RowCells.{five_are, none_right, place_inside, two}
use Rattle.tile_lanes.proofs.RowTile.{dots_done}
use Rattle.tile_shape.specs.Geometry.{IsAt}
use Rattle.tile_shape.specs.declared.tiles.Place.{Place}
use Rattle.tile_shape.specs.declared.tiles.Shape.{Shape}

-- five errors of 0
abbrev none : List ℤ
none = pos 0 ∷ pos 0 ∷ pos 0 ∷ pos 0 ∷ pos 0 ∷ []

-- no amount and no error near a pixel give it nothing to show
no_value : (kernel : Kernel) → value (table_of kernel) 0 (pos 0 ∷ pos 0 ∷ []) none none ≡ pos 0
unfolding value
no_value Floyd = refl
no_value Jarvis = refl
no_value Stucki = refl

-- The same for errors in a plane.
nothing_shown : (kernel : Kernel) (p : Plane) (e : Errors) (y x : ℕ) → p.amount y x ≡ 0
    → ((m n : ℕ) → ReadsAt x y m n → e m n ≡ pos 0) → value_at (table_of kernel) p e y x ≡ pos 0
nothing_shown kernel p e y x no_amount no_error =
    let k = table_of kernel in
    let same : List ℤ = e (y + 2) (x + 3) ∷ e (y + 2) (x + 2) ∷ [] in
    let own = λ (n : ℕ) (low : x + 2 ≤ n) (high : n ≤ x + 3). no_error (y + 2) n (inl (refl, low, high)) in
    let up = λ (n : ℕ) (low : x + 2 ≤ n) (high : n ≤ x + 6). no_error (y + 1) n (inr (omega arith, omega arith, low, high)) in
    let top = λ (n : ℕ) (low : x + 2 ≤ n) (high : n ≤ x + 6). no_error y n (inr (omega arith, omega arith, low, high)) in
    ap (λ a. value k a same (five (e (y + 1)) (x + 2)) (five (e y) (x + 2))) no_amount
    ∙ ap (λ s. value k 0 s (five (e (y + 1)) (x + 2)) (five (e y) (x + 2)))
    (two (own (x + 3) (omega arith) (omega arith)) (own (x + 2) (omega arith) (omega arith)))
    ∙ ap (λ u. value k 0 (pos 0 ∷ pos 0 ∷ []) u (five (e y) (x + 2)))
    (five_are (up (x + 2) (omega arith) (omega arith)) (up (x + 2 + 1) (omega arith) (omega arith))
    (up (x + 2 + 2) (omega arith) (omega arith)) (up (x + 2 + 3) (omega arith) (omega arith)) (up (x + 2 + 4) (omega arith) (omega arith)))
    ∙ ap (value k 0 (pos 0 ∷ pos 0 ∷ []) none)
    (five_are (top (x + 2) (omega arith) (omega arith)) (top (x + 2 + 1) (omega arith) (omega arith))
    (top (x + 2 + 2) (omega arith) (omega arith)) (top (x + 2 + 3) (omega arith) (omega arith)) (top (x + 2 + 4) (omega arith) (omega arith)))
    ∙ no_value kernel

-- An error of an edge that is 0 throughout is 0.
edge_error : (rows wide : ℕ) (errors : List ℤ) (error : ℤ) → AreZero errors → HasError rows wide errors error → error ≡ pos 0
edge_error rows wide errors error zeros has = sym has.is ∙ zeros (wide * has.row + has.offset)

-- The tile's amounts at its pixels are 0, and so are all errors that it is handed.
record IsBare (kernel : Kernel) (p : Plane) (e : Errors) (place : Place) : Type 0 where
  solves : Solves (table_of kernel) p e
  left : List ℤ
  above : List ℤ
  corner : List ℤ
  ready : IsReady e place left above corner
  no_left : AreZero left
  no_above : AreZero above
  no_corner : AreZero corner
  no_amount : (r o : ℕ) → r < 32 → o < 64 → is_place p place.j r (64 * place.c + o) ≡ true
      → p.amount (32 * place.j + r) (64 * place.c + o - 2 * r) ≡ 0

-- All errors of the tile before place n are 0, counted row by row.
abbrev AreZeroBefore : Errors → Place → ℕ → Type 0
AreZeroBefore e place n = (r o : ℕ) → 64 * r + o < n → r < 32 → o < 64 → skewed e place.j (r + 2) (64 * place.c + o + 6) ≡ pos 0

-- Then each error that the pixel there reads is 0.
reads_zero : (kernel : Kernel) (p : Plane) (e : Errors) (place : Place) (r o x y m n : ℕ) → IsBare kernel p e place
    → AreZeroBefore e place (64 * r + o)
    → IsAt place r o x y → ReadsAt x y m n → e m n ≡ pos 0
reads_zero kernel p e place r o x y m n bare earlier at reads =
    elim (at_hand e place r o x y m n bare.left bare.above bare.corner at reads bare.ready.has_left bare.ready.has_above bare.ready.has_corner) [
      | inl own ↦ sym own.is ∙ earlier own.row own.offset own.before (omega (arith, at.in_band, at.in_tile, own.before)) own.offset_in
      | inr edge ↦ elim edge [
        | inl left ↦ edge_error 32 6 bare.left (e m n) bare.no_left left
        | inr over ↦ elim over [
          | inl above ↦ edge_error 2 64 bare.above (e m n) bare.no_above above
          | inr beside ↦ edge_error 2 6 bare.corner (e m n) bare.no_corner beside
        ]
      ]
    ]

-- So the pixel has nothing to show.
pixel_zero : (kernel : Kernel) (p : Plane) (e : Errors) (place : Place) (r o : ℕ) → IsBare kernel p e place
    → AreZeroBefore e place (64 * r + o)
    → r < 32 → o < 64 → is_place p place.j r (64 * place.c + o) ≡ true
    → value_at (table_of kernel) p e (32 * place.j + r) (64 * place.c + o - 2 * r) ≡ pos 0
pixel_zero kernel p e place r o bare earlier row small has =
    let y : ℕ = 32 * place.j + r in
    let x : ℕ = 64 * place.c + o - 2 * r in
    let inside = place_inside p place.j r (64 * place.c + o) has in
    let from : 2 * r ≤ 64 * place.c + o = inside.from in
    let at : IsAt place r o x y = record { in_band = row; in_tile = small; down = refl; across = omega arith } in
    nothing_shown kernel p e y x (bare.no_amount r o row small has)
    (λ m n reads. reads_zero kernel p e place r o x y m n bare earlier at reads)

-- The error at a place is 0 if those before it are.
next_zero : (kernel : Kernel) (p : Plane) (e : Errors) (place : Place) (r o : ℕ) → IsBare kernel p e place
    → AreZeroBefore e place (64 * r + o)
    → r < 32 → o < 64 → skewed e place.j (r + 2) (64 * place.c + o + 6) ≡ pos 0
next_zero kernel p e place r o bare earlier row small = elim (cases_Bool (is_place p place.j r (64 * place.c + o))) [
  | inl has ↦
      let y : ℕ = 32 * place.j + r in
      let x : ℕ = 64 * place.c + o - 2 * r in
      let inside = place_inside p place.j r (64 * place.c + o) has in
      let from : 2 * r ≤ 64 * place.c + o = inside.from in
      let down : 32 * place.j + (r + 2) ≡ y + 2 = omega arith in
      let across : 64 * place.c + o + 6 + 2 - 2 * (r + 2) ≡ x + 4 = omega arith in
      ap (λ m. e m (64 * place.c + o + 6 + 2 - 2 * (r + 2))) down ∙ ap (e (y + 2)) across
      ∙ bare.solves.pixel y x inside.down inside.across
      ∙ ap error_of (pixel_zero kernel p e place r o bare earlier row small has)
  | inr missing ↦
      let moved : 64 * place.c + o + 6 ≡ 64 * place.c + (6 + o) = omega arith in
      ap (skewed e place.j (r + 2)) moved ∙ sym (none_right (table_of kernel) p e place.c place.j r o bare.solves missing).err
]

-- So all are 0, place by place.
before_zero : (kernel : Kernel) (p : Plane) (e : Errors) (place : Place) → IsBare kernel p e place → (n : ℕ) → AreZeroBefore e place n
before_zero kernel p e place bare zero r o before row small = absurd (omega arith)
before_zero kernel p e place bare (suc n) r o before row small =
    next_zero kernel p e place r o bare
    (λ q i earlier inside few. before_zero kernel p e place bare n q i (omega arith) inside few) row small

-- No dot is shown.
none_shown : (kernel : Kernel) (p : Plane) (e : Errors) (place : Place) → IsBare kernel p e place → (r o : ℕ)
    → r < 32 → o < 64 → shown (table_of kernel) p e place.j r (64 * place.c + o) ≡ false
none_shown kernel p e place bare r o row small = elim (cases_Bool (is_place p place.j r (64 * place.c + o))) [
  | inl has ↦ and_right _ _ (ap is_dot (pixel_zero kernel p e place r o bare
      (before_zero kernel p e place bare (64 * r + o)) row small has))
  | inr missing ↦ and_left _ _ missing
]

-- no bit of a list of zeros is set
no_bit : (bits : List ℕ) (n : ℕ) → ((m : ℕ) → get_or bits m 0 ≡ 0) → bit bits n ≡ 0
no_bit bits n zeros = ap (λ b. b / 2 ^ (7 - n % 8) % 2) (zeros (n / 8)) ∙ ap (λ q. q % 2) (zero-div (2 ^ (7 - n % 8)))

-- An edge that is 0 throughout is that of a tile whose errors are 0.
edge_done : (kernel : Kernel) (p : Plane) (e : Errors) (place : Place) (first offset q u rows wide : ℕ) (edge : List ℤ)
    → IsBare kernel p e place → AreZero edge → q ≡ first + 2 → u ≡ 64 * place.c + offset + 6 → first + rows ≤ 32 → offset + wide ≤ 64
    → Holds e place.j q u rows wide edge
edge_done kernel p e place first offset q u rows wide edge bare zeros is_q is_u down across = record {
  at = λ t i row small.
      let here : first + t + 2 ≡ q + t = omega arith in
      let there : 64 * place.c + (offset + i) + 6 ≡ u + i = omega arith in
      zeros (wide * t + i)
      ∙ sym (before_zero kernel p e place bare 2048 (first + t) (offset + i) (omega arith) (omega arith) (omega arith))
      ∙ ap (λ m. skewed e place.j m (64 * place.c + (offset + i) + 6)) here ∙ ap (skewed e place.j (q + t)) there;
}

-- A tile with nothing to diffuse hands on the edges that it was handed, and has no dot.
pub blank_done : (kernel : Kernel) (s : Shape) (place : Place) (amount : ℕ → ℕ → ℕ) (e : Errors) (dots : List ℕ) (left above corner : List ℤ)
    → HasNoAmount s amount place → Solves (table_of kernel) (plane_with s amount) e → IsReady e place left above corner
    → HandsNothing left above corner → ((m : ℕ) → get_or dots m 0 ≡ 0)
    → IsDone (table_of kernel) (plane_with s amount) e place left above corner dots
blank_done kernel s place amount e dots left above corner none solves ready nothing no_dots = record {
  has_right = edge_done kernel p e place 0 58 2 (64 * place.c + 64) 32 6 left bare nothing.no_left refl (omega arith) (omega arith) (omega arith);
  has_bottom = edge_done kernel p e place 30 0 32 (64 * place.c + 6) 2 64 above bare nothing.no_above refl (omega arith) (omega arith) (omega arith);
  has_corner = edge_done kernel p e place 30 58 32 (64 * place.c + 64) 2 6 corner bare nothing.no_corner refl (omega arith) (omega arith) (omega arith);
  has_dots = dots_done (table_of kernel) p e place dots (record {
    at = λ r o row small. no_bit dots (64 * r + o) no_dots ∙ sym (ap bit_of (none_shown kernel p e place bare r o row small));
  });
}
  where
    p : Plane
    p = plane_with s amount

    bare : IsBare kernel p e place
    bare = record {
      solves = solves;
      left = left;
      above = above;
      corner = corner;
      ready = ready;
      no_left = nothing.no_left;
      no_above = nothing.no_above;
      no_corner = nothing.no_corner;
      no_amount = λ r o row small there.
          let inside = place_inside p place.j r (64 * place.c + o) there in
          let from : 2 * r ≤ 64 * place.c + o = inside.from in
          none.pixel r o (64 * place.c + o - 2 * r) (32 * place.j + r)
          (record { across = inside.across; down = inside.down })
          (record { in_band = row; in_tile = small; down = refl; across = omega arith });
    }

-- If all amounts of a tile are 0, no pixel of it has one.
pub none_of : (s : Shape) (place : Place) (amount : ℕ → ℕ → ℕ) (tile : List ℕ) → HasPixels s amount place tile → IsBlank tile
    → HasNoAmount s amount place
none_of s place amount tile has blank = record {
  pixel = λ row offset x y pixel at.
      sym (has.pixel row offset x y at.in_band pixel at) ∙ blank (32 * offset + row) (omega (arith, at.in_band, at.in_tile));
}

-- each number of a list of zeros is 0
pub zeros_are : (n m : ℕ) → let some : ℕ = get_or (replicate n 0) m 0 in some ≡ 0
zeros_are zero m = refl
zeros_are (suc n) zero = refl
zeros_are (suc n) (suc m) = zeros_are n m

-- If no pixel of a tile has an amount, amounts of 0 are those of the tile.
pub zeros_have : (s : Shape) (place : Place) (amount : ℕ → ℕ → ℕ) (n : ℕ) → HasNoAmount s amount place
    → let zeros : List ℕ = replicate n 0 in HasPixels s amount place zeros
zeros_have s place amount n none = record {
  pixel = λ row offset x y low pixel at. zeros_are n (32 * offset + row) ∙ sym (none.pixel row offset x y pixel at);
}
