-- No edge is listed twice.
use Rattle.std.proofs.Common.{◌≡◌, ◌⊎◌, ℕ, zero, suc, ◌+◌, ◌≤◌, Bool, true, false, List, [], ◌∷◌, ◌++◌, ap, arith, inl, inr, refl, sym, ◌∙◌}
use Rattle.tile_shape.specs.Geometry.{bands_of, columns_of}
use Rattle.tile_shape.specs.declared.tiles.Dir.{Dir}
use Rattle.tile_shape.specs.declared.tiles.Dir.TheVariants.{Right, Bottom, Corner}
use Rattle.tile_shape.specs.declared.tiles.Place.{Place}
use Rattle.board_core.specs.States.{AreOnce, CoreState, Edge, IsListed, sent, sent_edges, sent_in_band, sent_in_bands, sent_of, where_sent}

listed_parts : (x : Edge) (xs ys : List Edge) → IsListed x (xs ++ ys) → IsListed x xs ⊎ IsListed x ys
listed_parts x [] ys here = inr here
listed_parts x (z ∷ xs) ys (inl first) = inl (inl first)
listed_parts x (z ∷ xs) ys (inr rest) = elim (listed_parts x xs ys rest) [
  | inl left ↦ inl (inr left)
  | inr right ↦ inr right
]

once_parts : (xs ys : List Edge) → AreOnce xs → AreOnce ys → ((x : Edge) → IsListed x xs → ¬ IsListed x ys) → AreOnce (xs ++ ys)
once_parts [] ys left right apart = right
once_parts (z ∷ xs) ys left right apart = (
  λ listed. elim (listed_parts z xs ys listed) [
    | inl again ↦ left.0 again
    | inr there ↦ apart z (inl refl) there
  ],
  once_parts xs ys left.1 right (λ x here. apart x (inr here)),
)

-- ---- the edges of a tile

where_is : (b : Bool) (p : Place) (d : Dir) (x : Edge) → IsListed x (where_sent b p d) → (x.from ≡ p) × (x.dir ≡ d)
where_is true p d x (inl is) = (ap (λ (e : Edge). e.from) is, ap (λ (e : Edge). e.dir) is)
where_is true p d x (inr none) = absurd none
where_is false p d x listed = absurd listed

where_once : (b : Bool) (p : Place) (d : Dir) → AreOnce (where_sent b p d)
where_once true p d = (λ listed. listed, tt)
where_once false p d = tt

pub tile_from : (core : CoreState) (p : Place) (x : Edge) → IsListed x (sent_of core p) → x.from ≡ p
tile_from core p x listed = elim (listed_parts x (where_sent (sent core p Right) p Right) _ listed) [
  | inl right ↦ (where_is (sent core p Right) p Right x right).0
  | inr rest ↦ elim (listed_parts x (where_sent (sent core p Bottom) p Bottom) _ rest) [
    | inl bottom ↦ (where_is (sent core p Bottom) p Bottom x bottom).0
    | inr corner ↦ (where_is (sent core p Corner) p Corner x corner).0
  ]
]

right_bottom : ¬ (Dir.Right ≡ Dir.Bottom)
right_bottom e = cc

right_corner : ¬ (Dir.Right ≡ Dir.Corner)
right_corner e = cc

bottom_corner : ¬ (Dir.Bottom ≡ Dir.Corner)
bottom_corner e = cc

tile_once : (core : CoreState) (p : Place) → AreOnce (sent_of core p)
tile_once core p =
    let right = where_sent (sent core p Right) p Right in
    let bottom = where_sent (sent core p Bottom) p Bottom in
    let corner = where_sent (sent core p Corner) p Corner in
    once_parts right (bottom ++ corner) (where_once _ p Right)
    (once_parts bottom corner (where_once _ p Bottom) (where_once _ p Corner) (λ x here there.
    bottom_corner (sym (where_is (sent core p Bottom) p Bottom x here).1 ∙ (where_is (sent core p Corner) p Corner x there).1)))
    (λ x here there. elim (listed_parts x bottom corner there) [
      | inl at_bottom ↦ right_bottom (sym (where_is (sent core p Right) p Right x here).1
          ∙ (where_is (sent core p Bottom) p Bottom x at_bottom).1)
      | inr at_corner ↦ right_corner (sym (where_is (sent core p Right) p Right x here).1
          ∙ (where_is (sent core p Corner) p Corner x at_corner).1)
    ])

-- ---- those of a band, and of all bands

band_from : (core : CoreState) (j c n : ℕ) (x : Edge) → IsListed x (sent_in_band core j c n) → (x.from.j ≡ j) × (c ≤ x.from.c)
band_from core j c zero x listed = absurd listed
band_from core j c (suc n) x listed =
    elim (listed_parts x (sent_of core (record { c = c; j = j })) (sent_in_band core j (c + 1) n) listed) [
      | inl first ↦
          let is : x.from ≡ record { c = c; j = j } = tile_from core (record { c = c; j = j }) x first in
          let column : x.from.c ≡ c = ap (λ (p : Place). p.c) is in
          (ap (λ (p : Place). p.j) is, omega arith)
      | inr rest ↦
          let later = band_from core j (c + 1) n x rest in
          (later.0, omega (arith, later.1))
    ]

band_once : (core : CoreState) (j c n : ℕ) → AreOnce (sent_in_band core j c n)
band_once core j c zero = tt
band_once core j c (suc n) =
    once_parts (sent_of core (record { c = c; j = j })) (sent_in_band core j (c + 1) n) (tile_once core _) (band_once core j (c + 1) n)
    (λ x here there.
    let is : x.from.c ≡ c = ap (λ (p : Place). p.c) (tile_from core (record { c = c; j = j }) x here) in
    let no : ⊥ = omega (arith, (band_from core j (c + 1) n x there).1) in no)

bands_from : (core : CoreState) (j n : ℕ) (x : Edge) → IsListed x (sent_in_bands core j n) → j ≤ x.from.j
bands_from core j zero x listed = absurd listed
bands_from core j (suc n) x listed =
    elim (listed_parts x (sent_in_band core j 0 (columns_of core.shape)) (sent_in_bands core (j + 1) n) listed) [
      | inl first ↦ omega (arith, (band_from core j 0 (columns_of core.shape) x first).0)
      | inr rest ↦ omega (arith, bands_from core (j + 1) n x rest)
    ]

bands_once : (core : CoreState) (j n : ℕ) → AreOnce (sent_in_bands core j n)
bands_once core j zero = tt
bands_once core j (suc n) =
    once_parts (sent_in_band core j 0 (columns_of core.shape)) (sent_in_bands core (j + 1) n) (band_once core j 0 _)
    (bands_once core (j + 1) n)
    (λ x here there. let no : ⊥ =
    omega (arith, (band_from core j 0 (columns_of core.shape) x here).0, bands_from core (j + 1) n x there) in no)

pub sent_once : (core : CoreState) → AreOnce (sent_edges core)
sent_once core = bands_once core 0 (bands_of core.shape)
