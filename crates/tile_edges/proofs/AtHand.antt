-- Which errors a pixel reads, and that its tile has them.
use Rattle.std.proofs.Common.{ℕ, ℤ, ◌≡◌, ◌+◌, ◌-◌, ◌*◌, ◌≤◌, ◌∙◌, arith, List, inl, inr}
use Rattle.std.proofs.lemmas.Bool.{cases_lt}
use Rattle.diffusion_definitions.specs.Diffusion.{Errors}
use Rattle.tile_shape.specs.Geometry.{IsAt, Reads}
use Rattle.tile_shape.specs.declared.tiles.Place.{Place}
use Rattle.tile_edges.specs.Edges.{IsAbove, IsCorner, IsLeft}
use Rattle.tile_edges.specs.Reads.{IsAtHand, ReadsAt}
use Rattle.tile_edges.proofs.Places.{moved}

-- the errors of pixels that are read
pub reads_at : (x y a b : ℕ) → Reads x y a b → ReadsAt x y (b + 2) (a + 4)
reads_at x y a b reads = elim reads [
  | inl same ↦ inl (omega arith, omega arith, omega arith)
  | inr above ↦ inr (omega arith, omega arith, omega arith, omega arith)
]

pub reads_of : (x y a b : ℕ) → ReadsAt x y (b + 2) (a + 4) → Reads x y a b
reads_of x y a b reads = elim reads [
  | inl same ↦ inl (omega arith, omega arith, omega arith)
  | inr above ↦ inr (omega arith, omega arith, omega arith, omega arith)
]

-- What both kinds of error have in common.
record IsNear (x y m n : ℕ) : Type 0 where
  not_below : m ≤ y + 2
  rows : y ≤ m
  leftmost : x + 2 ≤ n
  rightmost : n ≤ x + 6
  on_the_left : n + 3 * m ≤ x + 3 * y + 9

near : (x y m n : ℕ) → ReadsAt x y m n → IsNear x y m n
near x y m n reads = elim reads [
  | inl same ↦ record {
    not_below = omega arith;
    rows = omega arith;
    leftmost = omega arith;
    rightmost = omega arith;
    on_the_left = omega arith;
  }
  | inr above ↦ record {
    not_below = omega arith;
    rows = omega arith;
    leftmost = omega arith;
    rightmost = omega arith;
    on_the_left = omega arith;
  }
]

pub at_hand : (e : Errors) (p : Place) (r o x y m n : ℕ) (left above corner : List ℤ) → IsAt p r o x y → ReadsAt x y m n
    → IsLeft e p left → IsAbove e p above → IsCorner e p corner → IsAtHand e p r o left above corner (e m n)
at_hand e p r o x y m n left above corner at reads is_left is_above is_corner =
    by_near (near x y m n reads)
  where
    -- the row counted from two above the band, and the place from six left of the tile
    q : ℕ
    q = m - 32 * p.j

    u : ℕ
    u = n + 2 * q - 2

    l : ℕ
    l = u - 64 * p.c

    by_near : IsNear x y m n → IsAtHand e p r o left above corner (e m n)
    by_near close =
        let row : 32 * p.j + q ≡ m = omega (arith, at.down) in
        let far : 64 * p.c + l ≡ u = omega (arith, at.down, at.across) in
        let near_l : l ≤ o + 6 = omega (arith, at.down, at.across) in
        let place : 64 * p.c + l + 2 ≡ n + 2 * q = omega (arith, at.down, at.across) in
        elim (cases_lt q 2) [
          | inl high ↦ elim (cases_lt l 6) [
            | inl before ↦ inr (inr (inr (record {
              row = q;
              offset = l;
              row_in = high;
              offset_in = before;
              is = is_corner.at q l high before ∙ moved e _ m _ n (omega arith) (omega arith);
            })))
            | inr over ↦ inr (inr (inl (record {
              row = q;
              offset = l - 6;
              row_in = high;
              offset_in = omega (arith, at.in_tile);
              is = is_above.at q (l - 6) high (omega (arith, at.in_tile)) ∙ moved e _ m _ n (omega arith) (omega arith);
            })))
          ]
          | inr low ↦ elim (cases_lt l 6) [
            | inl before ↦ inr (inl (record {
              row = q - 2;
              offset = l;
              row_in = omega (arith, at.in_band, at.down);
              offset_in = before;
              is = is_left.at (q - 2) l (omega (arith, at.in_band, at.down)) before ∙ moved e _ m _ n (omega arith) (omega arith);
            }))
            | inr own ↦ inl (record {
              row = q - 2;
              offset = l - 6;
              before = omega (arith, at.down, at.across, at.in_tile);
              offset_in = omega (arith, at.in_tile);
              is = moved e _ m _ n (omega arith) (omega arith);
            })
          ]
        ]
