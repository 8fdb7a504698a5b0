-- A pixel at offset o of its tile reads offsets o - 6 to o of its own band, and o + 58 to o + 64 of rows 30 and 31 of
-- the band above.
use Rattle.std.proofs.Common.{arith, ℕ, ◌⊎◌, ◌+◌, ◌-◌, ◌*◌, ◌≤◌, inl, inr}
use Rattle.std.proofs.lemmas.Bool.{cases_lt}
use Rattle.tile_shape.specs.Geometry.{ComesBy, IsAt, IsIn, IsPixel, Reads}
use Rattle.tile_shape.specs.declared.tiles.Dir.{Dir}
use Rattle.tile_shape.specs.declared.tiles.Dir.TheVariants.{Right, Bottom, Corner}
use Rattle.tile_shape.specs.declared.tiles.Place.{Place}
use Rattle.tile_shape.specs.declared.tiles.Shape.{Shape}
use Rattle.tile_shape.proofs.laws.each_error_is_at_hand.Goals as goal

-- What both kinds of error have in common. The last is linear, and in the row itself says that only those on the left
-- are read.
record IsNear (x y a b : ℕ) : Type 0 where
  not_below : b ≤ y
  rows : y ≤ b + 2
  leftmost : x ≤ a + 2
  rightmost : a ≤ x + 2
  on_the_left : a + 1 + 3 * b ≤ x + 3 * y

near : (x y a b : ℕ) → Reads x y a b → IsNear x y a b
near x y a b reads = elim reads [ inl same ↦ search arith | inr above ↦ search arith ]

at_hand : (s : Shape) (p : Place) (r o x y a b : ℕ) → IsPixel s x y → IsAt p r o x y → IsNear x y a b → IsPixel s a b
    → IsIn s p a b ⊎ ((d : Dir) × ComesBy s d p a b)
at_hand s p r o x y a b pixel place close error =
    elim (cases_lt b (32 * p.j)) [
      | inl above ↦
          let row : ℕ = b + 32 - 32 * p.j in
          elim (cases_lt (a + 2 * row) (64 * p.c + 64)) [
            | inl same_column ↦ inr (
              Corner,
              record {
                needed = search arith;
                from = record { c = p.c; j = p.j - 1 };
                tile = search arith;
                receiver = search arith;
                row = row;
                offset = a + 2 * row - 64 * p.c;
                place = search arith;
                row_held = search arith;
                offset_held = search arith;
              },
            )
            | inr next_column ↦ inr (
              Bottom,
              record {
                needed = search arith;
                from = record { c = p.c + 1; j = p.j - 1 };
                tile = search arith;
                receiver = search arith;
                row = row;
                offset = a + 2 * row - (64 * p.c + 64);
                place = search arith;
                row_held = search arith;
                offset_held = search arith;
              },
            )
          ]
      | inr same_band ↦
          let row : ℕ = b - 32 * p.j in
          elim (cases_lt (a + 2 * row) (64 * p.c)) [
            | inl left ↦ inr (
              Right,
              record {
                needed = search arith;
                from = record { c = p.c - 1; j = p.j };
                tile = search arith;
                receiver = search arith;
                row = row;
                offset = a + 2 * row + 64 - 64 * p.c;
                place = search arith;
                row_held = search arith;
                offset_held = search arith;
              },
            )
            | inr same_column ↦ inl (record {
              pixel = error;
              row = row;
              offset = a + 2 * row - 64 * p.c;
              place = search arith;
            })
          ]
    ]

pub returns : goal.returns
returns c = λ s p x y a b has reads error. at_hand s p has.row has.offset x y a b has.pixel has.place (near x y a b reads) error
