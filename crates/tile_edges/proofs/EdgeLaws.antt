-- What a tile hands on is what the receiver is handed, and an edge that does not exist is zero.
use Rattle.std.proofs.Common.{ℕ, ℤ, pos, ◌≡◌, ◌+◌, ◌-◌, ◌*◌, ◌<◌, ◌≤◌, ◌↔◌, ◌∙◌, ap, refl, sym, arith, List, get_or, slice_index_or}
use Rattle.std.proofs.Common.{replicate, inl, inr}
use Rattle.std.proofs.lemmas.Bool.{cases_lt}
use Rattle.diffusion_definitions.specs.Diffusion.{Errors, Plane, Solves, Table}
use Rattle.tile_shape.specs.Geometry.{IsNeeded, IsReceiver, IsTile, columns_of, first_offset, first_row}
use Rattle.tile_shape.specs.declared.tiles.Dir.{Dir}
use Rattle.tile_shape.specs.declared.tiles.Dir.TheVariants.{Right, Bottom, Corner}
use Rattle.tile_shape.specs.declared.tiles.Place.{Place}
use Rattle.tile_shape.specs.declared.tiles.Shape.{Shape}
use Rattle.tile_edges.specs.Edges.{Holds, IsGiven, IsOnBoard, IsPlaneOf, IsTaken, edge_length, skewed}
use Rattle.tile_edges.proofs.Places.{held, moved, nothing}

pub given-taken : (e : Errors) (d : Dir) (from to : Place) (xs : List ℤ) → IsReceiver d from to → IsGiven e d from xs → IsTaken e d to xs
given-taken e Right from to xs receiver h =
    held e from.j 2 (64 * from.c + 64) to.j 2 (64 * to.c) 32 6 xs (omega (arith, receiver.1)) (omega (arith, receiver.0)) h
given-taken e Bottom from to xs receiver h =
    held e from.j 32 (64 * from.c + 6) to.j 0 (64 * to.c + 6) 2 64 xs (omega (arith, receiver.1)) (omega (arith, receiver.0)) h
given-taken e Corner from to xs receiver h =
    held e from.j 32 (64 * from.c + 64) to.j 0 (64 * to.c) 2 6 xs (omega (arith, receiver.1)) (omega (arith, receiver.0)) h

pub taken-given : (e : Errors) (d : Dir) (from to : Place) (xs : List ℤ) → IsReceiver d from to → IsTaken e d to xs → IsGiven e d from xs
taken-given e Right from to xs receiver h =
    held e to.j 2 (64 * to.c) from.j 2 (64 * from.c + 64) 32 6 xs (omega (arith, receiver.1)) (omega (arith, receiver.0)) h
taken-given e Bottom from to xs receiver h =
    held e to.j 0 (64 * to.c + 6) from.j 32 (64 * from.c + 6) 2 64 xs (omega (arith, receiver.1)) (omega (arith, receiver.0)) h
taken-given e Corner from to xs receiver h =
    held e to.j 0 (64 * to.c) from.j 32 (64 * from.c + 64) 2 6 xs (omega (arith, receiver.1)) (omega (arith, receiver.0)) h

-- left of the first column there are no pixels
no_left : (k : Table) (plane : Plane) (e : Errors) (to : Place) → Solves k plane e → to.c ≡ 0
    → Holds e to.j 2 (64 * to.c) 32 6 (replicate 192 (pos 0))
no_left k plane e to solves first = record {
  at = λ t i a b.
      let n : ℕ = i + 2 - 2 * (2 + t) in
      nothing 192 (6 * t + i)
      ∙ sym (moved e _ (32 * to.j + t + 2) _ n (omega arith) (omega (arith, first)) ∙ solves.left (32 * to.j + t) n (omega arith));
}

-- and none right of the last column of a whole band
no_above : (k : Table) (plane : Plane) (e : Errors) (to : Place) → Solves k plane e → 0 < to.j → plane.width + 62 ≤ 64 * (to.c + 1)
    → Holds e to.j 0 (64 * to.c + 6) 2 64 (replicate 128 (pos 0))
no_above k plane e to solves below last = record {
  at = λ t i a b.
      let y : ℕ = 32 * to.j + t - 2 in
      let x : ℕ = 64 * to.c + 4 + i - 2 * t in
      nothing 128 (64 * t + i)
      ∙ sym (moved e _ (y + 2) _ (x + 4) (omega arith) (omega arith) ∙ solves.right y x (omega arith));
}

pub no_edge : (k : Table) (plane : Plane) (e : Errors) (s : Shape) (d : Dir) (to : Place) → Solves k plane e → IsPlaneOf s plane
    → IsTile s to
    → IsOnBoard d to → (IsNeeded s d to → ⊥) → IsTaken e d to (replicate (edge_length d) (pos 0))
no_edge k plane e s Right to solves sized tile board none =
    no_left k plane e to solves (let c : ℕ = to.c in omega arith)
no_edge k plane e s Bottom to solves sized tile board none =
    let last : columns_of s ≤ to.c + 1 = elim (cases_lt (to.c + 1) (columns_of s)) [
      | inl there ↦ absurd (none (board, there))
      | inr last ↦ last
    ] in
    no_above k plane e to solves board (omega (arith, sized.width))
no_edge k plane e s Corner to solves sized tile board none = absurd (none board)

-- ---- rows and offsets

-- the errors of a tile from a row and an offset on, to row 31 and offset 63
abbrev HasPlaces : Errors → Place → ℕ → ℕ → List ℤ → Type 0
HasPlaces e p first_row first_offset xs = (row offset : ℕ) → first_row ≤ row → row < 32 → first_offset ≤ offset → offset < 64
    → slice_index_or xs ((64 - first_offset) * (row - first_row) + (offset - first_offset)) (pos 0)
    ≡ skewed e p.j (row + 2) (64 * p.c + offset + 6)

block_places : (e : Errors) (p : Place) (row offset rows wide : ℕ) (xs : List ℤ) → row + rows ≡ 32 → offset + wide ≡ 64
    → Holds e p.j (row + 2) (64 * p.c + offset + 6) rows wide xs → HasPlaces e p row offset xs
block_places e p row offset rows wide xs all_rows all_wide h = λ r o row_from row_in offset_from offset_in.
    let wide_is : 64 - offset ≡ wide = omega arith in
    ap (λ w. get_or xs (w * (r - row) + (o - offset)) (pos 0)) wide_is
    ∙ h.at (r - row) (o - offset) (omega arith) (omega arith)
    ∙ moved e _ _ _ _ (omega arith) (omega arith)

places_block : (e : Errors) (p : Place) (row offset rows wide : ℕ) (xs : List ℤ) → row + rows ≡ 32 → offset + wide ≡ 64
    → HasPlaces e p row offset xs → Holds e p.j (row + 2) (64 * p.c + offset + 6) rows wide xs
places_block e p row offset rows wide xs all_rows all_wide h = record {
  at = λ t i a b.
      let wide_is : wide ≡ 64 - offset = omega arith in
      let row_is : t ≡ row + t - row = omega arith in
      let offset_is : i ≡ offset + i - offset = omega arith in
      ap (λ w. get_or xs (w * t + i) (pos 0)) wide_is
      ∙ ap (λ m. get_or xs ((64 - offset) * m + i) (pos 0)) row_is
      ∙ ap (λ m. get_or xs ((64 - offset) * (row + t - row) + m) (pos 0)) offset_is
      ∙ h (row + t) (offset + i) (omega arith) (omega arith) (omega arith) (omega arith)
      ∙ moved e _ _ _ _ (omega arith) (omega arith);
}

pub given_places : (e : Errors) (d : Dir) (p : Place) (xs : List ℤ) → IsGiven e d p xs ↔ HasPlaces e p (first_row d) (first_offset d) xs
given_places e Right p xs = (
  λ h. block_places e p 0 58 32 6 xs refl refl
      (held e p.j 2 (64 * p.c + 64) p.j (0 + 2) (64 * p.c + 58 + 6) 32 6 xs (omega arith) (omega arith) h),
  λ h. held e p.j (0 + 2) (64 * p.c + 58 + 6) p.j 2 (64 * p.c + 64) 32 6 xs (omega arith) (omega arith)
      (places_block e p 0 58 32 6 xs refl refl h),
)
given_places e Bottom p xs = (
  λ h. block_places e p 30 0 2 64 xs refl refl
      (held e p.j 32 (64 * p.c + 6) p.j (30 + 2) (64 * p.c + 0 + 6) 2 64 xs (omega arith) (omega arith) h),
  λ h. held e p.j (30 + 2) (64 * p.c + 0 + 6) p.j 32 (64 * p.c + 6) 2 64 xs (omega arith) (omega arith)
      (places_block e p 30 0 2 64 xs refl refl h),
)
given_places e Corner p xs = (
  λ h. block_places e p 30 58 2 6 xs refl refl
      (held e p.j 32 (64 * p.c + 64) p.j (30 + 2) (64 * p.c + 58 + 6) 2 6 xs (omega arith) (omega arith) h),
  λ h. held e p.j (30 + 2) (64 * p.c + 58 + 6) p.j 32 (64 * p.c + 64) 2 6 xs (omega arith) (omega arith)
      (places_block e p 30 58 2 6 xs refl refl h),
)
