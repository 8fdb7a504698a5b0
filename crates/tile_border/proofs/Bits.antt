-- The bytes of a tile's dots.
use Rattle.std.proofs.Common.{◌≡◌, ℕ, ◌+◌, ◌-◌, ◌*◌, ◌/◌, ◌%◌, ◌<◌, ◌≤◌, Bool, false, ◌&&◌, List, get_or, length, map, sym, ◌∙◌, ap, ap₂}
use Rattle.std.proofs.Common.{arith, inl, inr}
use Rattle.std.proofs.lemmas.Bool.{cases_lt, le-leb, lt-leb}
use Rattle.std.proofs.lemmas.List.{ext_get_or, get_or_past}
use Rattle.diffusion_definitions.specs.Diffusion.{Errors, Plane, Table, on}
use Rattle.dot_planes.specs.Tables.{row_dot}
use Rattle.dot_planes.proofs.PackedRows.{counted-at, counted-len, dot_of_packed, no_bit, packed-len, row_packed}
use Rattle.base_definitions.specs.Packed.{bit_at}
use Rattle.base_definitions.specs.Packed.{packed}
use Rattle.base_definitions.specs.Counting.{count_from}
use Rattle.tile_shape.specs.Geometry.{IsAt}
use Rattle.tile_shape.specs.declared.tiles.Place.{Place}
use Rattle.tile_lanes.specs.Done.{HasDots}
use Rattle.tile_border.specs.Content.{dots_of, is_on}

-- ---- a test of the numbers below 2048, packed eight a byte

pub tests-len : (f : ℕ → Bool) → length (packed (map f (count_from 0 2048))) ≡ 256
tests-len f =
    let dots : List Bool = map f (count_from 0 2048) in
    let len : length dots ≡ 2048 = counted-len f 0 2048 in
    packed-len ((length dots + 7) / 8) dots ∙ ap (λ n. (n + 7) / 8) len

pub tests-at : (f : ℕ → Bool) (n : ℕ) → n < 2048 → row_dot (packed (map f (count_from 0 2048))) n ≡ f n
tests-at f n inside =
    let first : 0 + n ≡ n = omega arith in
    dot_of_packed (map f (count_from 0 2048)) (packed (map f (count_from 0 2048))) n (λ i. packed (map f (count_from 0 2048)))
    ∙ counted-at f 0 2048 n inside ∙ ap f first

pub tests-are : (f : ℕ → Bool) (bytes : List ℕ) → length bytes ≡ 256 → ((n : ℕ) → get_or bytes n 0 < 256)
    → ((n : ℕ) → n < 2048 → row_dot bytes n ≡ f n)
    → bytes ≡ packed (map f (count_from 0 2048))
tests-are f bytes len small same =
    let past : (n : ℕ) → 2048 ≤ n → row_dot bytes n ≡ false = λ n high.
    ap (λ b. bit_at b (n % 8)) (get_or_past bytes (n / 8) 0 (omega arith)) ∙ no_bit (n % 8) in
    let dots : List Bool = map (row_dot bytes) (count_from 0 2048) in
    let tests : List Bool = map f (count_from 0 2048) in
    let dots-len : length dots ≡ 2048 = counted-len (row_dot bytes) 0 2048 in
    let tests-len : length tests ≡ 2048 = counted-len f 0 2048 in
    let alike : dots ≡ tests = ext_get_or false dots tests (dots-len ∙ sym tests-len) (λ n inside.
    let low : n < 2048 = omega arith in
    let first : 0 + n ≡ n = omega arith in
    counted-at (row_dot bytes) 0 2048 n low ∙ ap (row_dot bytes) first ∙ same n low ∙ sym (counted-at f 0 2048 n low ∙ ap f first)) in
    row_packed 2048 bytes len small past ∙ ap packed alike

-- ---- a tile's dots

on_there : (k : Table) (plane : Plane) (e : Errors) (p : Place) (row offset x y : ℕ) → IsAt p row offset x y
    → is_on k plane e p row offset ≡ on k plane e y x
on_there k plane e p row offset x y here =
    let down : 32 * p.j + row ≡ y = sym here.down in
    let from : 2 * row ≤ 64 * p.c + offset = omega (arith, here.across) in
    let across : 64 * p.c + offset - 2 * row ≡ x = omega (arith, here.across) in
    ap (λ b. b && on k plane e (32 * p.j + row) (64 * p.c + offset - 2 * row)) (le-leb (2 * row) (64 * p.c + offset) from)
    ∙ ap₂ (λ m n. on k plane e m n) down across

off_left : (k : Table) (plane : Plane) (e : Errors) (p : Place) (row offset : ℕ) → 64 * p.c + offset < 2 * row
    → is_on k plane e p row offset ≡ false
off_left k plane e p row offset left =
    ap (λ b. b && on k plane e (32 * p.j + row) (64 * p.c + offset - 2 * row)) (lt-leb (2 * row) (64 * p.c + offset) left)

pub dots-len : (k : Table) (plane : Plane) (e : Errors) (p : Place) → length (dots_of k plane e p) ≡ 256
unfolding dots_of
dots-len k plane e p = tests-len (λ n. is_on k plane e p (n / 64) (n % 64))

dot-at : (k : Table) (plane : Plane) (e : Errors) (p : Place) (row offset : ℕ) → row < 32 → offset < 64
    → row_dot (dots_of k plane e p) (64 * row + offset) ≡ is_on k plane e p row offset
unfolding dots_of
dot-at k plane e p row offset low inside =
    let r : (64 * row + offset) / 64 ≡ row = omega arith in
    let o : (64 * row + offset) % 64 ≡ offset = omega arith in
    tests-at (λ n. is_on k plane e p (n / 64) (n % 64)) (64 * row + offset) (omega arith) ∙ ap₂ (is_on k plane e p) r o

pub dots-are : (k : Table) (plane : Plane) (e : Errors) (p : Place) → HasDots k plane e p (dots_of k plane e p)
dots-are k plane e p = record {
  pixel = λ row offset x y here. dot-at k plane e p row offset here.in_band here.in_tile ∙ on_there k plane e p row offset x y here;
  left = λ row offset low inside before. dot-at k plane e p row offset low inside ∙ off_left k plane e p row offset before;
}

tile_dot_is : (k : Table) (plane : Plane) (e : Errors) (p : Place) (bytes : List ℕ) (row offset : ℕ) → HasDots k plane e p bytes
    → row < 32 → offset < 64
    → row_dot bytes (64 * row + offset) ≡ is_on k plane e p row offset
tile_dot_is k plane e p bytes row offset has low inside = elim (cases_lt (64 * p.c + offset) (2 * row)) [
  | inl before ↦ has.left row offset low inside before ∙ sym (off_left k plane e p row offset before)
  | inr not_before ↦
      let x : ℕ = 64 * p.c + offset - 2 * row in
      let here : IsAt p row offset x (32 * p.j + row) =
      record { in_band = low; in_tile = inside; down = λ i. 32 * p.j + row; across = omega arith } in
      has.pixel row offset x (32 * p.j + row) here ∙ sym (on_there k plane e p row offset x (32 * p.j + row) here)
]

pub dots-is : (k : Table) (plane : Plane) (e : Errors) (p : Place) (bytes : List ℕ) → length bytes ≡ 256
    → ((n : ℕ) → get_or bytes n 0 < 256) → HasDots k plane e p bytes → bytes ≡ dots_of k plane e p
unfolding dots_of
dots-is k plane e p bytes len small has = tests-are (λ n. is_on k plane e p (n / 64) (n % 64)) bytes len small (λ n low.
    let parts : n ≡ 64 * (n / 64) + n % 64 = omega arith in
    ap (row_dot bytes) parts ∙ tile_dot_is k plane e p bytes (n / 64) (n % 64) has (omega arith) (omega arith))
