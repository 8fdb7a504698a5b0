-- A packed row takes the dots of a tile's row, byte by byte.
use Rattle.std.proofs.Common.{◌≡◌, ◌≢◌, ◌⊎◌, ℕ, ◌+◌, ◌-◌, ◌*◌, ◌/◌, ◌%◌, ◌<◌, ◌≤◌, List, get_or, length, length-set, set, sym, ◌∙◌}
use Rattle.std.proofs.Common.{ap, arith, inl, inr, subst, get_or-set_other, get_or-set_same}
use Rattle.std.proofs.lemmas.Bool.{cases_eq, cases_lt}
use Rattle.base_definitions.specs.Packed.{bit_at}
use Rattle.dot_planes.specs.Tables.{row_dot}
use Rattle.dot_planes.specs.Tiles.{IsInRow, PutsDots}

-- Byte b of a row takes the dots of a tile's row that are its own.
pub record TakesDots (width c r b : ℕ) (dots : List ℕ) (old new : ℕ) : Type 0 where
  pub pixels : (k offset : ℕ) → k < 8 → IsInRow width c r offset (8 * b + k) → bit_at new k ≡ row_dot dots offset
  pub others : (k : ℕ) → k < 8 → ((offset : ℕ) → ¬ IsInRow width c r offset (8 * b + k)) → bit_at new k ≡ bit_at old k

-- the same by the offset at which the byte begins
pub takes_dots : (width c r b skip shift : ℕ) (dots : List ℕ) (old new : ℕ) → 2 * r ≡ 8 * skip + shift → 8 * c ≤ b + skip + 1
    → ((k offset : ℕ) → k < 8 → k < width - 8 * b
    → offset < 64 → 8 * (b + skip + 1 - 8 * c) + shift + k ≡ offset + 8 → bit_at new k ≡ row_dot dots offset)
    → ((k : ℕ) → k < 8 → ((offset : ℕ) → k < width - 8 * b
    → offset < 64 → ¬ (8 * (b + skip + 1 - 8 * c) + shift + k ≡ offset + 8)) → bit_at new k ≡ bit_at old k)
    → TakesDots width c r b dots old new
takes_dots width c r b skip shift dots old new lean after pixels others = record {
  pixels = λ k offset low p. let window = p.in_window in let across = p.across in pixels k offset low (omega arith) p.in_tile (omega arith);
  others = λ k low none. others k low (λ offset before inside here.
      none offset (record { in_tile = inside; in_window = omega arith; across = omega arith }));
}

-- nine bytes of a row that has all the tile's columns
pub takes_whole : (width c r n skip shift : ℕ) (dots : List ℕ) (old new : ℕ)
    → 2 * r ≡ 8 * skip + shift → skip < 8 * c → 64 * c + 64 ≤ width + 2 * r
    → ((k offset : ℕ) → k < 8 → k < 8 → offset < 64 → 8 * n + shift + k ≡ offset + 8 → bit_at new k ≡ row_dot dots offset)
    → ((k : ℕ) → k < 8 → ((offset : ℕ) → k < 8 → offset < 64 → ¬ (8 * n + shift + k ≡ offset + 8)) → bit_at new k ≡ bit_at old k)
    → TakesDots width c r (8 * c - (skip + 1) + n) dots old new
takes_whole width c r n skip shift dots old new lean left right pixels others = record {
  pixels = λ k offset low p. let across = p.across in pixels k offset low low p.in_tile (omega arith);
  others = λ k low none. others k low (λ offset _ inside here.
      none offset (record { in_tile = inside; in_window = omega arith; across = omega arith }));
}

set_byte : (row : List ℕ) (b new x : ℕ) → b < length row → x / 8 ≡ b → row_dot (set row b new) x ≡ bit_at new (x % 8)
set_byte row b new x room here = ap (λ i. bit_at (get_or (set row b new) i 0) (x % 8)) here
    ∙ ap (λ n. bit_at n (x % 8)) (get_or-set_same row b new 0 room)

kept_byte : (row : List ℕ) (b new x : ℕ) → x / 8 ≢ b → row_dot (set row b new) x ≡ row_dot row x
kept_byte row b new x other = ap (λ n. bit_at n (x % 8)) (get_or-set_other row b (x / 8) new 0 other)

-- one byte more
pub put_more : (width c r b new : ℕ) (dots first row : List ℕ) → b < length row → TakesDots width c r b dots (get_or row b 0) new
    → PutsDots width c r (8 * b) dots first row → PutsDots width c r (8 * (b + 1)) dots first (set row b new)
put_more width c r b new dots first row room t p = record {
  len = length-set row b new ∙ p.len;
  pixels = λ offset x before q. elim (cases_lt x (8 * b)) [
    | inl done ↦ let other : x / 8 ≢ b = omega arith in kept_byte row b new x other ∙ p.pixels offset x done q
    | inr now ↦
        let here : x / 8 ≡ b = omega arith in
        let low : x % 8 < 8 = omega arith in
        let place : x ≡ 8 * b + x % 8 = omega arith in
        let Q : ℕ → Type 0 = λ y. IsInRow width c r offset y in
        set_byte row b new x room here ∙ t.pixels (x % 8) offset low (subst Q place q)
  ];
  others = λ x none. elim (cases_eq (x / 8) b) [
    | inl here ↦
        let low : x % 8 < 8 = omega arith in
        let before : x < 8 * (b + 1) = omega arith in
        let place : 8 * b + x % 8 ≡ x = omega arith in
        let Q : ℕ → ℕ → Type 0 = λ offset y. IsInRow width c r offset y in
        set_byte row b new x room here
        ∙ t.others (x % 8) low (λ offset q. none offset before (subst (Q offset) place q))
        ∙ ap (λ i. bit_at (get_or row i 0) (x % 8)) (sym here)
        ∙ p.others x (λ offset done q. let no : ⊥ = omega arith in no)
    | inr other ↦ kept_byte row b new x other ∙ p.others x (λ offset done q. none offset (omega arith) q)
  ];
}

-- no dot of the row comes before the first byte
pub put_none : (width c r skip shift start : ℕ) (dots row : List ℕ)
    → shift < 8 → 2 * r ≡ 8 * skip + shift → start ≡ 8 * c - (skip + 1) → PutsDots width c r (8 * start) dots row row
put_none width c r skip shift start dots row low lean first = grind arith

-- none comes after the last
pub put_all : (width c r skip shift b end : ℕ) (dots first row : List ℕ)
    → 2 * r ≡ 8 * skip + shift → (end ≡ 8 * c + 8 - skip) ⊎ (width ≤ 8 * end) → shift < 8 → end ≤ b
    → PutsDots width c r (8 * b) dots first row → PutsDots width c r width dots first row
put_all width c r skip shift b end dots first row lean last low past p =
    let done : (offset x : ℕ) → IsInRow width c r offset x → x < 8 * b = λ offset x q. let window = q.in_window in
    let across = q.across in let inside = q.in_tile in elim last [
      | inl tile ↦ omega arith
      | inr row_end ↦ omega arith
    ] in
    record {
      len = p.len;
      pixels = λ offset x window q. p.pixels offset x (done offset x q) q;
      others = λ x none. p.others x (λ offset before q. none offset q.in_window q);
    }
