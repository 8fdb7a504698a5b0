-- Planes after the bytes up to a row were filled up, and that row was written.
use Rattle.std.proofs.lemmas.Grind.{common_steps}
use Rattle.std.proofs.Common.{◌≡◌, ℕ, ◌+◌, ◌-◌, ◌*◌, ◌/◌, ◌%◌, ◌^◌, ◌<◌, ◌≤◌, List, Vec, Global, length, take, drop, max, replicate, bit_or, get_or, set, sym, ◌∙◌, ap, arith}
use Rattle.std.proofs.Common.{false, length-drop, length-set, length-take}
use Rattle.std.proofs.lemmas.List.{get_or_append_left}
use Rattle.std.proofs.Math.Nat.{mul-le-mul_right}
use Rattle.std.specs.Vec.{vec_capacity, with_item, with_items}
use borrow.Rule.Slice.PartMut.{put_mid}
use Rattle.dot_planes.specs.Planes.{IsTable, all_bytes, all_len, table_of}
use Rattle.dot_planes.specs.Tables.{DotTable, IsPackedRow, row_at, row_dot, row_len}
use Rattle.dot_planes.specs.declared.planes.Planes.TheInside.{Inside}
use Rattle.dot_planes.proofs.PutDots.{IsDotPut, IsRowPut, dot_put-spare, packed_row-len, row_put-spare}
use Rattle.dot_planes.proofs.Reached.{padded, padded-again, padded-len, put_reached, reached_rows, row_there, set_reached}
use Rattle.dot_planes.proofs.RowBytes.{bytes_inside, row_inside_across}

-- The bytes were filled up to the end of row y of an ink, which begins at `start`.
pub record IsReached (p : Inside) (r : Vec ℕ Global) (i y start end : ℕ) : Type 0 where
  pub before : IsTable p
  pub ink : i < p.inks
  pub down : y < p.rows
  pub start_is : start ≡ (y * p.inks + i) * row_len p.width
  pub end_is : end ≡ start + row_len p.width
  pub items : r.items ≡ padded end p.bytes.items
  pub capacity : vec_capacity p.bytes ≤ vec_capacity r

-- what stands where its bytes are filled up
pub is-reached : (p : Inside) (t : DotTable) (r : Vec ℕ Global) (i y start len : ℕ) → IsTable p → table_of p ≡ t → i < t.inks → y < t.rows
    → start ≡ (y * p.inks + i) * len → len ≡ row_len p.width → r.items ≡ padded (start + len) p.bytes.items
    → vec_capacity p.bytes ≤ vec_capacity r → IsReached p r i y start (start + len)
is-reached p t r i y start len before same ink down first len_is items capacity = grind arith

-- the number of the row among those of all inks
abbrev pub place_of : Inside → ℕ → ℕ → ℕ
place_of p i y = y * p.inks + i

pub end-inside : (p : Inside) (r : Vec ℕ Global) (i y start end : ℕ) → IsReached p r i y start end → end ≤ all_len p
end-inside p r i y start end it = omega (
  arith,
  it.start_is,
  it.end_is,
  bytes_inside (row_len p.width) (p.inks * p.rows) (place_of p i y) (row_inside_across p.inks p.rows i y it.ink it.down),
)

-- as many rows as were there before, and the one that is written
abbrev pub rows_now : (p : Inside) → IsTable p → ℕ → ℕ → ℕ
rows_now p t i y = max t.there (place_of p i y + 1)

pub reached-len : (p : Inside) (r : Vec ℕ Global) (i y start end : ℕ) (it : IsReached p r i y start end)
    → length r.items ≡ rows_now p it.before i y * row_len p.width
reached-len p r i y start end it =
    reached_rows (row_len p.width) it.before.there (place_of p i y) end p.bytes.items r.items it.items it.before.len (omega (arith, it.start_is, it.end_is))

pub end-there : (p : Inside) (r : Vec ℕ Global) (i y start end : ℕ) (it : IsReached p r i y start end) → end ≤ length r.items
end-there p r i y start end it = grind (arith, common_steps, mul-le-mul_right, place_of, reached-len, rows_now)

all-there : (p : Inside) (t : IsTable p) → length (all_bytes p) ≡ all_len p
all-there p t = grind (arith, mul-le-mul_right, padded-len)

-- the bytes of all rows are the same
all-reached : (p : Inside) (r : Vec ℕ Global) (i y start end : ℕ) (it : IsReached p r i y start end) → padded (all_len p) r.items ≡ all_bytes p
all-reached p r i y start end it =
    ap (padded (all_len p)) it.items ∙ padded-again (all_len p) end p.bytes.items (end-inside p r i y start end it)

-- ---- a row is written

-- The row is k of these bytes from `start` on.
pub record IsRowThere (p : Inside) (r : Vec ℕ Global) (i y start k : ℕ) (xs : List ℕ) : Type 0 where
  pub end : ℕ
  pub reached : IsReached p r i y start end
  pub same : xs ≡ r.items
  pub many : k ≡ row_len p.width

pub row-there : (p : Inside) (r : Vec ℕ Global) (i y start len : ℕ) (xs : List ℕ) → IsReached p r i y start (start + len) → xs ≡ r.items
    → IsRowThere p r i y start (start + len - start) xs
row-there p r i y start len xs reached same = grind arith

-- the row before it is written
pub row-before : (p : Inside) (r : Vec ℕ Global) (i y start k : ℕ) (xs : List ℕ) → IsRowThere p r i y start k xs
    → take k (drop start xs) ≡ row_at (row_len p.width) (all_bytes p) (place_of p i y)
row-before p r i y start k xs it =
    let len : ℕ = row_len p.width in
    let n : ℕ = place_of p i y in
    let all = it.reached in
    let there = end-there p r i y start it.end all in
    ap (λ (bytes : List ℕ). take k (drop start bytes)) it.same
    ∙ ap (λ m. take m (drop start r.items)) it.many
    ∙ ap (λ m. take len (drop m r.items)) all.start_is
    ∙ row_there len n (all_len p - length r.items) r.items (omega (arith, there, all.start_is, all.end_is))
    ∙ ap (λ (bytes : List ℕ). row_at len bytes n) (all-reached p r i y start it.end all)

pub row-before-len : (p : Inside) (r : Vec ℕ Global) (i y start k : ℕ) (xs : List ℕ) → IsRowThere p r i y start k xs
    → length (take k (drop start xs)) ≡ row_len p.width
row-before-len p r i y start k xs it = grind (arith, common_steps, end-there, length-drop, length-take)

pub row-before-spare : (p : Inside) (r : Vec ℕ Global) (i y start k : ℕ) (xs : List ℕ) → IsRowThere p r i y start k xs
    → (x : ℕ) → p.width ≤ x → row_dot (row_at (row_len p.width) (all_bytes p) (place_of p i y)) x ≡ false
row-before-spare p r i y start k xs it x past = grind (arith, place_of, row_inside_across)

-- the planes with a row written anew
abbrev pub with_row : Inside → Vec ℕ Global → ℕ → ℕ → List ℕ → List ℕ → Inside
with_row p r a k xs row = record { width = p.width; rows = p.rows; inks = p.inks; bytes = with_items r (put_mid a k xs row) }

pub row-put : (p : Inside) (r : Vec ℕ Global) (i y start k : ℕ) (xs row : List ℕ) → IsRowThere p r i y start k xs → IsPackedRow p.width row
    → IsRowPut (table_of p) i y start k row (all_bytes (with_row p r start k xs row))
row-put p r i y start k xs row it packed_row =
    let all = it.reached in
    record {
      is = put_reached start k it.end r.len (all_len p) p.bytes.items r.items xs row all.items it.same (sym r.ok.0)
          (omega (arith, it.many, all.end_is, end-there p r i y start it.end all, r.ok.0))
          (packed_row-len p.width row packed_row ∙ sym it.many) (end-inside p r i y start it.end all);
      len = all-there p all.before;
      ink = all.ink;
      down = all.down;
      packed_row = packed_row;
      first = all.start_is;
      many = it.many;
    }

pub row-table : (p : Inside) (r : Vec ℕ Global) (i y start k : ℕ) (xs row : List ℕ) → IsRowThere p r i y start k xs → IsPackedRow p.width row
    → IsTable (with_row p r start k xs row)
row-table p r i y start k xs row it packed_row =
    let all = it.reached in
    record {
      size = all.before.size;
      there = rows_now p all.before i y;
      some = omega (arith, all.before.some, row_inside_across p.inks p.rows i y all.ink all.down);
      len = sym (with_items r (put_mid start k xs row)).ok.0 ∙ r.ok.0 ∙ reached-len p r i y start it.end all;
      room = omega (arith, all.before.room, all.capacity);
      spare = row_put-spare (table_of p) i y start k row (all_bytes (with_row p r start k xs row)) all.before.spare
          (row-put p r i y start k xs row it packed_row);
    }

-- ---- a dot is turned on

abbrev pub with_dot : Inside → Vec ℕ Global → ℕ → ℕ → Inside
with_dot p r place byte = record { width = p.width; rows = p.rows; inks = p.inks; bytes = with_item r place byte }

pub dot-put : (p : Inside) (r : Vec ℕ Global) (i y x start end byte : ℕ) (it : IsReached p r i y start end)
    → x < p.width → byte ≡ bit_or (get_or r.items (start + x / 8) 0) (1 * 2 ^ (7 - x % 8) % 256)
    → IsDotPut (table_of p) i y x (start + x / 8) (all_bytes (with_dot p r (start + x / 8) byte))
dot-put p r i y x start end byte it across is =
    let place : ℕ = start + x / 8 in
    let there = end-there p r i y start end it in
    let room : place < length r.items = omega (arith, there, across, it.end_is) in
    let same : get_or r.items place 0 ≡ get_or (all_bytes p) place 0 =
    sym (get_or_append_left r.items (replicate {A = ℕ} (all_len p - length r.items) 0) 0 place room)
    ∙ ap (λ (bytes : List ℕ). get_or bytes place 0) (all-reached p r i y start end it) in
    record {
      is = set_reached place end (all_len p) byte p.bytes.items r.items it.items room (end-inside p r i y start end it)
          ∙ ap (λ b. set (all_bytes p) place b) (is ∙ ap (λ b. bit_or b (1 * 2 ^ (7 - x % 8) % 256)) same);
      len = all-there p it.before;
      ink = it.ink;
      down = it.down;
      across = across;
      place_is = ap (λ m. m + x / 8) it.start_is;
    }

pub dot-table : (p : Inside) (r : Vec ℕ Global) (i y x start end byte : ℕ) (it : IsReached p r i y start end)
    → x < p.width → byte ≡ bit_or (get_or r.items (start + x / 8) 0) (1 * 2 ^ (7 - x % 8) % 256)
    → IsTable (with_dot p r (start + x / 8) byte)
dot-table p r i y x start end byte it across is = record {
  size = it.before.size;
  there = rows_now p it.before i y;
  some = omega (arith, it.before.some, row_inside_across p.inks p.rows i y it.ink it.down);
  len = length-set r.items (start + x / 8) byte ∙ reached-len p r i y start end it;
  room = omega (arith, it.before.room, it.capacity);
  spare = dot_put-spare (table_of p) i y x (start + x / 8) (all_bytes (with_dot p r (start + x / 8) byte)) it.before.spare
      (dot-put p r i y x start end byte it across is);
}
