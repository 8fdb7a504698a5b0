-- Planes over which a row is laid.
use Rattle.std.proofs.Common.{◌≡◌, ℕ, ◌+◌, ◌-◌, ◌*◌, ◌<◌, ◌≤◌, ◌⊎◌, false, ◌&&◌, ◌||◌, nat_le, nat_lt, List, length}
use Rattle.std.proofs.Common.{map, refl, subst, sym, ◌∙◌, ap, arith, inl, inr, get_or}
use Rattle.std.proofs.lemmas.Bool.{le-leb, le-ltb, lt-leb, lt-ltb}
use Rattle.base_definitions.specs.Counting.{count_from}
use Rattle.dot_planes.specs.Laying.{Lays, laid_dot}
use Rattle.dot_planes.specs.Tables.{DotTable, IsPackedRow, PutsRow, dot, row_at, row_dot, row_len}
use Rattle.dot_planes.proofs.LaidBytes.{and-none, or-nothing}
use Rattle.dot_planes.proofs.PackedRows.{counted-len, dot_of_packed, row_packed}
use Rattle.dot_planes.proofs.PutDots.{IsRowPut, dot-in, puts_row, with_bytes}

-- A row of planes after another was laid over it.
pub record IsLaidOver (t : DotTable) (i y x : ℕ) (row : List ℕ) (dots : ℕ) (over : List ℕ) : Type 0 where
  pub inside : x + dots ≤ t.width
  pub is : (c : ℕ) → row_dot over c ≡ (row_dot (row_at (row_len t.width) t.bytes (y * t.inks + i)) c || laid_dot row dots x c)

-- no dot of the row is laid beside it
laid-beside : (row : List ℕ) (dots x c : ℕ) → (c < x) ⊎ (x + dots ≤ c) → laid_dot row dots x c ≡ false
laid-beside row dots x c (inl left) = ap (λ b. b && (nat_lt (c - x) dots && row_dot row (c - x))) (lt-leb x c left)
laid-beside row dots x c (inr right) = ap (λ b. nat_le x c && (b && row_dot row (c - x))) (le-ltb (c - x) dots (omega arith)) ∙ and-none _

laid-inside : (row : List ℕ) (dots x k : ℕ) → k < dots → laid_dot row dots x (x + k) ≡ row_dot row k
laid-inside row dots x k low = grind (arith, le-leb, lt-ltb)

-- it is a packed row, with spare bits of 0
pub laid-packed : (t : DotTable) (i y x : ℕ) (row : List ℕ) (dots : ℕ) (over : List ℕ) → IsLaidOver t i y x row dots over
    → length over ≡ row_len t.width → ((k : ℕ) → get_or over k 0 < 256)
    → ((c : ℕ) → t.width ≤ c → row_dot (row_at (row_len t.width) t.bytes (y * t.inks + i)) c ≡ false)
    → IsPackedRow t.width over
laid-packed t i y x row dots over laid len bytes spare = record {
  dots = map (row_dot over) (count_from 0 t.width);
  width_is = counted-len (row_dot over) 0 t.width;
  is = row_packed t.width over len bytes (λ c past. laid.is c
      ∙ ap (λ b. b || laid_dot row dots x c) (spare c past)
      ∙ laid-beside row dots x c (let fits = laid.inside in inr (omega arith)));
}

pub lays : (t old : DotTable) (i y x : ℕ) (row : List ℕ) (dots a k : ℕ) (over new : List ℕ) → t ≡ old → IsRowPut t i y a k over new
    → IsLaidOver t i y x row dots over → Lays old (with_bytes t new) i y x row dots
lays t old i y x row dots a k over new same p laid =
    let Q : DotTable → Type 0 = λ o. Lays o (with_bytes t new) i y x row dots in
    let puts : PutsRow t (with_bytes t new) i y over = puts_row t t i y a k over new refl p in
    let now : (c : ℕ) → dot (with_bytes t new) i y c ≡ row_dot over c = λ c.
    puts.row p.packed_row.dots p.packed_row.width_is p.packed_row.is c ∙ sym (dot_of_packed p.packed_row.dots over c p.packed_row.is) in
    let laid_now : (c : ℕ) → dot (with_bytes t new) i y c ≡ (dot t i y c || laid_dot row dots x c) = λ c.
    now c ∙ laid.is c ∙ ap (λ b. b || laid_dot row dots x c) (sym (dot-in t i y c p.ink)) in
    subst Q same (record {
      size = puts.size;
      part = λ n low. laid_now (x + n) ∙ ap (λ b. dot t i y (x + n) || b) (laid-inside row dots x n low);
      beside = λ c where_is. laid_now c ∙ ap (λ b. dot t i y c || b) (laid-beside row dots x c where_is) ∙ or-nothing _;
      others = λ j r other low c. puts.others j r other low c;
    })
