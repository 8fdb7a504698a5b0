-- The slots of a closed board, emptied tile by tile.
use Rattle.std.proofs.Common.{◌≡◌, ◌≢◌, ℕ, zero, suc, ◌+◌, ◌*◌, ◌<◌, ◌≤◌, List, [], ◌∷◌, ◌++◌, get_or, length, refl, sym, ◌∙◌, ap}
use Rattle.std.proofs.Common.{subst, inl, inr, arith, length-append, vec_capacity}
use Rattle.std.proofs.lemmas.Bool.{cases_lt}
use Rattle.std.proofs.Math.Nat.{mul-le-mul_left, mul_comm}
use Rattle.std.specs.declared.alloc.Global.{Global}
use mathlib.Core.Option.{some}
use lib.ListN.{get_elem?}
use Rattle.atomic_table.specs.declared.owned.Closed.{Closed as Rest}
use Rattle.dot_planes.specs.declared.tiles.TileDots.{TileDots}
use Rattle.tile_shape.specs.Geometry.{IsTile, bands_of, columns_of}
use Rattle.tile_shape.specs.declared.tiles.Place.{Place}
use Rattle.tile_shape.specs.declared.tiles.Shape.{Shape}
use Rattle.board_core.specs.Numbers.{number_of}
use Rattle.board_steps.specs.declared.rule.Cell.{Cell}
use Rattle.tile_board.specs.declared.kinds.Closed.{Closed}
use Rattle.tile_board.specs.Emptying.{CanEmpty, EmptiedBefore, EmptiesTile, IsLeftBy}
use Rattle.board_core.proofs.Numbers.{number_below, same_place}

-- ---- places

at-left : {A : Type 0} (l m : List A) (i : ℕ) → i < length l → get_elem? (l ++ m) i ≡ get_elem? l i
at-left [] m i near = absurd (omega arith)
at-left (x ∷ l) m zero near = refl
at-left (x ∷ l) m (suc i) near = at-left l m i (omega arith)

at-end : {A : Type 0} (l : List A) (x : A) (i : ℕ) → length l ≡ i → get_elem? (l ++ x ∷ []) i ≡ some x
at-end [] x zero e = refl
at-end [] x (suc i) e = absurd (omega arith)
at-end (y ∷ l) x zero e = absurd (omega arith)
at-end (y ∷ l) x (suc i) e = at-end l x i (omega arith)

-- in the last band a tile with a lower number is further left
earlier-column : (s : Shape) (p q : Place) → IsTile s p → q.j + 1 ≡ bands_of s → number_of s q < number_of s p → q.c < p.c
earlier-column s p q tile last before =
    let C : ℕ = columns_of s in
    let B : ℕ = bands_of s in
    let pj : ℕ = p.j in
    let qj : ℕ = q.j in
    let low : pj < B = tile.band in
    let last' : qj + 1 ≡ B = last in
    let up : pj ≤ qj = omega arith in
    let rows = mul-le-mul_left C up in
    let u : ℕ = pj * C in
    let w : ℕ = qj * C in
    let a : C * pj ≡ u = mul_comm C pj in
    let d : C * qj ≡ w = mul_comm C qj in
    let x : ℕ = C * pj in
    let y : ℕ = C * qj in
    let a' : x ≡ u = a in
    let d' : y ≡ w = d in
    let rows' : x ≤ y = rows in
    let e : ℕ = q.c in
    let f : ℕ = p.c in
    let before' : w + e < u + f = before in
    omega arith

-- ---- one tile more

pub left-at : (s : Shape) (n m : ℕ) (rest : Rest Cell Global) (closed : Closed) → n ≡ m → IsLeftBy s n rest closed
    → IsLeftBy s m rest closed
left-at s n m rest closed same is = let Q : ℕ → Type 0 = λ k. IsLeftBy s k rest closed in subst Q same is

items-at : (xs ys : List Cell) (slot place : ℕ) (x : Cell) → ys ≡ xs → slot ≡ place → get_elem? ys slot ≡ some x
    → get_elem? xs place ≡ some x
items-at xs ys slot place x same here at = (λ i. get_elem? (sym same i) (sym here i)) ∙ at

pub takes-more : (s : Shape) (p : Place) (t : ℕ) (rest rest' : Rest Cell Global) (closed closed' : Closed) → IsTile s p → t ≡ number_of s p
    → IsLeftBy s t rest closed → EmptiesTile t p rest closed rest' closed' → IsLeftBy s (t + 1) rest' closed'
takes-more s p t rest rest' closed closed' tile number is takes =
    let inside : t < bands_of s * columns_of s = let h = number_below s p tile in omega arith in
    let here = is.dots t inside in
    let pushed : closed'.dots.items ≡ closed.dots.items ++ (record { place = p; bits = here.0 }) ∷ [] = takes.dots here.0 here.1 in
    record {
      len = takes.len ∙ is.len;
      full = λ k low high. takes.full k (omega arith) high;
      empty = λ k low. elim (cases_lt k (4 * t)) [
        | inl before ↦ takes.stay k before ∙ is.empty k before
        | inr not_before ↦ takes.empty k not_before (omega arith)
      ];
      dots = λ n low. let d = is.dots n low in (d.0, ap (λ (xs : List Cell). get_elem? xs (4 * n + 3)) takes.items ∙ d.1);
      room = let h = is.room in let e = takes.capacity in omega arith;
      before = record {
        count = ap length pushed ∙ length-append closed.dots.items ((record { place = p; bits = here.0 }) ∷ [])
            ∙ ap (λ n. n + 1) is.before.count;
        dots = λ q bits there low at. elim (cases_lt (number_of s q) t) [
          | inl before ↦
              ap (λ (xs : List TileDots). get_elem? xs (number_of s q)) pushed
              ∙ at-left closed.dots.items _ (number_of s q) (let h = is.before.count in omega arith)
              ∙ is.before.dots q bits there before (items-at _ _ (4 * number_of s q + 3) (4 * number_of s q + 3) _ takes.items refl at)
          | inr not_before ↦
              let now : number_of s q ≡ t = omega arith in
              let slot : 4 * number_of s q + 3 ≡ 4 * t + 3 = omega arith in
              ap (λ (xs : List TileDots). get_elem? xs (number_of s q))
              (takes.dots bits (items-at _ _ (4 * number_of s q + 3) (4 * t + 3) _ takes.items slot at))
              ∙ at-end closed.dots.items (record { place = p; bits = bits }) (number_of s q) (is.before.count ∙ sym now)
              ∙ ap (λ (r : Place). some (record { place = r; bits = bits })) (sym (same_place s q p there tile (now ∙ number)))
        ];
        columns = takes.columns ∙ is.before.columns;
        bottoms = λ q edge there last low at. elim (cases_lt (number_of s q) t) [
          | inl before ↦
              let other : q.c ≢ p.c = λ same. let h = earlier-column s p q tile last (let n = number in omega arith) in omega arith in
              takes.others q.c other
              ∙ is.before.bottoms q edge there last before
              (items-at _ _ (4 * number_of s q + 1) (4 * number_of s q + 1) _ takes.items refl at)
          | inr not_before ↦
              let now : number_of s q ≡ t = omega arith in
              let slot : 4 * number_of s q + 1 ≡ 4 * t + 1 = omega arith in
              ap (λ (r : Place). get_or closed'.bottom r.c []) (same_place s q p there tile (now ∙ number))
              ∙ takes.bottom edge (items-at _ _ (4 * number_of s q + 1) (4 * t + 1) _ takes.items slot at)
        ];
      };
    }

-- ---- all tiles

pub left-first : (s : Shape) (n : ℕ) (rest : Rest Cell Global) (closed : Closed) → n ≡ 0 → CanEmpty s rest
    → bands_of s * columns_of s ≤ vec_capacity closed.dots
    → closed.dots.items ≡ [] → length closed.bottom ≡ columns_of s → IsLeftBy s n rest closed
left-first s n rest closed first can room none columns = left-at s 0 n rest closed (sym first) (record {
  len = can.len;
  full = λ k low high. can.full k (omega arith) high;
  empty = λ k low. absurd (omega arith);
  dots = can.dots;
  room = room;
  before = record {
    count = ap length none;
    dots = λ p bits tile low at. absurd (omega arith);
    columns = columns;
    bottoms = λ p edge tile last low at. absurd (omega arith);
  };
})

pub emptied-items : (s : Shape) (n : ℕ) (xs ys : List Cell) (closed : Closed) → xs ≡ ys → EmptiedBefore s n xs closed
    → EmptiedBefore s n ys closed
emptied-items s n xs ys closed same is = let Q : List Cell → Type 0 = λ zs. EmptiedBefore s n zs closed in subst Q same is
