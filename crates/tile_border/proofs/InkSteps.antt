-- Ink after ink of a tile.
use Rattle.std.proofs.Common.{◌≡◌, ◌≢◌, ℕ, ℤ, ◌+◌, ◌<◌, ◌≤◌, List, [], get_or, length, set, length-set, ap, arith, inl, inr, refl, sym, ◌∙◌}
use Rattle.std.proofs.Common.{MatchOption, Option, None, Some, subst, get_or-set_other, get_or-set_same}
use Rattle.std.proofs.lemmas.Bool.{cases_eq}
use Rattle.std.proofs.lemmas.List.{get_or_read}
use Rattle.diffusion_definitions.specs.Diffusion.{EachInRange, Errors, Solves}
use Rattle.diffusion_kernel.specs.Tables.{table_of}
use Rattle.diffusion_kernel.specs.declared.tables.Kernel.{Kernel}
use Rattle.dot_planes.specs.Gathered.{HasNoAmount, HasNoAmounts, HasPixels, HasTile}
use Rattle.dot_planes.specs.Tables.{AmountTable, amount}
use Rattle.tile_lanes.specs.Done.{DiffusesInk, IsDone, IsReady, plane_of, plane_with, window_of}
use Rattle.tile_shape.specs.declared.tiles.Place.{Place}
use Rattle.tile_shape.specs.declared.tiles.Shape.{Shape}
use Rattle.tile_border.specs.Inks.{AreInks, errors_of}
use Rattle.tile_border.specs.Works.{Border, IsWholeInk, SameInk, Works, WorksInk}

done_same : (k : Kernel) (rows : AmountTable) (p : Place) (i : ℕ) (e : Errors) {s s1 b b1 q q1 : List ℤ} {d d1 : List ℕ} → s1 ≡ s → b1 ≡ b
    → q1 ≡ q → d1 ≡ d
    → IsDone (table_of k) (plane_of rows i) e p s b q d → IsDone (table_of k) (plane_of rows i) e p s1 b1 q1 d1
done_same k rows p i e {s} {s1} {b} {b1} {q} {q1} {d} {d1} side bottom corner bits done =
    let S : List ℤ → Type 0 = λ x. IsDone (table_of k) (plane_of rows i) e p x b q d in
    let B : List ℤ → Type 0 = λ x. IsDone (table_of k) (plane_of rows i) e p s1 x q d in
    let Q : List ℤ → Type 0 = λ x. IsDone (table_of k) (plane_of rows i) e p s1 b1 x d in
    let D : List ℕ → Type 0 = λ x. IsDone (table_of k) (plane_of rows i) e p s1 b1 q1 x in
    subst D (sym bits) (subst Q (sym corner) (subst B (sym bottom) (subst S (sym side) done)))

ready_same : (p : Place) (e : Errors) {s s1 b b1 q q1 : List ℤ} → s1 ≡ s → b1 ≡ b → q1 ≡ q → IsReady e p s b q → IsReady e p s1 b1 q1
ready_same p e {s} {s1} {b} {b1} {q} {q1} side bottom corner ready =
    let S : List ℤ → Type 0 = λ x. IsReady e p x b q in
    let B : List ℤ → Type 0 = λ x. IsReady e p s1 x q in
    let Q : List ℤ → Type 0 = λ x. IsReady e p s1 b1 x in
    subst Q (sym corner) (subst B (sym bottom) (subst S (sym side) ready))

-- what is done stays
stays : (k : Kernel) (rows : AmountTable) (p : Place) (i : ℕ) (old mid new : Border) → SameInk i mid new → Works k rows p i old mid
    → Works k rows p i old new
stays k rows p i old mid new same works = λ e solves ready.
    done_same k rows p i e same.side same.bottom same.corner same.bits (works e solves ready)

-- what was not begun is as it was
begins : (k : Kernel) (rows : AmountTable) (p : Place) (i : ℕ) (old mid new : Border) → SameInk i old mid → Works k rows p i mid new
    → Works k rows p i old new
begins k rows p i old mid new same works = λ e solves ready.
    works e solves (ready_same p e same.side same.bottom same.corner ready)

then_same : (i : ℕ) (old mid new : Border) → SameInk i old mid → SameInk i mid new → SameInk i old new
then_same i old mid new a b = record {
  side = b.side ∙ a.side;
  bottom = b.bottom ∙ a.bottom;
  corner = b.corner ∙ a.corner;
  bits = b.bits ∙ a.bits;
}

pub done_more : (k : Kernel) (rows : AmountTable) (p : Place) (n : ℕ) (old mid new : Border) → WorksInk k rows p n mid new
    → ((i : ℕ) → i < n → Works k rows p i old mid) → ((i : ℕ) → n ≤ i → SameInk i old mid) → (i : ℕ) → i < n + 1 → Works k rows p i old new
done_more k rows p n old mid new step done rest i upto = elim (cases_eq i n) [
  | inl here ↦
      let Q : ℕ → Type 0 = λ m. Works k rows p m old new in
      subst Q (sym here) (begins k rows p n old mid new (rest n (omega arith)) step.works)
  | inr earlier ↦ stays k rows p i old mid new (step.others i earlier) (done i (omega arith))
]

pub rest_more : (k : Kernel) (rows : AmountTable) (p : Place) (n : ℕ) (old mid new : Border) → WorksInk k rows p n mid new
    → ((i : ℕ) → n ≤ i → SameInk i old mid) → (i : ℕ) → n + 1 ≤ i → SameInk i old new
rest_more k rows p n old mid new step rest i after = then_same i old mid new (rest i (omega arith)) (step.others i (omega arith))

whole_same : (i : ℕ) (mid new : Border) → SameInk i mid new → IsWholeInk i mid → IsWholeInk i new
whole_same i mid new same whole = record {
  side = ap length same.side ∙ whole.side;
  bottom = ap length same.bottom ∙ whole.bottom;
  corner = ap length same.corner ∙ whole.corner;
  bits = ap length same.bits ∙ whole.bits;
  bytes = λ n. let Q : List ℕ → Type 0 = λ xs. get_or xs n 0 < 256 in subst Q (sym same.bits) (whole.bytes n);
}

pub whole_more : (k : Kernel) (rows : AmountTable) (p : Place) (n : ℕ) (mid new : Border) → WorksInk k rows p n mid new
    → IsWholeInk n new → ((i : ℕ) → i < n → IsWholeInk i mid) → (i : ℕ) → i < n + 1 → IsWholeInk i new
whole_more k rows p n mid new step now before i upto = elim (cases_eq i n) [
  | inl here ↦ let Q : ℕ → Type 0 = λ m. IsWholeInk m new in subst Q (sym here) now
  | inr earlier ↦ whole_same i mid new (step.others i earlier) (before i (omega arith))
]

-- ---- one ink is set

-- the errors read of an ink
pub read_fits : (edge : List (List ℤ)) (n : ℕ) (errors : List ℤ) → AreInks edge → n < length edge → errors ≡ get_or edge n errors
    → EachInRange errors
read_fits edge n errors inks room is =
    let Q : List ℤ → Type 0 = λ es. EachInRange es in
    subst Q (sym (get_or_read edge n errors room is [])) (inks.in_range n)

-- What stands at a place that is set, and at all others.
set_here : {A : Type 0} (xs : List (List A)) (at i : ℕ) (x : List A) → at ≡ i → at < length xs → get_or (set xs at x) i [] ≡ x
set_here xs at i x same room = ap (λ m. get_or (set xs at x) m []) (sym same) ∙ get_or-set_same xs at x [] room

set_there : {A : Type 0} (xs ys : List (List A)) (at i j : ℕ) (x : List A) → xs ≡ ys → at ≡ i → j ≢ i
    → get_or (set xs at x) j [] ≡ get_or ys j []
set_there xs ys at i j x is same other = get_or-set_other xs at j x [] (λ here. other (here ∙ same)) ∙ ap (λ zs. get_or zs j []) is

set_long : {A : Type 0} (xs ys : List (List A)) (at n : ℕ) (x : List A) → xs ≡ ys → length ys ≡ n → length (set xs at x) ≡ n
set_long xs ys at n x is long = length-set xs at x ∙ ap length is ∙ long

pub read_here : (xs ys : List (List ℤ)) (at i : ℕ) (x : List ℤ) → xs ≡ ys → at ≡ i → at < length xs → x ≡ get_or xs at x
    → errors_of ys i ≡ x
read_here xs ys at i x is same room read = sym (get_or_read xs at x room read [] ∙ ap (λ m. get_or xs m []) same
    ∙ ap (λ (zs : List (List ℤ)). get_or zs i []) is)

-- The lists of one ink, as they were read and as they are written.
pub record IsWritten (at i : ℕ) (xs ys : List (List ℤ)) (old : List ℤ) : Type 0 where
  pub is : xs ≡ ys
  pub room : at < length xs
  pub read : old ≡ get_or xs at old

-- What is known of all inks of a tile, as known of one.
one_ink : {R : Type 0} (rows : AmountTable) (p : Place) (i at : ℕ) (o : Option R) (inks_of : R → List (List ℕ)) → at ≡ i → i < rows.inks
    → MatchOption o (HasNoAmounts rows p) (λ a. HasTile rows p (inks_of a))
    → MatchOption o (HasNoAmount (window_of rows) (amount rows i) p) (λ a. HasPixels (window_of rows) (amount rows i) p (get_or (inks_of a) at []))
one_ink rows p i at None inks_of same low none = none.ink i low
one_ink rows p i at (Some a) inks_of same low has =
    let OfInk : ℕ → Type 0 = λ n. HasPixels (window_of rows) (amount rows i) p (get_or (inks_of a) n []) in
    subst OfInk (sym same) (has.ink i low)

-- One ink of a tile is diffused, whose gathered amounts are those of the rows, or whose rows have none.
pub diffuses : {R : Type 0} (k : Kernel) (rows : AmountTable) (p : Place) (i at : ℕ) (s : Shape) (o : Option R) (inks_of : R → List (List ℕ))
    {so bo qo sx bx qx : List ℤ} {dx : List ℕ} → s ≡ window_of rows → at ≡ i → i < rows.inks
    → MatchOption o (HasNoAmounts rows p) (λ a. HasTile rows p (inks_of a))
    → ((f : ℕ → ℕ → ℕ) → MatchOption o (HasNoAmount s f p) (λ a. HasPixels s f p (get_or (inks_of a) at []))
    → DiffusesInk (table_of k) (plane_with s f) p so bo qo sx bx qx dx)
    → DiffusesInk (table_of k) (plane_of rows i) p so bo qo sx bx qx dx
diffuses k rows p i at s o inks_of {so} {bo} {qo} {sx} {bx} {qx} {dx} is same low has done =
    let InShape : Shape → Type 0 = λ q. (f : ℕ → ℕ → ℕ) → MatchOption o (HasNoAmount q f p) (λ a. HasPixels q f p (get_or (inks_of a) at []))
    → DiffusesInk (table_of k) (plane_with q f) p so bo qo sx bx qx dx in
    subst InShape is done (amount rows i) (one_ink rows p i at o inks_of same low has)

pub works_ink : (k : Kernel) (rows : AmountTable) (p : Place) (i at : ℕ) (s sv b bv q qv : List (List ℤ)) (d : List (List ℕ))
    (sx so bx bo qx qo : List ℤ) (dx : List ℕ)
    → at ≡ i → i < length d → IsWritten at i s sv so → IsWritten at i b bv bo → IsWritten at i q qv qo
    → ((e : Errors) → Solves (table_of k) (plane_of rows i) e → IsReady e p so bo qo
    → IsDone (table_of k) (plane_of rows i) e p sx bx qx dx)
    → WorksInk k rows p i (record { side = sv; bottom = bv; corner = qv; bits = d })
    (record { side = set s at sx; bottom = set b at bx; corner = set q at qx; bits = set d i dx })
works_ink k rows p i at s sv b bv q qv d sx so bx bo qx qo dx same room ws wb wq done = record {
  works = λ e solves ready. done_same k rows p i e
      (set_here s at i sx same ws.room) (set_here b at i bx same wb.room) (set_here q at i qx same wq.room) (set_here d i i dx refl room)
      (done e solves (ready_same p e
      (sym (read_here s sv at i so ws.is same ws.room ws.read)) (sym (read_here b bv at i bo wb.is same wb.room wb.read))
      (sym (read_here q qv at i qo wq.is same wq.room wq.read)) ready));
  others = λ j other. record {
    side = set_there s sv at i j sx ws.is same other;
    bottom = set_there b bv at i j bx wb.is same other;
    corner = set_there q qv at i j qx wq.is same other;
    bits = set_there d d i i j dx refl refl other;
  };
  inks = λ n has. record {
    side = set_long s sv at n sx ws.is has.side;
    bottom = set_long b bv at n bx wb.is has.bottom;
    corner = set_long q qv at n qx wq.is has.corner;
    bits = set_long d d i n dx refl has.bits;
  };
}

-- there is room for an ink that the edges have
pub room_for : (at i inks : ℕ) (xs ys : List (List ℤ)) → at ≡ i → xs ≡ ys → length ys ≡ inks → i < inks → at < length xs
room_for at i inks xs ys same is long low = omega (arith, ap (λ (zs : List (List ℤ)). length zs) is)
