-- A make-up stroke begins.
use Rattle.std.proofs.lemmas.Grind.{common_steps}
use Rattle.std.proofs.Common.{◌≡◌, ◌≢◌, ℕ, zero, suc, ◌+◌, ◌-◌, ◌*◌, ◌<◌, ◌≤◌, Bool, true, false, cond, not, ◌&&◌, inl, inr, ◌⊎◌}
use Rattle.std.proofs.Common.{List, [], ◌∷◌, ◌++◌, length, Option, None, Some, refl, sym, ◌∙◌, ap, arith, append_assoc}
use Rattle.std.proofs.Math.Nat.{mul-le-mul_right}
use Rattle.std.proofs.lemmas.Bool.{and_right, cases_lt, eq-eqb, ne_eqb, not-true}
use Rattle.std.specs.List.{AllByRecursion, filter}
use Rattle.base_definitions.specs.Counting.{count_from}
use Rattle.dead_nozzles.specs.Dead.{has}
use Rattle.dead_nozzles.specs.Plans.{Owns, Takes, is_free, is_of, owned_row, owner}
use Rattle.dead_nozzles.specs.Strokes.{Head, HeadStroke, head_span, inserted, is_fired, left_by, made_up, make_up_stroke, row_under, stroke_at}
use Rattle.dead_nozzles.proofs.Lists.{all-append, all-map, all-mapped, both-true, has-filter, has-inside}
use Rattle.dead_nozzles.proofs.Firing.{Over, one-over, over}
use Rattle.dead_nozzles.proofs.MakeUp.{Maker, fewer, has-first, has-left, makes, reach}
use Rattle.dead_nozzles.proofs.RowsOf.{fired-cases, stroke-row, stroke-same, wanted_row}
use Rattle.dead_nozzles.proofs.Scanning.{Scan, free-not-of, free-row, free_from, insert-first, map-more, passes_from, row_at}
use Rattle.dead_nozzles.proofs.Starts.{StartsAt, all-inserted, made-starts}
use Rattle.dead_nozzles.proofs.Taking.{IsPass, OfPasses}

-- ---- lists

all-both : {X : Type 0} (P Q R : X → Type 0) (xs : List X) → ((x : X) → P x → Q x → R x) → AllByRecursion P xs → AllByRecursion Q xs → AllByRecursion R xs
all-both P Q R [] to all also = tt
all-both P Q R (x ∷ xs) to all also = (to x all.0 also.0, all-both P Q R xs to all.1 also.1)

-- a test after a test
filter-two : (first second both : ℕ → Bool) (n many : ℕ) → ((y : ℕ) → n ≤ y → y < n + many → both y ≡ (first y && second y))
    → filter second (filter first (count_from n many)) ≡ filter both (count_from n many)
filter-two first second both n zero same = refl
filter-two first second both n (suc many) same =
    grind (arith, filter-two first second both (n + 1) many (λ y from below. same y (omega arith) (omega arith)))

-- ---- owners after a stroke has taken its rows

-- What is known where a make-up stroke begins: its row, and the owners before and after.
pub record MakesUp (h : Head) (j start row : ℕ) (old new : List (Option ℕ)) : Type 0 where
  pub maker : Maker h j
  pub under : row_under h start j ≡ Some row
  pub none : owner old row ≡ None
  pub of_passes : OfPasses h old
  pub takes : Takes h start old new

-- the rows that are free
abbrev free : List (Option ℕ) → ℕ → Bool
free old y = is_free (owner old y)

-- no pass starts where a make-up stroke does
no-pass : (h : Head) (j start row : ℕ) (old new : List (Option ℕ)) → MakesUp h j start row old new → (t : ℕ) → start ≢ t * h.nozzles
no-pass h j start row old new k t e =
    let own = sym (ap (is_of (t * h.nozzles)) k.none) ∙ k.of_passes t j row k.maker.low (ap (λ s. row_under h s j) (sym e) ∙ k.under)
    ∙ ap not k.maker.live in cc

-- a row is free after the stroke where it was and the stroke does not fire it
free-after : (h : Head) (j start row : ℕ) (old new : List (Option ℕ)) → MakesUp h j start row old new → (y : ℕ) → y < h.height
    → is_free (owner new y) ≡ (is_free (owner old y) && not (is_fired (stroke_at h (free old) start).shots y))
free-after h j start row old new k y low = grind (arith, and_right, free)

-- another stroke keeps its rows
of-kept : (h : Head) (j start row : ℕ) (old new : List (Option ℕ)) → MakesUp h j start row old new → (y other : ℕ) → y < h.height → start ≢ other
    → is_of other (owner new y) ≡ is_of other (owner old y)
of-kept h j start row old new k y other low apart =
    elim (fired-cases h (free old) start y k.maker.near) [
      | inl by ↦ ap (is_of other) (k.takes.each y low ∙ ap (λ b. cond b (Some start) (owner old y)) by.is)
          ∙ ne_eqb start other apart ∙ sym (free-not-of other (owner old y) by.hits.is_wanted)
      | inr by ↦ ap (is_of other) (k.takes.each y low ∙ ap (λ b. cond b (Some start) (owner old y)) by.is)
    ]

owns-kept : (h : Head) (j start row : ℕ) (old new : List (Option ℕ)) → MakesUp h j start row old new
    → (d : HeadStroke) → Owns h old d → d.start < start → Owns h new d
owns-kept h j start row old new k d own less i few = grind (arith, common_steps, of-kept, over)

-- the stroke owns what it fires
made-owns : (h : Head) (j start row : ℕ) (old new : List (Option ℕ)) → MakesUp h j start row old new
    → ((y k : ℕ) → y < h.height → owner old y ≡ Some k → (k < start) ⊎ IsPass h k) → Owns h new (stroke_at h (free old) start)
made-owns h j start row old new k before i few =
    stroke-row h (free old) start i few ∙ by_row (row_under h start i) refl
  where
    not-yet : (y : ℕ) → y < h.height → (o : Option ℕ) → owner old y ≡ o → is_of start o ≡ false
    not-yet y low None e = refl
    not-yet y low (Some m) e =
        elim (before y m low e) [
          | inl less ↦ ne_eqb m start (λ same. omega (arith, same, less))
          | inr pass ↦ ne_eqb m start (λ same. no-pass h j start row old new k pass.pass (sym same ∙ pass.is))
        ]

    by_test : (y : ℕ) (b : Bool) → row_under h start i ≡ Some y → (not (has h.dead i) && free old y) ≡ b → b ≡ is_of start (owner new y)
    by_test y true e eb =
        let parts = both-true (not (has h.dead i)) (free old y) eb in
        let o : Over h start i y = over h start i y e in
        elim (fired-cases h (free old) start y k.maker.near) [
          | inl by ↦ sym (ap (is_of start) (k.takes.each y o.low ∙ ap (λ b. cond b (Some start) (owner old y)) by.is) ∙ eq-eqb start start refl)
          | inr by ↦ absurd (by.none i few (record { live = not-true (has h.dead i) parts.0; is_wanted = parts.1; over = o }))
        ]
    by_test y false e eb =
        let o : Over h start i y = over h start i y e in
        elim (fired-cases h (free old) start y k.maker.near) [
          | inl by ↦ absurd (let same : by.nozzle ≡ i = one-over h start y k.maker.near by.nozzle i by.hits.over o in
              let fires : (not (has h.dead i) && free old y) ≡ true =
              ap (λ n. not (has h.dead n) && free old y) (sym same) ∙ ap (λ b. not b && free old y) by.hits.live ∙ by.hits.is_wanted in
              let clash = sym fires ∙ eb in cc)
          | inr by ↦ sym (ap (is_of start) (k.takes.each y o.low ∙ ap (λ b. cond b (Some start) (owner old y)) by.is)
              ∙ not-yet y o.low (owner old y) refl)
        ]

    by_row : (r : Option ℕ) → row_under h start i ≡ r → wanted_row h (free old) i r ≡ owned_row new start r
    by_row None e = refl
    by_row (Some y) e = ap (λ b. cond b (Some y) None) (by_test y (not (has h.dead i) && free old y) e refl)

-- ---- the next make-up stroke

-- a make-up stroke of the definition, and the rows that it leaves
pub record IsNext (h : Head) (j start row : ℕ) (old new : List (Option ℕ)) (rest : List ℕ) : Type 0 where
  pub rows : free_from h old (row_at h j start) ≡ row ∷ rest
  pub is : make_up_stroke h j row (row ∷ rest) ≡ stroke_at h (free old) start
  pub after : (y : ℕ) → has (row ∷ rest) y ≡ true → row ≤ y
  pub left : left_by (make_up_stroke h j row (row ∷ rest)).shots (row ∷ rest) ≡ free_from h new (row_at h j (start + 1))

pub next-stroke : (h : Head) (j start row : ℕ) (old new : List (Option ℕ)) → MakesUp h j start row old new
    → ((y : ℕ) → y < row_at h j start → y < h.height → is_free (owner old y) ≡ false)
    → IsNext h j start row old new (free_from h old (row + 1))
next-stroke h j start row old new k owned = record { rows = rows; is = is; after = after; left = left }
  where
    o : Over h start j row
    o = over h start j row k.under

    rest : List ℕ
    rest = free_from h old (row + 1)

    more : h.height - row ≡ suc (h.height - (row + 1))
    more = omega (arith, o.low)

    here : free_from h old row ≡ row ∷ free_from h old (row + 1)
    here =
        ap (λ n. filter (free old) (count_from row n)) more
        ∙ ap (λ b. cond b (row ∷ free_from h old (row + 1)) (free_from h old (row + 1))) (ap is_free k.none)

    rows : free_from h old (row_at h j start) ≡ row ∷ free_from h old (row + 1)
    rows = let at : row_at h j start ≡ row = omega (arith, o.place) in ap (free_from h old) at ∙ here

    agree : (y : ℕ) → y < h.height → has (row ∷ free_from h old (row + 1)) y ≡ free old y
    agree y low =
        ap (λ ys. has ys y) (sym here) ∙ has-filter (free old) (count_from row (h.height - row)) y
        ∙ elim (cases_lt y row) [
          | inl less ↦ let taken : is_free (owner old y) ≡ false = owned y (omega (arith, less, o.place)) low in
              and_right (has (count_from row (h.height - row)) y) (free old y) taken ∙ sym taken
          | inr from ↦ ap (λ b. b && free old y) (has-inside row (h.height - row) y from (omega (arith, from, low)))
        ]

    is : make_up_stroke h j row (row ∷ free_from h old (row + 1)) ≡ stroke_at h (free old) start
    is = stroke-same h (has (row ∷ free_from h old (row + 1))) (free old) (row + head_span h - j * h.pitch) start (omega (arith, o.place)) agree

    after : (y : ℕ) → has (row ∷ free_from h old (row + 1)) y ≡ true → row ≤ y
    after y e = (free-row h old row y (ap (λ ys. has ys y) here ∙ e)).after

    fired : (y : ℕ) → is_fired (make_up_stroke h j row (row ∷ free_from h old (row + 1))).shots y ≡ is_fired (stroke_at h (free old) start).shots y
    fired y = ap (λ (s : HeadStroke). is_fired s.shots y) is

    left : left_by (make_up_stroke h j row (row ∷ free_from h old (row + 1))).shots (row ∷ free_from h old (row + 1))
        ≡ free_from h new (row_at h j (start + 1))
    left =
        let made : HeadStroke = make_up_stroke h j row (row ∷ free_from h old (row + 1)) in
        let gone : is_fired made.shots row ≡ true = makes h j row (row ∷ free_from h old (row + 1)) k.maker (has-first row (free_from h old (row + 1))) o.low in
        let next : row + 1 ≡ row_at h j (start + 1) = omega (arith, o.place) in
        ap (λ b. cond (not b) (row ∷ left_by made.shots (free_from h old (row + 1))) (left_by made.shots (free_from h old (row + 1)))) gone
        ∙ filter-two (free old) (λ y. not (is_fired made.shots y)) (free new) (row + 1) (h.height - (row + 1))
        (λ y from below. free-after h j start row old new k y (omega (arith, below, o.low)) ∙ ap (λ b. free old y && not b) (sym (fired y)))
        ∙ ap (free_from h new) next

-- ---- the step

pub scan-made : (h : Head) (j start row : ℕ) (old new : List (Option ℕ)) (starts : List ℕ) → MakesUp h j start row old new
    → Scan h j start old starts → Scan h j (start + 1) new (starts ++ start ∷ [])
scan-made h j start row old new starts k s = record {
  done = s.done ++ first ∷ [];
  next = s.next;
  left = s.left;
  most = s.most - 1;
  rows = k.takes.rows ∙ s.rows;
  passes = s.passes;
  above = omega (arith, s.above, no-pass h j start row old new k s.next);
  near = omega (arith, s.near);
  all = s.all
      ∙ ap (λ ys. s.done ++ inserted (made_up h j s.most ys) (passes_from h s.next s.left)) n.rows
      ∙ ap (λ m. s.done ++ inserted (made_up h j m (row ∷ rest)) (passes_from h s.next s.left)) more
      ∙ ap (λ ss. s.done ++ ss) (insert-first made others below)
      ∙ ap (λ t. s.done ++ t ∷ others) n.is
      ∙ sym (append_assoc s.done (first ∷ []) others)
      ∙ ap (λ ys. (s.done ++ first ∷ []) ++ inserted (made_up h j (s.most - 1) ys) (passes_from h s.next s.left)) n.left;
  enough = omega (
    arith,
    ap length n.left,
    fewer h j row rest (s.most - 1) k.maker o.low (omega (arith, s.enough, ap length n.rows, more)),
  );
  starts_are = map-more s.done first start starts s.starts_are refl;
  own = all-append (Owns h new) s.done (first ∷ [])
      (all-both (Owns h old) (λ (d : HeadStroke). d.start < start) (Owns h new) s.done (owns-kept h j start row old new k) s.own s.higher)
      (made-owns h j start row old new k s.before, tt);
  higher = all-append (λ (d : HeadStroke). d.start < start + 1) s.done (first ∷ [])
      (all-map (λ (d : HeadStroke). d.start < start) (λ (d : HeadStroke). d.start < start + 1) s.done (λ d less. omega (arith, less)) s.higher)
      (omega arith, tt);
  owned = owned;
  of_passes = λ t i y few e. of-kept h j start row old new k y (t * h.nozzles) (over h (t * h.nozzles) i y e).low (no-pass h j start row old new k t)
      ∙ s.of_passes t i y few e;
  before = before;
}
  where
    o : Over h start j row
    o = over h start j row k.under

    rest : List ℕ
    rest = free_from h old (row + 1)

    n : IsNext h j start row old new (free_from h old (row + 1))
    n = next-stroke h j start row old new k s.owned

    made : HeadStroke
    made = make_up_stroke h j row (row ∷ free_from h old (row + 1))

    first : HeadStroke
    first = stroke_at h (free old) start

    more : s.most ≡ suc (s.most - 1)
    more = omega (arith, s.enough, ap length n.rows)

    others : List HeadStroke
    others = inserted (made_up h j (s.most - 1) (left_by made.shots (row ∷ free_from h old (row + 1)))) (passes_from h s.next s.left)

    below : AllByRecursion (λ (t : HeadStroke). made.start ≤ t.start) others
    below =
        let later : List ℕ = left_by made.shots (row ∷ free_from h old (row + 1)) in
        all-inserted (λ (t : HeadStroke). made.start ≤ t.start) (made_up h j (s.most - 1) later) (passes_from h s.next s.left)
        (all-map (StartsAt h j later) (λ (t : HeadStroke). made.start ≤ t.start) (made_up h j (s.most - 1) later)
        (λ t at. let parts = both-true (has (row ∷ free_from h old (row + 1)) at.row) (not (is_fired made.shots at.row))
        (sym (has-left made.shots (row ∷ free_from h old (row + 1)) at.row) ∙ at.is) in
        omega (arith, n.after at.row parts.0, at.start, reach h j k.maker)) (made-starts h j (s.most - 1) later))
        (all-mapped (λ (t : HeadStroke). made.start ≤ t.start) (λ t. stroke_at h (λ row. true) (t * h.nozzles)) s.next s.left
        (λ t from less. let lower : s.next * h.nozzles ≤ t * h.nozzles = mul-le-mul_right h.nozzles from in
        omega (arith, lower, s.above, o.place)))

    owned : (y : ℕ) → y < row_at h j (start + 1) → y < h.height → is_free (owner new y) ≡ false
    owned y less low =
        elim (cases_lt y row) [
          | inl before ↦ free-after h j start row old new k y low
              ∙ ap (λ b. b && not (is_fired first.shots y)) (s.owned y (omega (arith, before, o.place)) low)
          | inr here ↦ let same : y ≡ row = omega (arith, here, less, o.place) in
              let gone : is_fired made.shots row ≡ true = makes h j row (row ∷ rest) k.maker (has-first row rest) o.low in
              let fired : is_fired first.shots y ≡ true = ap (λ (t : HeadStroke). is_fired t.shots y) (sym n.is) ∙ ap (is_fired made.shots) same ∙ gone in
              free-after h j start row old new k y low ∙ and_right (free old y) (not (is_fired first.shots y)) (ap not fired)
        ]

    before : (y m : ℕ) → y < h.height → owner new y ≡ Some m → (m < start + 1) ⊎ IsPass h m
    before y m low e =
        elim (fired-cases h (free old) start y k.maker.near) [
          | inl by ↦ let its : Some start ≡ Some m = sym (k.takes.each y low ∙ ap (λ b. cond b (Some start) (owner old y)) by.is) ∙ e in
              let same : start ≡ m = cc in inl (omega (arith, same))
          | inr by ↦ elim (s.before y m low (sym (k.takes.each y low ∙ ap (λ b. cond b (Some start) (owner old y)) by.is) ∙ e)) [
            | inl less ↦ inl (omega (arith, less))
            | inr is ↦ inr is
          ]
        ]
