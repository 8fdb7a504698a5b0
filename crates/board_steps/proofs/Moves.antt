-- What the proofs of all steps share: what stays of the rule where one view, one word and some slots change.
use Rattle.std.proofs.Common.{◌≡◌, ◌≢◌, ℕ, zero, suc, ◌+◌, ◌*◌, ◌<◌, ◌≤◌, ⊎_elim, List, [], ◌∷◌, length, get_or, set, refl, sym}
use Rattle.std.proofs.Common.{ap, ◌∙◌, subst, arith, length-set, get_or-set_same, get_or-set_other, Option, Some, None}
use mathlib.Core.Option.{some, some-ne-none}
use mathlib.Core.Option as maybe
use mathlib.Core.Logic.{dite}
use native.Mathlib.Decide.{ℕ_discrete}
use lib.ListN.{get_elem?}
use Rattle.std.specs.Prelude.{slice_index}
use Rattle.atomic_table.specs.Table.{State}
use Rattle.atomic_table.proofs.Lists.{at_set, set_again}
use Rattle.board_steps.specs.declared.rule.View.{View}
use Rattle.board_steps.specs.declared.rule.Slab.{Slab}
use Rattle.board_steps.specs.declared.rule.Cell.{Cell}
use Rattle.board_steps.specs.Graph.{IsGraph}
use Rattle.board_steps.specs.Rule.{Setting, arrived, spent, posts, sends, lists, total, Within, Sees, Outer, Inner, EdgeIs, Home, TileOk}
use Rattle.board_steps.specs.Rule.{ViewOk, Ruled}
use Rattle.board_steps.proofs.Bits.{Bits}
use Rattle.board_steps.proofs.Totals.{total_same, all_sends_lists, all_posts_sends}

abbrev pub Row : Type 0
Row = List (maybe.Option Cell)

pub at_below : {X : Type 0} (l : List X) (i : ℕ) (x : X) → get_elem? l i ≡ some x → i < length l
at_below [] i x e = absurd (some-ne-none x (sym e))
at_below (y ∷ ys) zero x e = omega arith
at_below (y ∷ ys) (suc i) x e = let r = at_below ys i x e in omega arith

at_word : (ws : List ℕ) (i : ℕ) → i < length ws → get_elem? ws i ≡ some (get_or ws i 0)
at_word [] i h = absurd (omega arith)
at_word (x ∷ xs) zero h = refl
at_word (x ∷ xs) (suc i) h = at_word xs i (omega arith)

pub same_words : (ws : List ℕ) (i : ℕ) → i < length ws → set ws i (get_or ws i 0) ≡ ws
same_words ws i near = set_again ws i (get_or ws i 0) (at_word ws i near)

module _ (B : Setting) where
  -- a seat that has a part is not spent
  pub mine : (s : State Cell View) (r : Ruled B s) (id : ℕ) (v : View) → get_elem? s.views id ≡ some v → 1 ≤ v.parts
      → ViewOk B.slab s.words (length s.views) id v
  mine s r id v at part = ⊎_elim
      (λ (e : v ≡ spent). let z : v.parts ≡ 0 = ap (λ (x : View). x.parts) e in absurd (omega arith))
      (λ (ok : ViewOk B.slab s.words (length s.views) id v). ok)
      (r.views id v at)

module _ (B : Setting) (W : IsGraph B.graph) (s : State Cell View) (r : Ruled B s) where
  -- a word's arrivals are bits
  few_arrived : (t d : ℕ) → t < B.graph.tiles → (o : Option ℕ) → B.graph.from t d ≡ o → arrived (λ q. total (sends q d) s.views) o ≤ 1
  few_arrived t d near None e = omega arith
  few_arrived t d near (Some q) e =
      let b = W.back t d q near e in
      let one = (r.tiles q b.0).once in
      let a = all_sends_lists q d s.views in
      omega arith

  -- how often the edge that comes to a tile in a direction was sent
  abbrev pub A : ℕ → ℕ → ℕ
  A t d = arrived (λ q. total (sends q d) s.views) (B.graph.from t d)

  pub bits : (t : ℕ) → t < B.graph.tiles
      → Bits (A t 0) (A t 1) (A t 2) (total (lists t) s.views) (total (posts t) s.views) (slice_index s.words t)
  bits t near =
      let c = r.tiles t near in
      let one = c.once in
      let a = all_sends_lists t 0 s.views in
      let b = all_posts_sends t 0 s.views in
      record {
        is = c.word;
        few_a = few_arrived t 0 near (B.graph.from t 0) refl;
        few_b = few_arrived t 1 near (B.graph.from t 1) refl;
        few_c = few_arrived t 2 near (B.graph.from t 2) refl;
        few_t = one;
        few_p = omega arith;
      }

-- a slot whose counts and value are unchanged
pub outer_same : (f x : Cell) (h h' : Home) (l l' p p' : ℕ) → h' ≡ h → l' ≡ l → p' ≡ p → Outer f x h l p → Outer f x h' l' p'
outer_same f x h h' l l' p p' e a b c = grind arith

pub inner_same : (f x : Cell) (h h' : Home) (l l' s s' m m' q q' : ℕ) → h' ≡ h → l' ≡ l → s' ≡ s → m' ≡ m → q' ≡ q
    → Inner f x h l s m q → Inner f x h' l' s' m' q'
inner_same f x h h' l l' s s' m m' q q' e a b g i c = grind arith

pub Within-trans : (a b c : ℕ) → Within a b → Within b c → Within a c
Within-trans a b c h k = omega arith

pub Within-refl : (a : ℕ) → Within a a
Within-refl a = record { right = omega arith; bottom = omega arith; corner = omega arith; taken = omega arith; posted = omega arith }

-- ---- views while words grow

abbrev pub Grows : List ℕ → List ℕ → Type 0
Grows ws ws' = (q : ℕ) → Within (slice_index ws q) (slice_index ws' q)

sees_more : (ws ws' : List ℕ) → Grows ws ws' → (o : Option (ℕ × ℕ)) → Sees (slice_index ws) o → Sees (slice_index ws') o
sees_more ws ws' grows None h = tt
sees_more ws ws' grows (Some x) h = Within-trans x.1 (slice_index ws x.0) (slice_index ws' x.0) h (grows x.0)

pub view_more : (b : Slab) (ws ws' : List ℕ) (count k : ℕ) (v : View) → Grows ws ws' → ViewOk b ws count k v → ViewOk b ws' count k v
view_more b ws ws' count k v grows o = grind (arith, sees_more)

-- one word gains a bit, and the others are unchanged
pub grown : (ws : List ℕ) (i x : ℕ) → i < length ws → Within (slice_index ws i) x → Grows ws (set ws i x)
grown ws i x near more q = dite (ℕ_discrete q i)
    (λ (e : q ≡ i). subst (λ (z : ℕ). Within (slice_index ws z) (slice_index (set ws i x) z)) (sym e)
    (subst (λ (y : ℕ). Within (slice_index ws i) y) (sym (get_or-set_same ws i x 0 near)) more))
    (λ (ne : q ≢ i). subst (λ (y : ℕ). Within (slice_index ws q) y) (sym (get_or-set_other ws i q x 0 ne)) (Within-refl (slice_index ws q)))

-- ---- the rule after a step

abbrev pub TilesOk : Setting → List ℕ → Row → List View → Type 0
TilesOk B ws hs vs = (t : ℕ) → t < B.graph.tiles
    → TileOk B ws hs (λ q. total (lists q) vs) (λ q. total (posts q) vs) (λ q d. total (sends q d) vs) t

-- the rule after a step of the seat id, whose view becomes w
pub rebuilt : (B : Setting) (s : State Cell View) (r : Ruled B s) (id : ℕ) (v w : View) (ws : List ℕ) (hs : Row)
    → get_elem? s.views id ≡ some v → length ws ≡ length s.words → length hs ≡ length s.homes → w.parts ≡ v.parts → Grows s.words ws
    → ViewOk B.slab ws (length s.views) id w → ((p : ℕ) → B.graph.tiles ≤ p → lists p w ≡ lists p v) → TilesOk B ws hs (set s.views id w)
    → Ruled B record { words = ws; homes = hs; views = set s.views id w }
rebuilt B s r id v w ws hs at wide roomy parts grows ok outside tiles = grind (arith, at_set, length-set, total_same, view_more)

-- a tile whose word, counts and slots are unchanged
module _ (B : Setting) (ws ws' : List ℕ) (hs hs' : Row) (L L' P P' : ℕ → ℕ) (S S' : ℕ → ℕ → ℕ) where
  pub arrived_same : (d : ℕ) → ((q : ℕ) → S' q d ≡ S q d) → (o : Option ℕ) → arrived (λ q. S' q d) o ≡ arrived (λ q. S q d) o
  arrived_same d e None = refl
  arrived_same d e (Some q) = e q

  pub edge_same : (t d : ℕ) → L' t ≡ L t → P' t ≡ P t → S' t d ≡ S t d → get_elem? hs' (4 * t + d) ≡ get_elem? hs (4 * t + d)
      → (o : Option ℕ) → ((p : ℕ) → o ≡ Some p → (L' p ≡ L p) × (P' p ≡ P p))
      → EdgeIs L P (S t d) (B.fresh t d) (B.content t d) (get_elem? hs (4 * t + d)) t o
      → EdgeIs L' P' (S' t d) (B.fresh t d) (B.content t d) (get_elem? hs' (4 * t + d)) t o
  edge_same t d a b c h None f k = outer_same (B.fresh t d) (B.content t d) _ _ (L t) (L' t) (P t) (P' t) h a b k
  edge_same t d a b c h (Some p) f k = let g = f p refl in
      inner_same (B.fresh t d) (B.content t d) _ _ (L t) (L' t) (S t d) (S' t d) (L p) (L' p) (P p) (P' p) h a c g.0 g.1 k

-- each tile, where all counts are unchanged
pub same_counts : (B : Setting) (s : State Cell View) (r : Ruled B s) (vs : List View)
    → ((q : ℕ) → total (lists q) vs ≡ total (lists q) s.views) → ((q d : ℕ) → total (sends q d) vs ≡ total (sends q d) s.views)
    → ((q : ℕ) → total (posts q) vs ≡ total (posts q) s.views) → TilesOk B s.words s.homes vs
same_counts B s r vs l z m t h = grind arith
