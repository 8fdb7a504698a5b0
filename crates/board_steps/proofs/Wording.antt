-- The rule implies its clauses in plain words.
use Rattle.std.proofs.Common.{◌≡◌, ◌≢◌, ℕ, zero, suc, ◌+◌, ◌*◌, ◌/◌, ◌%◌, ◌<◌, ◌≤◌, ◌⊎◌, inl, inr, ⊎_elim, List, [], ◌∷◌, length}
use Rattle.std.proofs.Common.{refl, sym, ap, ◌∙◌, subst, arith, Option, Some, None}
use mathlib.Core.Option.{some, some-injective, some-ne-none}
use mathlib.Core.Logic.{dite}
use native.Mathlib.Decide.{ℕ_discrete}
use lib.ListN.{get_elem?}
use Rattle.std.specs.Prelude.{slice_index}
use Rattle.atomic_table.specs.Table.{State}
use Rattle.board_steps.specs.declared.rule.View.{View}
use Rattle.board_steps.specs.declared.rule.Slab.{Slab}
use Rattle.board_steps.specs.declared.rule.Cell.{Cell}
use Rattle.board_steps.specs.Graph.{IsGraph}
use Rattle.board_steps.specs.Clauses.{Lists, HasSent, WordClauses, OwnClauses, EdgeClauses, ViewClauses, Clauses}
use Rattle.board_steps.specs.Rule.{Setting, setting_of, arrived, has, is_held, is_sent, lists, posts, sends, spent, total, EdgeIs, ViewOk}
use Rattle.board_steps.specs.Rule.{Ruled}
use Rattle.board_steps.specs.Steps.{bit_of}
use Rattle.board_steps.proofs.Bits.{bit_a, bit_b, bit_c, bit_t, bit_p, small}
use Rattle.board_steps.proofs.Totals.{total_at, all_sends_lists, all_posts_sends}
use Rattle.board_steps.proofs.Views.{one_same, one_other, plain_posts, held_lists}
use Rattle.board_steps.proofs.Moves.{A, bits}
use Rattle.board_steps.proofs.Learning.{found}
use Rattle.board_steps.proofs.Places.{window_graph}
use Rattle.tile_lanes.specs.Done.{window_of}

-- ---- one view of a sum

abbrev pub One : (View → ℕ) → List View → Type 0
One f vs = (k : ℕ) × (v : View) × (get_elem? vs k ≡ some v) × (1 ≤ f v)

pub total_some : (f : View → ℕ) (vs : List View) → 1 ≤ total f vs → One f vs
unfolding total
total_some f [] h = absurd (omega arith)
total_some f (x ∷ xs) h = dite (ℕ_discrete (f x) 0)
    (λ (e : f x ≡ 0). let o = total_some f xs (omega arith) in (suc o.0, o.1, o.2, o.3))
    (λ n. (0, x, refl, omega arith))

pub total_two : (f : View → ℕ) (vs : List View) (k l : ℕ) (v u : View) → get_elem? vs k ≡ some v → get_elem? vs l ≡ some u → k ≢ l
    → f v + f u ≤ total f vs
unfolding total
total_two f [] k l v u a b ne = absurd (some-ne-none v (sym a))
total_two f (x ∷ xs) zero zero v u a b ne = absurd (ne refl)
total_two f (x ∷ xs) zero (suc l) v u a b ne = let e : f x ≡ f v = ap f (some-injective x v a) in let m = total_at f xs l u b in omega arith
total_two f (x ∷ xs) (suc k) zero v u a b ne = let e : f x ≡ f u = ap f (some-injective x u b) in let m = total_at f xs k v a in omega arith
total_two f (x ∷ xs) (suc k) (suc l) v u a b ne = let r = total_two f xs k l v u a b (λ e. ne (ap suc e)) in omega arith

total_one : (f : View → ℕ) (vs : List View) (k l : ℕ) (v u : View) → get_elem? vs k ≡ some v → get_elem? vs l ≡ some u → 1 ≤ f v → 1 ≤ f u
    → total f vs ≤ 1 → k ≡ l
total_one f vs k l v u a b h i few = dite (ℕ_discrete k l) (λ (e : k ≡ l). e)
    (λ ne. let t = total_two f vs k l v u a b ne in absurd (omega arith))

-- ---- counts of one view, in words

held_one : (t : ℕ) (o : Option ℕ) → o ≡ Some t → is_held t o ≡ 1
held_one t o e = ap (is_held t) e ∙ one_same t

one_held : (t : ℕ) (o : Option ℕ) → 1 ≤ is_held t o → o ≡ Some t
one_held t None h = absurd (omega arith)
one_held t (Some q) h = dite (ℕ_discrete q t) (λ (e : q ≡ t). ap Some e) (λ ne. let z = one_other q t
    (λ e. ne (sym e)) in absurd (omega arith))

lists_of : (v : View) (t : ℕ) → Lists v t → 1 ≤ lists t v
unfolding lists
lists_of v t (inl e) = let h = held_one t v.held e in omega arith
lists_of v t (inr h) = omega arith

pub of_lists : (v : View) (t : ℕ) → 1 ≤ lists t v → Lists v t
unfolding lists
of_lists v t h = dite (ℕ_discrete (is_held t v.held) 0) (λ (z : is_held t v.held ≡ 0). inr (omega arith))
    (λ n. inl (one_held t v.held (omega arith)))

sends_of : (v : View) (t d : ℕ) → HasSent v t d → 1 ≤ sends t d v
unfolding sends
sends_of v t d (inl e) = let h : is_sent t v.held (has d v.sent) ≡ 1 = ap (is_sent t v.held) e.1 ∙ held_one t v.held e.0 in omega arith
sends_of v t d (inr h) = omega arith

of_sends : (v : View) (t d : ℕ) → 1 ≤ sends t d v → HasSent v t d
unfolding sends
of_sends v t d h = grind (arith, one_held)

-- ---- the clauses

module _ (B : Setting) (W : IsGraph B.graph) (s : State Cell View) (r : Ruled B s) where
  -- the arrival bit of a word counts the sends of its edge
  pub bit_at : (t d : ℕ) → t < B.graph.tiles → d < 3 → slice_index s.words t / bit_of d % 2 ≡ A B W s r t d
  bit_at t zero near h = let e = bit_a _ _ _ _ _ (slice_index s.words t) (bits B W s r t near) in omega arith
  bit_at t (suc zero) near h = bit_b _ _ _ _ _ (slice_index s.words t) (bits B W s r t near)
  bit_at t (suc (suc zero)) near h = bit_c _ _ _ _ _ (slice_index s.words t) (bits B W s r t near)
  bit_at t (suc (suc (suc d))) near h = absurd (omega arith)

  pub edge_bit : (t d q : ℕ) → t < B.graph.tiles → B.graph.from t d ≡ Some q
      → slice_index s.words t / bit_of d % 2 ≡ total (sends q d) s.views
  edge_bit t d q near e = bit_at t d near (W.back t d q near e).1 ∙ ap (arrived (λ p. total (sends p d) s.views)) e

  few_sent : (q d : ℕ) → q < B.graph.tiles → total (sends q d) s.views ≤ 1
  few_sent q d near = let o = (r.tiles q near).once in let a = all_sends_lists q d s.views in omega arith

  word_clauses : (t : ℕ) → t < B.graph.tiles → WordClauses B s t
  word_clauses t near =
      let x : ℕ = slice_index s.words t in let b = bits B W s r t near in let c = r.tiles t near in
      let bt = bit_t _ _ _ _ _ x b in let bp = bit_p _ _ _ _ _ x b in let once = c.once in
      let ps = all_posts_sends t 0 s.views in let sl = all_sends_lists t 0 s.views in
      record {
        few = small _ _ _ _ _ x b;
        arrivals = λ d h none. bit_at t d near h ∙ ap (arrived (λ q. total (sends q d) s.views)) none;
        taken = λ one. let o = total_some (lists t) s.views (omega arith) in (o.0, o.1, o.2, of_lists o.1 t o.3);
        listed = λ o. let h = lists_of o.1 t o.3 in let a = total_at (lists t) s.views o.0 o.1 o.2 in omega arith;
        posted = λ one. let o = total_some (posts t) s.views (omega arith) in
            let a = total_at (posts t) s.views o.0 o.1 o.2 in let p = plain_posts t o.1 in let h = o.3 in (o.0, o.1, o.2, omega arith);
        mine = λ o. let a = total_at (posts t) s.views o.0 o.1 o.2 in let p = plain_posts t o.1 in let h = o.3 in omega arith;
        one = λ k l v u a e h i. total_one (lists t) s.views k l v u a e (lists_of v t h) (lists_of u t i) once;
        once = λ k v a. let h = total_at (posts t) s.views k v a in let p = plain_posts t v in omega arith;
        apart = λ k v a e. let h = total_at (lists t) s.views k v a in let i = held_lists v t e t in let j = one_same t in omega arith;
        arrived = λ d q e one. let i = edge_bit t d q near e in
            let o = total_some (sends q d) s.views (omega arith) in (o.0, o.1, o.2, of_sends o.1 q d o.3);
        sent = λ d q e o. let i = edge_bit t d q near e in let h = sends_of o.1 q d o.3 in
            let a = total_at (sends q d) s.views o.0 o.1 o.2 in
            let f = few_sent q d (W.back t d q near e).0 in omega arith;
        needs = λ d q one e. let i = edge_bit t d q near e in let n = c.needs d q e in
            let f = few_sent q d (W.back t d q near e).0 in omega arith;
      }

  abbrev Edge : ℕ → ℕ → Option ℕ → Type 0
  Edge t d o =
      EdgeIs (λ p. total (lists p) s.views) (λ p. total (posts p) s.views) (total (sends t d) s.views) (B.fresh t d) (B.content t d)
      (get_elem? s.homes (4 * t + d)) t o

  own_clauses : (t d : ℕ) → t < B.graph.tiles → d < 4 → B.graph.next t d ≡ None → OwnClauses B s t d
  own_clauses t d near h none =
      let x : ℕ = slice_index s.words t in let b = bits B W s r t near in
      let bt = bit_t _ _ _ _ _ x b in let bp = bit_p _ _ _ _ _ x b in
      let e : Edge t d None = subst (Edge t d) none ((r.tiles t near).edges d h) in
      record { blank = λ i. e.fresh (sym bt ∙ i); out = λ i j. e.out (sym bt ∙ i) (sym bp ∙ j); gives = λ i. e.done (sym bp ∙ i) }

  edge_clauses : (t d p : ℕ) → t < B.graph.tiles → B.graph.next t d ≡ Some p → EdgeClauses B s t d p
  edge_clauses t d p near goes =
      let th = W.there t d p near goes in let x : ℕ = slice_index s.words t in let y : ℕ = slice_index s.words p in
      let b = bits B W s r t near in let c = bits B W s r p th.0 in
      let bt = bit_t _ _ _ _ _ x b in let ct = bit_t _ _ _ _ _ y c in let cp = bit_p _ _ _ _ _ y c in let cs = edge_bit p d t th.0 th.3 in
      let e : Edge t d (Some p) = subst (Edge t d) goes ((r.tiles t near).edges d (let h = th.2 in omega arith)) in
      record {
        blank = λ i. e.fresh (sym bt ∙ i);
        out = λ i j. e.out (sym bt ∙ i) (sym cs ∙ j);
        gives = λ i j. e.sent (sym cs ∙ i) (sym ct ∙ j);
        read = λ i j. e.read (sym ct ∙ i) (sym cp ∙ j);
        left = λ i. e.done (sym cp ∙ i);
      }

  view_clauses : (k : ℕ) (v : View) → get_elem? s.views k ≡ some v → (v ≡ spent) ⊎ ViewClauses B s k v
  view_clauses k v at = ⊎_elim (λ (e : v ≡ spent). inl e)
      (λ (o : ViewOk B.slab s.words (length s.views) k v). inr record {
        knows = λ t near. (found B W s r k v at o.some_part t near).knew;
        number = o.number;
        made = o.made;
        numbers = o.numbers;
        some_part = o.some_part;
        alone = λ all l u there ne. ⊎_elim (λ (e : u ≡ spent). e)
            (λ (z : ViewOk B.slab s.words (length s.views) l u).
            let two = total_two (λ y. y.parts) s.views k l v u at there (λ e. ne (sym e)) in let p = z.some_part in
            let q = r.parts in absurd (omega arith))
            (r.views l u there);
        board = o.board;
      })
      (r.views k v at)

  pub clauses : Clauses B s
  clauses = record {
    words = word_clauses;
    own = own_clauses;
    edges = edge_clauses;
    views = view_clauses;
    parts = r.parts;
  }

pub plain_words : (b : Slab) (s : State Cell View) → Ruled (setting_of b) s → Clauses (setting_of b) s
plain_words b s r = clauses (setting_of b) (window_graph (window_of b.rows.value)) s r
