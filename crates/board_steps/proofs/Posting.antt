-- The fetch-or of 16 keeps the rule.
use Rattle.std.proofs.Common.{◌≡◌, ◌≢◌, ℕ, zero, suc, ◌+◌, ◌*◌, ◌<◌, ◌≤◌, inl, inr, lit<, lit≤, le_refl, zero-le, List, [], ◌++◌, length}
use Rattle.std.proofs.Common.{set, refl, sym, ap, ◌∙◌, subst, arith, bit_or, length-set, get_or-set_same, get_or-set_other, Option, Some}
use Rattle.std.proofs.Common.{None, ◌==◌, ◌∷◌, eq-eqb, filter}
use mathlib.Core.Option.{some}
use mathlib.Core.Logic.{dite}
use native.Mathlib.Decide.{ℕ_discrete}
use lib.ListN.{get_elem?}
use Rattle.std.specs.Prelude.{slice_index}
use Rattle.atomic_table.specs.Table.{State, Me, Allows}
use Rattle.board_steps.specs.declared.rule.View.{View}
use Rattle.board_steps.specs.declared.rule.Cell.{Cell}
use Rattle.board_steps.specs.Graph.{IsGraph}
use Rattle.board_steps.specs.Rule.{Setting, arrived, posts, times, sends, lists, total, EdgeIs, TileOk, Ruled}
use Rattle.board_steps.specs.Steps.{posted_view, incoming, own_slot, to_post_in, AllSent, HasPostedOnce, MayPost, Posted}
use Rattle.board_steps.proofs.Bits.{Bits, or_posted, Within-bits}
use Rattle.board_steps.proofs.Totals.{total_at, total_same, total_more, total_gap, sends_lists, posts_sends, all_sends_lists}
use Rattle.board_steps.proofs.Views.{one_same, held_lists, plain_posts, post_lists, post_sends_else, post_sends_sent, post_posts_here}
use Rattle.board_steps.proofs.Views.{post_posts_else}
use Rattle.board_steps.proofs.Slots.{Apart, Distinct, Has, Has-right, give_all, put_all, given_valid, given_none, given_homes, put_long}
use Rattle.board_steps.proofs.Slots.{put_else, put_here}
use Rattle.board_steps.proofs.Moves.{Row, at_below, mine, A, bits, rebuilt, view_more, grown, outer_same, inner_same}
use Rattle.board_steps.proofs.Taking.{none_some, some_same, Apart-incoming, Distinct-incoming, elsewhere, other_direction, not_itself}

-- the slots once tile t is posted
pub record Filled (B : Setting) (t : ℕ) (hs hs' : Row) : Type 0 where
  own : (d : ℕ) → d < 4 → B.graph.next t d ≡ None → get_elem? hs' (4 * t + d) ≡ some (some (B.content t d))
  inner : (d p : ℕ) → d < 4 → B.graph.next t d ≡ Some p → get_elem? hs' (4 * t + d) ≡ get_elem? hs (4 * t + d)
  ins : (q d : ℕ) → q < B.graph.tiles → B.graph.next q d ≡ Some t → (h : Cell) × (get_elem? hs' (4 * q + d) ≡ some (some h))
  others : (q d : ℕ) → d < 4 → q ≢ t → ¬ (B.graph.next q d ≡ Some t) → get_elem? hs' (4 * q + d) ≡ get_elem? hs (4 * q + d)
  long : length hs' ≡ length hs

-- how often tiles are listed, posted and sent once tile t is posted
pub record Counted (B : Setting) (L L' P P' : ℕ → ℕ) (S S' : ℕ → ℕ → ℕ) (t : ℕ) : Type 0 where
  listed : (q : ℕ) → L' q ≡ L q
  here : P' t ≡ P t + 1
  else : (q : ℕ) → q ≢ t → P' q ≡ P q
  sent : (q d p : ℕ) → B.graph.next q d ≡ Some p → S' q d ≡ S q d
  sent_listed : (q d : ℕ) → S q d ≤ L q

module _ (B : Setting) (W : IsGraph B.graph) (ws ws' : List ℕ) (hs hs' : Row) (L L' P P' : ℕ → ℕ) (S S' : ℕ → ℕ → ℕ)
    (t : ℕ) (near : t < B.graph.tiles) (ct : Counted B L L' P P' S S' t) (fl : Filled B t hs hs') (one : L t ≡ 1) (open_yet : P t ≡ 0)
    (all : (q : ℕ) → q < B.graph.tiles → TileOk B ws hs L P S q) where
  abbrev Was : ℕ → ℕ → Option ℕ → Type 0
  Was q d o = EdgeIs L P (S q d) (B.fresh q d) (B.content q d) (get_elem? hs (4 * q + d)) q o

  abbrev Is : ℕ → ℕ → Option ℕ → Type 0
  Is q d o = EdgeIs L' P' (S' q d) (B.fresh q d) (B.content q d) (get_elem? hs' (4 * q + d)) q o

  own_edge : (d : ℕ) → d < 4 → (o : Option ℕ) → B.graph.next t d ≡ o → Was t d o → Is t d o
  own_edge d small None e k = let l = ct.listed t in let h = ct.here in
      record { fresh = λ z. absurd (omega arith); out = λ z y. absurd (omega arith); done = λ z. fl.own d small e }
  own_edge d small (Some p) e k = let th = W.there t d p near e in
      inner_same (B.fresh t d) (B.content t d) _ _ (L t) (L' t) (S t d) (S' t d) (L p) (L' p) (P p) (P' p)
      (fl.inner d p small e) (ct.listed t) (ct.sent t d p e) (ct.listed p) (ct.else p th.1) k

  -- the edge of another tile that came to t
  in_edge : (q d : ℕ) → q < B.graph.tiles → q ≢ t → B.graph.next q d ≡ Some t → Is q d (Some t)
  in_edge q d below ne e =
      let th = W.there q d t below e in let need = (all t near).needs d q th.3 in
      let a = ct.sent_listed q d in let l = ct.listed q in let lt = ct.listed t in let h = ct.here in let s = ct.sent q d t e in
      record {
        fresh = λ z. absurd (omega arith);
        out = λ z y. absurd (omega arith);
        sent = λ z y. absurd (omega arith);
        read = λ z y. absurd (omega arith);
        done = λ z. fl.ins q d below e;
      }

  other_edge : (q d : ℕ) → d < 4 → q < B.graph.tiles → q ≢ t → (o : Option ℕ) → B.graph.next q d ≡ o → Was q d o → Is q d o
  other_edge q d small below ne None e k = outer_same (B.fresh q d) (B.content q d) _ _ (L q) (L' q) (P q) (P' q)
      (fl.others q d small ne (λ g. none_some (sym e ∙ g))) (ct.listed q) (ct.else q ne) k
  other_edge q d small below ne (Some p) e k = dite (ℕ_discrete p t)
      (λ (f : p ≡ t). subst (λ (z : ℕ). Is q d (Some z)) (sym f) (in_edge q d below ne (e ∙ ap Some f)))
      (λ (f : p ≢ t). inner_same (B.fresh q d) (B.content q d) _ _ (L q) (L' q) (S q d) (S' q d) (L p) (L' p) (P p) (P' p)
      (fl.others q d small ne (λ g. f (some_same (sym e ∙ g)))) (ct.listed q) (ct.sent q d p e) (ct.listed p) (ct.else p f) k)

  arrivals : (q d : ℕ) → q < B.graph.tiles → (o : Option ℕ) → B.graph.from q d ≡ o → arrived (λ x. S' x d) o ≡ arrived (λ x. S x d) o
  arrivals q d below None e = refl
  arrivals q d below (Some x) e = ct.sent x d q (W.back q d x below e).2

  pub posted_tile : slice_index ws' t ≡ slice_index ws t + 16 → ((q : ℕ) → q ≢ t → slice_index ws' q ≡ slice_index ws q)
      → (q : ℕ) → q < B.graph.tiles → TileOk B ws' hs' L' P' S' q
  posted_tile word words q below =
      let c = all q below in let a : (d : ℕ) → arrived (λ x. S' x d) (B.graph.from q d) ≡ arrived (λ x. S x d) (B.graph.from q d) =
      λ d. arrivals q d below (B.graph.from q d) refl in
      let a₀ = a 0 in let a₁ = a 1 in let a₂ = a 2 in let l = ct.listed q in
      let needs : (d x : ℕ) → B.graph.from q d ≡ Some x → L' q ≤ S' x d = λ d x e.
      let y = c.needs d x e in let z = ct.sent x d q (W.back q d x below e).2 in omega arith in
      dite (ℕ_discrete q t)
      (λ (e : q ≡ t). let h : P' q ≡ P q + 1 = ap P' e ∙ ct.here ∙ ap (λ (z : ℕ). P z + 1) (sym e) in
      let w : slice_index ws' q ≡ slice_index ws q + 16 = ap (slice_index ws') e ∙ word ∙ ap (λ (z : ℕ). slice_index ws z + 16) (sym e) in
      record {
        word = let y = c.word in omega arith;
        once = let y = c.once in omega arith;
        needs = needs;
        edges = λ d small. subst (λ (z : ℕ). Is z d (B.graph.next z d)) (sym e) (own_edge d small (B.graph.next t d) refl
            ((all t near).edges d small));
      })
      (λ (ne : q ≢ t). let h = ct.else q ne in let w = words q ne in record {
        word = let y = c.word in omega arith;
        once = let y = c.once in omega arith;
        needs = needs;
        edges = λ d small. other_edge q d small below ne (B.graph.next q d) refl (c.edges d small);
      })

posted : (B : Setting) (W : IsGraph B.graph) (s : State Cell View) (r : Ruled B s) (id : ℕ) (v : View) (t : ℕ) (hs : Row)
    → t < B.graph.tiles
    → get_elem? s.views id ≡ some v → 1 ≤ v.parts → v.held ≡ Some t → AllSent B.graph t v → Filled B t s.homes hs
    → Ruled B record { words = set s.words t (bit_or (slice_index s.words t) 16); homes = hs; views = set s.views id (posted_view v t) }
posted B W s r id v t hs near at part held done fl =
    let x : ℕ = slice_index s.words t in let w : View = posted_view v t in let o = mine B s r id v at part in
    let b = bits B W s r t near in let vs : List View = set s.views id w in
    let L : ℕ → ℕ = λ q. total (lists q) s.views in let L' : ℕ → ℕ = λ q. total (lists q) vs in
    let P : ℕ → ℕ = λ q. total (posts q) s.views in let P' : ℕ → ℕ = λ q. total (posts q) vs in
    let S : ℕ → ℕ → ℕ = λ q d. total (sends q d) s.views in let S' : ℕ → ℕ → ℕ = λ q d. total (sends q d) vs in
    let once = (r.tiles t near).once in let at_least = total_at (lists t) s.views id v at in
    let hl = held_lists v t held t in let os = one_same t in let pp = plain_posts t v in
    let gap = total_gap (posts t) (lists t) (λ u. let i = posts_sends t 0 u in let j = sends_lists t 0 u in omega arith) s.views id v at in
    let open_yet : P t ≡ 0 = omega arith in let one : L t ≡ 1 = omega arith in
    let a₀ : ℕ = A B W s r t 0 in let a₁ : ℕ = A B W s r t 1 in let a₂ : ℕ = A B W s r t 2 in
    let b₀ : Bits a₀ a₁ a₂ (L t) 0 x = subst (λ (z : ℕ). Bits a₀ a₁ a₂ (L t) z x) open_yet b in
    let more : bit_or x 16 ≡ x + 16 = or_posted a₀ a₁ a₂ (L t) x b₀ in
    let b₁ : Bits a₀ a₁ a₂ (L t) 1 (x + 16) =
    record { is = let e = b₀.is in omega arith; few_a = b₀.few_a; few_b = b₀.few_b; few_c = b₀.few_c; few_t = b₀.few_t; few_p = lit≤ tt } in
    let wide : t < length s.words = let e = r.wide in omega arith in
    let grows = grown s.words t (x + 16) wide
    (Within-bits a₀ a₁ a₂ (L t) 0 x a₀ a₁ a₂ (L t) 1 (x + 16) b₀ b₁ (le_refl a₀) (le_refl a₁) (le_refl a₂) (le_refl (L t)) zero-le) in
    let ct : Counted B L L' P P' S S' t = record {
      listed = λ q. total_same (lists q) s.views id v w at (post_lists v t held q);
      here = total_more (posts t) s.views id v w at (post_posts_here v t);
      else = λ q ne. total_same (posts q) s.views id v w at (post_posts_else v t q ne);
      sent = λ q d p e. total_same (sends q d) s.views id v w at (dite (ℕ_discrete q t)
          (λ (z : q ≡ t). subst (λ (y : ℕ). sends y d w ≡ sends y d v) (sym z)
          (post_sends_sent v t d held (done d p (ap (λ (y : ℕ). B.graph.next y d) (sym z) ∙ e))))
          (λ ne. post_sends_else v t q d held ne));
      sent_listed = λ q d. all_sends_lists q d s.views;
    } in
    subst (λ (y : ℕ). Ruled B record { words = set s.words t y; homes = hs; views = vs }) (sym more)
    (rebuilt B s r id v w (set s.words t (x + 16)) hs at (length-set s.words t (x + 16)) fl.long refl grows
    (view_more B.slab s.words (set s.words t (x + 16)) (length s.views) id w grows record {
      number = o.number;
      made = o.made;
      board = o.board;
      some_part = o.some_part;
      numbers = (below s.views id v at o.number, o.numbers);
      sees = o.sees;
    })
    (λ q far. post_lists v t held q)
    (λ q below. posted_tile B W s.words (set s.words t (x + 16)) s.homes hs L L' P P' S S' t near ct fl one open_yet r.tiles
    (get_or-set_same s.words t (x + 16) 0 wide) (λ q ne. get_or-set_other s.words t q (x + 16) 0 ne) q below))
  where
    below : (vs : List View) (i : ℕ) (u : View) → get_elem? vs i ≡ some u → u.number ≡ i → u.number < length vs
    below vs i u e f = let h = at_below vs i u e in omega arith

-- ---- the slots that go back to the table

module _ (content : ℕ → ℕ → Cell) (t d : ℕ) where
  Apart-own : (k : ℕ) (o : Option ℕ) (m : List (ℕ × Cell)) → (o ≡ None → k ≢ 4 * t + d) → Apart k m → Apart k (own_slot content t d o ++ m)
  Apart-own k None m f a = (f refl, a)
  Apart-own k (Some p) m f a = a

  Distinct-own : (o : Option ℕ) (m : List (ℕ × Cell)) → Apart (4 * t + d) m → Distinct m → Distinct (own_slot content t d o ++ m)
  Distinct-own None m f a = (f, a)
  Distinct-own (Some p) m f a = a

  Has-own : (o : Option ℕ) (m : List (ℕ × Cell)) → o ≡ None → Has (4 * t + d) (content t d) (own_slot content t d o ++ m)
  Has-own None m e = inl (refl, refl)
  Has-own (Some p) m e = absurd (cc)

Has-incoming : (content : ℕ → ℕ → Cell) (d q : ℕ) (o : Option ℕ) (m : List (ℕ × Cell)) → o ≡ Some q
    → Has (4 * q + d) (content q d) (incoming content d o ++ m)
Has-incoming content d q None m e = absurd (cc)
Has-incoming content d q (Some p) m e = inl (let same : p ≡ q = cc in (omega arith, ap (λ (z : ℕ). content z d) (sym same)))

module _ (B : Setting) (W : IsGraph B.graph) (left : ℕ → ℕ → Cell) (t : ℕ) (near : t < B.graph.tiles)
    (result : B.graph.next t 3 ≡ None) where
  abbrev owns : List (ℕ × Cell)
  owns =
      own_slot B.content t 0 (B.graph.next t 0) ++ (own_slot B.content t 1 (B.graph.next t 1)
      ++ (own_slot B.content t 2 (B.graph.next t 2) ++ []))

  abbrev in₀ : List (ℕ × Cell)
  in₀ = incoming left 0 (B.graph.from t 0)

  abbrev in₁ : List (ℕ × Cell)
  in₁ = incoming left 1 (B.graph.from t 1)

  abbrev in₂ : List (ℕ × Cell)
  in₂ = incoming left 2 (B.graph.from t 2)

  abbrev hand : List (ℕ × Cell)
  hand = to_post_in B left t

  apart_owns : (k : ℕ) → ((d : ℕ) → d < 4 → B.graph.next t d ≡ None → k ≢ 4 * t + d) → Apart k owns
  apart_owns k f = Apart-own B.content t 0 k (B.graph.next t 0) _ (f 0 (lit< tt))
      (Apart-own B.content t 1 k (B.graph.next t 1) _ (f 1 (lit< tt)) (Apart-own B.content t 2 k (B.graph.next t 2) [] (f 2 (lit< tt)) tt))

  -- the slot of an edge that came to this tile
  ins_owns : (q d : ℕ) → d < 4 → q ≢ t → Apart (4 * q + d) owns
  ins_owns q d small ne = apart_owns (4 * q + d) (λ e se h. elsewhere t q d e small se ne)

  apart_ins : (k : ℕ) → ((d q : ℕ) → d < 4 → B.graph.from t d ≡ Some q → k ≢ 4 * q + d) → Apart k owns
      → Apart k (in₀ ++ (in₁ ++ (in₂ ++ owns)))
  apart_ins k f a = Apart-incoming left 0 k (B.graph.from t 0) _ (λ q h. f 0 q (lit< tt) h)
      (Apart-incoming left 1 k (B.graph.from t 1) _ (λ q h. f 1 q (lit< tt) h)
      (Apart-incoming left 2 k (B.graph.from t 2) owns (λ q h. f 2 q (lit< tt) h) a))

  distinct_owns : Distinct owns
  distinct_owns = Distinct-own B.content t 0 (B.graph.next t 0) _
      (Apart-own B.content t 1 (4 * t + 0) (B.graph.next t 1) _ (λ _ e. omega arith)
      (Apart-own B.content t 2 (4 * t + 0) (B.graph.next t 2) [] (λ _ e. omega arith) tt))
      (Distinct-own B.content t 1 (B.graph.next t 1) _ (Apart-own B.content t 2 (4 * t + 1) (B.graph.next t 2) [] (λ _ e. omega arith) tt)
      (Distinct-own B.content t 2 (B.graph.next t 2) [] tt tt))

  distinct : Distinct hand
  distinct = (
    apart_ins (4 * t + 3) (λ e q se h. elsewhere q t 3 e (lit< tt) se (λ z. (not_itself B W t near e q h).0 (sym z)))
        (Apart-own B.content t 0 (4 * t + 3) (B.graph.next t 0) _ (λ _ e. omega arith)
        (Apart-own B.content t 1 (4 * t + 3) (B.graph.next t 1) _ (λ _ e. omega arith)
        (Apart-own B.content t 2 (4 * t + 3) (B.graph.next t 2) [] (λ _ e. omega arith) tt))),
    Distinct-incoming left 0 (B.graph.from t 0) _
        (λ q e. Apart-incoming left 1 (4 * q + 0) (B.graph.from t 1) _ (λ p _. other_direction q p 0 1 (lit< tt) (lit< tt)
        (λ z. omega arith))
        (Apart-incoming left 2 (4 * q + 0) (B.graph.from t 2) owns (λ p _. other_direction q p 0 2 (lit< tt) (lit< tt) (λ z. omega arith))
        (ins_owns q 0 (lit< tt) (not_itself B W t near 0 q e).0)))
        (Distinct-incoming left 1 (B.graph.from t 1) _
        (λ q e. Apart-incoming left 2 (4 * q + 1) (B.graph.from t 2) owns (λ p _. other_direction q p 1 2 (lit< tt) (lit< tt)
        (λ z. omega arith))
        (ins_owns q 1 (lit< tt) (not_itself B W t near 1 q e).0))
        (Distinct-incoming left 2 (B.graph.from t 2) owns (λ q e. ins_owns q 2 (lit< tt) (not_itself B W t near 2 q e).0) distinct_owns)),
  )

  over : (k : ℕ) (h : Cell) → Has k h owns → Has k h hand
  over k h a = inr (Has-right k h in₀ _ (Has-right k h in₁ _ (Has-right k h in₂ _ a)))

  has_own : (d : ℕ) → d < 4 → B.graph.next t d ≡ None → Has (4 * t + d) (B.content t d) hand
  has_own zero small e = over _ _ (Has-own B.content t 0 (B.graph.next t 0) _ e)
  has_own (suc zero) small e = over _ _ (Has-right _ _ (own_slot B.content t 0 (B.graph.next t 0)) _ (Has-own B.content t 1
      (B.graph.next t 1) _ e))
  has_own (suc (suc zero)) small e = over _ _
      (Has-right _ _ (own_slot B.content t 0 (B.graph.next t 0)) _
      (Has-right _ _ (own_slot B.content t 1 (B.graph.next t 1)) _ (Has-own B.content t 2 (B.graph.next t 2) [] e)))
  has_own (suc (suc (suc zero))) small e = inl (refl, refl)
  has_own (suc (suc (suc (suc d)))) small e = absurd (omega arith)

  has_left : (d q : ℕ) → d < 3 → B.graph.from t d ≡ Some q → Has (4 * q + d) (left q d) hand
  has_left zero q small e = inr (Has-incoming left 0 q (B.graph.from t 0) _ e)
  has_left (suc zero) q small e = inr (Has-right _ _ in₀ _ (Has-incoming left 1 q (B.graph.from t 1) _ e))
  has_left (suc (suc zero)) q small e = inr (Has-right _ _ in₀ _ (Has-right _ _ in₁ _ (Has-incoming left 2 q (B.graph.from t 2) owns e)))
  has_left (suc (suc (suc d))) q small e = absurd (omega arith)

  -- a slot that is none of these
  apart : (k : ℕ) → ((d : ℕ) → d < 4 → B.graph.next t d ≡ None → k ≢ 4 * t + d)
      → ((d q : ℕ) → d < 4 → B.graph.from t d ≡ Some q → k ≢ 4 * q + d) → Apart k hand
  apart k own came = (own 3 (lit< tt) result, apart_ins k came (apart_owns k own))

  filled : (hs : Row) → length hs ≡ 4 * B.graph.tiles → Filled B t hs (put_all hs hand)
  filled hs long = record {
    own = λ d small e. put_here hs hand (4 * t + d) (B.content t d) (omega arith) distinct (has_own d small e);
    inner = λ d p small e. put_else hs hand (4 * t + d) (apart (4 * t + d)
        (λ f sf g h. let w : d ≡ f = omega arith in none_some (sym g ∙ ap (B.graph.next t) (sym w) ∙ e))
        (λ f q sf g. elsewhere q t d f small sf (λ w. (not_itself B W t near f q g).0 (sym w))));
    ins = λ q d below e. let th = W.there q d t below e in let s = th.2 in
        (left q d, put_here hs hand (4 * q + d) (left q d) (omega arith) distinct (has_left d q th.2 th.3));
    others = λ q d small ne nx. put_else hs hand (4 * q + d) (apart (4 * q + d)
        (λ f sf g. elsewhere t q d f small sf ne)
        (λ f p sf g same. let b = W.back t f p near g in let dd : d ≡ f = omega arith in let qq : q ≡ p = omega arith in
        nx (subst (λ (w : ℕ × ℕ). B.graph.next w.0 w.1 ≡ Some t) (λ i. (sym qq i, sym dd i)) b.2)));
    long = put_long hs hand;
  }

-- no tile receives in a direction past the third
no_receiver : (B : Setting) → IsGraph B.graph → (t : ℕ) → t < B.graph.tiles → B.graph.next t 3 ≡ None
no_receiver B W t near = at (B.graph.next t 3) refl
  where
    at : (o : Option ℕ) → B.graph.next t 3 ≡ o → B.graph.next t 3 ≡ None
    at None e = e
    at (Some p) e = let th = W.there t 3 p near e in let z = th.2 in absurd (omega arith)

-- ---- the list of what the pass has posted

-- a tile that is held is not in it
unposted : (B : Setting) (s : State Cell View) (r : Ruled B s) (id : ℕ) (v : View) (t : ℕ) → t < B.graph.tiles
    → get_elem? s.views id ≡ some v → v.held ≡ Some t → times t v.mine ≡ 0
unposted B s r id v t near at held =
    let once = (r.tiles t near).once in
    let least = total_at (lists t) s.views id v at in
    let listed = held_lists v t held t in
    let one = one_same t in
    omega arith

none_of : (t : ℕ) (l : List (ℕ × ℕ)) → times t l ≡ 0 → filter (λ x. x.0 == t) l ≡ []
none_of t [] none = refl
none_of t (x ∷ xs) none = grind (arith, none_of t xs)

posted_once : (t : ℕ) (v : View) → times t v.mine ≡ 0 → HasPostedOnce t (posted_view v t)
posted_once t v none = grind (arith, eq-eqb, none_of)

pub posts_step : (B : Setting) (W : IsGraph B.graph) (k id : ℕ) (me : Me Cell View) (t : ℕ) → 1 ≤ me.0.parts → MayPost B me t
    → Allows (Ruled B) k id me t (λ w. bit_or w 16) (λ _ n. Posted t me n)
posts_step B W k id me t part may =
    let l : List (ℕ × Cell) = to_post_in B may.left t in
    subst (λ (c : List (ℕ × Cell)). Allows (Ruled B) k id (me.0, c) t (λ w. bit_or w 16)
    (λ _ n. Posted t me n)) (sym may.hand)
    (λ s r wide at _. (
      posted_view me.0 t,
      give_all l,
      given_valid s.homes l,
      subst (λ (hs : Row). Ruled B record {
        words = set s.words t (bit_or (slice_index s.words t) 16);
        homes = hs;
        views = set s.views id (posted_view me.0 t);
      })
          (sym (given_homes s.homes l))
          (posted B W s r id me.0 t (put_all s.homes l) may.inside at part may.holds may.sent
          (filled B W may.left t may.inside (no_receiver B W t may.inside) s.homes r.roomy)),
      record {
        after = λ i. (posted_view me.0 t, given_none l i);
        once = posted_once t me.0 (unposted B s r id me.0 t may.inside at may.holds);
      },
    ))
