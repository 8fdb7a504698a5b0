-- The fetch-or of 8 keeps the rule.
use Rattle.std.proofs.Common.{◌≡◌, ◌≢◌, ℕ, ◌+◌, ◌*◌, ◌<◌, ◌≤◌, inl, inr, lit<, lit≤, le_refl, zero-le, List, [], ◌++◌, length, set, refl}
use Rattle.std.proofs.Common.{sym, ap, ◌∙◌, subst, arith, bit_or, length-set, get_or-set_same, get_or-set_other, Option, Some, None}
use mathlib.Core.Option.{some, none}
use mathlib.Core.Logic.{dite}
use native.Mathlib.Decide.{ℕ_discrete}
use lib.ListN.{get_elem?}
use Rattle.std.specs.Prelude.{slice_index}
use Rattle.atomic_table.specs.Table.{State, Me, Allows, keeps}
use Rattle.board_steps.specs.declared.rule.View.{View}
use Rattle.board_steps.specs.declared.rule.Cell.{Cell}
use Rattle.board_steps.specs.Graph.{IsGraph}
use Rattle.board_steps.specs.Rule.{Setting, arrived, posts, sends, lists, total, Within, EdgeIs, TileOk, Ruled}
use Rattle.board_steps.specs.Steps.{looked, taken, incoming, hand_in, HasNeeds, IsReadyFor, TookIn}
use Rattle.board_steps.proofs.Bits.{Bits, bit_a, bit_b, bit_c, bit_t, or_taken, or_taken_again, Within-bits}
use Rattle.board_steps.proofs.Totals.{total_same, total_more, all_sends_lists, all_posts_sends}
use Rattle.board_steps.proofs.Views.{takes_here, takes_else, takes_sends, takes_posts}
use Rattle.board_steps.proofs.Slots.{withdraw, clear, Apart, Distinct, AllHome, Among, clear_else, clear_long, clear_here, withdraw_homes}
use Rattle.board_steps.proofs.Slots.{withdraw_carried, withdraw_valid, Among-right}
use Rattle.board_steps.proofs.Moves.{Row, mine, A, bits, rebuilt, view_more, grown, arrived_same, edge_same}
use Rattle.board_steps.proofs.Learning.{sees_here, sees_looked, found}

pub none_some : {p : ℕ} → ¬ (None ≡ Some p)
none_some h = cc

pub some_same : {a b : ℕ} → Some a ≡ Some b → a ≡ b
some_same h = cc

-- the slots once tile t is taken
pub record Emptied (B : Setting) (t : ℕ) (hs hs' : Row) : Type 0 where
  own : (d : ℕ) → d < 4 → get_elem? hs' (4 * t + d) ≡ some none
  ins : (q d : ℕ) → q < B.graph.tiles → B.graph.next q d ≡ Some t → get_elem? hs' (4 * q + d) ≡ some none
  others : (q d : ℕ) → d < 4 → q ≢ t → ¬ (B.graph.next q d ≡ Some t) → get_elem? hs' (4 * q + d) ≡ get_elem? hs (4 * q + d)
  long : length hs' ≡ length hs

-- how often tiles are listed, posted and sent once tile t is taken
pub record Counted (L L' P P' : ℕ → ℕ) (S S' : ℕ → ℕ → ℕ) (t : ℕ) : Type 0 where
  here : L' t ≡ L t + 1
  else : (q : ℕ) → q ≢ t → L' q ≡ L q
  sent : (d q : ℕ) → S' q d ≡ S q d
  posted : (q : ℕ) → P' q ≡ P q
  sent_listed : (q d : ℕ) → S q d ≤ L q
  posted_sent : (q d : ℕ) → P q ≤ S q d

module _ (B : Setting) (W : IsGraph B.graph) (ws ws' : List ℕ) (hs hs' : Row) (L L' P P' : ℕ → ℕ) (S S' : ℕ → ℕ → ℕ)
    (t : ℕ) (near : t < B.graph.tiles) (ct : Counted L L' P P' S S' t) (em : Emptied B t hs hs') (free : L t ≡ 0)
    (ready : (d q : ℕ) → B.graph.from t d ≡ Some q → S q d ≡ 1) (all : (p : ℕ) → p < B.graph.tiles → TileOk B ws hs L P S p) where
  abbrev Was : ℕ → ℕ → Option ℕ → Type 0
  Was q d o = EdgeIs L P (S q d) (B.fresh q d) (B.content q d) (get_elem? hs (4 * q + d)) q o

  abbrev Is : ℕ → ℕ → Option ℕ → Type 0
  Is q d o = EdgeIs L' P' (S' q d) (B.fresh q d) (B.content q d) (get_elem? hs' (4 * q + d)) q o

  own_edge : (d : ℕ) → d < 4 → (o : Option ℕ) → B.graph.next t d ≡ o → Is t d o
  own_edge d small None e =
      let l = ct.here in let m = ct.posted t in let a = ct.sent_listed t d in let b = ct.posted_sent t d in
      record { fresh = λ z. absurd (omega arith); out = λ z y. em.own d small; done = λ z. absurd (omega arith) }
  own_edge d small (Some p) e =
      let th = W.there t d p near e in
      let l = ct.here in let m = ct.posted p in let a = ct.sent_listed t d in let b = ct.posted_sent t d in let s = ct.sent d t in
      let lp = ct.else p th.1 in let need = (all p th.0).needs d t th.3 in let c = ct.sent_listed p d in let f = ct.posted_sent p d in
      record {
        fresh = λ z. absurd (omega arith);
        out = λ z y. em.own d small;
        sent = λ z y. absurd (omega arith);
        read = λ z y. absurd (omega arith);
        done = λ z. absurd (omega arith);
      }

  -- the edge of another tile that comes to t
  in_edge : (q d : ℕ) → q < B.graph.tiles → q ≢ t → B.graph.next q d ≡ Some t → Is q d (Some t)
  in_edge q d below ne e =
      let th = W.there q d t below e in let one = ready d q th.3 in
      let l = ct.else q ne in let s = ct.sent d q in let lt = ct.here in let m = ct.posted t in
      let a = ct.sent_listed q d in let b = ct.posted_sent t d in let c = ct.sent_listed t d in
      record {
        fresh = λ z. absurd (omega arith);
        out = λ z y. absurd (omega arith);
        sent = λ z y. absurd (omega arith);
        read = λ z y. em.ins q d below e;
        done = λ z. absurd (omega arith);
      }

  other_edge : (q d : ℕ) → d < 4 → q < B.graph.tiles → q ≢ t → (o : Option ℕ) → B.graph.next q d ≡ o → Was q d o → Is q d o
  other_edge q d small below ne None e k = edge_same B ws ws' hs hs' L L' P P' S S' q d (ct.else q ne) (ct.posted q) (ct.sent d q)
      (em.others q d small ne (λ f. none_some (sym e ∙ f))) None (λ p f. absurd (none_some f)) k
  other_edge q d small below ne (Some p) e k = dite (ℕ_discrete p t)
      (λ (f : p ≡ t). subst (λ (z : ℕ). Is q d (Some z)) (sym f) (in_edge q d below ne (e ∙ ap Some f)))
      (λ (f : p ≢ t). edge_same B ws ws' hs hs' L L' P P' S S' q d (ct.else q ne) (ct.posted q) (ct.sent d q)
      (em.others q d small ne (λ g. f (some_same (sym e ∙ g)))) (Some p)
      (λ z g. let y : p ≡ z = some_same g in (ct.else z (λ h. f (y ∙ h)), ct.posted z)) k)

  pub taken_tile : slice_index ws' t ≡ slice_index ws t + 8 → ((q : ℕ) → q ≢ t → slice_index ws' q ≡ slice_index ws q) → (q : ℕ)
      → q < B.graph.tiles
      → TileOk B ws' hs' L' P' S' q
  taken_tile word words q below =
      let c = all q below in
      let a : (d : ℕ) → arrived (λ x. S' x d) (B.graph.from q d) ≡ arrived (λ x. S x d) (B.graph.from q d) =
      λ d. arrived_same B ws ws' hs hs' L L' P P' S S' d (ct.sent d) (B.graph.from q d) in
      let a₀ = a 0 in let a₁ = a 1 in let a₂ = a 2 in let m = ct.posted q in dite (ℕ_discrete q t)
      (λ (e : q ≡ t).
      let l : L' q ≡ L q + 1 = ap L' e ∙ ct.here ∙ ap (λ (z : ℕ). L z + 1) (sym e) in let f : L q ≡ 0 = ap L e ∙ free in
      let w : slice_index ws' q ≡ slice_index ws q + 8 = ap (slice_index ws') e ∙ word ∙ ap (λ (z : ℕ). slice_index ws z + 8) (sym e) in
      record {
        word = let y = c.word in omega arith;
        once = omega arith;
        needs = λ d p g. let y = ready d p (ap (λ (z : ℕ). B.graph.from z d) (sym e) ∙ g) in let s = ct.sent d p in omega arith;
        edges = λ d small. subst (λ (z : ℕ). Is z d (B.graph.next z d)) (sym e) (own_edge d small (B.graph.next t d) refl);
      })
      (λ (ne : q ≢ t). let l = ct.else q ne in let w = words q ne in record {
        word = let y = c.word in omega arith;
        once = let y = c.once in omega arith;
        needs = λ d p g. let y = c.needs d p g in let s = ct.sent d p in omega arith;
        edges = λ d small. other_edge q d small below ne (B.graph.next q d) refl (c.edges d small);
      })

-- ---- the slots that come into hand

module _ (content : ℕ → ℕ → Cell) (d : ℕ) where
  pub Apart-incoming : (k : ℕ) (o : Option ℕ) (m : List (ℕ × Cell)) → ((q : ℕ) → o ≡ Some q → k ≢ 4 * q + d) → Apart k m
      → Apart k (incoming content d o ++ m)
  Apart-incoming k None m f a = a
  Apart-incoming k (Some q) m f a = (f q refl, a)

  pub Distinct-incoming : (o : Option ℕ) (m : List (ℕ × Cell)) → ((q : ℕ) → o ≡ Some q → Apart (4 * q + d) m) → Distinct m
      → Distinct (incoming content d o ++ m)
  Distinct-incoming None m f a = a
  Distinct-incoming (Some q) m f a = (f q refl, a)

  AllHome-incoming : (hs : Row) (o : Option ℕ) (m : List (ℕ × Cell))
      → ((q : ℕ) → o ≡ Some q → get_elem? hs (4 * q + d) ≡ some (some (content q d))) → AllHome hs m
      → AllHome hs (incoming content d o ++ m)
  AllHome-incoming hs None m f a = a
  AllHome-incoming hs (Some q) m f a = (f q refl, a)

  Among-incoming : (q : ℕ) (o : Option ℕ) (m : List (ℕ × Cell)) → o ≡ Some q → Among (4 * q + d) (incoming content d o ++ m)
  Among-incoming q None m e = absurd (cc)
  Among-incoming q (Some p) m e = inl (let same : p ≡ q = cc in omega arith)

-- a slot of another tile
pub elsewhere : (t q d e : ℕ) → d < 4 → e < 4 → q ≢ t → 4 * q + d ≢ 4 * t + e
elsewhere t q d e a b ne h = ne (omega arith)

pub other_direction : (q p d e : ℕ) → d < 4 → e < 4 → d ≢ e → 4 * q + d ≢ 4 * p + e
other_direction q p d e a b ne h = ne (omega arith)

module _ (B : Setting) (W : IsGraph B.graph) (t : ℕ) (near : t < B.graph.tiles) where
  pub not_itself : (d q : ℕ) → B.graph.from t d ≡ Some q → (q ≢ t) × (d < 4)
  not_itself d q e =
      let b = W.back t d q near e in let th = W.there q d t b.0 b.2 in
      ((λ z. th.1 (sym z)), omega arith)

  abbrev ins : List (ℕ × Cell)
  ins = incoming B.content 0 (B.graph.from t 0) ++ (incoming B.content 1 (B.graph.from t 1) ++ (incoming B.content 2
      (B.graph.from t 2) ++ []))

  -- a slot that is none of those of the edges that come to the tile
  apart_ins : (k : ℕ) → ((d q : ℕ) → d < 4 → B.graph.from t d ≡ Some q → k ≢ 4 * q + d) → Apart k ins
  apart_ins k f = Apart-incoming B.content 0 k (B.graph.from t 0) _ (λ q h. f 0 q (lit< tt) h)
      (Apart-incoming B.content 1 k (B.graph.from t 1) _ (λ q h. f 1 q (lit< tt) h)
      (Apart-incoming B.content 2 k (B.graph.from t 2) [] (λ q h. f 2 q (lit< tt) h) tt))

  own_apart : (d : ℕ) → d < 4 → Apart (4 * t + d) ins
  own_apart d small = apart_ins (4 * t + d) (λ e q se h. elsewhere q t d e small se (λ z. (not_itself e q h).0 (sym z)))

  distinct_ins : Distinct ins
  distinct_ins = Distinct-incoming B.content 0 (B.graph.from t 0) _
      (λ q e. Apart-incoming B.content 1 (4 * q + 0) (B.graph.from t 1) _ (λ p _. other_direction q p 0 1 (lit< tt) (lit< tt)
      (λ z. omega arith))
      (Apart-incoming B.content 2 (4 * q + 0) (B.graph.from t 2) [] (λ p _. other_direction q p 0 2 (lit< tt) (lit< tt)
      (λ z. omega arith)) tt))
      (Distinct-incoming B.content 1 (B.graph.from t 1) _
      (λ q e. Apart-incoming B.content 2 (4 * q + 1) (B.graph.from t 2) [] (λ p _. other_direction q p 1 2 (lit< tt) (lit< tt)
      (λ z. omega arith)) tt)
      (Distinct-incoming B.content 2 (B.graph.from t 2) [] (λ q e. tt) tt))

  distinct : Distinct (hand_in B t)
  distinct = (
    ((λ e. omega arith), ((λ e. omega arith), ((λ e. omega arith), own_apart 0 (lit< tt)))),
    (
      ((λ e. omega arith), ((λ e. omega arith), own_apart 1 (lit< tt))),
      (
        ((λ e. omega arith), own_apart 2 (lit< tt)),
        (
          own_apart 3
              (lit< tt),
          distinct_ins,
        ),
      ),
    ),
  )

  among_own : (d : ℕ) → d < 4 → Among (4 * t + d) (hand_in B t)
  among_own d small = dite (ℕ_discrete d 0) (λ e. inl (omega arith))
      (λ a. dite (ℕ_discrete d 1) (λ e. inr (inl (omega arith)))
      (λ b. dite (ℕ_discrete d 2) (λ e. inr (inr (inl (omega arith)))) (λ c. inr (inr (inr (inl (omega arith)))))))

  among_ins : (d q : ℕ) → d < 3 → B.graph.from t d ≡ Some q → Among (4 * q + d) ins
  among_ins d q small e = dite (ℕ_discrete d 0)
      (λ (z : d ≡ 0). subst (λ (y : ℕ). Among (4 * q + y) ins) (sym z)
      (Among-incoming B.content 0 q (B.graph.from t 0) _ (ap (B.graph.from t) (sym z) ∙ e)))
      (λ a. dite (ℕ_discrete d 1)
      (λ (z : d ≡ 1). subst (λ (y : ℕ). Among (4 * q + y) ins) (sym z)
      (Among-right _ (incoming B.content 0 (B.graph.from t 0)) _ (Among-incoming B.content 1 q (B.graph.from t 1) _ (ap (B.graph.from t)
      (sym z) ∙ e))))
      (λ b. let z : d ≡ 2 = omega arith in subst (λ (y : ℕ). Among (4 * q + y) ins) (sym z)
      (Among-right _ (incoming B.content 0 (B.graph.from t 0)) _
      (Among-right _ (incoming B.content 1 (B.graph.from t 1)) _ (Among-incoming B.content 2 q (B.graph.from t 2) _ (ap (B.graph.from t)
      (sym z) ∙ e))))))

  among_in : (d q : ℕ) → B.graph.from t d ≡ Some q → Among (4 * q + d) (hand_in B t)
  among_in d q e = inr (inr (inr (inr (among_ins d q (W.back t d q near e).1 e))))

  apart_all : (q d : ℕ) → d < 4 → q ≢ t → ¬ (B.graph.next q d ≡ Some t) → Apart (4 * q + d) (hand_in B t)
  apart_all q d small ne nx =
      let own : (e : ℕ) → e < 4 → 4 * q + d ≢ 4 * t + e = λ e se. elsewhere t q d e small se ne in (
        own 0 (lit< tt),
        (
          own 1 (lit< tt),
          (
            own 2 (lit< tt),
            (
              own 3 (lit< tt),
              apart_ins (4 * q + d) (λ e p se h same.
                  let b = W.back t e p near h in let dd : d ≡ e = omega arith in let qq : q ≡ p = omega arith in
                  nx (subst (λ (z : ℕ × ℕ). B.graph.next z.0 z.1 ≡ Some t) (λ i. (sym qq i, sym dd i)) b.2)),
            ),
          ),
        ),
      )

  emptied : (hs : Row) → length hs ≡ 4 * B.graph.tiles → Emptied B t hs (clear hs (hand_in B t))
  emptied hs long = record {
    own = λ d small. clear_here hs (hand_in B t) (4 * t + d) (omega arith) (among_own d small);
    ins = λ q d below e. let th = W.there q d t below e in
        let s = th.2 in clear_here hs (hand_in B t) (4 * q + d) (omega arith) (among_in d q th.3);
    others = λ q d small ne nx. clear_else hs (hand_in B t) (4 * q + d) (apart_all q d small ne nx);
    long = clear_long hs (hand_in B t);
  }

  module _ (s : State Cell View) (r : Ruled B s) (free : total (lists t) s.views ≡ 0)
      (ready : (d q : ℕ) → B.graph.from t d ≡ Some q → total (sends q d) s.views ≡ 1) where
    abbrev Edge : ℕ → ℕ → Option ℕ → Type 0
    Edge q d o = EdgeIs (λ p. total (lists p) s.views)
        (λ p. total (posts p) s.views) (total (sends q d) s.views) (B.fresh q d) (B.content q d)
        (get_elem? s.homes (4 * q + d)) q o

    fresh_own : (d : ℕ) → d < 4 → get_elem? s.homes (4 * t + d) ≡ some (some (B.fresh t d))
    fresh_own d small = fresh (B.graph.next t d) ((r.tiles t near).edges d small)
      where
        fresh : (o : Option ℕ) → Edge t d o → get_elem? s.homes (4 * t + d) ≡ some (some (B.fresh t d))
        fresh None k = k.fresh free
        fresh (Some p) k = k.fresh free

    sent_in : (d q : ℕ) → B.graph.from t d ≡ Some q → get_elem? s.homes (4 * q + d) ≡ some (some (B.content q d))
    sent_in d q e =
        let b = W.back t d q near e in
        let k = subst (Edge q d) b.2 ((r.tiles q b.0).edges d (let z = b.1 in omega arith)) in
        k.sent (ready d q e) free

    homes_all : AllHome s.homes (hand_in B t)
    homes_all = (
      fresh_own 0 (lit< tt),
      (
        fresh_own 1 (lit< tt),
        (
          fresh_own 2 (lit< tt),
          (
            fresh_own 3 (lit< tt),
            AllHome-incoming B.content 0 s.homes (B.graph.from t 0) _ (sent_in 0)
                (AllHome-incoming B.content 1 s.homes (B.graph.from t 1) _ (sent_in 1)
                (AllHome-incoming B.content 2 s.homes (B.graph.from t 2) [] (sent_in 2) tt)),
          ),
        ),
      ),
    )

-- ---- the step

took : (B : Setting) (W : IsGraph B.graph) (s : State Cell View) (r : Ruled B s) (id : ℕ) (v : View) (t : ℕ) (hs : Row) → t < B.graph.tiles
    → get_elem? s.views id ≡ some v → 1 ≤ v.parts → v.held ≡ None → total (lists t) s.views ≡ 0
    → ((d q : ℕ) → B.graph.from t d ≡ Some q → total (sends q d) s.views ≡ 1) → Emptied B t s.homes hs
    → Ruled B record { words = set s.words t (bit_or (slice_index s.words t) 8); homes = hs; views = set s.views id (taken v t) }
took B W s r id v t hs near at part idle free ready em =
    let x : ℕ = slice_index s.words t in let w : View = taken v t in let o = mine B s r id v at part in
    let b = bits B W s r t near in let vs : List View = set s.views id w in
    let L : ℕ → ℕ = λ q. total (lists q) s.views in let L' : ℕ → ℕ = λ q. total (lists q) vs in
    let P : ℕ → ℕ = λ q. total (posts q) s.views in let P' : ℕ → ℕ = λ q. total (posts q) vs in
    let S : ℕ → ℕ → ℕ = λ q d. total (sends q d) s.views in let S' : ℕ → ℕ → ℕ = λ q d. total (sends q d) vs in
    let a₀ : ℕ = A B W s r t 0 in let a₁ : ℕ = A B W s r t 1 in let a₂ : ℕ = A B W s r t 2 in
    let b₀ : Bits a₀ a₁ a₂ 0 (P t) x = subst (λ (z : ℕ). Bits a₀ a₁ a₂ z (P t) x) free b in
    let more : bit_or x 8 ≡ x + 8 = or_taken a₀ a₁ a₂ (P t) x b₀ in
    let b₁ : Bits a₀ a₁ a₂ 1 (P t) (x + 8) =
    record { is = let e = b₀.is in omega arith; few_a = b₀.few_a; few_b = b₀.few_b; few_c = b₀.few_c; few_t = lit≤ tt; few_p = b₀.few_p } in
    let wide : t < length s.words = let e = r.wide in omega arith in
    let grows = grown s.words t (x + 8) wide
    (Within-bits a₀ a₁ a₂ 0 (P t) x a₀ a₁ a₂ 1 (P t) (x + 8) b₀ b₁ (le_refl a₀) (le_refl a₁) (le_refl a₂) zero-le (le_refl (P t))) in
    let ct : Counted L L' P P' S S' t = record {
      here = total_more (lists t) s.views id v w at (takes_here v t idle);
      else = λ q ne. total_same (lists q) s.views id v w at (takes_else v t q idle ne);
      sent = λ d q. total_same (sends q d) s.views id v w at (takes_sends v t q d idle);
      posted = λ q. total_same (posts q) s.views id v w at (takes_posts v t q);
      sent_listed = λ q d. all_sends_lists q d s.views;
      posted_sent = λ q d. all_posts_sends q d s.views;
    } in
    subst (λ (y : ℕ). Ruled B record { words = set s.words t y; homes = hs; views = vs }) (sym more)
    (rebuilt B s r id v w (set s.words t (x + 8)) hs at (length-set s.words t (x + 8)) em.long refl grows
    (view_more B.slab s.words (set s.words t (x + 8)) (length s.views) id w grows
    record { number = o.number; made = o.made; board = o.board; some_part = o.some_part; numbers = o.numbers; sees = o.sees })
    (λ p far. takes_else v t p idle (λ e. omega arith))
    (λ q below. taken_tile B W s.words (set s.words t (x + 8)) s.homes hs L L' P P' S S' t near ct em free ready r.tiles
    (get_or-set_same s.words t (x + 8) 0 wide) (λ q ne. get_or-set_other s.words t q (x + 8) 0 ne) q below))

-- the arrival bits that the pass has seen are still set
pub needs_stand : (B : Setting) (W : IsGraph B.graph) (s : State Cell View) (r : Ruled B s) (t word : ℕ) → t < B.graph.tiles
    → Within word (slice_index s.words t) → HasNeeds B.graph t word → (d q : ℕ) → B.graph.from t d ≡ Some q → total (sends q d) s.views ≡ 1
needs_stand B W s r t word near k h d q e =
    let x : ℕ = slice_index s.words t in let b = bits B W s r t near in
    let f : (d : ℕ) → B.graph.from t d ≡ Some q → 1 ≤ A B W s r t d → total (sends q d) s.views ≡ 1 = λ d e one.
    let bk = W.back t d q near e in let once = (r.tiles q bk.0).once in let l = all_sends_lists q d s.views in
    let same = ap (arrived (λ q. total (sends q d) s.views)) e in omega arith in
    dite (ℕ_discrete d 0)
    (λ (z : d ≡ 0). let e₀ : B.graph.from t 0 ≡ Some q = ap (B.graph.from t) (sym z) ∙ e in subst
    (λ (y : ℕ). total (sends q y) s.views ≡ 1) (sym z)
    (f 0 e₀ (let a = bit_a _ _ _ _ _ x b in let i = k.right in let j = h.0 q e₀ in omega arith)))
    (λ n₀. dite (ℕ_discrete d 1)
    (λ (z : d ≡ 1). let e₁ : B.graph.from t 1 ≡ Some q = ap (B.graph.from t) (sym z) ∙ e in subst
    (λ (y : ℕ). total (sends q y) s.views ≡ 1) (sym z)
    (f 1 e₁ (let a = bit_b _ _ _ _ _ x b in let i = k.bottom in let j = h.1 q e₁ in omega arith)))
    (λ n₁. let z : d ≡ 2 = let bk = W.back t d q near e in let l = bk.1 in omega arith in
    let e₂ : B.graph.from t 2 ≡ Some q = ap (B.graph.from t) (sym z) ∙ e in subst (λ (y : ℕ). total (sends q y) s.views ≡ 1) (sym z)
    (f 2 e₂ (let a = bit_c _ _ _ _ _ x b in let i = k.corner in let j = h.2 q e₂ in omega arith))))

take_now : (B : Setting) (W : IsGraph B.graph) (k id : ℕ) (v : View) (t : ℕ) → t < B.graph.tiles → 1 ≤ v.parts → v.held ≡ None
    → IsReadyFor B.graph t v → Allows (Ruled B) k id (v, []) t (λ x. bit_or x 8) (TookIn B t (v, []))
take_now B W k id v t near part idle seen s r wide at _ =
    let x : ℕ = slice_index s.words t in let b = bits B W s r t near in let o = mine B s r id v at part in
    let a₀ : ℕ = A B W s r t 0 in let a₁ : ℕ = A B W s r t 1 in let a₂ : ℕ = A B W s r t 2 in
    let ready = needs_stand B W s r t seen.word near (sees_here (slice_index s.words) v.seen t seen.word o.sees seen.seen) seen.needs in
    dite (ℕ_discrete (total (lists t) s.views) 0)
    (λ (free : total (lists t) s.views ≡ 0). let l : List (ℕ × Cell) = hand_in B t in (
      taken v t,
      withdraw l,
      withdraw_valid s.homes l (distinct B W t near) (homes_all B W t near s r free ready),
      subst (λ (hs : Row). Ruled B record { words = set s.words t (bit_or x 8); homes = hs; views = set s.views id (taken v t) })
          (sym (withdraw_homes s.homes l))
          (took B W s r id v t (clear s.homes l) near at part idle free ready (emptied B W t near s.homes r.roomy)),
      record {
        got = λ _. λ i. (taken v t, withdraw_carried l i);
        gone = λ h. let c = bit_t _ _ _ _ _ x b in absurd (omega arith);
        found = found B W s r id v at part t near;
      },
    ))
    (λ (gone : ¬ (total (lists t) s.views ≡ 0)). let one : total (lists t) s.views ≡ 1 = let f = b.few_t in omega arith in
    let same : bit_or x 8 ≡ x = or_taken_again a₀ a₁ a₂ (total (posts t) s.views) x
    (subst (λ (z : ℕ). Bits a₀ a₁ a₂ z (total (posts t) s.views) x) one b) in (
      looked v t x,
      keeps,
      tt,
      subst (λ (y : ℕ). Ruled B record { words = set s.words t y; homes = s.homes; views = set s.views id (looked v t x) }) (sym same)
          (sees_looked B s r id v t near at part),
      record {
        got = λ h. let c = bit_t _ _ _ _ _ x b in absurd (omega arith);
        gone = λ _. refl;
        found = found B W s r id v at part t near;
      },
    ))

pub takes_step : (B : Setting) (W : IsGraph B.graph) (k id : ℕ) (me : Me Cell View) (t : ℕ) → t < B.graph.tiles → 1 ≤ me.0.parts
    → me.0.held ≡ None
    → me.1 ≡ [] → IsReadyFor B.graph t me.0 → Allows (Ruled B) k id me t (λ x. bit_or x 8) (TookIn B t me)
takes_step B W k id me t near part idle empty ready =
    subst (λ (c : List (ℕ × Cell)). Allows (Ruled B) k id (me.0, c) t (λ x. bit_or x 8) (TookIn B t (me.0, c))) (sym empty)
    (take_now B W k id me.0 t near part idle ready)
