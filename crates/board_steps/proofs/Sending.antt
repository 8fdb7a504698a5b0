-- The fetch-or of an arrival bit keeps the rule.
use Rattle.std.proofs.Common.{◌≡◌, ◌≢◌, ℕ, zero, suc, ◌+◌, ◌*◌, ◌<◌, ◌≤◌, false, List, ◌∷◌, length, set, refl, sym, ap, ◌∙◌, subst, arith}
use Rattle.std.proofs.Common.{bit_or, length-set, get_or-set_same, get_or-set_other, Option, Some, None}
use mathlib.Core.Option.{some}
use mathlib.Core.Logic.{dite}
use native.Mathlib.Decide.{ℕ_discrete}
use lib.ListN.{get_elem?}
use Rattle.std.specs.Prelude.{slice_index}
use Rattle.atomic_table.specs.Table.{State, Me, Allows, gives, rest}
use Rattle.atomic_table.proofs.Lists.{set_here, set_else}
use Rattle.board_steps.specs.declared.rule.View.{View}
use Rattle.board_steps.specs.declared.rule.Cell.{Cell}
use Rattle.board_steps.specs.Graph.{IsGraph}
use Rattle.board_steps.specs.Rule.{Setting, arrived, has, posts, sends, lists, total, Inner, EdgeIs, TileOk, Ruled}
use Rattle.board_steps.specs.Steps.{sent_view, bit_of, MaySend, SentTo}
use Rattle.board_steps.proofs.Bits.{pick, or_bit, grows_bit}
use Rattle.board_steps.proofs.Totals.{total_at, total_same, total_more, total_gap, sends_lists, all_sends_lists, all_posts_sends}
use Rattle.board_steps.proofs.Views.{one_same, held_lists, unsent_sends, send_here, send_else, send_other, send_lists, send_posts}
use Rattle.board_steps.proofs.Moves.{Row, mine, A, bits, rebuilt, view_more, grown, edge_same}
use Rattle.board_steps.proofs.Taking.{some_same}

-- how often tiles are listed, posted and sent once the edge of tile t in the direction d is sent
pub record Counted (L L' P P' : ℕ → ℕ) (S S' : ℕ → ℕ → ℕ) (t d : ℕ) : Type 0 where
  here : S' t d ≡ S t d + 1
  else : (q e : ℕ) → ¬ ((q ≡ t) × (e ≡ d)) → S' q e ≡ S q e
  listed : (q : ℕ) → L' q ≡ L q
  posted : (q : ℕ) → P' q ≡ P q
  sent_listed : (q e : ℕ) → S q e ≤ L q
  posted_sent : (q e : ℕ) → P q ≤ S q e

module _ (B : Setting) (W : IsGraph B.graph) (ws ws' : List ℕ) (hs hs' : Row) (L L' P P' : ℕ → ℕ) (S S' : ℕ → ℕ → ℕ)
    (t d p : ℕ) (near : t < B.graph.tiles) (goes : B.graph.next t d ≡ Some p) (ct : Counted L L' P P' S S' t d)
    (home : get_elem? hs' (4 * t + d) ≡ some (some (B.content t d))) (others : (k : ℕ) → k ≢ 4 * t + d → get_elem? hs' k ≡ get_elem? hs k)
    (unsent : S t d ≡ 0) (one : L t ≡ 1) (all : (q : ℕ) → q < B.graph.tiles → TileOk B ws hs L P S q) where
  abbrev Was : ℕ → ℕ → Type 0
  Was q e = EdgeIs L P (S q e) (B.fresh q e) (B.content q e) (get_elem? hs (4 * q + e)) q (B.graph.next q e)

  abbrev Is : ℕ → ℕ → Type 0
  Is q e = EdgeIs L' P' (S' q e) (B.fresh q e) (B.content q e) (get_elem? hs' (4 * q + e)) q (B.graph.next q e)

  -- the edge itself
  itself : Inner (B.fresh t d) (B.content t d) (get_elem? hs' (4 * t + d)) (L' t) (S' t d) (L' p) (P' p)
  itself =
      let th = W.there t d p near goes in
      let l = ct.listed t in let lp = ct.listed p in let h = ct.here in let m = ct.posted p in let need = (all p th.0).needs d t th.3 in
      let b = ct.posted_sent p d in let c = ct.sent_listed p d in
      record {
        fresh = λ z. absurd (omega arith);
        out = λ z y. absurd (omega arith);
        sent = λ z y. home;
        read = λ z y. absurd (omega arith);
        done = λ z. absurd (omega arith);
      }

  edge : (q e : ℕ) → e < 4 → d < 4 → Was q e → Is q e
  edge q e small small' k = dite (ℕ_discrete (4 * q + e) (4 * t + d))
      (λ (z : 4 * q + e ≡ 4 * t + d). let qq : q ≡ t = omega arith in let ee : e ≡ d = omega arith in
      subst (λ (y : ℕ × ℕ). Is y.0 y.1) (λ i. (sym qq i, sym ee i))
      (subst (EdgeIs L' P' (S' t d) (B.fresh t d) (B.content t d) (get_elem? hs' (4 * t + d)) t) (sym goes) itself))
      (λ (n : 4 * q + e ≢ 4 * t + d). edge_same B ws ws' hs hs' L L' P P' S S' q e (ct.listed q) (ct.posted q)
      (ct.else q e (λ z. let a = z.0 in let b = z.1 in n (omega arith))) (others (4 * q + e) n) (B.graph.next q e)
      (λ y _. (ct.listed y, ct.posted y)) k)

  -- how often the edge that comes to a tile in a direction is sent
  abbrev Old : ℕ → ℕ → ℕ
  Old q e = arrived (λ x. S x e) (B.graph.from q e)

  abbrev New : ℕ → ℕ → ℕ
  New q e = arrived (λ x. S' x e) (B.graph.from q e)

  other_arrival : (q e : ℕ) → q < B.graph.tiles → ¬ ((q ≡ p) × (e ≡ d)) → New q e ≡ Old q e
  other_arrival q e below n = at (B.graph.from q e) refl
    where
      at : (o : Option ℕ) → B.graph.from q e ≡ o → arrived (λ x. S' x e) o ≡ arrived (λ x. S x e) o
      at None f = refl
      at (Some x) f = ct.else x e (λ z. n (
        some_same (sym (W.back q e x below f).2 ∙ ap (λ (y : ℕ). B.graph.next y e) z.0 ∙ ap (B.graph.next t) z.1 ∙ goes),
        z.1,
      ))

  arrival : New p d ≡ Old p d + 1
  arrival = let th = W.there t d p near goes in
      ap (arrived (λ x. S' x d)) th.3 ∙ ct.here ∙ ap (λ (o : Option ℕ). arrived (λ x. S x d) o + 1) (sym th.3)

  abbrev sum : ℕ → ℕ → ℕ → ℕ
  sum a b c = a + 2 * b + 4 * c

  sum_here : d < 3 → (q : ℕ) → q < B.graph.tiles → q ≡ p → sum (New q 0) (New q 1) (New q 2) ≡ sum (Old q 0) (Old q 1) (Old q 2) + bit_of d
  sum_here small q below z =
      let same : (e : ℕ) → e ≡ d → New q e ≡ Old q e + 1 = λ e f. subst (λ (y : ℕ × ℕ). New y.0 y.1 ≡ Old y.0 y.1 + 1)
      (λ i. (sym z i, sym f i)) arrival in
      let other : (e : ℕ) → e ≢ d → New q e ≡ Old q e = λ e n. other_arrival q e below (λ y. n y.1) in
      dite (ℕ_discrete d 0)
      (λ (f : d ≡ 0). let b : bit_of d ≡ 1 = ap bit_of f in
      let a₀ = same 0 (sym f) in let a₁ = other 1 (λ y. omega arith) in let a₂ = other 2 (λ y. omega arith) in omega arith)
      (λ n. dite (ℕ_discrete d 1)
      (λ (f : d ≡ 1). let b : bit_of d ≡ 2 = ap bit_of f in
      let a₁ = same 1 (sym f) in let a₀ = other 0 (λ y. omega arith) in let a₂ = other 2 (λ y. omega arith) in omega arith)
      (λ m. let f : d ≡ 2 = omega arith in let b : bit_of d ≡ 4 = ap bit_of f in
      let a₂ = same 2 (sym f) in let a₀ = other 0 (λ y. omega arith) in let a₁ = other 1 (λ y. omega arith) in omega arith))

  sum_else : (q : ℕ) → q < B.graph.tiles → q ≢ p → sum (New q 0) (New q 1) (New q 2) ≡ sum (Old q 0) (Old q 1) (Old q 2)
  sum_else q below n =
      let a : (e : ℕ) → New q e ≡ Old q e = λ e. other_arrival q e below (λ y. n y.0) in
      let a₀ = a 0 in let a₁ = a 1 in let a₂ = a 2 in omega arith

  no_less : (q e : ℕ) → S q e ≤ S' q e
  no_less q e = dite (ℕ_discrete q t)
      (λ (z : q ≡ t). dite (ℕ_discrete e d)
      (λ (f : e ≡ d). subst (λ (y : ℕ × ℕ). S y.0 y.1 ≤ S' y.0 y.1) (λ i. (sym z i, sym f i)) (let h = ct.here in
      let g : S t d ≤ S' t d = omega arith in g))
      (λ n. let h = ct.else q e (λ y. n y.1) in omega arith))
      (λ n. let h = ct.else q e (λ y. n y.0) in omega arith)

  pub sent_tile : slice_index ws' p ≡ slice_index ws p + bit_of d → ((q : ℕ) → q ≢ p → slice_index ws' q ≡ slice_index ws q)
      → (q : ℕ) → q < B.graph.tiles → TileOk B ws' hs' L' P' S' q
  sent_tile word words q below =
      let small = (W.there t d p near goes).2 in let c = all q below in let l = ct.listed q in let m = ct.posted q in
      record {
        word = let y = c.word in dite (ℕ_discrete q p)
            (λ (z : q ≡ p). let x = sum_here small q below z in
            let w : slice_index ws' q ≡ slice_index ws q + bit_of d = ap (slice_index ws') z ∙ word ∙ ap
            (λ (u : ℕ). slice_index ws u + bit_of d) (sym z) in
            omega arith)
            (λ n. let x = sum_else q below n in let w = words q n in omega arith);
        once = let y = c.once in omega arith;
        needs = λ e x f. let y = c.needs e x f in let z = no_less x e in omega arith;
        edges = λ e h. edge q e h (omega arith) (c.edges e h);
      }

picks : (a : ℕ → ℕ) (d : ℕ) → d < 3 → pick d (a 0) (a 1) (a 2) ≡ a d
picks a zero h = refl
picks a (suc zero) h = refl
picks a (suc (suc zero)) h = refl
picks a (suc (suc (suc d))) h = absurd (omega arith)

sent : (B : Setting) (W : IsGraph B.graph) (s : State Cell View) (r : Ruled B s) (id : ℕ) (v : View) (t d p : ℕ) → t < B.graph.tiles
    → get_elem? s.views id ≡ some v → 1 ≤ v.parts → v.held ≡ Some t → has d v.sent ≡ false → B.graph.next t d ≡ Some p
    → Ruled B record {
      words = set s.words p (bit_or (slice_index s.words p) (bit_of d));
      homes = set s.homes (4 * t + d) (some (B.content t d));
      views = set s.views id (sent_view v d);
    }
sent B W s r id v t d p near at part held still goes =
    let th = W.there t d p near goes in let small = th.2 in let x : ℕ = slice_index s.words p in let w : View = sent_view v d in
    let o = mine B s r id v at part in let b = bits B W s r p th.0 in let vs : List View = set s.views id w in
    let hs : Row = set s.homes (4 * t + d) (some (B.content t d)) in
    let L : ℕ → ℕ = λ q. total (lists q) s.views in let L' : ℕ → ℕ = λ q. total (lists q) vs in
    let P : ℕ → ℕ = λ q. total (posts q) s.views in let P' : ℕ → ℕ = λ q. total (posts q) vs in
    let S : ℕ → ℕ → ℕ = λ q d. total (sends q d) s.views in let S' : ℕ → ℕ → ℕ = λ q d. total (sends q d) vs in
    let once = (r.tiles t near).once in let at_least = total_at (lists t) s.views id v at in
    let hl = held_lists v t held t in let os = one_same t in let us = unsent_sends v d still t in
    let gap = total_gap (sends t d) (lists t) (sends_lists t d) s.views id v at in
    let unsent : S t d ≡ 0 = omega arith in let one : L t ≡ 1 = omega arith in
    let free : A B W s r p d ≡ 0 = ap (arrived (λ q. S q d)) th.3 ∙ unsent in
    let picked : pick d (A B W s r p 0) (A B W s r p 1) (A B W s r p 2) ≡ 0 = picks (A B W s r p) d small ∙ free in
    let more : bit_or x (bit_of d) ≡ x + bit_of d = or_bit d _ _ _ _ _ x b picked in
    let wide : p < length s.words = let e = r.wide in let f = th.0 in omega arith in
    let grows = grown s.words p (x + bit_of d) wide (grows_bit d _ _ _ _ _ x b picked) in
    let room : 4 * t + d < length s.homes = let e = r.roomy in omega arith in
    let ct : Counted L L' P P' S S' t d = record {
      here = total_more (sends t d) s.views id v w at (send_here v t d held still);
      else = λ q e n. total_same (sends q e) s.views id v w at (dite (ℕ_discrete e d)
          (λ (f : e ≡ d). subst (λ (y : ℕ). sends q y w ≡ sends q y v) (sym f) (send_else v t d held still q (λ z. n (z, f))))
          (λ f. send_other v d e q f));
      listed = λ q. total_same (lists q) s.views id v w at (send_lists v d q);
      posted = λ q. total_same (posts q) s.views id v w at (send_posts v d q);
      sent_listed = λ q e. all_sends_lists q e s.views;
      posted_sent = λ q e. all_posts_sends q e s.views;
    } in
    subst (λ (y : ℕ). Ruled B record { words = set s.words p y; homes = hs; views = vs }) (sym more)
    (rebuilt B s r id v w (set s.words p (x + bit_of d)) hs at (length-set s.words p (x + bit_of d))
    (length-set s.homes (4 * t + d) (some (B.content t d))) refl grows
    (view_more B.slab s.words (set s.words p (x + bit_of d)) (length s.views) id w grows
    record { number = o.number; made = o.made; board = o.board; some_part = o.some_part; numbers = o.numbers; sees = o.sees })
    (λ q far. send_lists v d q)
    (λ q below. sent_tile B W s.words (set s.words p (x + bit_of d)) s.homes hs L L' P P' S S' t d p near goes ct
    (set_here s.homes (4 * t + d) (some (B.content t d)) room)
    (λ k n. set_else s.homes (4 * t + d) k (some (B.content t d)) n) unsent one r.tiles
    (get_or-set_same s.words p (x + bit_of d) 0 wide) (λ q ne. get_or-set_other s.words p q (x + bit_of d) 0 ne) q below))

pub sends_step : (B : Setting) (W : IsGraph B.graph) (k id : ℕ) (me : Me Cell View) (d to : ℕ) → 1 ≤ me.0.parts → MaySend B me d to
    → Allows (Ruled B) k id me to (λ x. bit_or x (bit_of d)) (λ _ n. SentTo d me n)
sends_step B W k id me d to part may =
    let hand : List (ℕ × Cell) = (4 * may.from + d, B.content may.from d) ∷ rest me.1 in
    subst (λ (c : List (ℕ × Cell)). Allows (Ruled B) k id (me.0, c) to (λ x. bit_or x (bit_of d))
    (λ _ n. n ≡ (sent_view me.0 d, rest c))) (sym may.edge)
    (λ s r wide at _.
    (sent_view me.0 d, gives, tt, sent B W s r id me.0 may.from d to may.inside at part may.holds may.unsent may.goes, refl))
