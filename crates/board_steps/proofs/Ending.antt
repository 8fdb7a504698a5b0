-- The rule holds when a board is made; and what its slots have when all tiles are posted.
use Rattle.std.proofs.Common.{◌≡◌, ℕ, zero, suc, ◌+◌, ◌*◌, ◌<◌, ◌≤◌, lit≤, ◌⊎◌, inr, List, [], ◌∷◌, ◌++◌, length, get_or, map, replicate}
use Rattle.std.proofs.Common.{refl, sym, ap, ◌∙◌, subst, arith, length-append, Option, Some, None}
use mathlib.Core.Logic.{dite}
use native.Mathlib.Decide.{ℕ_discrete}
use mathlib.Core.Option.{some, some-injective, some-ne-none}
use lib.ListN.{get_elem?, length-map, length-replicate}
use Rattle.atomic_table.specs.Table.{opening, Final, Seen}
use Rattle.board_steps.specs.declared.rule.View.{View}
use Rattle.board_steps.specs.declared.rule.Slab.{Slab}
use Rattle.board_steps.specs.declared.rule.Cell.{Cell}
use Rattle.board_steps.specs.Rule.{Setting, arrived, times, posts, sends, lists, total, EdgeIs, Home, ViewOk, Ruled, spent, first_view}
use Rattle.board_steps.specs.Rule.{setting_of}
use Rattle.board_steps.specs.Steps.{fresh_slots}
use Rattle.board_steps.proofs.Views.{plain_posts}
use Rattle.board_steps.proofs.Totals.{total_at, sends_lists, posts_sends, all_sends_lists, all_posts_sends}
use Rattle.board_steps.proofs.Moves.{Row}

-- ---- the end

pub record Closes (B : Setting) (v : View) (ys : List Cell) : Type 0 where
  pub once : (t : ℕ) → t < B.graph.tiles → times t v.mine ≡ 1
  pub gives : (t d : ℕ) → t < B.graph.tiles → d < 4 → B.graph.next t d ≡ None → get_elem? ys (4 * t + d) ≡ some (B.content t d)

pub closes : (B : Setting) (id : ℕ) (v : View) (ws : List ℕ) (ys : List Cell) → Final (Seen (Ruled B) id v) ws ys
    → ((t : ℕ) → t < B.graph.tiles → 1 ≤ times t v.mine) → Closes B v ys
closes B id v ws ys fin all =
    let s = fin.0 in let r : Ruled B s = fin.1.0 in let at = fin.1.1 in let home = fin.4 in
    let counts : (t : ℕ) → t < B.graph.tiles → (times t v.mine ≡ 1) × (total (posts t) s.views ≡ 1) = λ t h.
    let a = all t h in let b = total_at (posts t) s.views id v at in let c = plain_posts t v in let d = (r.tiles t h).once in
    let e = all_sends_lists t 0 s.views in let f = all_posts_sends t 0 s.views in (omega arith, omega arith) in
    record {
      once = λ t h. (counts t h).0;
      gives = λ t d h small none. home (4 * t + d) (B.content t d)
          ((subst (EdgeIs (λ q. total (lists q) s.views)
          (λ q. total (posts q) s.views) (total (sends t d) s.views) (B.fresh t d) (B.content t d)
          (get_elem? s.homes (4 * t + d)) t) none ((r.tiles t h).edges d small)).done (counts t h).1);
    }

-- ---- the start

-- a board of one view, which lists nothing
only_total : (f : View → ℕ) (v : View) → f v ≡ 0 → total f (v ∷ []) ≡ 0
unfolding total
only_total f v e = omega arith

first_lists : (b : Slab) (t : ℕ) → lists t (first_view b) ≡ 0
unfolding lists
first_lists b t = refl

first_parts : (b : Slab) → total (λ v. v.parts) (first_view b ∷ []) ≡ 256
unfolding total
first_parts b = refl

zeros : (n i : ℕ) → get_or (replicate {A = ℕ} n 0) i 0 ≡ 0
zeros zero i = refl
zeros (suc n) zero = refl
zeros (suc n) (suc i) = zeros n i

at_left : (l m : List Cell) (i : ℕ) → i < length l → get_elem? (l ++ m) i ≡ get_elem? l i
at_left [] m i near = absurd (omega arith)
at_left (x ∷ l) m zero near = refl
at_left (x ∷ l) m (suc i) near = at_left l m i (omega arith)

at_right : (l m : List Cell) (i : ℕ) → get_elem? (l ++ m) (length l + i) ≡ get_elem? m i
at_right [] m i = ap (get_elem? m) (let e : 0 + i ≡ i = omega arith in e)
at_right (x ∷ l) m i = ap (get_elem? (x ∷ (l ++ m))) (let e : suc (length l) + i ≡ suc (length l + i) = omega arith in e) ∙ at_right l m i

at_mapped : (l : List Cell) (i : ℕ) (x : Cell) → get_elem? l i ≡ some x → get_elem? (map some l) i ≡ some (some x)
at_mapped [] i x e = absurd (some-ne-none x (sym e))
at_mapped (y ∷ l) zero x e = ap some e
at_mapped (y ∷ l) (suc i) x e = at_mapped l i x e

fresh_long : (f : ℕ → ℕ → Cell) (n : ℕ) → length (fresh_slots f n) ≡ 4 * n
fresh_long f zero = refl
fresh_long f (suc n) = let e = length-append (fresh_slots f n) (f n 0 ∷ f n 1 ∷ f n 2 ∷ f n 3 ∷ []) in
    let r = fresh_long f n in omega arith

four : (f : ℕ → Cell) (d : ℕ) → d < 4 → get_elem? (f 0 ∷ f 1 ∷ f 2 ∷ f 3 ∷ []) d ≡ some (f d)
four f zero h = refl
four f (suc zero) h = refl
four f (suc (suc zero)) h = refl
four f (suc (suc (suc zero))) h = refl
four f (suc (suc (suc (suc d)))) h = absurd (omega arith)

fresh_at : (f : ℕ → ℕ → Cell) (n t d : ℕ) → t < n → d < 4 → get_elem? (fresh_slots f n) (4 * t + d) ≡ some (f t d)
fresh_at f zero t d near small = absurd (omega arith)
fresh_at f (suc n) t d near small =
    let l : List Cell = fresh_slots f n in let m : List Cell = f n 0 ∷ f n 1 ∷ f n 2 ∷ f n 3 ∷ [] in
    let long : length l ≡ 4 * n = fresh_long f n in
    dite (ℕ_discrete t n)
    (λ (e : t ≡ n). let i : 4 * t + d ≡ length l + d = omega arith in
    ap (get_elem? (l ++ m)) i ∙ at_right l m d ∙ four (f n) d small ∙ ap (λ (z : ℕ). some (f z d)) (sym e))
    (λ ne. at_left l m (4 * t + d) (omega arith) ∙ fresh_at f n t d (omega arith) small)

opens : (B : Setting) → Ruled B (opening (replicate B.graph.tiles 0) (fresh_slots B.fresh B.graph.tiles) (first_view B.slab))
opens B =
    let n : ℕ = B.graph.tiles in let v : View = first_view B.slab in let vs : List View = v ∷ [] in
    let hs : Row = map some (fresh_slots B.fresh n) in
    let l : (t : ℕ) → total (lists t) vs ≡ 0 = λ t. only_total (lists t) v (first_lists B.slab t) in
    let s : (t d : ℕ) → total (sends t d) vs ≡ 0 = λ t d. only_total (sends t d) v (let a = sends_lists t d v in
    let b = first_lists B.slab t in omega arith) in
    let p : (t : ℕ) → total (posts t) vs ≡ 0 = λ t. only_total (posts t) v
    (let a = posts_sends t 0 v in let b = sends_lists t 0 v in let c = first_lists B.slab t in omega arith) in
    let a : (d : ℕ) (o : Option ℕ) → arrived (λ q. total (sends q d) vs) o ≡ 0 = λ d o. none_arrived (λ q. total (sends q d) vs)
    (λ q. s q d) o in
    record {
      wide = length-replicate n 0;
      roomy = length-map (fresh_slots B.fresh n) some ∙ fresh_long B.fresh n;
      inside = λ t far. l t;
      tiles = λ t near. let lt = l t in let pt = p t in let z = zeros n t in record {
        word = let a₀ = a 0 (B.graph.from t 0) in let a₁ = a 1 (B.graph.from t 1) in let a₂ = a 2 (B.graph.from t 2) in omega arith;
        once = omega arith;
        needs = λ d q e. omega arith;
        edges = λ d small. edge (λ q. total (lists q) vs) (λ q. total (posts q) vs) (total (sends t d) vs) (B.fresh t d) (B.content t d)
            (get_elem? hs (4 * t + d)) t l p (s t d) (at_mapped (fresh_slots B.fresh n) (4 * t + d) (B.fresh t d)
            (fresh_at B.fresh n t d near small)) (B.graph.next t d);
      };
      parts = first_parts B.slab;
      views = λ k u e. first k u e;
    }
  where
    none_arrived : (f : ℕ → ℕ) → ((q : ℕ) → f q ≡ 0) → (o : Option ℕ) → arrived f o ≡ 0
    none_arrived f e None = refl
    none_arrived f e (Some q) = e q

    edge : (L P : ℕ → ℕ) (s : ℕ) (f x : Cell) (h : Home) (t : ℕ) → ((q : ℕ) → L q ≡ 0) → ((q : ℕ) → P q ≡ 0) → s ≡ 0 → h ≡ some (some f)
        → (o : Option ℕ) → EdgeIs L P s f x h t o
    edge L P s f x h t l p z e None = let lt = l t in let pt = p t in
        record { fresh = λ _. e; out = λ i j. absurd (omega arith); done = λ i. absurd (omega arith) }
    edge L P s f x h t l p z e (Some q) = let lt = l t in let lq = l q in let pq = p q in record {
      fresh = λ _. e;
      out = λ i j. absurd (omega arith);
      sent = λ i j. absurd (omega arith);
      read = λ i j. absurd (omega arith);
      done = λ i. absurd (omega arith);
    }

    first : (k : ℕ) (u : View) → get_elem? (first_view B.slab ∷ []) k ≡ some u
        → (u ≡ spent) ⊎ ViewOk B.slab (replicate B.graph.tiles 0) 1 k u
    first zero u e = inr (subst (ViewOk B.slab (replicate B.graph.tiles 0) 1 0) (some-injective _ _ e)
        record { number = refl; made = λ _. refl; board = refl; some_part = lit≤ tt; numbers = tt; sees = tt })
    first (suc k) u e = absurd (some-ne-none u (sym e))

pub opened : (b : Slab) (ws : List ℕ) (ss : List Cell) → ws ≡ replicate (setting_of b).graph.tiles 0
    → ss ≡ fresh_slots (setting_of b).fresh (setting_of b).graph.tiles → Ruled (setting_of b) (opening ws ss (first_view b))
opened b ws ss f g = subst (λ (z : List ℕ × List Cell). Ruled (setting_of b) (opening z.0 z.1 (first_view b)))
    (λ i. (sym f i, sym g i)) (opens (setting_of b))

pub opened_slots : (b : Slab) (ss : List Cell) (n : ℕ) → n ≡ length ss → ss ≡ fresh_slots (setting_of b).fresh (setting_of b).graph.tiles
    → n ≡ 4 * (setting_of b).graph.tiles
opened_slots b ss n e g = e ∙ ap length g ∙ fresh_long (setting_of b).fresh (setting_of b).graph.tiles
