-- A split and a join keep the rule.
use Rattle.std.proofs.Common.{◌≡◌, ◌≢◌, ℕ, zero, suc, ◌+◌, ◌-◌, ◌≤◌, ◌⊎◌, inl, inr, ⊎_elim, List, [], ◌∷◌, ◌++◌, length, set, refl}
use Rattle.std.proofs.Common.{sym, ap, ◌∙◌, subst, arith, length-set, length-append, None}
use mathlib.Core.Option.{some, some-ne-none, some-injective}
use lib.ListN.{get_elem?}
use Rattle.atomic_table.specs.Table.{State, Splits, Joins}
use Rattle.atomic_table.proofs.Lists.{at_set, set_else}
use Rattle.board_steps.specs.declared.rule.View.{View}
use Rattle.board_steps.specs.declared.rule.Cell.{Cell}
use Rattle.board_steps.specs.Rule.{Setting, spent, posts, sends, lists, total, Numbered, ViewOk, Ruled}
use Rattle.board_steps.specs.Steps.{kept_view, new_view, joined_view}
use Rattle.board_steps.proofs.Totals.{total_set, total_at, total_snoc}
use Rattle.board_steps.proofs.Views.{cut_lists, cut_sends, cut_posts, spent_lists, spent_sends, spent_posts, joined_lists, joined_sends}
use Rattle.board_steps.proofs.Views.{joined_posts}
use Rattle.board_steps.proofs.Moves.{at_below, mine, same_counts}

Numbered-more : (a b : ℕ) → a ≤ b → (l : List (ℕ × ℕ)) → Numbered a l → Numbered b l
Numbered-more a b h [] k = tt
Numbered-more a b h (x ∷ xs) k = let y = k.0 in (omega arith, Numbered-more a b h xs k.1)

Numbered-append : (a : ℕ) (l m : List (ℕ × ℕ)) → Numbered a l → Numbered a m → Numbered a (l ++ m)
Numbered-append a [] m h k = k
Numbered-append a (x ∷ xs) m h k = (h.0, Numbered-append a xs m h.1 k)

-- the split
pub total_cut : (f : View → ℕ) (views : List View) (id : ℕ) (v l k : View) → get_elem? views id ≡ some v → f l + f k ≡ f v
    → total f (set views id l ++ k ∷ []) ≡ total f views
total_cut f views id v l k at e = let a = total_snoc f (set views id l) k in let b = total_set f views id v l at in omega arith

at_end : {A : Type 0} (l : List A) (a b : A) (j : ℕ) → get_elem? (l ++ a ∷ []) j ≡ some b
    → (get_elem? l j ≡ some b) ⊎ ((j ≡ length l) × (a ≡ b))
at_end [] a b zero e = inr (refl, some-injective a b e)
at_end [] a b (suc j) e = absurd (some-ne-none b (sym e))
at_end (x ∷ xs) a b zero e = inl e
at_end (x ∷ xs) a b (suc j) e = ⊎_elim (λ (z : get_elem? xs j ≡ some b). inl z)
    (λ (z : (j ≡ length xs) × (a ≡ b)). inr (ap suc z.0, z.1)) (at_end xs a b j e)

abbrev Fine : Setting → State Cell View → ℕ → ℕ → View → Type 0
Fine B s count j u = (u ≡ spent) ⊎ ViewOk B.slab s.words count j u

fine_at : (B : Setting) (s : State Cell View) (count j k : ℕ) (u w : View) → j ≡ k → w ≡ u → Fine B s count k w → Fine B s count j u
fine_at B s count j k u w e is h = subst (λ (y : ℕ × View). Fine B s count y.0 y.1) (λ i. (sym e i, is i)) h

pub splits : (B : Setting) (id : ℕ) (v : View) → 2 ≤ v.parts → v.number ≡ 0 → Splits (Ruled B) id v (kept_view v) (new_view v)
splits B id v parts first s r at =
    let l : View = kept_view v in let k : View = new_view v in let vs : List View = set s.views id l in
    let all : List View = vs ++ k ∷ [] in
    let o = mine B s r id v at (omega arith) in let n : ℕ = length s.views in
    let here : id ≡ 0 = sym o.number ∙ first in let count : v.made ≡ n = o.made here in
    let long : length vs ≡ n = length-set s.views id l in let longer : length all ≡ n + 1 = length-append vs (k ∷ []) ∙ (omega arith) in
    let some_view = at_below s.views id v at in
    let next : ViewOk B.slab s.words (length all) (length vs) k = record {
      number = count ∙ sym long;
      made = λ z. absurd (omega arith);
      board = o.board;
      some_part = let p : k.parts ≡ 1 = refl in omega arith;
      numbers = tt;
      sees = tt;
    } in
    let old : ViewOk B.slab s.words (length all) id l = record {
      number = o.number;
      made = λ _. (let m : l.made ≡ v.made + 1 = refl in omega arith);
      board = o.board;
      some_part = (let p : l.parts ≡ v.parts - 1 = refl in omega arith);
      numbers = Numbered-more n (length all) (omega arith) v.mine o.numbers;
      sees = o.sees;
    } in
    let others : (j : ℕ) (u : View) → j ≢ id → get_elem? s.views j ≡ some u → Fine B s (length all) j u =
    λ j u ne e. ⊎_elim (λ (z : u ≡ spent). inl z)
    (λ (z : ViewOk B.slab s.words n j u). inr record {
      number = z.number;
      made = λ zero_place. absurd (ne (zero_place ∙ sym here));
      board = z.board;
      some_part = z.some_part;
      numbers = Numbered-more n (length all) (omega arith) u.mine z.numbers;
      sees = z.sees;
    }) (r.views j u e) in
    record {
      wide = r.wide;
      roomy = r.roomy;
      inside = λ p far. total_cut (lists p) s.views id v l k at (cut_lists v p) ∙ r.inside p far;
      tiles = same_counts B s r all (λ q. total_cut (lists q) s.views id v l k at (cut_lists v q))
          (λ q d. total_cut (sends q d) s.views id v l k at (cut_sends v q d))
          (λ q. total_cut (posts q) s.views id v l k at (cut_posts v q));
      parts = total_cut (λ u. u.parts) s.views id v l k at (let a : l.parts ≡ v.parts - 1 = refl in
          let c : k.parts ≡ 1 = refl in omega arith) ∙ r.parts;
      views = λ j u e. ⊎_elim
          (λ (z : get_elem? vs j ≡ some u). ⊎_elim (λ (x : (j ≡ id) × (l ≡ u)). fine_at B s (length all) j id u l x.0 x.1 (inr old))
          (λ (x : (j ≢ id) × (get_elem? s.views j ≡ some u)). others j u x.0 x.1) (at_set s.views id j l u z))
          (λ (z : (j ≡ length vs) × (k ≡ u)). fine_at B s (length all) j (length vs) u k z.0 z.1 (inr next))
          (at_end vs k u j e);
    }

-- the join
pub total_join : (f : View → ℕ) (views : List View) (id other : ℕ) (v u w : View) → get_elem? views id ≡ some v
    → get_elem? (set views id w) other ≡ some u → f w ≡ f v + f u → f spent ≡ 0 → total f (set (set views id w) other spent) ≡ total f views
total_join f views id other v u w at at' e z = let a = total_set f views id v w at in
    let b = total_set f (set views id w) other u spent at' in omega arith

-- two views together have at most 256 parts
pub two_parts : (views : List View) (id other : ℕ) (v u : View) → get_elem? views id ≡ some v → get_elem? views other ≡ some u → other ≢ id
    → v.parts + u.parts ≤ total (λ y. y.parts) views
two_parts views id other v u at there ne =
    let a = total_set (λ y. y.parts) views id v spent at in let z : spent.parts ≡ 0 = refl in
    let b = total_at (λ y. y.parts) (set views id spent) other u (set_else views id other spent ne ∙ there) in omega arith

pub joins : (B : Setting) (id other : ℕ) (v u : View) → 1 ≤ v.parts → 1 ≤ u.parts → u.held ≡ None
    → Joins (Ruled B) id v other u (joined_view v u) spent
joins B id other v u part part' idle s r at ne at' =
    let w : View = joined_view v u in let vs : List View = set s.views id w in let all : List View = set vs other spent in
    let n : ℕ = length s.views in let long : length vs ≡ n = length-set s.views id w in
    let longer : length all ≡ n = length-set vs other spent ∙ long in
    let there : get_elem? s.views other ≡ some u = sym (set_else s.views id other w ne) ∙ at' in let o = mine B s r id v at part in
    let o' = mine B s r other u there part' in
    let both : ViewOk B.slab s.words n id w = record {
      number = o.number;
      made = o.made;
      board = o.board;
      some_part = (let p : w.parts ≡ v.parts + u.parts = refl in omega arith);
      numbers = Numbered-append n v.mine u.mine o.numbers o'.numbers;
      sees = o.sees;
    } in
    let l : (q : ℕ) → total (lists q) all ≡ total (lists q) s.views = λ q. total_join (lists q) s.views id other v u w at at'
    (joined_lists v u idle q) (spent_lists q) in
    record {
      wide = r.wide;
      roomy = r.roomy;
      inside = λ p far. l p ∙ r.inside p far;
      tiles = same_counts B s r all l (λ q d. total_join (sends q d) s.views id other v u w at at' (joined_sends v u idle q d)
          (spent_sends q d)) (λ q. total_join (posts q) s.views id other v u w at at' (joined_posts v u q) (spent_posts q));
      parts = total_join (λ y. y.parts) s.views id other v u w at at' refl refl ∙ r.parts;
      views = λ j y e. subst (λ (c : ℕ). Fine B s c j y) (sym longer) (⊎_elim
          (λ (x : (j ≡ other) × (spent ≡ y)). inl (sym x.1))
          (λ (x : (j ≢ other) × (get_elem? vs j ≡ some y)). ⊎_elim (λ (z : (j ≡ id) × (w ≡ y)). fine_at B s n j id y w z.0 z.1 (inr both))
          (λ (z : (j ≢ id) × (get_elem? s.views j ≡ some y)). r.views j y z.1) (at_set s.views id j w y x.1))
          (at_set vs other j spent y e));
    }
