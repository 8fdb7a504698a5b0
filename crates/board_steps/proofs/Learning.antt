-- A look keeps the rule, and what a pass learns of a tile by its word.
use Rattle.std.proofs.Common.{◌≡◌, ℕ, ◌<◌, ◌≤◌, ⊎_elim, List, length, set, refl, sym, ap, ◌∙◌, subst, arith, Option, Some, None}
use mathlib.Core.Option.{some}
use lib.ListN.{get_elem?}
use Rattle.std.specs.Prelude.{slice_index}
use Rattle.atomic_table.specs.Table.{State, Me, keeps, Allows}
use Rattle.board_steps.specs.declared.rule.View.{View}
use Rattle.board_steps.specs.declared.rule.Cell.{Cell}
use Rattle.board_steps.specs.Graph.{IsGraph}
use Rattle.board_steps.specs.Rule.{Setting, arrived, spent, posts, sends, lists, total, Within, Sees, ViewOk, Ruled}
use Rattle.board_steps.specs.Steps.{looked, KnewIn, FoundIn, LookedIn}
use Rattle.board_steps.proofs.Bits.{bit_a, bit_b, bit_c, bit_t, bit_p, small}
use Rattle.board_steps.proofs.Views.{looked_lists, looked_sends, looked_posts, spent_lists}
use Rattle.board_steps.proofs.Totals.{total_at, total_same, total_alone}
use Rattle.board_steps.proofs.Moves.{mine, bits, Within-refl, same_words, rebuilt, same_counts}

pub sees_here : (words : ℕ → ℕ) (o : Option (ℕ × ℕ)) (p w : ℕ) → Sees words o → o ≡ Some (p, w) → Within w (words p)
sees_here words o p w h e = let x : Sees words (Some (p, w)) = subst (Sees words) e h in x

module _ (B : Setting) (W : IsGraph B.graph) (s : State Cell View) (r : Ruled B s) (id : ℕ) (v : View)
    (at : get_elem? s.views id ≡ some v) where
  knew_arrived : (d : ℕ) (o : Option ℕ) → arrived (λ q. sends q d v) o ≤ arrived (λ q. total (sends q d) s.views) o
  knew_arrived d None = omega arith
  knew_arrived d (Some q) = total_at (sends q d) s.views id v at

  -- each bit that the pass knew is set in the word
  knew : 1 ≤ v.parts → (t : ℕ) → t < B.graph.tiles → KnewIn B.graph v t (slice_index s.words t)
  knew part t near = let x : ℕ = slice_index s.words t in let b = bits B W s r t near in record {
    right = let e = bit_a _ _ _ _ _ x b in let k = knew_arrived 0 (B.graph.from t 0) in omega arith;
    bottom = let e = bit_b _ _ _ _ _ x b in let k = knew_arrived 1 (B.graph.from t 1) in omega arith;
    corner = let e = bit_c _ _ _ _ _ x b in let k = knew_arrived 2 (B.graph.from t 2) in omega arith;
    taken = let e = bit_t _ _ _ _ _ x b in let k = total_at (lists t) s.views id v at in omega arith;
    posted = let e = bit_p _ _ _ _ _ x b in let k = total_at (posts t) s.views id v at in omega arith;
    seen = λ w e. sees_here (slice_index s.words) v.seen t w (mine B s r id v at part).sees e;
  }

  -- where a pass has all parts, no other view lists a tile
  alone_lists : v.parts ≡ 256 → (t : ℕ) → total (lists t) s.views ≡ lists t v
  alone_lists all t = total_alone (lists t) (λ u. u.parts) s.views id v
      (λ k u at' none. ⊎_elim (λ (z : u ≡ spent). ap (lists t) z ∙ spent_lists t)
      (λ (z : ViewOk B.slab s.words (length s.views) k u). let q = z.some_part in absurd (omega arith)) (r.views k u at'))
      at (let e = r.parts in omega arith)

  pub found : 1 ≤ v.parts → (t : ℕ) → t < B.graph.tiles → FoundIn B.graph v t (slice_index s.words t)
  found part t near = let x : ℕ = slice_index s.words t in let b = bits B W s r t near in record {
    knew = knew part t near;
    alone = λ all. bit_t _ _ _ _ _ x b ∙ alone_lists all t;
    few = small _ _ _ _ _ x b;
  }

-- a look changes only what the view has seen
pub sees_looked : (B : Setting) (s : State Cell View) (r : Ruled B s) (id : ℕ) (v : View) (t : ℕ) → t < B.graph.tiles
    → get_elem? s.views id ≡ some v → 1 ≤ v.parts
    → Ruled B record {
      words = set s.words t (slice_index s.words t);
      homes = s.homes;
      views = set s.views id (looked v t
          (slice_index s.words t));
    }
sees_looked B s r id v t near at part =
    let x : ℕ = slice_index s.words t in let w : View = looked v t x in let o = mine B s r id v at part in
    let vs : List View = set s.views id w in
    let same : set s.words t x ≡ s.words = same_words s.words t (let e = r.wide in omega arith) in
    let kept = rebuilt B s r id v w s.words s.homes at refl refl refl (λ q. Within-refl (slice_index s.words q))
    record { number = o.number; made = o.made; board = o.board; some_part = o.some_part; numbers = o.numbers; sees = Within-refl x }
    (λ p _. looked_lists v t x p)
    (same_counts B s r vs (λ q. total_same (lists q) s.views id v w at (looked_lists v t x q))
    (λ q d. total_same (sends q d) s.views id v w at (looked_sends v t x q d))
    (λ q. total_same (posts q) s.views id v w at (looked_posts v t x q))) in
    subst (λ (ws : List ℕ). Ruled B record { words = ws; homes = s.homes; views = vs }) (sym same) kept

pub looks : (B : Setting) (W : IsGraph B.graph) (k id : ℕ) (me : Me Cell View) (t : ℕ) → t < B.graph.tiles → 1 ≤ me.0.parts
    → Allows (Ruled B) k id me t (λ x. x) (LookedIn B t me)
looks B W k id me t near part s r wide at _ = (
  looked me.0 t (slice_index s.words t),
  keeps,
  tt,
  sees_looked B s r id me.0 t near at part,
  (refl, found B W s r id me.0 at part t near),
)
