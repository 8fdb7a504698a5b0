-- A count of parts leaves the board as it is, and two passes have no more parts than the board.
use Rattle.std.proofs.Common.{◌≡◌, ℕ, zero, suc, ◌+◌, ◌≤◌, List, [], ◌∷◌, get_or, set, refl, sym, ap, subst, arith}
use Rattle.atomic_table.specs.Table.{State, Me, keeps, Allows}
use Rattle.atomic_table.proofs.Lists.{set_again}
use Rattle.board_steps.specs.declared.rule.View.{View}
use Rattle.board_steps.specs.declared.rule.Slab.{Slab}
use Rattle.board_steps.specs.declared.rule.Cell.{Cell}
use Rattle.board_steps.specs.Rule.{Ruled, Setting, spent}
use Rattle.board_steps.specs.Shown.{Joins}
use Rattle.board_steps.specs.Steps.{Counted, joined_view}
use Rattle.board_steps.proofs.Totals.{total_at}
use Rattle.board_steps.proofs.Passes.{two_parts}

-- a word written again
same_word : (ws : List ℕ) (i : ℕ) → set ws i (get_or ws i 0) ≡ ws
same_word [] i = refl
same_word (x ∷ xs) zero = refl
same_word (x ∷ xs) (suc i) = ap (λ (l : List ℕ). x ∷ l) (same_word xs i)

pub counts : (B : Setting) (k id : ℕ) (me : Me Cell View) (t : ℕ) → Allows (Ruled B) k id me t (λ x. x) (λ r n. Counted me n)
counts B k id me t s r wide at _ =
    let few = total_at (λ v. v.parts) s.views id me.0 at in
    let all = r.parts in (
      me.0,
      keeps,
      tt,
      subst (λ (x : State Cell View). Ruled B x)
          (λ i. record {
            words = sym (same_word s.words t) i;
            homes = s.homes;
            views = sym (set_again s.views id me.0 at) i;
          })
          r,
      (refl, omega arith),
    )

pub parts_added : (b : Slab) (s s' : State Cell View) (id other : ℕ) (v u : View) → Joins b s s' id other v u (joined_view v u) spent
    → ((joined_view v u).parts ≡ v.parts + u.parts) × (v.parts + u.parts ≤ 256)
parts_added b s s' id other v u j = grind (arith, two_parts)
