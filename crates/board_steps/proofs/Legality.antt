-- The core that a state shows is legal.
use Rattle.std.proofs.Common.{◌≡◌, ◌≢◌, ℕ, ◌<◌, ◌≤◌, ◌⊎◌, inl, inr, eqb, eq-eqb, true, false, List, [], ◌∷◌, refl, sym, ap, ◌∙◌}
use Rattle.std.proofs.Common.{arith, Option, Some, None}
use mathlib.Core.Logic.{dite}
use native.Mathlib.Decide.{ℕ_discrete}
use Rattle.std.proofs.lemmas.Bool.{eqb-true}
use Rattle.atomic_table.specs.Table.{State}
use Rattle.board_core.proofs.Once.{sent_once}
use Rattle.board_core.specs.Legal.{Legal}
use Rattle.board_core.specs.States.{IsBegun, sent, tile_at}
use Rattle.board_core.specs.Steps.{Gives}
use Rattle.board_core.specs.declared.tiles.Status.{Status}
use Rattle.board_core.specs.declared.tiles.Status.TheVariants.{Waiting, Taken, Posted}
use Rattle.board_core.specs.declared.tiles.TileState.{TileState}
use Rattle.tile_lanes.specs.Done.{window_of}
use Rattle.tile_shape.specs.Geometry.{IsTile}
use Rattle.tile_shape.specs.declared.tiles.Dir.{Dir}
use Rattle.tile_shape.specs.declared.tiles.Place.{Place}
use Rattle.tile_shape.specs.declared.tiles.Shape.{Shape}
use Rattle.board_steps.specs.declared.rule.View.{View}
use Rattle.board_steps.specs.declared.rule.Slab.{Slab}
use Rattle.board_steps.specs.declared.rule.Cell.{Cell}
use Rattle.board_core.specs.Numbers.{number_of}
use Rattle.board_steps.specs.Rule.{setting_of, Ruled, lists, posts, sends, times, total}
use Rattle.board_steps.specs.Shown.{holds, own_status, posted_status, shown, status}
use Rattle.board_steps.specs.Steps.{index_of}
use Rattle.board_steps.proofs.Events.{true_false}
use Rattle.board_steps.proofs.Places.{gives_next, window_graph}
use Rattle.board_core.proofs.Numbers.{number_below}
use Rattle.board_steps.proofs.Showing.{given, sent_is, tile_is}
use Rattle.board_steps.proofs.Statuses.{status_none, status_only}
use Rattle.board_steps.proofs.Totals.{total_at, all_sends_lists, all_posts_sends}
use Rattle.board_steps.proofs.Views.{plain_posts}
use Rattle.board_steps.proofs.Wording.{of_lists, total_some}

-- ---- what a view that lists a tile says of it

-- it is not that the tile waits, and it is that it is posted only where the view has it posted
record Says (t : ℕ) (v : View) (x : Status) : Type 0 where
  begun : x ≢ Waiting
  posted : (n : ℕ) → x ≡ Posted n → 1 ≤ times t v.mine

posted_waits : {n : ℕ} → ¬ (Posted n ≡ Waiting)
posted_waits e = cc

mine_posted : (t : ℕ) (l : List (ℕ × ℕ)) (z : Status) → 1 ≤ times t l → posted_status t l z ≢ Waiting
mine_posted t [] z h = absurd (omega arith)
mine_posted t (x ∷ xs) z h = grind (arith, posted_waits, mine_posted t xs z)

taken_waits : {n : ℕ} → ¬ (Taken n ≡ Waiting)
taken_waits e = cc

taken_posted : {n m : ℕ} → ¬ (Taken n ≡ Posted m)
taken_posted e = cc

not_held : (t : ℕ) (o : Option ℕ) (n : ℕ) → holds t o ≡ false → (o ≡ Some t) ⊎ (1 ≤ n) → 1 ≤ n
not_held t o n f (inr h) = h
not_held t o n f (inl e) = absurd (true_false (sym (ap (holds t) e ∙ eq-eqb t t refl) ∙ f))

says : (t : ℕ) (v : View) → 1 ≤ lists t v → Says t v (own_status t v Waiting)
unfolding own_status
says t v one = grind (arith, mine_posted, not_held, of_lists, taken_posted, taken_waits)

-- ---- the core

module _ (b : Slab) (s : State Cell View) (r : Ruled (setting_of b) s) where
  abbrev shape : Shape
  shape = window_of b.rows.value

  -- the status of a tile that some view lists
  listed : (t : ℕ) → t < (setting_of b).graph.tiles → 1 ≤ total (lists t) s.views
      → (v : View) × (1 ≤ lists t v) × (status t s.views ≡ own_status t v Waiting)
      × (posts t v ≤ total (posts t) s.views)
  listed t near h =
      let o = total_some (lists t) s.views h in
      (o.1, o.3, status_only t s.views o.0 o.1 o.2 (r.tiles t near).once o.3, total_at (posts t) s.views o.0 o.1 o.2)

  status_is : (p : Place) → IsTile shape p → (tile_at (shown b s) p).status ≡ status (number_of shape p) s.views
  status_is p tile = ap (λ (x : TileState). x.status) (tile_is b s r p tile)

  begun : (p : Place) → IsTile shape p → 1 ≤ total (lists (number_of shape p)) s.views → IsBegun (shown b s) p
  begun p tile h waits =
      let l = listed (number_of shape p) (number_below shape p tile) h in
      (says (number_of shape p) l.0 l.1).begun (sym l.2 ∙ sym (status_is p tile) ∙ waits)

  begun_listed : (p : Place) → IsTile shape p → IsBegun (shown b s) p → 1 ≤ total (lists (number_of shape p)) s.views
  begun_listed p tile not = dite (ℕ_discrete (total (lists (number_of shape p)) s.views) 0)
      (λ (z : total (lists (number_of shape p)) s.views ≡ 0). absurd (not (status_is p tile ∙ status_none (number_of shape p) s.views z)))
      (λ n. omega arith)

  given_one : (o : Option ℕ) (n : ℕ) → given o n ≡ true → n ≡ 1
  given_one None n e = absurd (true_false (sym e))
  given_one (Some p) n e = eqb-true n 1 e

  sent_one : (p : Place) (d : Dir) → IsTile shape p → sent (shown b s) p d ≡ true
      → total (sends (number_of shape p) (index_of d)) s.views ≡ 1
  sent_one p d tile e = given_one _ _ (sym (sent_is b s r p d tile) ∙ e)

  one_sent : (p q : Place) (d : Dir) → Gives shape p d q → 1 ≤ total (sends (number_of shape p) (index_of d)) s.views
      → sent (shown b s) p d ≡ true
  one_sent p q d g h =
      let t : ℕ = number_of shape p in let f = (r.tiles t (number_below shape p g.source)).once in
      let l = all_sends_lists t (index_of d) s.views in
      sent_is b s r p d g.source ∙ ap (λ (o : Option ℕ). given o (total (sends t (index_of d)) s.views)) (gives_next shape p q d g)
      ∙ ap (λ (n : ℕ). eqb n 1) (let e : total (sends t (index_of d)) s.views ≡ 1 = omega arith in e)

  pub legal : Legal (shown b s)
  legal = record {
    source = λ from d tile is. begun from tile
        (let one = sent_one from d tile is in let l = all_sends_lists (number_of shape from) (index_of d) s.views in omega arith);
    needs = λ from to d g is. one_sent from to d g
        (let h = begun_listed to g.receiver is in
        let th = (window_graph shape).there (number_of shape from) (index_of d) (number_of shape to) (number_below shape from g.source)
        (gives_next shape from to d g) in
        let need = (r.tiles (number_of shape to) th.0).needs (index_of d) (number_of shape from) th.3 in omega arith);
    given = λ from to d g posted. one_sent from to d g
        (let t : ℕ = number_of shape from in
        let h = begun_listed from g.source (λ waits. posted_waits (sym posted.1 ∙ waits)) in
        let l = listed t (number_below shape from g.source) h in
        let m = (says t l.0 l.1).posted posted.0 (sym l.2 ∙ sym (status_is from g.source) ∙ posted.1) in
        let p = plain_posts t l.0 in let at = l.3 in let more = all_posts_sends t (index_of d) s.views in omega arith);
    once = sent_once (shown b s);
  }
