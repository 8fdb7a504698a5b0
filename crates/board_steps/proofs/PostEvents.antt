-- A post shows as the core's event.
use Rattle.std.proofs.Common.{◌≡◌, ℕ, ◌<◌, true, List, set, sym, ap, ◌∙◌, subst, arith, Some}
use mathlib.Core.Logic.{dite}
use native.Mathlib.Decide.{ℕ_discrete}
use Rattle.atomic_table.specs.Table.{State}
use Rattle.atomic_table.proofs.Lists.{set_here}
use Rattle.board_core.specs.States.{sent}
use Rattle.board_core.specs.Steps.{Gives, IsAccepted}
use Rattle.board_core.specs.declared.events.CoreFault.TheVariants as fault
use Rattle.board_core.specs.declared.events.Event.TheVariants as event
use Rattle.board_core.specs.declared.tiles.Status.TheVariants.{Waiting, Posted}
use Rattle.board_core.specs.declared.tiles.TileState.{TileState}
use Rattle.tile_lanes.specs.Done.{window_of}
use Rattle.tile_shape.specs.Geometry.{IsTile}
use Rattle.tile_shape.specs.declared.tiles.Dir.{Dir}
use Rattle.tile_shape.specs.declared.tiles.Place.{Place}
use Rattle.board_steps.specs.declared.rule.View.{View}
use Rattle.board_steps.specs.declared.rule.Slab.{Slab}
use Rattle.board_steps.specs.declared.rule.Cell.{Cell}
use Rattle.board_core.specs.Numbers.{number_of}
use Rattle.board_steps.specs.Rule.{setting_of, lists, sends, total}
use Rattle.board_steps.specs.Shown.{IsEvent, Moves, shown, status}
use Rattle.board_steps.specs.Steps.{AllSent, index_of, posted_view}
use Rattle.board_steps.proofs.Totals.{total_at, all_sends_lists}
use Rattle.board_steps.proofs.Views.{sent_sends, held_lists, one_same, post_lists, post_sends_sent, post_sends_else}
use Rattle.board_steps.proofs.Moves.{at_below}
use Rattle.board_steps.proofs.Places.{gives_next}
use Rattle.board_core.proofs.Numbers.{number_below}
use Rattle.board_steps.proofs.Statuses.{status_same, status_only, posted_own, posted_else}
use Rattle.board_steps.proofs.Showing.{flag_same, tile_is, shown_set}
use Rattle.board_steps.proofs.Events.{true_false, sum_same, few, few_after, is_sent, held_status}

module _ (b : Slab) (s s' : State Cell View) (id : ℕ) (v : View) (p : Place) (tile : IsTile (window_of b.rows.value) p)
    (held : v.held ≡ Some (number_of (window_of b.rows.value) p)) (done : AllSent (setting_of b).graph (number_of
    (window_of b.rows.value) p) v)
    (m : Moves b s s' id v (posted_view v (number_of (window_of b.rows.value) p))) where
  abbrev t : ℕ
  t = number_of (window_of b.rows.value) p

  abbrev w : View
  w = posted_view v t

  near : t < (setting_of b).graph.tiles
  near = number_below (window_of b.rows.value) p tile

  -- the sends of edges that tiles receive
  posts_stay : (n d x : ℕ) → (setting_of b).graph.next n d ≡ Some x → total (sends n d) s'.views ≡ total (sends n d) s.views
  posts_stay n d x goes = sum_same b s s' id v w m (sends n d) (dite (ℕ_discrete n t)
      (λ (z : n ≡ t). subst (λ (y : ℕ). sends y d w ≡ sends y d v) (sym z)
      (post_sends_sent v t d held (done d x (ap (λ (y : ℕ). (setting_of b).graph.next y d) (sym z) ∙ goes))))
      (λ ne. post_sends_else v t n d held ne))

  post_sent : (to : Place) (d : Dir) → Gives (window_of b.rows.value) p d to → sent (shown b s) p d ≡ true
  post_sent to d g =
      let a = sent_sends v t (index_of d) held (done (index_of d) (number_of (window_of b.rows.value) to) (gives_next
      (window_of b.rows.value) p to d g)) t in
      let one = one_same t in let at_least = total_at (sends t (index_of d)) s.views id v m.at in
      let f = few b s s' id v w m t near in let l = all_sends_lists t (index_of d) s.views in
      is_sent b s s' id v w m p to d g (omega arith)

  post_accepted : IsAccepted (shown b s) (event.Post p v.number)
  post_accepted fault.NoSuchTile h = h tile
  post_accepted fault.Taken h = h
  post_accepted fault.NotReady h = h
  post_accepted fault.NotYours h = h (held_status b s s' id v w m p tile held)
  post_accepted fault.Sent h = h
  post_accepted fault.Unsent h = let o = h.1 in true_false (sym (post_sent o.to h.0 o.gives) ∙ o.unsent)

  posted_status_is : status t (set s.views id w) ≡ Posted v.number
  posted_status_is =
      let lw = post_lists v t held t in let hl = held_lists v t held t in let os = one_same t in
      let after = ap (λ (l : List View). total (lists t) l) m.views in let f = few_after b s s' id v w m t near in
      status_only t (set s.views id w) id w (set_here s.views id w (at_below s.views id v m.at)) (omega arith) (omega arith)
      ∙ posted_own v t Waiting

  pub post_event : IsEvent b s s' (event.Post p v.number)
  post_event =
      let at = sym (tile_is b s m.before p tile) in
      record {
        accepted = post_accepted;
        is = shown_set b s s' m.before m.after p _ tile (λ i. record {
          status = (ap (status t) m.views ∙ posted_status_is) i;
          right = (flag_same b s s' m.before m.after t 0 near (posts_stay t 0) ∙ ap (λ (x : TileState). x.right) at) i;
          bottom = (flag_same b s s' m.before m.after t 1 near (posts_stay t 1) ∙ ap (λ (x : TileState). x.bottom) at) i;
          corner = (flag_same b s s' m.before m.after t 2 near (posts_stay t 2) ∙ ap (λ (x : TileState). x.corner) at) i;
        })
            (λ n _ ne. ap (status n) m.views ∙ status_same n s.views id v w m.at (posted_else v t n held ne))
            (λ n d ne. posts_stay n d);
      }
