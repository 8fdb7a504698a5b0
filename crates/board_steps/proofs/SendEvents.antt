-- A send shows as the core's event.
use Rattle.std.proofs.Common.{◌≡◌, ℕ, ◌+◌, ◌<◌, eqb, true, false, sym, ap, ◌∙◌, subst, arith, Option, Some}
use mathlib.Core.Logic.{dite}
use native.Mathlib.Decide.{ℕ_discrete}
use Rattle.atomic_table.specs.Table.{State}
use Rattle.board_core.specs.States.{has_sent, tile_at}
use Rattle.board_core.specs.Steps.{Gives, IsAccepted, with_sent}
use Rattle.board_core.specs.declared.events.CoreFault.TheVariants as fault
use Rattle.board_core.specs.declared.events.Event.TheVariants as event
use Rattle.board_core.specs.declared.tiles.TileState.{TileState}
use Rattle.tile_lanes.specs.Done.{window_of}
use Rattle.tile_shape.specs.declared.tiles.Dir.{Dir}
use Rattle.tile_shape.specs.declared.tiles.Place.{Place}
use Rattle.board_steps.specs.declared.rule.View.{View}
use Rattle.board_steps.specs.declared.rule.Slab.{Slab}
use Rattle.board_steps.specs.declared.rule.Cell.{Cell}
use Rattle.board_core.specs.Numbers.{number_of}
use Rattle.board_steps.specs.Rule.{setting_of, has, sends, total}
use Rattle.board_steps.specs.Shown.{IsEvent, Moves, has_come, shown, shown_tile, status}
use Rattle.board_steps.specs.Steps.{index_of, sent_view}
use Rattle.board_steps.proofs.Totals.{total_more, all_sends_lists}
use Rattle.board_steps.proofs.Views.{send_here, send_else, send_other}
use Rattle.board_steps.proofs.Places.{gives_next}
use Rattle.board_core.proofs.Numbers.{number_below}
use Rattle.board_steps.proofs.Statuses.{status_same, sent_own}
use Rattle.board_steps.proofs.Showing.{given, flag, flag_same, tile_is, shown_set}
use Rattle.board_steps.proofs.Events.{true_false, index_same, flag_of, tile_by, sum_after, sum_same, few_after, not_sent, held_status}

module _ (b : Slab) (s s' : State Cell View) (id : ℕ) (v : View) (p q : Place) (d : Dir) (g : Gives (window_of b.rows.value) p d q)
    (held : v.held ≡ Some (number_of (window_of b.rows.value) p)) (still : has (index_of d) v.sent ≡ false)
    (m : Moves b s s' id v (sent_view v (index_of d))) where
  abbrev t : ℕ
  t = number_of (window_of b.rows.value) p

  abbrev e : ℕ
  e = index_of d

  near : t < (setting_of b).graph.tiles
  near = number_below (window_of b.rows.value) p g.source

  more : total (sends t e) s'.views ≡ total (sends t e) s.views + 1
  more = sum_after b s s' id v (sent_view v e) m (sends t e)
      ∙ total_more (sends t e) s.views id v (sent_view v e) m.at (send_here v t e held still)

  one_after : (total (sends t e) s'.views ≡ 1) × (total (sends t e) s.views ≡ 0)
  one_after = let h = more in let f = few_after b s s' id v (sent_view v e) m t near in
      let l = all_sends_lists t e s'.views in (omega arith, omega arith)

  -- all other edges
  send_stays : (n f : ℕ) → ¬ ((n ≡ t) × (f ≡ e)) → total (sends n f) s'.views ≡ total (sends n f) s.views
  send_stays n f ne = sum_same b s s' id v (sent_view v e) m (sends n f) (dite (ℕ_discrete f e)
      (λ (z : f ≡ e). subst (λ (y : ℕ). sends n y (sent_view v e) ≡ sends n y v) (sym z) (send_else v t e held still n (λ x. ne (x, z))))
      (λ z. send_other v e f n z))

  send_accepted : IsAccepted (shown b s) (event.Send p d v.number)
  send_accepted fault.NoSuchTile h = h (g.source, (q, g))
  send_accepted fault.Taken h = h
  send_accepted fault.NotReady h = h
  send_accepted fault.NotYours h = h (held_status b s s' id v (sent_view v e) m p g.source held)
  send_accepted fault.Sent h = true_false (sym h ∙ not_sent b s s' id v (sent_view v e) m p q d g one_after.1)
  send_accepted fault.Unsent h = h

  new_flag : has_come s'.words e ((setting_of b).graph.next t e) ≡ true
  new_flag = flag b s' m.after t e near ∙ ap
      (λ (o : Option ℕ). given o (total (sends t e) s'.views)) (gives_next (window_of b.rows.value) p q d g)
      ∙ ap (λ (n : ℕ). eqb n 1) one_after.0

  sent_tile : shown_tile (setting_of b).graph s' t ≡ with_sent (tile_at (shown b s) p) d
  sent_tile = tile_by (shown_tile (setting_of b).graph s' t) (tile_at (shown b s) p) d
      (ap (status t) m.views ∙ status_same t s.views id v (sent_view v e) m.at (sent_own v e t)
      ∙ sym (ap (λ (x : TileState). x.status) (tile_is b s m.before p g.source)))
      (λ f z. flag_of (setting_of b).graph s' t f
      ∙ subst (λ (y : Dir). has_come s'.words (index_of y) ((setting_of b).graph.next t (index_of y)) ≡ true) (sym z) new_flag)
      (λ f ne. flag_of (setting_of b).graph s' t f
      ∙ flag_same b s s' m.before m.after t (index_of f) near (λ x _. send_stays t (index_of f) (λ z. ne (index_same f d z.1)))
      ∙ sym (flag_of (setting_of b).graph s t f) ∙ ap (λ (x : TileState). has_sent x f) (sym (tile_is b s m.before p g.source)))

  pub send_event : IsEvent b s s' (event.Send p d v.number)
  send_event = record {
    accepted = send_accepted;
    is = shown_set b s s' m.before m.after p _ g.source sent_tile
        (λ n _ ne. ap (status n) m.views ∙ status_same n s.views id v (sent_view v e) m.at (sent_own v e n))
        (λ n f ne _ _. send_stays n f (λ z. ne z.0));
  }
