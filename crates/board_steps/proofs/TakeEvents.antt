-- A take shows as the core's event.
use Rattle.std.proofs.Common.{◌≡◌, ℕ, true, sym, ap, ◌∙◌, arith, None}
use Rattle.atomic_table.specs.Table.{State}
use Rattle.board_core.specs.States.{IsWaiting, sent}
use Rattle.board_core.specs.Steps.{Gives, IsAccepted}
use Rattle.board_core.specs.declared.events.CoreFault.TheVariants as fault
use Rattle.board_core.specs.declared.events.Event.TheVariants as event
use Rattle.board_core.specs.declared.tiles.Status.TheVariants.{Waiting, Taken}
use Rattle.board_core.specs.declared.tiles.TileState.{TileState}
use Rattle.tile_lanes.specs.Done.{window_of}
use Rattle.tile_shape.specs.Geometry.{IsTile}
use Rattle.tile_shape.specs.declared.tiles.Dir.{Dir}
use Rattle.tile_shape.specs.declared.tiles.Place.{Place}
use Rattle.board_steps.specs.declared.rule.View.{View}
use Rattle.board_steps.specs.declared.rule.Slab.{Slab}
use Rattle.board_steps.specs.declared.rule.Cell.{Cell}
use Rattle.board_core.specs.Numbers.{number_of}
use Rattle.board_steps.specs.Rule.{lists, sends, total}
use Rattle.board_steps.specs.Shown.{IsEvent, Moves, shown, status}
use Rattle.board_steps.specs.Steps.{index_of, taken}
use Rattle.board_steps.proofs.Totals.{total_more, all_sends_lists}
use Rattle.board_steps.proofs.Views.{takes_here, takes_sends}
use Rattle.board_steps.proofs.Places.{gives_next, window_graph}
use Rattle.board_core.proofs.Numbers.{number_below}
use Rattle.board_steps.proofs.Statuses.{status_none, status_same, status_new, taken_own, taken_else}
use Rattle.board_steps.proofs.Showing.{flag_same, tile_is, shown_set}
use Rattle.board_steps.proofs.Events.{true_false, sum_after, sum_same, few, few_after, is_sent, status_is}

module _ (b : Slab) (s s' : State Cell View) (id : ℕ) (v : View) (p : Place) (tile : IsTile (window_of b.rows.value) p)
    (idle : v.held ≡ None)
    (m : Moves b s s' id v (taken v (number_of (window_of b.rows.value) p))) where
  abbrev t : ℕ
  t = number_of (window_of b.rows.value) p

  free : total (lists t) s.views ≡ 0
  free =
      let e = sum_after b s s' id v (taken v t) m (lists t) in
      let more = total_more (lists t) s.views id v (taken v t) m.at (takes_here v t idle) in
      let f = few_after b s s' id v (taken v t) m t (number_below (window_of b.rows.value) p tile) in omega arith

  sends_stay : (q d : ℕ) → total (sends q d) s'.views ≡ total (sends q d) s.views
  sends_stay q d = sum_same b s s' id v (taken v t) m (sends q d) (takes_sends v t q d idle)

  take_waits : IsWaiting (shown b s) p
  take_waits = status_is b s s' id v (taken v t) m p Waiting tile (status_none t s.views free)

  -- an edge that comes to the tile was sent
  take_sent : (from : Place) (d : Dir) → Gives (window_of b.rows.value) from d p → sent (shown b s) from d ≡ true
  take_sent from d g =
      let n : ℕ = number_of (window_of b.rows.value) from in let near = number_below (window_of b.rows.value) from g.source in
      let th = (window_graph (window_of b.rows.value)).there n (index_of d) t near (gives_next (window_of b.rows.value) from p d g) in
      let need = (m.after.tiles t th.0).needs (index_of d) n th.3 in
      let e = sum_after b s s' id v (taken v t) m (lists t) in
      let more = total_more (lists t) s.views id v (taken v t) m.at (takes_here v t idle) in
      let z = sends_stay n (index_of d) in let f = few b s s' id v (taken v t) m n near in let l = all_sends_lists n (index_of d) s.views in
      is_sent b s s' id v (taken v t) m from p d g (omega arith)

  take_accepted : IsAccepted (shown b s) (event.Take p v.number)
  take_accepted fault.NoSuchTile h = h tile
  take_accepted fault.Taken h = h take_waits
  take_accepted fault.NotReady h = let x = h.1 in let le = x.1 in true_false (sym (take_sent le.from x.0 le.gives) ∙ le.unsent)
  take_accepted fault.NotYours h = h
  take_accepted fault.Sent h = h
  take_accepted fault.Unsent h = h

  pub take_event : IsEvent b s s' (event.Take p v.number)
  take_event =
      let near = number_below (window_of b.rows.value) p tile in let at = sym (tile_is b s m.before p tile) in
      record {
        accepted = take_accepted;
        is = shown_set b s s' m.before m.after p _ tile (λ i. record {
          status = (ap (status t) m.views ∙ status_new t s.views id v (taken v t) (Taken v.number) m.at free (taken_own v t)) i;
          right = (flag_same b s s' m.before m.after t 0 near (λ q _. sends_stay t 0) ∙ ap (λ (x : TileState). x.right) at) i;
          bottom = (flag_same b s s' m.before m.after t 1 near (λ q _. sends_stay t 1) ∙ ap (λ (x : TileState). x.bottom) at) i;
          corner = (flag_same b s s' m.before m.after t 2 near (λ q _. sends_stay t 2) ∙ ap (λ (x : TileState). x.corner) at) i;
        })
            (λ q _ ne. ap (status q) m.views ∙ status_same q s.views id v (taken v t) m.at (taken_else v t q idle ne))
            (λ q d _ _ _. sends_stay q d);
      }
