-- Two states of the board, one step of a pass apart, and what they show.
use Rattle.std.proofs.Common.{◌≡◌, ◌≢◌, ℕ, ◌<◌, ◌≤◌, eqb, true, false, set, refl, sym, ap, ◌∙◌, arith, Option, Some}
use Rattle.atomic_table.specs.Table.{State}
use Rattle.board_core.specs.States.{IsTakenBy, has_sent, sent, tile_at}
use Rattle.board_core.specs.Steps.{Gives, with_sent}
use Rattle.board_core.specs.declared.tiles.Status.{Status}
use Rattle.board_core.specs.declared.tiles.Status.TheVariants.{Waiting, Taken}
use Rattle.board_core.specs.declared.tiles.TileState.{TileState}
use Rattle.tile_lanes.specs.Done.{window_of}
use Rattle.tile_shape.specs.Geometry.{IsTile}
use Rattle.tile_shape.specs.declared.tiles.Dir.{Dir}
use Rattle.tile_shape.specs.declared.tiles.Dir.TheVariants.{Right, Bottom, Corner}
use Rattle.tile_shape.specs.declared.tiles.Place.{Place}
use Rattle.tile_shape.specs.declared.tiles.Shape.{Shape}
use Rattle.board_steps.specs.declared.rule.View.{View}
use Rattle.board_steps.specs.declared.rule.Slab.{Slab}
use Rattle.board_steps.specs.declared.rule.Cell.{Cell}
use Rattle.board_steps.specs.Graph.{Graph}
use Rattle.board_core.specs.Numbers.{number_of}
use Rattle.board_steps.specs.Rule.{setting_of, lists, sends, total}
use Rattle.board_steps.specs.Shown.{Moves, has_come, shown, shown_tile, status}
use Rattle.board_steps.specs.Steps.{index_of}
use Rattle.board_steps.proofs.Totals.{total_same}
use Rattle.board_steps.proofs.Views.{held_lists, one_same}
use Rattle.board_steps.proofs.Places.{gives_next}
use Rattle.board_core.proofs.Numbers.{number_below}
use Rattle.board_steps.proofs.Statuses.{status_only, held_own}
use Rattle.board_steps.proofs.Showing.{given, sent_is, tile_is}

pub true_false : true ≢ false
true_false e = cc

-- ---- the flags of a tile

pub index_same : (f d : Dir) → index_of f ≡ index_of d → f ≡ d
index_same Right Right e = refl
index_same Bottom Bottom e = refl
index_same Corner Corner e = refl
index_same Right Bottom e = absurd (omega arith)
index_same Right Corner e = absurd (omega arith)
index_same Bottom Right e = absurd (omega arith)
index_same Bottom Corner e = absurd (omega arith)
index_same Corner Right e = absurd (omega arith)
index_same Corner Bottom e = absurd (omega arith)

pub flag_of : (G : Graph) (s : State Cell View) (t : ℕ) (d : Dir)
    → has_sent (shown_tile G s t) d ≡ has_come s.words (index_of d) (G.next t (index_of d))
flag_of G s t Right = refl
flag_of G s t Bottom = refl
flag_of G s t Corner = refl

right_bottom : Dir.Right ≢ Dir.Bottom
right_bottom e = cc

right_corner : Dir.Right ≢ Dir.Corner
right_corner e = cc

bottom_corner : Dir.Bottom ≢ Dir.Corner
bottom_corner e = cc

-- a tile with the flag of one edge set
pub tile_by : (x y : TileState) (d : Dir) → x.status ≡ y.status → ((f : Dir) → f ≡ d → has_sent x f ≡ true)
    → ((f : Dir) → f ≢ d → has_sent x f ≡ has_sent y f) → x ≡ with_sent y d
tile_by x y Right e h k = λ i. record {
  status = e i;
  right = h Right refl i;
  bottom = k Bottom (λ z. right_bottom (sym z)) i;
  corner = k Corner (λ z. right_corner (sym z)) i;
}
tile_by x y Bottom e h k = λ i. record {
  status = e i;
  right = k Right right_bottom i;
  bottom = h Bottom refl i;
  corner = k Corner (λ z. bottom_corner (sym z)) i;
}
tile_by x y Corner e h k = λ i. record {
  status = e i;
  right = k Right right_corner i;
  bottom = k Bottom bottom_corner i;
  corner = h Corner refl i;
}

-- ---- one pass moves

module _ (b : Slab) (s s' : State Cell View) (id : ℕ) (v w : View) (m : Moves b s s' id v w) where
  abbrev pub shape : Shape
  shape = window_of b.rows.value

  abbrev pub G : Graph
  G = (setting_of b).graph

  -- a sum over the views after the step
  pub sum_after : (f : View → ℕ) → total f s'.views ≡ total f (set s.views id w)
  sum_after f = ap (total f) m.views

  pub sum_same : (f : View → ℕ) → f w ≡ f v → total f s'.views ≡ total f s.views
  sum_same f e = sum_after f ∙ total_same f s.views id v w m.at e

  pub few : (t : ℕ) → t < G.tiles → total (lists t) s.views ≤ 1
  few t near = (m.before.tiles t near).once

  pub few_after : (t : ℕ) → t < G.tiles → total (lists t) s'.views ≤ 1
  few_after t near = (m.after.tiles t near).once

  -- an edge that was sent is sent in the core
  pub is_sent : (p q : Place) (d : Dir) → Gives shape p d q → total (sends (number_of shape p) (index_of d)) s.views ≡ 1
      → sent (shown b s) p d ≡ true
  is_sent p q d g one = sent_is b s m.before p d g.source ∙ ap
      (λ (o : Option ℕ). given o (total (sends (number_of shape p) (index_of d)) s.views)) (gives_next shape p q d g)
      ∙ ap (λ (n : ℕ). eqb n 1) one

  pub not_sent : (p q : Place) (d : Dir) → Gives shape p d q → total (sends (number_of shape p) (index_of d)) s.views ≡ 0
      → sent (shown b s) p d ≡ false
  not_sent p q d g none = sent_is b s m.before p d g.source ∙ ap
      (λ (o : Option ℕ). given o (total (sends (number_of shape p) (index_of d)) s.views)) (gives_next shape p q d g)
      ∙ ap (λ (n : ℕ). eqb n 1) none

  -- the status of a tile in the core
  pub status_is : (p : Place) (x : Status) → IsTile shape p → status (number_of shape p) s.views ≡ x → (tile_at (shown b s) p).status ≡ x
  status_is p x tile e = ap (λ (t : TileState). t.status) (tile_is b s m.before p tile) ∙ e

  pub held_status : (p : Place) → IsTile shape p → v.held ≡ Some (number_of shape p) → IsTakenBy (shown b s) p v.number
  held_status p tile held =
      let t : ℕ = number_of shape p in let hl = held_lists v t held t in let os = one_same t in
      status_is p (Taken v.number) tile (status_only t s.views id v m.at (few t (number_below shape p tile)) (omega arith)
      ∙ held_own v t Waiting held)
