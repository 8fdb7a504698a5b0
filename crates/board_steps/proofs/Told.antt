-- What each step tells of the slab that the view names.
use Rattle.std.proofs.Common.{◌≡◌, ℕ, ◌<◌, ◌≤◌, [], zero, suc, refl, sym, subst, arith, bit_or, None}
use Rattle.atomic_table.specs.Table.{Me, Allows, carried_after}
use Rattle.tile_lanes.specs.Done.{window_of}
use Rattle.tile_shape.specs.declared.tiles.Dir.{Dir}
use Rattle.tile_shape.specs.declared.tiles.Dir.TheVariants.{Right, Bottom, Corner}
use Rattle.board_steps.specs.declared.rule.View.{View}
use Rattle.board_steps.specs.declared.rule.Slab.{Slab}
use Rattle.board_steps.specs.declared.rule.Cell.{Cell}
use Rattle.board_steps.specs.Graph.{IsGraph}
use Rattle.board_steps.specs.Rule.{setting_of, Ruled}
use Rattle.board_steps.specs.Steps.{Looked, Took, IsReadyFor, MaySend, SentTo, Sent, bit_of, index_of}
use Rattle.board_steps.proofs.Moves.{mine}
use Rattle.board_steps.proofs.Learning.{looks}
use Rattle.board_steps.proofs.Taking.{takes_step}
use Rattle.board_steps.proofs.Sending.{sends_step}
use Rattle.board_steps.proofs.Places.{window_graph}

pub lawful : (b : Slab) → IsGraph (setting_of b).graph
lawful b = window_graph (window_of b.rows.value)

-- the slab of the rule is that of the view
by_view : (b : Slab) (k id : ℕ) (me : Me Cell View) (t : ℕ) (f : ℕ → ℕ) (then : Slab → ℕ → Me Cell View → Type 0) → 1 ≤ me.0.parts
    → Allows (Ruled (setting_of b)) k id me t f (then b) → Allows (Ruled (setting_of b)) k id me t f (then me.0.board)
by_view b k id me t f then part step s r wide at few = grind (arith, mine)

pub look_told : (b : Slab) (k id : ℕ) (me : Me Cell View) (t : ℕ) → t < (setting_of b).graph.tiles → 1 ≤ me.0.parts
    → Allows (Ruled (setting_of b)) k id me t (λ x. x) (λ r n. Looked me.0.board t me r n)
look_told b k id me t near part = by_view b k id me t (λ x. x)
    (λ c r n. Looked c t me r n) part (looks (setting_of b) (lawful b) k id me t near part)

pub take_told : (b : Slab) (k id : ℕ) (me : Me Cell View) (t : ℕ) → t < (setting_of b).graph.tiles → 1 ≤ me.0.parts → me.0.held ≡ None
    → me.1 ≡ [] → IsReadyFor (setting_of b).graph t me.0
    → Allows (Ruled (setting_of b)) k id me t (λ x. bit_or x 8) (λ r n. Took me.0.board t me r n)
take_told b k id me t near part idle empty ready =
    by_view b k id me t (λ x. bit_or x 8)
    (λ c r n. Took c t me r n) part (takes_step (setting_of b) (lawful b) k id me t near part idle empty ready)

-- each arrival bit is that of one direction
one_direction : (d e : ℕ) → d < 3 → e < 3 → bit_of d ≡ bit_of e → d ≡ e
one_direction zero zero h k same = refl
one_direction (suc zero) (suc zero) h k same = refl
one_direction (suc (suc zero)) (suc (suc zero)) h k same = refl
one_direction zero (suc zero) h k same = absurd (omega arith)
one_direction zero (suc (suc e)) h k same = absurd (omega arith)
one_direction (suc zero) zero h k same = absurd (omega arith)
one_direction (suc zero) (suc (suc e)) h k same = absurd (omega arith)
one_direction (suc (suc d)) zero h k same = absurd (omega arith)
one_direction (suc (suc d)) (suc zero) h k same = absurd (omega arith)
one_direction (suc (suc zero)) (suc (suc (suc e))) h k same = absurd (omega arith)
one_direction (suc (suc (suc d))) (suc (suc e)) h k same = absurd (omega arith)

pub three : (d : Dir) → index_of d < 3
three Right = omega arith
three Bottom = omega arith
three Corner = omega arith

pub send_told : (b : Slab) (k id : ℕ) (me : Me Cell View) (d : Dir) (to bit : ℕ) → bit ≡ bit_of (index_of d) → 1 ≤ me.0.parts
    → MaySend (setting_of b) me (index_of d) to → Allows (Ruled (setting_of b)) k id me to (λ x. bit_or x bit) (λ r n. Sent bit me n)
send_told b k id me d to bit e part may =
    subst (λ (y : ℕ). Allows (Ruled (setting_of b)) k id me to (λ x. bit_or x y) (λ r n. Sent y me n)) (sym e)
    (λ s r wide at few. let a = sends_step (setting_of b) (lawful b) k id me (index_of d) to part may s r wide at few in (
      a.0,
      a.1,
      a.2,
      a.3,
      λ f small same. subst
          (λ (z : ℕ). SentTo z me (a.0, carried_after me.1 a.1)) (one_direction (index_of d) f (three d) small same) a.4,
    ))
