-- Whatever tiles are begun, their dots and edges are right.
use Rattle.std.proofs.Common.{ℕ, zero, suc, ◌+◌, ◌<◌, List, arith, sym, subst}
use Rattle.tile_shape.specs.Geometry.{IsShape, IsTile}
use Rattle.tile_shape.specs.declared.tiles.Place.{Place}
use Rattle.tile_shape.specs.declared.tiles.Shape.{Shape}
use Rattle.board_core.specs.declared.events.Event.{Event}
use Rattle.board_core.specs.Legal.{Legal}
use Rattle.board_core.specs.Records.{IsRecord, IsResult, TileResult, Window}
use Rattle.board_core.specs.Numbers.{number_of}
use Rattle.board_core.specs.States.{CoreState, IsBegun, start}
use Rattle.board_core.specs.Steps.{Runs}
use Rattle.board_core.proofs.Numbers.{goes_on}
use Rattle.board_core.proofs.Runs.{run_reaches}

right_below : (w : Window) (core : CoreState) (results : Place → TileResult) → Legal core → IsRecord w core results
    → (n : ℕ) (p : Place) → number_of core.shape p < n → IsTile core.shape p → IsBegun core p → IsResult w p (results p)
right_below w core results h r zero p low tile begun = let no : ⊥ = omega arith in absurd no
right_below w core results h r (suc n) p low tile begun = r.works p tile begun (λ from d g.
    (right_below w core results h r n from (omega (arith, goes_on core.shape d from p g.source g.goes)) g.source
    (h.source from d g.source (h.needs from p d g begun))).edges d)

pub any_order : (s : Shape) (events : List Event) (core : CoreState) (w : Window) (results : Place → TileResult)
    → IsShape s → Runs (start s) events core → IsRecord w core results → (p : Place) → IsTile s p → IsBegun core p
    → IsResult w p (results p)
any_order s events core w results shape run r p tile begun =
    let reached = run_reaches s events core shape run in
    let Q : Shape → Type 0 = λ t. IsTile t p in
    right_below w core results reached.legal r (number_of core.shape p + 1) p (omega arith) (subst Q (sym reached.shape) tile) begun
