use Rattle.std.proofs.Common.{◌≡◌, ◌*◌, ◌<◌, subst, ap, arith, refl, ◌∙◌}
use Rattle.tile_shape.specs.Geometry.{bands_of, columns_of}
use Rattle.board_core.specs.Numbers.{number_of}
use Rattle.board_core.specs.States.{CoreState}
use Rattle.board_core.specs.Steps.{IsReadyTile}
use Rattle.board_core.proofs.Numbers.{number_inside}
use Rattle.board_core.proofs.Ready.{first_ready, none_more, none_waiting}
use Rattle.board_core.proofs.Runs.{false_true}
use Rattle.board_core.proofs.scheduler.Core.ready.Goals as goal

pub returns-then-is_ready-clause-first : goal.returns-then-is_ready-clause-first
returns-then-is_ready-clause-first c =
    first_ready c.args.self.now c.columns-columns.result c.loop-n.n (c.columns-columns.ensures
    ∙ ap (λ (core : CoreState). columns_of core.shape) c.self.view_is)
    c.loop-n.invariant (c.if-is_ready.ensures.0 refl)

pub loop-n-preserved : goal.loop-n-preserved
loop-n-preserved c =
    none_more c.args.self.now c.columns-columns.result c.loop-n.n (c.columns-columns.ensures
    ∙ ap (λ (core : CoreState). columns_of core.shape) c.self.view_is)
    c.loop-n.invariant (λ r. false_true (c.if-is_ready.ensures.1 r))

pub returns-clause-none : goal.returns-clause-none
returns-clause-none c = λ p r.
    let columns : c.columns-columns.result ≡ columns_of c.args.self.now.shape = c.columns-columns.ensures
    ∙ ap (λ (core : CoreState). columns_of core.shape) c.self.view_is in
    let bands : c.bands.result ≡ bands_of c.args.self.now.shape = c.bands.ensures
    ∙ ap (λ (core : CoreState). bands_of core.shape) c.self.view_is in
    let count : c.bands.result * c.columns-columns.result ≡ bands_of c.args.self.now.shape * columns_of c.args.self.now.shape =
    ap (λ n. n * c.columns-columns.result) bands ∙ ap (λ n. bands_of c.args.self.now.shape * n) columns in
    c.loop-n.invariant p (omega (arith, count, number_inside c.args.self.now.shape p r.tile)) r

-- Before the tile that the scan begins with none waits.
pub loop-n-init : goal.loop-n-init
loop-n-init c = λ q low r.
    let Q : CoreState → Type 0 = λ core. number_of core.shape q < c.self.inside.begun → IsReadyTile core q → ⊥ in
    subst Q c.self.view_is (none_waiting c.self.inside q c.self.invariant.none_waits) low r
