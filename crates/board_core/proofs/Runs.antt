-- After any accepted events from the start.
use Rattle.std.proofs.Common.{◌≡◌, ◌*◌, true, false, List, [], ◌∷◌, ap, arith, refl, sym, ◌∙◌, subst, inl, inr}
use Rattle.std.proofs.lemmas.Bool.{cases_lt}
use Rattle.std.proofs.lemmas.List.{get_or-replicate, get_or_past, length-replicate}
use Rattle.tile_shape.specs.Geometry.{IsShape, bands_of, columns_of}
use Rattle.tile_shape.specs.declared.tiles.Dir.{Dir}
use Rattle.tile_shape.specs.declared.tiles.Dir.TheVariants.{Right, Bottom, Corner}
use Rattle.tile_shape.specs.declared.tiles.Place.{Place}
use Rattle.tile_shape.specs.declared.tiles.Shape.{Shape}
use Rattle.board_core.specs.declared.events.Event.{Event}
use Rattle.board_core.specs.declared.tiles.TileState.{TileState}
use Rattle.board_core.specs.Legal.{Legal}
use Rattle.board_core.specs.Numbers.{number_of}
use Rattle.board_core.specs.States.{CoreState, IsCore, fresh, has_sent, start, tile_at}
use Rattle.board_core.specs.Steps.{Runs, after}
use Rattle.board_core.proofs.Keeps.{legal_event, posted_waits, shape_kept, whole_event}
use Rattle.board_core.proofs.Once.{sent_once}

pub start_whole : (s : Shape) → IsShape s → IsCore (start s)
start_whole s shape = record { shape = shape; count = length-replicate (columns_of s * bands_of s) fresh }

start_tile : (s : Shape) (p : Place) → tile_at (start s) p ≡ fresh
unfolding tile_at
start_tile s p = elim (cases_lt (number_of s p) (columns_of s * bands_of s)) [
  | inl inside ↦ get_or-replicate (columns_of s * bands_of s) (number_of s p) fresh fresh inside
  | inr past ↦ get_or_past (start s).tiles (number_of s p) fresh (omega (arith, length-replicate (columns_of s * bands_of s) fresh))
]

fresh_sent : (d : Dir) → has_sent fresh d ≡ false
fresh_sent Right = refl
fresh_sent Bottom = refl
fresh_sent Corner = refl

pub false_true : ¬ (false ≡ true)
false_true e = cc

pub start_legal : (s : Shape) → Legal (start s)
start_legal s = record {
  source = λ from d tile is. absurd (false_true (sym (fresh_sent d) ∙ ap (λ (t : TileState). has_sent t d) (sym (start_tile s from)) ∙ is));
  needs = λ from to d g begun. absurd (begun (ap (λ (t : TileState). t.status) (start_tile s to)));
  given = λ from to d g posted. absurd (posted_waits posted.0 (sym posted.1 ∙ ap (λ (t : TileState). t.status) (start_tile s from)));
  once = sent_once (start s);
}

-- What holds of any state that events lead to.
pub record IsReached (s : Shape) (core : CoreState) : Type 0 where
  pub shape : core.shape ≡ s
  pub whole : IsCore core
  pub legal : Legal core

pub reached : (s : Shape) (core : CoreState) (events : List Event) (end : CoreState) → IsReached s core → Runs core events end
    → IsReached s end
reached s core [] end r is = let Q : CoreState → Type 0 = λ c. IsReached s c in subst Q (sym is) r
reached s core (e ∷ events) end r run = reached s (after core e) events end (record {
  shape = shape_kept core e ∙ r.shape;
  whole = whole_event core e r.whole;
  legal = legal_event core e r.whole r.legal run.0;
}) run.1

pub run_reaches : (s : Shape) (events : List Event) (core : CoreState) → IsShape s → Runs (start s) events core → IsReached s core
run_reaches s events core shape run =
    reached s (start s) events core (record { shape = refl; whole = start_whole s shape; legal = start_legal s }) run
