-- Where the edges that come from other tiles are right, so is what a tile is handed.
use Rattle.std.proofs.Common.{ℤ, ◌≡◌, ◌+◌, ◌-◌, ◌*◌, ◌∙◌, sym, subst, arith, List, [], get_or, inl, inr}
use Rattle.std.proofs.lemmas.Bool.{cases_lt}
use Rattle.diffusion_definitions.specs.Diffusion.{Errors, Plane, Solves, Table}
use Rattle.tile_shape.specs.Geometry.{IsNeeded, IsReceiver, IsTile, columns_of}
use Rattle.tile_shape.specs.declared.tiles.Dir.{Dir}
use Rattle.tile_shape.specs.declared.tiles.Dir.TheVariants.{Right, Bottom, Corner}
use Rattle.tile_shape.specs.declared.tiles.Place.{Place}
use Rattle.tile_shape.specs.declared.tiles.Shape.{Shape}
use Rattle.tile_edges.specs.Edges.{IsAbove, IsGiven, IsOnBoard, IsPlaneOf, IsTaken}
use Rattle.tile_edges.specs.Handed.{IsCopy, IsHanded}
use Rattle.tile_edges.specs.Tops.{IsBelow}
use Rattle.tile_edges.proofs.EdgeLaws.{given-taken, no_edge}
use Rattle.tile_edges.proofs.Places.{held}
use Rattle.tile_edges.proofs.TopLaws.{top_above, top_corner}

-- an edge of another tile of the board
from_tile : (e : Errors) (s : Shape) (top : List (List ℤ)) (edges : Dir → Place → List ℤ) (d : Dir) (from to : Place) (xs : List ℤ)
    → IsHanded s top edges d to xs → ((from : Place) → IsTile s from → IsReceiver d from to → IsGiven e d from (edges d from))
    → IsTile s from → IsReceiver d from to → IsTaken e d to xs
from_tile e s top edges d from to xs handed right tile receiver =
    let P : List ℤ → Type 0 = IsTaken e d to in
    subst P (sym (handed.given from tile receiver)) (given-taken e d from to (edges d from) receiver (right from tile receiver))

-- an edge that does not exist
from_none : (k : Table) (plane : Plane) (e : Errors) (s : Shape) (top : List (List ℤ)) (edges : Dir → Place → List ℤ) (d : Dir) (to : Place)
    (xs : List ℤ)
    → Solves k plane e → IsPlaneOf s plane → IsTile s to → IsHanded s top edges d to xs
    → IsOnBoard d to → (IsNeeded s d to → ⊥) → IsTaken e d to xs
from_none k plane e s top edges d to xs solves sized tile handed board none =
    let P : List ℤ → Type 0 = IsTaken e d to in
    subst P (sym (handed.none board none)) (no_edge k plane e s d to solves sized tile board none)

-- the edges of the first band
copy_above : (e : Errors) (top : List (List ℤ)) (to : Place) (xs : List ℤ) → IsBelow top e → to.j ≡ 0
    → IsCopy (get_or top (to.c + 1) []) xs → IsAbove e to xs
copy_above e top to xs below first copy =
    held e 0 0 (64 * to.c + 6) to.j 0 (64 * to.c + 6) 2 64 xs (omega (arith, first)) (omega arith)
    (record { at = λ t i a b. copy.at (64 * t + i) (omega arith) ∙ (top_above e top to.c below).at t i a b })

pub handed_right : (k : Table) (plane : Plane) (e : Errors) (s : Shape) (top : List (List ℤ)) (edges : Dir → Place → List ℤ) (d : Dir)
    (to : Place) (xs : List ℤ)
    → Solves k plane e → IsPlaneOf s plane → IsBelow top e → IsTile s to → IsHanded s top edges d to xs
    → ((from : Place) → IsTile s from → IsReceiver d from to → IsGiven e d from (edges d from)) → IsTaken e d to xs
handed_right k plane e s top edges Right to xs solves sized below tile handed right = elim (cases_lt 0 to.c) [
  | inl after ↦ from_tile e s top edges Right (record { c = to.c - 1; j = to.j }) to xs handed right (search arith) (search arith)
  | inr first ↦ from_none k plane e s top edges Right to xs solves sized tile handed tt (λ needed. omega arith)
]
handed_right k plane e s top edges Bottom to xs solves sized below tile handed right = elim (cases_lt 0 to.j) [
  | inl later ↦ elim (cases_lt (to.c + 1) (columns_of s)) [
    | inl there ↦ from_tile e s top edges Bottom (record { c = to.c + 1; j = to.j - 1 }) to xs handed right (search arith) (search arith)
    | inr last ↦ from_none k plane e s top edges Bottom to xs solves sized tile handed later (λ needed. omega (arith, needed.1))
  ]
  | inr first ↦ copy_above e top to xs below (omega arith) (handed.above (λ board. omega arith))
]
handed_right k plane e s top edges Corner to xs solves sized below tile handed right = elim (cases_lt 0 to.j) [
  | inl later ↦ from_tile e s top edges Corner (record { c = to.c; j = to.j - 1 }) to xs handed right (search arith) (search arith)
  | inr first ↦ held e 0 0 (64 * to.c) to.j 0 (64 * to.c) 2 6 xs (omega arith) (omega arith)
      (top_corner e top to.c xs below (handed.above (λ board. omega arith)))
]
