-- Tiles that are handed right edges give a record.
use Rattle.std.proofs.Common.{ℕ, ℤ, ◌<◌, List, [], refl, slice_index_or, subst, sym}
use Rattle.diffusion_definitions.specs.Diffusion.{Errors, Plane, Solves, Table}
use Rattle.diffusion_kernel.specs.Tables.{table_of}
use Rattle.diffusion_kernel.specs.declared.tables.Kernel.{Kernel}
use Rattle.dot_planes.specs.Tables.{AmountTable}
use Rattle.tile_shape.specs.Geometry.{IsReceiver, IsTile}
use Rattle.tile_shape.specs.declared.tiles.Dir.{Dir}
use Rattle.tile_shape.specs.declared.tiles.Dir.TheVariants.{Right, Bottom, Corner}
use Rattle.tile_shape.specs.declared.tiles.Place.{Place}
use Rattle.tile_shape.specs.declared.tiles.Shape.{Shape}
use Rattle.tile_edges.specs.Edges.{IsGiven, IsPlaneOf, IsTaken}
use Rattle.tile_edges.specs.Handed.{IsHanded}
use Rattle.tile_edges.specs.Tops.{IsBelow}
use Rattle.board_core.specs.Records.{IsRecord}
use Rattle.board_core.specs.States.{CoreState}
use Rattle.board_core.specs.Steps.{Gives}
use Rattle.tile_lanes.specs.Done.{IsDone, plane_of, window_of}
use Rattle.tile_border.specs.Inks.{errors_of}
use Rattle.tile_border.specs.Tops.{edges_of}
use Rattle.tile_border.specs.Worked.{AreErrors, AreWorked, edge_of, result_of, window_with}
use Rattle.tile_border.specs.Works.{Border}

-- what is handed is right, as its law says
abbrev pub HandedLaw : Type 0
HandedLaw = (k : Table) (plane : Plane) (e : Errors) (s : Shape) (top : List (List ℤ))
    (edges : Dir → Place → List ℤ) (d : Dir) (to : Place) (xs : List ℤ)
    → Solves k plane e → IsPlaneOf s plane → IsBelow top e → IsTile s to → IsHanded s top edges d to xs
    → ((from : Place) → IsTile s from → IsReceiver d from to → IsGiven e d from (edges d from)) → IsTaken e d to xs

given_edge : (k : Kernel) (rows : AmountTable) (e : Errors) (p : Place) (i : ℕ) (given : Border) (d : Dir)
    → IsDone (table_of k) (plane_of rows i) e p (errors_of given.side i) (errors_of given.bottom i) (errors_of given.corner i)
    (slice_index_or given.bits i [])
    → IsGiven e d p (errors_of (edge_of given d) i)
given_edge k rows e p i given Right done = done.has_right
given_edge k rows e p i given Bottom done = done.has_bottom
given_edge k rows e p i given Corner done = done.has_corner

pub record_of : HandedLaw
    → (k : Kernel) (rows : AmountTable) (top : List (List (List ℤ))) (errors : ℕ → Errors) (core : CoreState) (handed given : Place
    → Border)
    → AreErrors k rows top errors → AreWorked k rows top core handed given
    → IsRecord (window_with k rows errors) core (λ p. result_of (given p))
record_of law k rows top errors core handed given right worked = record {
  works = λ p tile begun sources.
      let InWindow : Shape → Type 0 = λ s. IsTile s p in
      let here : IsTile (window_of rows) p = subst InWindow worked.shape tile in
      let comes = λ (d : Dir) (i : ℕ) (low : i < rows.inks).
      law (table_of k) (plane_of rows i) (errors i) (window_of rows) (edges_of top i) _ d p (errors_of (edge_of (handed p) d) i)
      (right.solve i low) (record { width = refl; height = refl }) (right.below i low) here (worked.comes p tile begun d i low)
      (λ from there goes.
      let Q : Shape → Type 0 = λ s. Gives s from d p in
      sources from d (subst Q (sym worked.shape) (record { source = there; receiver = here; goes = goes })) i low) in
      let done = λ (i : ℕ) (low : i < rows.inks). worked.works p tile begun i low (errors i) (right.solve i low)
      (record { has_left = comes Right i low; has_above = comes Bottom i low; has_corner = comes Corner i low }) in
      record {
        edges = λ d i low. given_edge k rows (errors i) p i (given p) d (done i low);
        dots = λ i row offset x y low place pixel. (done i low).has_dots.pixel row offset x y place;
      };
}
