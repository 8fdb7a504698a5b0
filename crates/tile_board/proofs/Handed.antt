-- The edges that a tile is handed are right.
use Rattle.std.proofs.Common.{◌≡◌, ℕ, ℤ, pos, ◌+◌, ◌<◌, ◌≤◌, List, [], get_or, length, replicate, sym, ◌∙◌, ap, subst, arith}
use Rattle.std.proofs.lemmas.List.{get_or-map, get_or-replicate, get_or_past, length-map, length-replicate}
use Rattle.tile_shape.specs.Geometry.{IsReceiver, IsTile, columns_of}
use Rattle.tile_shape.specs.declared.tiles.Dir.{Dir}
use Rattle.tile_shape.specs.declared.tiles.Dir.TheVariants.{Right, Bottom, Corner}
use Rattle.tile_shape.specs.declared.tiles.Place.{Place}
use Rattle.tile_edges.specs.Tops.{IsCut}
use Rattle.tile_edges.proofs.HandedLaws.{handed_right}
use Rattle.tile_border.specs.Inks.{CutsEnds, errors_of}
use Rattle.tile_border.specs.Tops.{IsTopOf, edges_of}
use Rattle.tile_border.specs.Worked.{edge_of}
use Rattle.tile_border.specs.Works.{Border}
use Rattle.tile_border.specs.declared.task.Task.{Task}
use Rattle.tile_border.proofs.Zeros.{some_zeros}
use Rattle.tile_border.specs.Content.{given}
use Rattle.tile_border.specs.Tiles.{AreHanded, IsHandedTo}
use Rattle.tile_border.proofs.Given.{given-inks, handed-ready}
use Rattle.board_steps.specs.Content.{cell_of, content_of}
use Rattle.board_steps.specs.Rule.{setting_of}
use Rattle.board_steps.specs.declared.rule.Slab.{Slab}
use Rattle.tile_board.specs.Slabs.{amounts_of, number_in, shape_of, top_edges}
use Rattle.tile_border.specs.Given.{handed}
use Rattle.tile_board.specs.Tasks.{IsTaskOf}
use Rattle.board_core.proofs.Numbers.{place_is, same_parts}
use Rattle.tile_board.proofs.Numbers.{IsSource}

-- what a tile gives
abbrev pub gives : Slab → Place → Border
gives b p = given b.kernel (amounts_of b) (top_edges b) p

pub content-is : (b : Slab) (d : ℕ) (p : Place) → IsTile (shape_of b) p → (setting_of b).content (number_in b p) d ≡ cell_of (gives b p) d
unfolding content_of
content-is b d p tile = ap (λ (q : Place). cell_of (gives b q) d) (place_is (shape_of b) p tile)

-- an edge comes from one tile only
same-source : (d : Dir) (p a b : Place) → IsReceiver d a p → IsReceiver d b p → a ≡ b
same-source Right p a b h k = same_parts a b (let x : ℕ = a.c in let y : ℕ = b.c in omega (arith, h.0, k.0)) (sym h.1 ∙ k.1)
same-source Bottom p a b h k = same_parts a b (sym h.0 ∙ k.0) (let x : ℕ = a.j in let y : ℕ = b.j in omega (arith, h.1, k.1))
same-source Corner p a b h k = same_parts a b (sym h.0 ∙ k.0) (let x : ℕ = a.j in let y : ℕ = b.j in omega (arith, h.1, k.1))

edge-inks : (b : Slab) (d : Dir) (p : Place) → length (edge_of (gives b p) d) ≡ (amounts_of b).inks
edge-inks b Right p = (given-inks b.kernel (amounts_of b) (top_edges b) p).side
edge-inks b Bottom p = (given-inks b.kernel (amounts_of b) (top_edges b) p).bottom
edge-inks b Corner p = (given-inks b.kernel (amounts_of b) (top_edges b) p).corner

abbrev pub Comes : Slab → Dir → Place → List (List ℤ) → Type 0
Comes b d p edge = IsHandedTo b.kernel (amounts_of b) (top_edges b) d p edge

pub handed-by : (b : Slab) (d : Dir) (p from : Place) (edge : List (List ℤ)) → IsSource (shape_of b) d p from
    → edge ≡ edge_of (gives b from) d → Comes b d p edge
handed-by b d p from edge source is = record {
  inks = ap length is ∙ edge-inks b d from;
  given = λ other there receiver. is ∙ ap (λ (q : Place). edge_of (gives b q) d) (same-source d p from other source.receiver receiver);
  none = λ board none. absurd (none source.needed);
  above = λ off. absurd (off source.board);
}

zeros-long : (n len : ℕ) (edge : List (List ℤ)) → edge ≡ replicate n (replicate len (pos 0)) → length edge ≡ n
zeros-long n len edge is = ap length is ∙ length-replicate n (replicate len (pos 0))

pub handed-first : (b : Slab) (p : Place) (edge : List (List ℤ)) → p.c ≡ 0 → edge ≡ replicate (amounts_of b).inks (replicate 192 (pos 0))
    → Comes b Right p edge
handed-first b p edge first is = record {
  inks = zeros-long (amounts_of b).inks 192 edge is;
  given = λ from there receiver. absurd (let x : ℕ = from.c in let y : ℕ = p.c in omega (arith, receiver.0));
  none = λ board none. is;
  above = λ off. absurd (off tt);
}

-- an ink's edge of the top
ink-top : (b : Slab) (i c : ℕ) → c < length (top_edges b) → get_or (edges_of (top_edges b) i) c [] ≡ errors_of (get_or (top_edges b) c []) i
ink-top b i c inside = get_or-map (λ (edge : List (List ℤ)). errors_of edge i) (top_edges b) c [] [] inside

pub handed-last : (b : Slab) (p : Place) (edge : List (List ℤ)) → length (top_edges b) ≡ columns_of (shape_of b)
    → columns_of (shape_of b) ≤ p.c + 1
    → edge ≡ replicate (amounts_of b).inks (replicate 128 (pos 0)) → Comes b Bottom p edge
handed-last b p edge columns last is = record {
  inks = zeros-long (amounts_of b).inks 128 edge is;
  given = λ from there receiver.
      absurd (let x : ℕ = from.c in let y : ℕ = columns_of (shape_of b) in let h : x < y = there.column in omega (arith, receiver.0));
  none = λ board none. is;
  above = λ off i low. record {
    at = λ n inside.
        ap (λ (e : List (List ℤ)). get_or (errors_of e i) n (pos 0)) is
        ∙ ap (λ (e : List ℤ). get_or e n (pos 0)) (get_or-replicate (amounts_of b).inks i (replicate 128 (pos 0)) [] low)
        ∙ some_zeros 128 n
        ∙ sym (ap (λ (e : List ℤ). get_or e n (pos 0)) (get_or_past (edges_of (top_edges b) i) (p.c + 1) []
        (let h = length-map (top_edges b) (λ (edge : List (List ℤ)). errors_of edge i) in omega arith)));
  };
}

pub handed-top : (b : Slab) (p : Place) (edge : List (List ℤ)) → IsTopOf (amounts_of b).width (amounts_of b).inks (top_edges b) → p.j ≡ 0
    → p.c + 1 < columns_of (shape_of b)
    → edge ≡ get_or (top_edges b) (p.c + 1) [] → Comes b Bottom p edge
handed-top b p edge top first there is = record {
  inks = ap length is ∙ top.edge_inks (p.c + 1) there;
  given = λ from tile receiver. absurd (let x : ℕ = from.j in let y : ℕ = p.j in omega (arith, receiver.1));
  none = λ board none. absurd (let y : ℕ = p.j in omega arith);
  above = λ off i low. record {
    at = λ n inside.
        ap (λ (e : List (List ℤ)). get_or (errors_of e i) n (pos 0)) is
        ∙ sym (ap (λ (e : List ℤ). get_or e n (pos 0)) (ink-top b i (p.c + 1) (let h = top.columns in omega arith)));
  };
}

pub handed-end : (b : Slab) (p : Place) (above room edge : List (List ℤ))
    → IsTopOf (amounts_of b).width (amounts_of b).inks (top_edges b) → p.j ≡ 0
    → p.c < columns_of (shape_of b)
    → above ≡ get_or (top_edges b) p.c [] → length room ≡ (amounts_of b).inks → CutsEnds above room edge → Comes b Corner p edge
handed-end b p above room edge top first inside is len cut = record {
  inks = cut.len ∙ len;
  given = λ from tile receiver. absurd (let x : ℕ = from.j in let y : ℕ = p.j in omega (arith, receiver.1));
  none = λ board none. absurd (let y : ℕ = p.j in omega arith);
  above = λ off i low.
      let Q : List ℤ → Type 0 = λ e. IsCut e (errors_of edge i) in
      subst Q (ap (λ (e : List (List ℤ)). errors_of e i) is ∙ sym (ink-top b i p.c (let h = top.columns in omega arith)))
      (cut.ends i (omega arith));
}

-- the three edges of a tile
pub task-of : (b : Slab) (task : Task) → IsTile (shape_of b) task.place → Comes b Right task.place task.left
    → Comes b Bottom task.place task.above
    → Comes b Corner task.place task.corner → length task.dots.bits ≡ (amounts_of b).inks → IsTaskOf b task
task-of b task tile left above corner bits = record {
  tile = tile;
  inks = record { side = left.inks; bottom = above.inks; corner = corner.inks; bits = bits };
  ready = handed-ready handed_right b.kernel (amounts_of b) (top_edges b) task.place (handed task) tile are;
}
  where
    are : AreHanded b.kernel (amounts_of b) (top_edges b) task.place (handed task)
    are Right = left
    are Bottom = above
    are Corner = corner
