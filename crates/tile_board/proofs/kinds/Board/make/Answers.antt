use Rattle.std.proofs.Common.{◌≡◌, ℕ, ◌*◌, ◌<◌, sym, ◌∙◌, ap, subst, arith}
use Rattle.dot_planes.specs.Tables.{AmountTable}
use Rattle.tile_lanes.specs.Done.{window_of}
use Rattle.tile_shape.specs.Geometry.{IsShape, bands_of, columns_of}
use Rattle.tile_shape.specs.declared.tiles.Shape.{Shape}
use Rattle.board_steps.specs.declared.rule.Slab.{Slab}
use Rattle.tile_board.specs.Slabs.{amounts_of, shape_of, top_edges}
use Rattle.tile_board.proofs.Numbers.{some-tiles}
use Rattle.tile_board.proofs.kinds.Board.make.Goals as goal

pub invariant_of-board : goal.invariant_of-board
invariant_of-board g c =
    let table : AmountTable = g.A.TileRows.table c.args.rows.now in
    let key = c.in_ok-table.table.shared.key in
    let is = c.in_ok-table.ensures.slab in
    let rows : amounts_of key ≡ table = ap (λ (b : Slab). amounts_of b) is ∙ c.of.ensures in
    let top : top_edges key ≡ c.args.top = ap (λ (b : Slab). top_edges b) is ∙ c.of-2.ensures in
    let tiles : c.in_ok-table.table.shared.table_id.words ≡ bands_of (shape_of key) * columns_of (shape_of key) =
    c.in_ok-table.ensures.words ∙ ap (λ (b : Slab). bands_of (shape_of b) * columns_of (shape_of b)) (sym is) in
    let Q : Shape → Type 0 = λ s. IsShape s in
    let sizes : IsShape (window_of table) = subst Q c.shape.ensures.is c.shape.ensures.sizes in
    let P : AmountTable → Type 0 = λ r. 0 < bands_of (window_of r) * columns_of (window_of r) in
    let more : 0 < bands_of (shape_of key) * columns_of (shape_of key) =
    subst P (sym rows) (some-tiles (window_of table) sizes) in
    let columns : columns_of (shape_of key) ≡ columns_of (window_of table) =
    ap (λ (r : AmountTable). columns_of (window_of r)) rows in
    let counted : c.count_tiles-tiles.result ≡ bands_of (shape_of key) * columns_of (shape_of key) =
    c.count_tiles-tiles.ensures.is ∙ ap (λ (s : Shape). bands_of s * columns_of s) c.shape.ensures.is
    ∙ ap (λ (r : AmountTable). bands_of (window_of r) * columns_of (window_of r)) (sym rows) in
    let words : ℕ = c.in_ok-table.table.shared.table_id.words in
    let all : ℕ = bands_of (shape_of key) * columns_of (shape_of key) in
    record {
      made_for = (rows, ap (λ (b : Slab). b.kernel) is, top);
      sized = tiles;
      some = let a : words ≡ all = tiles in let h : 0 < all = more in omega arith;
      topped = (c.requires.columns ∙ sym columns, λ n low. c.requires.edge_inks n (omega arith));
      room = (
        c.in_ok-dots.ensures.items,
        let a : words ≡ all = tiles in let h : c.count_tiles-tiles.result ≡ all = counted in
            let k = c.in_ok-dots.ensures.capacity in omega arith,
      );
    }
