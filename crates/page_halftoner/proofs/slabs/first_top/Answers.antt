use Rattle.std.proofs.Common.{◌≡◌, ◌+◌, ◌*◌, ◌/◌, ◌%◌, ℕ, ℤ, List, get_or, pos, ap, arith, ◌∙◌}
use Rattle.tile_border.specs.Tops.{columns_across}
use Rattle.wavefront_team.proofs.Tops.{edge_at}
use Rattle.page_halftoner.proofs.slabs.first_top.Goals as goal

pub returns : goal.returns
returns c =
    let top = c.in_ok-top.ensures in
    let columns : c.columns.result ≡ columns_across c.args.width = c.columns.ensures in
    record {
      is_top = record {
        columns = top.has.columns ∙ columns;
        edge_inks = λ column inside. top.has.edge_inks column (omega (arith, inside, columns));
      };
      zeros = λ i t n.
          let u : ℕ = n + 56 + 2 * t in
          let m : ℕ = 64 * t + u % 64 in
          ap (λ (xs : List ℤ). get_or xs m (pos 0)) (edge_at c.in_ok-top.top i (u / 64)) ∙ (top.zeros (u / 64)).at i m;
    }
