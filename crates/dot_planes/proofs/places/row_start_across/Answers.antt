use Rattle.std.proofs.Common.{◌≡◌, ◌+◌, ◌*◌, ap, arith, ◌∙◌}
use Rattle.dot_planes.proofs.RowBytes.{bytes_inside, row_inside_across}
use Rattle.dot_planes.proofs.places.row_start_across.Goals as goal

pub returns-clause-inside : goal.returns-clause-inside
returns-clause-inside c =
    let inside = bytes_inside c.args.len (c.args.inks * c.args.rows) (c.args.y * c.args.inks + c.args.ink)
    (row_inside_across c.args.inks c.args.rows c.args.ink c.args.y c.requires.ink c.requires.y) in
    let place : c.args.y * c.from.result + c.from-2.result ≡ c.args.y * c.args.inks + c.args.ink =
    ap (λ m. c.args.y * m + c.from-2.result) c.from.ensures ∙ ap (λ m. c.args.y * c.args.inks + m) c.from-2.ensures in
    let start = ap (λ n. n * c.args.len) place in
    omega (arith, inside, start)
