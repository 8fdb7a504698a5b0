use Rattle.std.proofs.Common.{◌≡◌, ◌+◌, ◌/◌, length, ap, ◌∙◌, arith}
use Rattle.page_laws.proofs.Fired.{packed-len}
use Rattle.page_writer.proofs.rows.append_fired.Goals as goal

pub append_row-requires-clause-most : goal.append_row-requires-clause-most
append_row-requires-clause-most g c =
    let len : length c.in-Some.row.now ≡ (c.args.planes.now.width + 7) / 8 =
    ap length c.in-Some.ensures ∙ packed-len c.args.planes.now.width _ (c.requires.over.wide c.args.stroke c.args.place c.args.nozzle) in
    omega (arith, len, c.requires.over.columns)

pub append_row-requires-clause-room : goal.append_row-requires-clause-room
append_row-requires-clause-room g c =
    let len : length c.in-Some.row.now ≡ (c.args.planes.now.width + 7) / 8 =
    ap length c.in-Some.ensures ∙ packed-len c.args.planes.now.width _ (c.requires.over.wide c.args.stroke c.args.place c.args.nozzle) in
    omega (arith, len, c.requires.space)

pub returns-in-Some-clause-most : goal.returns-in-Some-clause-most
returns-in-Some-clause-most g c =
    let len : length c.in-Some.row.now ≡ (c.args.planes.now.width + 7) / 8 =
    ap length c.in-Some.ensures ∙ packed-len c.args.planes.now.width _ (c.requires.over.wide c.args.stroke c.args.place c.args.nozzle) in
    omega (arith, len, c.append_row.ensures.short)
