use Rattle.std.proofs.Common.{◌≡◌, ◌+◌, ◌-◌, ◌*◌, refl, sym, ◌∙◌, ap, arith}
use Rattle.pwg_definitions.specs.Header.{row_of}
use Rattle.pwg_lines.specs.declared.states.State.TheVariants as state
use Rattle.pwg_laws.proofs.KindRows.{kind_row}
use Rattle.pwg_lines.proofs.Steps.{in_state, packet-literal, packet-past, packet-run, units-literal, units-past, units-run}
use Rattle.pwg_lines.proofs.reader.LineReader.feed_packet.Goals as goal
use Rattle.pwg_lines.proofs.reader.LineReader.feed_packet.Goals.{then-first-lt128, else-first-lt128}

pub returns-then-self-units : goal.returns-then-self-units
returns-then-self-units c = record {
  form = refl;
  lines_left = refl;
  stands = λ sofar so_far. packet-past sofar c.args.first
      (in_state c.args.self.now.line.items c.args.self.now.filled sofar c.requires so_far)
      (units-past _ c.args.first _ c.units_of-units.ensures c.if-self-units.true);
}

pub returns : goal.returns
returns c = record {
  form = refl;
  lines_left = refl;
  stands = λ sofar so_far. elim c.if-first-lt128.branch [
    | then-first-lt128 w ↦
        (let units_are : c.units_of-units.result ≡ c.args.first + 1 =
        units-run _ c.args.first _ c.units_of-units.ensures w.if-first-lt128.true in
        in_state c.args.self.now.line.items c.args.self.now.filled _ (ap (λ k. state.Run k 0) (sym units_are) ∙ sym w.self-is)
        (packet-run sofar c.args.first (kind_row c.args.self.now.form.kind).some
        (in_state c.args.self.now.line.items c.args.self.now.filled sofar c.requires so_far)
        w.if-first-lt128.true (omega arith) (ap (λ k. c.args.self.now.left - k) units_are)))
    | else-first-lt128 w ↦
        (let units_are : c.units_of-units.result ≡ 257 - c.args.first =
        units-literal _ c.args.first _ c.units_of-units.ensures (omega arith) in
        in_state c.args.self.now.line.items c.args.self.now.filled _
        (ap state.Literal (ap (λ k. k * (row_of c.args.self.now.form.kind).unit) (sym units_are)
        ∙ ap (λ k. c.units_of-units.result * k) (sym w.unit.ensures.value)) ∙ sym w.self-is)
        (packet-literal sofar c.args.first (kind_row c.args.self.now.form.kind).some
        (in_state c.args.self.now.line.items c.args.self.now.filled sofar c.requires so_far)
        (omega arith) (omega arith) (omega arith) (ap (λ k. c.args.self.now.left - k) units_are)))
  ];
}
