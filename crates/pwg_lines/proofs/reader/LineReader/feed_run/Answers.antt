use Rattle.std.proofs.Common.{◌≡◌, ◌+◌, ◌-◌, ◌*◌, ◌++◌, length, take, drop, refl, sym, ◌∙◌, ap, arith}
use Rattle.std.proofs.Math.Seq.{take-length}
use Rattle.std.proofs.lemmas.List.{length-take-le}
use Rattle.pwg_definitions.specs.Groups.{copies}
use Rattle.pwg_lines.proofs.Filling.{unit_grows}
use Rattle.pwg_lines.proofs.Steps.{in_state, run-end, run-part, written, written-front, written-is}
use Rattle.pwg_lines.proofs.Within.{RunFits, run_fits}
use Rattle.pwg_lines.proofs.reader.LineReader.feed_run.Goals as goal

pub returns-then-bytes-wanted-clause-takes : goal.returns-then-bytes-wanted-clause-takes
returns-then-bytes-wanted-clause-takes c =
    let fits : RunFits c.args.self.now c.args.units c.args.read = run_fits c.args.self.now c.args.units c.args.read c.requires in
    let sized : length c.fill_bytes.new.line ≡ c.args.self.now.line.len = c.fill_bytes.auto.line ∙ c.deref_mut.ensures.len in
    let new : _ = written c.args.self.now.line.len c.args.self.now.line.items c.fill_bytes.new.line in
    let new_len : length new ≡ length c.args.self.now.line.items =
    ap length (written-is _ _ _ sized) ∙ sized
    ∙ (let e : c.args.self.now.line.len ≡ length c.args.self.now.line.items = omega (arith, c.args.self.now.line.ok.0) in e) in
    let grown : take (c.args.self.now.filled + c.args.read + length c.args.bytes.now) new
    ≡ take (c.args.self.now.filled + c.args.read) c.args.self.now.line.items ++ c.args.bytes.now =
    written-front _ _ _ _ _ (λ bs. take (c.args.self.now.filled + c.args.read) bs ++ c.args.bytes.now) sized c.deref_mut.ensures.value
    c.fill_bytes.ensures in
    let kept : _ = unit_grows c.args.self.now.filled c.args.read c.args.self.now.line.items new c.args.bytes.now (omega arith)
    (omega (arith, new_len))
    (ap (λ k. take k new) (let e : c.args.self.now.filled + (c.args.read + length c.args.bytes.now) ≡ c.args.self.now.filled + c.args.read
    + length c.args.bytes.now = omega arith in e) ∙ grown) in
    record {
      form = refl;
      lines_left = refl;
      stands = λ sofar so_far. run-part sofar c.args.units c.args.read (take (length c.args.bytes.now) c.args.bytes.now)
          (in_state c.args.self.now.line.items c.args.self.now.filled sofar c.requires so_far)
          (ap (λ bs. c.args.read + length bs) (sym (take-length c.args.bytes.now))) (omega (arith, c.unit-unit.ensures.value)) kept.0
          (kept.1 ∙ ap (λ bs. take c.args.read (drop c.args.self.now.filled c.args.self.now.line.items) ++ bs)
          (sym (take-length c.args.bytes.now)));
    }

pub returns-clause-takes : goal.returns-clause-takes
returns-clause-takes c =
    let fits : RunFits c.args.self.now c.args.units c.args.read = run_fits c.args.self.now c.args.units c.args.read c.requires in
    let sized : length c.fill_units.new.line ≡ c.args.self.now.line.len = c.fill_units.auto.line ∙ c.deref_mut-2.ensures.len in
    let new : _ = written c.args.self.now.line.len c.args.self.now.line.items c.fill_units.new.line in
    let others : _ = take (c.unit-unit.result - c.args.read) c.args.bytes.now in
    let count : length others ≡ c.unit-unit.result - c.args.read = length-take-le _ c.args.bytes.now (omega arith) in
    let unit : c.args.read + length others ≡ c.unit-unit.result = omega (arith, count, c.unit-unit.ensures.value) in
    let grown : take (c.args.self.now.filled + c.args.units * c.unit-unit.result) new
    ≡ take c.args.self.now.filled c.args.self.now.line.items
    ++ copies c.args.units (take c.args.read (drop c.args.self.now.filled c.args.self.now.line.items) ++ others) =
    ap (λ k. take (c.args.self.now.filled + c.args.units * k) new) (sym unit)
    ∙ written-front _ _ _ _ _
    (λ bs. take c.args.self.now.filled bs ++ copies c.args.units (take c.args.read (drop c.args.self.now.filled bs) ++ others)) sized
    c.deref_mut-2.ensures.value c.fill_units.ensures.filled in
    record {
      form = refl;
      lines_left = refl;
      stands =
          λ sofar so_far. in_state new (c.args.self.now.filled + c.args.units * c.unit-unit.result) _
          (sym c.state_after-self.ensures)
          (run-end sofar c.args.units c.args.read others
          (in_state c.args.self.now.line.items c.args.self.now.filled sofar c.requires so_far)
          (count ∙ ap (λ k. k - c.args.read) c.unit-unit.ensures.value) grown);
    }
