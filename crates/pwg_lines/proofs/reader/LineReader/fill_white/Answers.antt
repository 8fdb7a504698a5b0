use Rattle.std.proofs.Common.{◌≡◌, ◌+◌, ◌*◌, ◌++◌, length, take, refl, ◌∙◌, ap, arith}
use Rattle.pwg_definitions.specs.Groups.{copies}
use Rattle.pwg_definitions.specs.Header.{row_of}
use Rattle.pwg_lines.specs.States.{pending}
use Rattle.pwg_lines.proofs.Steps.{in_state, packet-white, written, written-front}
use Rattle.pwg_lines.proofs.reader.LineReader.fill_white.Goals as goal

pub returns : goal.returns
returns c =
    let sized : length c.fill_units.new.line ≡ c.args.self.now.line.len = c.fill_units.auto.line ∙ c.deref_mut.ensures.len in
    let none_pending : pending (row_of c.args.self.now.form.kind) c.args.self.now.state
    ≡ 0 = ap (pending (row_of c.args.self.now.form.kind)) c.requires in
    let whole : c.len-self.result ≡ c.args.self.now.filled + c.args.self.now.left * (0 + length c.white-white.result.now) =
    omega (
      arith,
      c.len-self.ensures,
      c.args.self.now.fits,
      none_pending,
      c.args.self.now.line.ok.0,
      ap (λ k. c.args.self.now.left * (0 + k)) c.white-white.ensures.sized,
    ) in
    record {
      form = refl;
      lines_left = refl;
      stands = λ sofar so_far. packet-white sofar refl
          (in_state c.args.self.now.line.items c.args.self.now.filled sofar c.requires so_far)
          (ap (λ k. take k (written c.args.self.now.line.len c.args.self.now.line.items c.fill_units.new.line)) whole
          ∙ written-front _ _ _ _ _ (λ bs. take c.args.self.now.filled bs ++ copies c.args.self.now.left c.white-white.result.now) sized
          c.deref_mut.ensures.value c.fill_units.ensures.filled
          ∙ ap (λ bs. take c.args.self.now.filled c.args.self.now.line.items ++ copies c.args.self.now.left bs)
          c.white-white.ensures.value);
    }
