use Rattle.std.proofs.Common.{◌≡◌, ◌+◌, ◌++◌, length, take, refl, sym, ◌∙◌, ap, arith}
use Rattle.std.proofs.lemmas.List.{length-take-le}
use Rattle.pwg_lines.proofs.Steps.{in_state, literal-end, literal-part, written, written-front}
use Rattle.pwg_lines.proofs.reader.LineReader.feed_literal.Goals as goal
use Rattle.pwg_lines.proofs.reader.LineReader.feed_literal.Goals.{then-count-wanted, else-count-wanted}

pub returns-clause-takes : goal.returns-clause-takes
returns-clause-takes c =
    let sized : length c.fill_bytes.new.line ≡ c.args.self.now.line.len = c.fill_bytes.auto.line ∙ c.deref_mut.ensures.len in
    let new : _ = written c.args.self.now.line.len c.args.self.now.line.items c.fill_bytes.new.line in
    let count : length (take c.min-count.result c.args.bytes.now) ≡ c.min-count.result =
    length-take-le c.min-count.result c.args.bytes.now (omega (arith, c.min-count.ensures)) in
    let grown : take (c.args.self.now.filled + c.min-count.result) new ≡ take c.args.self.now.filled c.args.self.now.line.items
    ++ take c.min-count.result c.args.bytes.now =
    ap (λ k. take (c.args.self.now.filled + k) new) (sym count)
    ∙ written-front _ _ _ _ _ (λ bs. take c.args.self.now.filled bs ++ take c.min-count.result c.args.bytes.now) sized
    c.deref_mut.ensures.value c.fill_bytes.ensures in
    record {
      form = refl;
      lines_left = refl;
      stands = λ sofar so_far. elim c.if-count-wanted.branch [
        | then-count-wanted w ↦ in_state new (c.args.self.now.filled + c.min-count.result) _ (sym w.self-is)
            (literal-part sofar c.args.wanted _
            (in_state c.args.self.now.line.items c.args.self.now.filled sofar c.requires so_far) (omega arith) grown
            (omega arith))
        | else-count-wanted w ↦ in_state new (c.args.self.now.filled + c.min-count.result) _ (sym w.state_after-self.ensures
            ∙ sym w.self-is)
            (literal-end sofar c.args.wanted _
            (in_state c.args.self.now.line.items c.args.self.now.filled sofar c.requires so_far) (omega arith) grown)
      ];
    }
