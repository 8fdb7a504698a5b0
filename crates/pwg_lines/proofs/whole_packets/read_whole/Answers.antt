use Rattle.std.proofs.Common.{◌≡◌, ℕ, ◌+◌, ◌-◌, ◌*◌, ◌++◌, List, drop, length, length-drop, take, sym, ◌∙◌, ap, arith, subst}
use Rattle.std.proofs.lemmas.List.{take_all}
use Rattle.std.proofs.Math.Seq.{take-add}
use Rattle.pwg_definitions.specs.Header.{row_of}
use Rattle.pwg_lines.specs.States.{Reads}
use Rattle.pwg_lines.proofs.WholePackets.{reads_more, whole_again}
use Rattle.pwg_lines.proofs.whole_packets.read_whole.Goals as goal

pub returns-in_default-clause-reads : goal.returns-in_default-clause-reads
returns-in_default-clause-reads c =
    let P : List ℕ → Type 0 = λ line. Reads (row_of c.args.kind).unit c.args.left c.packets.at.left (take c.args.filled c.args.line.now)
    (take c.packets.at.filled line) (take c.packets.at.used c.args.piece.now) in
    subst P (sym c.in_default.ensures.none) c.packets.invariant.reads

pub packets-preserved : goal.packets-preserved
packets-preserved c =
    let unit : ℕ = (row_of c.args.kind).unit in
    let used : ℕ = c.packets.at.used in
    let left : ℕ = c.packets.at.left in
    let bytes : ℕ = c.in-Some.bytes in
    let units : ℕ = c.in-Some.units in
    let rest : List ℕ = drop used c.args.piece.now in
    let filled_is : c.packets.at.filled + units * unit ≡ c.packets.at.filled + units * c.unit-unit.result =
    ap (λ k. c.packets.at.filled + units * k) (sym c.unit-unit.ensures.value) in
    let bytes_are : take used c.args.piece.now ++ take bytes (take (length c.args.piece.now - used) rest)
    ≡ take (used + bytes) c.args.piece.now =
    ap (λ bs. take used c.args.piece.now ++ take bytes bs) (take_all (length c.args.piece.now - used) rest (omega (arith, length-drop used c.args.piece.now)))
    ∙ sym (take-add used bytes c.args.piece.now) in
    let P : ℕ → Type 0 = λ k. Reads unit c.args.left (left - units) (take c.args.filled c.args.line.now)
    (take k c.put_packet.new.line) (take (used + bytes) c.args.piece.now) in
    let Q : List ℕ → Type 0 = Reads unit c.args.left (left - units) (take c.args.filled c.args.line.now)
    (take (c.packets.at.filled + units * unit) c.put_packet.new.line) in
    record {
      used = omega (arith, c.in-Some.ensures.most, length-drop used c.args.piece.now);
      whole = ap (λ k. k + (left - units) * unit) (sym filled_is)
          ∙ whole_again c.packets.at.filled units left unit _ c.in-Some.ensures.fewer c.packets.invariant.whole
          ∙ sym c.put_packet.auto.line;
      some = omega (arith, c.in-Some.ensures.fewer);
      reads = subst P filled_is (subst Q bytes_are
          (reads_more (take used c.args.piece.now) _ c.packets.invariant.reads c.in-Some.ensures.reads));
    }
