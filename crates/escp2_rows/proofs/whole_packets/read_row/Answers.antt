use Rattle.std.proofs.Common.{◌≡◌, ℕ, ◌+◌, ◌-◌, ◌<◌, ◌∙◌, drop, get_or, length, length-drop, take, ap, arith, refl, subst}
use Rattle.std.proofs.lemmas.List.{get_or-drop, take_all}
use Rattle.escp2_rows.specs.Packets.{ReadsRows}
use Rattle.escp2_rows.proofs.WholePackets.{reads_packet}
use Rattle.escp2_rows.proofs.whole_packets.read_row.Goals as goal

pub packets-preserved : goal.packets-preserved
packets-preserved c =
    let used : ℕ = c.packets.at.used in
    let filled : ℕ = c.packets.at.filled in
    let kept : ℕ = c.shape_of-shape.result.kept in
    let count : ℕ = c.shape_of-shape.result.count in
    let put = c.if-not-put_packet.ensures in
    let sized : length (drop used c.args.piece.now) ≡ length c.args.piece.now - used = length-drop used c.args.piece.now in
    let behind : take (length c.args.piece.now - used) (drop used c.args.piece.now) ≡ drop used c.args.piece.now =
    take_all _ _ (omega (arith, sized)) in
    let control : get_or (take (length c.args.piece.now - used) (drop used c.args.piece.now)) 0 0 ≡ get_or c.args.piece.now (used + 0) 0 =
    ap (λ bs. get_or bs 0 0) behind ∙ get_or-drop used c.args.piece.now 0 0 in
    let byte : get_or (take (length c.args.piece.now - used) (drop used c.args.piece.now)) 0 0 < 256 =
    omega (arith, control, (c.type_inv.piece (used + 0)).fits) in
    record {
      used = omega (arith, put.whole refl, sized);
      least = omega (arith, c.packets.invariant.least);
      most = omega arith;
      none = λ none. absurd (omega arith);
      reads = λ width left m fits.
          let P : ℕ → Type 0 = λ k. ReadsRows width left m k m c.args.filled (filled + count)
          (take (used + (kept + 2)) c.args.piece.now) c.args.out.now c.put_packet.new.out in
          let less : c.args.filled + left - filled - count ≡ c.args.filled + left - (filled + count) = omega arith in
          subst P less (reads_packet kept count used c.args.piece.now (c.packets.invariant.reads width left m fits) behind
          (take_all _ _ (omega (arith, length-drop 1 (take (length c.args.piece.now - used) (drop used c.args.piece.now)))))
          byte c.shape_of-shape.ensures (put.few refl) (omega arith) (omega (arith, put.whole refl, sized)) (put.put refl));
    }
