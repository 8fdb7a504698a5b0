use Rattle.std.proofs.Common.{◌+◌, ◌<◌, ◌≤◌, ◌∙◌, ap, sym, get_or, count_ones, arith, length}
use Rattle.std.proofs.lemmas.List.Sums.{sum_by_more}
use lib.Count.{ones-le}
use Rattle.base_definitions.proofs.ones.ones_in.Goals as goal

pub loop-byte-preserved : goal.loop-byte-preserved
loop-byte-preserved c =
    let inside : c.loop-byte.byte-index < length c.args.bytes.now = omega arith in
    let byte : get_or c.args.bytes.now c.loop-byte.byte-index 0 < 256 = omega (arith, c.type_inv.bytes c.loop-byte.byte-index) in
    let few : count_ones (get_or c.args.bytes.now c.loop-byte.byte-index 0) ≤ 8 = ones-le 8 _ byte in
    record {
      so_far = ap (λ n. n + count_ones (get_or c.args.bytes.now c.loop-byte.byte-index 0)) c.loop-byte.invariant.so_far
          ∙ sym (sum_by_more count_ones c.args.bytes.now c.loop-byte.byte-index 0 inside);
      most = omega arith;
    }
