use Rattle.std.proofs.Common.{arith}
use Rattle.tile_board.proofs.Waiting.{one-more}
use Rattle.tile_board.proofs.ends.waiting_slots.Goals as goal

pub loop-n-preserved : goal.loop-n-preserved
loop-n-preserved c =
    let a = c.push_reserved.ensures in
    let b = c.push_reserved-in-loop-n.ensures in
    let d = c.push_reserved-in-loop-n-2.ensures in
    let e = c.push_reserved-in-loop-n-3.ensures in
    let i = c.loop-n.invariant in
    let a₀ = a.len in let b₀ = b.len in let d₀ = d.len in let e₀ = e.len in let i₀ = i.long in
    let a₁ = a.capacity in let b₁ = b.capacity in let d₁ = d.capacity in let e₁ = e.capacity in let i₁ = i.room in
    record {
      items = one-more c.args.shape c.args.inks c.columns-columns.result c.loop-n.n c.columns-columns.ensures
          i.items a.items b.items d.items e.items c.in_ok-dots.ensures.bytes c.in_ok-right.ensures c.in_ok-bottom.ensures c.in_ok-corner.ensures;
      long = omega arith;
      room = omega arith;
    }
