use Rattle.std.proofs.Common.{arith}
use Rattle.tile_border.proofs.Columns.{columns_more, no_columns, same_columns}
use Rattle.tile_border.proofs.tops.TopEdges.zero.Goals as goal

pub loop-init : goal.loop-init
loop-init c = record {
  zeros = no_columns c.args.inks c.in_ok-edges.edges.items c.in_ok-edges.ensures.items;
  room = c.in_ok-edges.ensures.capacity;
}

pub loop-preserved : goal.loop-preserved
loop-preserved c = record {
  zeros = columns_more c.loop.counter c.args.inks c.loop.edges.items c.push_reserved.new.self.items c.in_ok-zero.field-0
      c.loop.invariant.zeros c.in_ok-zero.ensures c.push_reserved.ensures.items;
  room = let kept = c.push_reserved.ensures.capacity in let had = c.loop.invariant.room in omega arith;
}

pub returns : goal.returns
returns c = same_columns c.loop.counter c.args.columns c.args.inks c.loop.edges.items (omega (arith, c.loop.auto.counter-end))
    c.loop.invariant.zeros
