use Rattle.std.proofs.Common.{◌≡◌, ap, get_or}
use Rattle.grained_rows.proofs.GrainedTile.{no_offsets, offset_more}
use Rattle.grained_rows.proofs.grain.InkGrain.put_on_ink.Goals as goal

pub loop-o-init : goal.loop-o-init
loop-o-init c = no_offsets _ _ _ _ _

pub loop-o-preserved : goal.loop-o-preserved
loop-o-preserved c =
    let limit : get_or c.args.self.now.limits c.from.result 0 ≡ get_or c.args.self.now.limits c.number_of-number.result 0 =
    ap (λ n. get_or c.args.self.now.limits n 0) c.from.ensures in
    offset_more _ _ _ _ _ _ _ _ _ _ _ c.number_of-number.ensures.is limit c.starts_of-starts.ensures c.put_on_offset.ensures.there
    c.put_on_offset.ensures.others c.loop-o.invariant
