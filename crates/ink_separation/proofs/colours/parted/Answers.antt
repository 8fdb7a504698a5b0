use Rattle.std.proofs.Common.{get_or}
use Rattle.ink_separation.proofs.Riffles.{five_times}
use Rattle.ink_separation.proofs.colours.parted.Goals as goal

pub returns : goal.returns
returns c = five_times (λ k. get_or c.args.bytes.now k 0) (λ k. get_or c.riffled.result k 0) (λ k. get_or c.riffled-2.result k 0)
    (λ k. get_or c.riffled-3.result k 0) (λ k. get_or c.riffled-4.result k 0) (λ k. get_or c.riffled-5.result k 0)
    c.riffled.ensures c.riffled-2.ensures c.riffled-3.ensures c.riffled-4.ensures c.riffled-5.ensures
