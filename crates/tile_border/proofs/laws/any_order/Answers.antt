use Rattle.tile_lanes.specs.Done.{window_of}
use Rattle.tile_border.specs.Worked.{result_of, window_with}
use Rattle.tile_border.proofs.laws.any_order.Goals as goal

pub returns : goal.returns
returns c = λ k rows top errors events core handed given shape run right worked p tile begun.
    c.any_order.ensures (window_of rows) events core (window_with k rows errors) (λ q. result_of (given q)) shape run
    (c.what_work_gives_is_a_record.ensures k rows top errors core handed given right worked) p tile begun
