use Rattle.std.proofs.Common.{arith, subst, sym}
use Rattle.dead_nozzles.proofs.Tables.{dead-few}
use Rattle.page_definitions.specs.Ways.{CanGo}
use Rattle.page_definitions.specs.declared.way.Way.{Way}
use Rattle.page_writer.proofs.ways.write_healed.Goals as goal

pub around-requires : goal.around-requires
around-requires g c =
    let can = c.checked_can_print.ensures c.requires.checked in
    omega (arith, dead-few c.args.profile.now.nozzles c.args.dead.now c.requires.rising c.requires.nozzles, can.most_nozzles)

pub write_by_way-requires-clause-way : goal.write_by_way-requires-clause-way
write_by_way-requires-clause-way g c κs within =
    subst (λ (way : Way). CanGo way c.args.profile.now) (sym c.around.ensures) (c.requires.rising, c.requires.nozzles)

pub returns : goal.returns
returns g c = rw c.around.ensures at c.write_by_way.ensures
