use Rattle.std.proofs.Common.{rules}
use Rattle.halftone_reader.proofs.SlabReads.{reads_diffused, slab_done}
use Rattle.halftone_reader.proofs.slabs.read_beside.Goals as goal

pub returns-clause-reads : goal.returns-clause-reads
returns-clause-reads g c =
    let told = c.in_ok-diffuse_beside.ensures in
    let done = slab_done c.args.filler.now c.swap.new.self c.args.diffuser.now c.diffuse_beside.new.self _ _ c.requires.full
    c.requires.rows c.requires.room c.swap.ensures.next told.kernel told.grain c.swap.ensures.slab c.first-first.ensures told.slab in
    reads_diffused _ c.in_ok-diffuse_beside.field-0 c.args.reader.now _ _ _ c.args.filler.now c.swap.new.self _ c.args.diffuser.now
    c.diffuse_beside.new.self done (search rules)
