use Rattle.halftone_reader.proofs.SlabReads.{reads_diffused, slab_done}
use Rattle.halftone_reader.proofs.slabs.read_after.Goals as goal

pub returns-clause-reads : goal.returns-clause-reads
returns-clause-reads g c =
    let told = c.in_ok-diffuse_beside.ensures in
    let done = slab_done c.args.filler.now c.go_on.new.self c.args.diffuser.now c.diffuse_beside.new.self _ _ c.requires.full
    c.requires.rows c.requires.room c.go_on.ensures told.kernel told.grain c.slab-slab.ensures c.first-first.ensures told.slab in
    reads_diffused _ c.fill.result c.args.reader.now c.fill.new.reader _ _ c.args.filler.now c.go_on.new.self c.fill.new.filler
    c.args.diffuser.now c.diffuse_beside.new.self done c.fill.ensures.fills
