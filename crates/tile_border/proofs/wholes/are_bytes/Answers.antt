use Rattle.tile_border.proofs.wholes.are_bytes.Goals as goal

pub returns : goal.returns
returns c = λ n. (c.type_inv.bytes n).fits
