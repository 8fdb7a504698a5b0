use Rattle.tile_edges.proofs.Kernels.{other_errors}
use Rattle.tile_edges.proofs.reading.no_other_error_counts.Goals as goal

pub returns : goal.returns
returns c = λ k p e f x y right below below2. other_errors k p e f x y (record { right = right; below = below; below2 = below2 })
