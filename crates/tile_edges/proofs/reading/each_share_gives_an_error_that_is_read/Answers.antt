use Rattle.tile_edges.proofs.Kernels.{gives_reads, reads_gives}
use Rattle.tile_edges.proofs.reading.each_share_gives_an_error_that_is_read.Goals as goal

pub returns : goal.returns
returns c = record {
  read = λ k x y m n right below below2. gives_reads k x y m n (record { right = right; below = below; below2 = below2 });
  given = λ k x y m n all. reads_gives k x y m n all;
}
