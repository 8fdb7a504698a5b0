use Rattle.std.proofs.Common.{◌≡◌, ◌≤◌, length, vec_capacity}
use Rattle.tile_board.specs.Board.{view}
use Rattle.wavefront_team.specs.Passes.{IsRest, IsShareOf, desk}
use Rattle.worker_team.specs.Shares.{AllReady}
use Rattle.wavefront_team.proofs.diffusing.shares_of.Given as goal

abbrev pub invariant-loop : goal.invariant-loop
invariant-loop g l = record {
  shares : AllReady (λ share. IsShareOf (desk l.board) (g.L.Lends.desk share.lent) share.worker.pass) l.shares.items;
  rest : IsRest (desk l.board) (length l.shares.items) l.pass;
  first : (view l.pass).number ≡ 0;
  made : length l.shares.items ≡ l.counter;
  few : l.counter ≤ l.count;
  most : l.count ≤ 64;
  room : l.count ≤ vec_capacity l.shares;
}
