use Rattle.std.proofs.Common.{◌≡◌, ℕ, [], ◌++◌, take}
use Rattle.escp2_definitions.specs.Commands.{command_at}
use Rattle.escp2_definitions.specs.Commands.Heard.{Part}
use Rattle.escp2_reader.specs.Headers.{IsShort}
use Rattle.escp2_reader.specs.Stages.{room_at}
use Rattle.escp2_reader.proofs.reader.JobReader.feed_header.Given as goal

abbrev pub invariant-bytes : goal.invariant-bytes
invariant-bytes l = record {
  part : command_at l.header.items ≡ Part;
  short : IsShort 0 l.header.items;
  gathered : l.header.items ≡ l.fn.header.items ++ take l.i l.piece;
  begin : l.self.begin ≡ l.fn.self.begin;
  next : l.self.next ≡ l.fn.self.next;
  none : l.self.rows.items ≡ [];
  idle : (len : ℕ) → room_at l.self.stage len ≡ 0;
}
