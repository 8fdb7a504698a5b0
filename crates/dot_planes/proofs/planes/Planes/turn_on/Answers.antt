use Rattle.std.proofs.lemmas.Grind.{common_steps}
use Rattle.std.proofs.Common.{◌≡◌, ◌+◌, ◌*◌, ◌/◌, ◌%◌, ◌-◌, ◌^◌, ◌<◌, ℕ, ap, arith, bit_or, get_or}
use Rattle.std.proofs.lemmas.List.{get_or_read}
use Rattle.dot_planes.specs.Planes.{all_bytes}
use Rattle.dot_planes.specs.Tables.{DotTable}
use Rattle.dot_planes.proofs.PutDots.{turns_on}
use Rattle.dot_planes.proofs.PlaneWrites.{IsReached, dot-put, dot-table, end-there, is-reached, with_dot}
use Rattle.dot_planes.proofs.planes.Planes.turn_on.Goals as goal

abbrev end : goal.After-self-1 → ℕ
end c = c.row_start_across-start.result + c.row_len-len.result

is_reached : (c : goal.After-self-1) → IsReached c.self.inside c.reach.new.bytes c.args.ink c.args.y c.row_start_across-start.result (end c)
is_reached c = is-reached _ _ _ c.args.ink c.args.y _ _ c.self.invariant c.self.view_is c.requires.ink c.requires.y
    c.row_start_across-start.ensures.is c.row_len-len.ensures.is c.reach.ensures.items c.reach.ensures.capacity

abbrev byte : goal.After-self-1 → ℕ
byte c = bit_or c.index_mut.result.now (1 * 2 ^ (7 - c.args.x % 8) % 256)

across : (c : goal.After-self-1) → c.args.x < c.self.inside.width
across c = let width : c.self.inside.width ≡ c.args.self.now.width = ap (λ (t : DotTable). t.width) c.self.view_is in omega (arith, width)

byte_is : (c : goal.After-self-1)
    → byte c ≡ bit_or (get_or c.reach.new.bytes.items (c.row_start_across-start.result + c.args.x / 8) 0) (1 * 2 ^ (7 - c.args.x % 8) % 256)
byte_is c = grind (arith, common_steps, end-there, get_or_read)

pub returns : goal.returns
returns c = turns_on _ _ c.args.ink c.args.y c.args.x _
    (all_bytes (with_dot c.self.inside c.reach.new.bytes (c.row_start_across-start.result + c.args.x / 8) (byte c))) c.self.view_is
    (dot-put _ _ _ _ _ _ _ (byte c) (is_reached c) (across c) (byte_is c))

pub invariant_of-self : goal.invariant_of-self
invariant_of-self c = dot-table _ _ _ _ _ _ _ (byte c) (is_reached c) (across c) (byte_is c)
