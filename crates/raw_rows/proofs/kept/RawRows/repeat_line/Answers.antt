use Rattle.std.proofs.Common.{ℕ, ◌≡◌, ◌-◌, ◌<◌, ap, arith, get_or, get_or-set_other, get_or-set_same, length, refl, ◌∙◌}
use Rattle.dot_planes.specs.Tables.{row_at}
use Rattle.raw_rows.proofs.Flags.{repeated_earlier, repeated_flags, repeated_in_order, repeated_there}
use Rattle.raw_rows.proofs.LinePuts.{repeats}
use Rattle.raw_rows.proofs.kept.RawRows.repeat_line.Goals as goal

pub invariant_of-self : goal.invariant_of-self
invariant_of-self c =
    let raw = c.args.self.now in
    let y : ℕ = c.args.y in
    let room : y < 256 = omega (arith, c.requires.y, raw.size.most_rows) in
    let many : length raw.index ≡ 256 = omega arith in
    let flags : length raw.white ≡ 256 = omega arith in
    record {
      size = raw.size;
      long = raw.long;
      room = raw.room;
      there = repeated_there raw.len _ y raw.index room many raw.there;
      earlier = repeated_earlier y raw.index room many raw.earlier;
      in_order = repeated_in_order y raw.index room many raw.in_order;
      free = raw.free;
      flagged = repeated_flags raw.separator.kind raw.len y raw.bytes.items raw.index raw.white c.requires.some room many flags raw.flagged;
    }

pub returns-clause-line : goal.returns-clause-line
returns-clause-line c =
    let raw = c.args.self.now in
    let y = c.args.y in
    repeats _ _ y (record { separator = refl; rows = refl }) c.requires.y
    (λ r before k low.
    let place : y - 1 ≡ r = omega arith in
    ap (λ n. get_or (row_at raw.len raw.bytes.items n) k 0)
    (get_or-set_same raw.index y _ 0 (omega (arith, c.requires.y, raw.size.most_rows)) ∙ ap (λ n. get_or raw.index n 0) place))
    (λ r above k low. ap (λ n. get_or (row_at raw.len raw.bytes.items n) k 0) (get_or-set_other raw.index y r _ 0 (omega arith)))
