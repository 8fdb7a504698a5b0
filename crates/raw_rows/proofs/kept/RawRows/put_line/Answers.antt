use Rattle.std.proofs.Common.{ℕ, List, ap, arith, get_or, length-take, refl, sym, take, ◌∙◌}
use Rattle.std.proofs.lemmas.List.{get_or-take}
use Rattle.dot_planes.specs.Tables.{row_at}
use Rattle.raw_rows.proofs.Flags.{put_flags}
use Rattle.raw_rows.proofs.LinePuts.{has_line, keeps, kept_line, last_line}
use Rattle.raw_rows.proofs.Numbers.{IsPut, still_earlier, still_in_order, still_there}
use Rattle.raw_rows.specs.Lines.{white_byte}
use Rattle.raw_rows.proofs.kept.RawRows.put_line.Goals as goal

pub invariant_of-self : goal.invariant_of-self
invariant_of-self c =
    let raw = c.args.self.now in
    let y : ℕ = c.args.y in
    let n : ℕ = c.next_line-n.result in
    let index : List ℕ = c.number_from.new.index in
    let line : List ℕ = c.args.line.now in
    let put : IsPut raw.index index y n = record {
      above = c.number_from.ensures.above;
      others = c.number_from.ensures.others;
      behind = c.next_line-n.ensures.above;
      many = c.number_from.ensures.many;
    } in
    record {
      size = raw.size;
      long = raw.long;
      room = omega (arith, raw.room, c.put_last.ensures.capacity);
      there = λ r. omega (arith, still_there raw.index index y n raw.len put r, c.put_last.ensures.len, length-take raw.len line, raw.long, c.requires.line);
      earlier = still_earlier raw.index index y n put raw.earlier c.next_line-n.ensures.most;
      in_order = still_in_order raw.index index y n put (omega (arith, c.requires.y, raw.size.most_rows)) raw.in_order;
      free = raw.free;
      flagged = put_flags raw.separator.kind raw.len y n c.is_white_line.result raw.bytes.items c.put_last.new.bytes.items line
          raw.index index raw.white c.flag_from.new.white put (omega (arith, c.next_line-n.ensures.behind))
          (omega (arith, raw.long, c.requires.line)) c.put_last.ensures.items c.flag_from.ensures.above c.flag_from.ensures.others
          (λ white k low. sym (get_or-take raw.len line k 0 low)
          ∙ (c.is_white_line.ensures white).byte k (omega (arith, raw.long, c.requires.line, length-take raw.len line, low))
          ∙ ap white_byte c.kind.ensures)
          raw.flagged;
    }

pub returns-clause-line : goal.returns-clause-line
returns-clause-line c = λ p kind w is.
    let raw = c.args.self.now in
    let n : ℕ = c.next_line-n.result in
    let line : List ℕ = c.args.line.now in
    let bytes : List ℕ = c.put_last.new.bytes.items in
    let here = c.number_from.ensures.others c.args.y (omega arith) (omega (arith, c.requires.y, raw.size.most_rows)) in
    has_line _ c.args.y line p kind w is c.requires.y (λ k low.
    ap (λ m. get_or (row_at raw.len bytes m) k 0) here
    ∙ ap (λ (bs : List ℕ). get_or (row_at raw.len bs n) k 0) c.put_last.ensures.items
    ∙ last_line raw.len n k raw.bytes.items line (omega (arith, c.next_line-n.ensures.behind)) (omega (arith, raw.long, low)))

pub returns-clause-above : goal.returns-clause-above
returns-clause-above c =
    let raw = c.args.self.now in
    let n : ℕ = c.next_line-n.result in
    let bytes : List ℕ = c.put_last.new.bytes.items in
    keeps _ _ c.args.y (record { separator = refl; rows = refl }) (λ r above k low.
    let m : ℕ = get_or raw.index r 0 in
    ap (λ i. get_or (row_at raw.len bytes i) k 0) (c.number_from.ensures.above r above)
    ∙ ap (λ (bs : List ℕ). get_or (row_at raw.len bs m) k 0) c.put_last.ensures.items
    ∙ kept_line raw.len n m k raw.bytes.items (take raw.len c.args.line.now) (omega (arith, c.next_line-n.ensures.behind))
    (c.next_line-n.ensures.above r above) (omega (arith, raw.long, low)))
