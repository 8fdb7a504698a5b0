use Rattle.std.proofs.Common.{◌*◌, ap, arith, false, sym, ◌∙◌}
use Rattle.std.proofs.lemmas.Bool.{false≢true}
use Rattle.std.proofs.lemmas.List.{get_or-replicate}
use Rattle.dot_planes.proofs.RowBytes.{zero_at}
use Rattle.raw_rows.proofs.kept.RawRows.make.Goals as goal

pub invariant_of-result : goal.invariant_of-result
invariant_of-result c = record {
  size = c.requires;
  long = c.bytes_of-len.ensures.is;
  room = omega (arith, c.in_ok-bytes.ensures.capacity, c.in_ok-resize.ensures.capacity);
  there = λ y. omega (arith, ap (λ n. n * c.bytes_of-len.result) (zero_at 256 y), c.in_ok-resize.ensures.len);
  earlier = λ y. omega (arith, zero_at 256 y);
  in_order = λ r y order low. omega (arith, zero_at 256 r);
  free = c.white_is_free-white_is_free.ensures;
  flagged = λ y low is. absurd (false≢true (sym (get_or-replicate 256 y false false low) ∙ is));
}
