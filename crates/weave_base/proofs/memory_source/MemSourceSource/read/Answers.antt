use Rattle.std.proofs.Common.{◌≡◌, ◌≤◌, ◌+◌, ◌-◌, length, min, arith, ap, ◌∙◌, take, drop, List, ℕ}
use Rattle.weave_base.proofs.Copying.{read_copies, read_ends}
use Rattle.weave_base.proofs.memory_source.MemSourceSource.read.Goals as goal

pub returns-clause-bytes : goal.returns-clause-bytes
returns-clause-bytes c =
    let s = c.self.inside in
    let n = c.bytes_moved-count.result in
    let copied = c.copy_from_slice.ensures.after ∙ ap (λ (xs : List ℕ). take (s.at + n - s.at) (drop s.at xs)) c.deref-3.ensures.value in
    let within : s.at + n ≤ length s.bytes.items = omega (
      arith,
      c.bytes_moved-count.ensures.most,
      c.min-most.ensures,
      c.len.ensures,
      s.bytes.ok.0,
      c.self.invariant,
    ) in
    let most : c.min-most.result ≡ min (length c.args.buf.now) (length s.bytes.items - s.at) =
    omega (arith, c.min-most.ensures, c.len.ensures, s.bytes.ok.0) in
    rw (← c.self.view_is)
    (read_copies _ _ _ _ _ copied within, read_ends _ _ _ _ c.bytes_moved-count.ensures.some most c.copy_from_slice.ensures.len)
