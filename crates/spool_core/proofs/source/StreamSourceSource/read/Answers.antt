use Rattle.std.proofs.Common.{◌≡◌, ◌≤◌, ◌+◌, ◌-◌, length, min, arith, ap, ◌∙◌, take, drop, List, ℕ, length-drop}
use Rattle.std.proofs.lemmas.List.{take_all}
use Rattle.weave_base.proofs.Copying.{read_copies, read_ends}
use Rattle.spool_core.proofs.source.StreamSourceSource.read.Goals as goal

pub returns-clause-bytes : goal.returns-clause-bytes
returns-clause-bytes c =
    let s = c.self.inside in
    let n = c.min-count.result in
    let stream : c.as_slice.result.now ≡ s.stream = c.as_slice.ensures in
    let len : length c.as_slice.result.now ≡ length s.stream = ap length stream in
    let front = length-drop s.at s.stream in
    let back = length-drop s.at c.as_slice.result.now in
    let most : n ≡ min (length c.args.buf.now) (length s.stream - s.at) = omega (arith, c.min-count.ensures) in
    let within : s.at + n ≤ length s.stream = omega (arith, c.self.invariant) in
    let copied : c.copy_from_slice.new.self ≡ take (s.at + n - s.at) (drop s.at s.stream) =
    c.copy_from_slice.ensures.after
    ∙ ap (take n) (take_all (length c.as_slice.result.now - s.at) (drop s.at c.as_slice.result.now) (omega arith))
    ∙ ap (λ (xs : List ℕ). take n (drop s.at xs)) stream
    ∙ ap (λ k. take k (drop s.at s.stream)) (omega arith) in
    rw (← c.self.view_is) (
      read_copies s.stream c.args.buf.now c.copy_from_slice.new.self s.at n copied within,
      read_ends s.stream c.args.buf.now c.copy_from_slice.new.self s.at (λ some. some) most c.copy_from_slice.ensures.len,
    )
