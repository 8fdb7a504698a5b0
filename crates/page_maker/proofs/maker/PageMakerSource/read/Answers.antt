use Rattle.std.proofs.Common.{◌≡◌, ◌≤◌, ◌+◌, ◌-◌, length, min, arith, ap, sym, ◌∙◌, take, drop, List, ℕ}
use Rattle.std.proofs.lemmas.List.{length-take-le}
use Rattle.page_maker.proofs.Giving.{piece_ends, piece_read}
use Rattle.page_maker.specs.Pieces.{left_of}
use Rattle.page_maker.proofs.maker.PageMakerSource.read.Goals as goal

pub returns-clause-bytes : goal.returns-clause-bytes
returns-clause-bytes c =
    let given = c.refill.new.given in
    let piece : List ℕ = c.refill.new.piece.items in
    let left : List ℕ = left_of c.refill.new.pieces in
    let n = c.min-count.result in
    let copied = c.copy_from_slice.ensures.after ∙ ap (λ (xs : List ℕ). take (given + n - given) (drop given xs)) c.deref.ensures.value in
    let len : length piece ≡ c.refill.new.piece.len = sym c.refill.new.piece.ok.0 in
    let within : given + n ≤ length piece = omega arith in
    let count : n ≡ min (length c.args.buf.now) (length piece - given) = omega arith in
    let sized : length c.copy_from_slice.new.self ≡ n =
    c.copy_from_slice.ensures.len ∙ length-take-le n c.args.buf.now (omega arith) in (
      piece_read _ piece left _ _ given n (c.refill.ensures.left ∙ c.self.view_is) copied within,
      piece_ends piece left _ _ given n count (omega arith) sized (λ all. c.refill.ensures.end (omega arith)),
    )
