use Rattle.std.proofs.Common.{◌≡◌, ◌++◌, List, ℕ, ◌∙◌, ap, rules, sym}
use Rattle.pwg_definitions.specs.Stream.{sync_word}
use Rattle.page_maker.proofs.Making.{to_come-stream}
use Rattle.page_maker.specs.Pieces.{left_of}
use Rattle.page_maker.proofs.maker.PageMaker.make.Goals as goal

pub returns : goal.returns
returns c =
    let left : List ℕ = left_of c.in_ok-pieces.pieces in
    let put : c.extend_from_slice.new.self.items ≡ c.in_ok-piece.piece.items ++ sync_word = search rules in
    ap (λ bytes. bytes ++ left) (put ∙ ap (λ bytes. bytes ++ sync_word) c.in_ok-piece.ensures.items)
    ∙ ap (λ bytes. sync_word ++ bytes) c.in_ok-pieces.ensures.left
    ∙ sym (to_come-stream c.args.seed c.args.pages c.args.form c.args.hdpi c.args.vdpi)
