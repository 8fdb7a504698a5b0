use Rattle.std.proofs.Common.{◌++◌, ◌∙◌, ap, append_assoc, sym}
use Rattle.pwg_definitions.specs.declared.pages.PageForm.{PageForm}
use Rattle.pwg_definitions.specs.Stream.{sync_word}
use Rattle.page_maker.specs.Made.{made_stream}
use Rattle.page_maker.specs.Pieces.{left_of}
use Rattle.page_maker.proofs.Making.{to_come-stream}
use Rattle.page_maker.proofs.pages.make_pages.Goals as goal

pub returns-clause-ok : goal.returns-clause-ok
returns-clause-ok c =
    let old = c.args.out.now.items in
    c.in-Ok.ensures.ok
    ∙ append_assoc old sync_word (left_of c.in_ok-pieces.pieces)
    ∙ ap (λ bytes. old ++ (sync_word ++ bytes)) c.in_ok-pieces.ensures.left
    ∙ ap (λ bytes. old ++ bytes) (sym (to_come-stream c.args.seed c.args.pages c.made_form-form.result c.args.hdpi c.args.vdpi))
    ∙ ap (λ (form : PageForm). old ++ made_stream c.args.seed c.args.pages form c.args.hdpi c.args.vdpi) c.made_form-form.ensures
