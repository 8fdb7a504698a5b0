use Rattle.std.proofs.Common.{◌≡◌, true, false, sym, ◌∙◌}
use Rattle.pwg_stream.proofs.reader.PageReader.next_page.Goals as goal

pub returns-in-Ok-Some-clause-again : goal.returns-in-Ok-Some-clause-again
returns-in-Ok-Some-clause-again g c = λ stop is. absurd (c.in_default.not-Some stop is)

pub returns-in-Ok-Some-clause-end_again : goal.returns-in-Ok-Some-clause-end_again
returns-in-Ok-Some-clause-end_again g c = λ ended going. absurd (let never : false ≡ true = sym c.if-self.false ∙ ended in cc)
