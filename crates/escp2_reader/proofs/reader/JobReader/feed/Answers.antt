use Rattle.std.proofs.Common.{ap, ◌∙◌}
use Rattle.escp2_definitions.specs.Commands.{command_at}
use Rattle.escp2_reader.specs.Stages.{gathered, is_part}
use Rattle.escp2_reader.proofs.Hearing.{feed-last, is-part, on_fault}
use Rattle.escp2_reader.proofs.reader.JobReader.feed.Goals as goal

pub feed_header-requires-clause-part : goal.feed_header-requires-clause-part
feed_header-requires-clause-part c =
    is-part c.in-Header.header.items (ap (λ s. is_part (command_at (gathered s))) c.in-Header.ensures.value ∙ c.args.self.now.part)

pub returns-in-Header-clause-last : goal.returns-in-Header-clause-last
returns-in-Header-clause-last c = on_fault c.feed_header.result.state c.feed_header.ensures.last (feed-last c.in-Header.ensures.value)
