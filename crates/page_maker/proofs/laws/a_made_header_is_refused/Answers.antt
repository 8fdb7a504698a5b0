use Rattle.page_maker.proofs.Spelled.{stream-refused}
use Rattle.page_maker.proofs.laws.a_made_header_is_refused.Goals as goal

pub returns : goal.returns
returns c = stream-refused
