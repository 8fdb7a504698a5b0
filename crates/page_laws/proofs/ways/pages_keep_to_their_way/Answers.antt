use Rattle.page_laws.proofs.WaysKept.{ways-keep}
use Rattle.page_laws.proofs.ways.pages_keep_to_their_way.Goals as goal

pub returns : goal.returns
returns c = ways-keep
