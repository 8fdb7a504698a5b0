use Rattle.page_maker.proofs.Checked.{check-made}
use Rattle.page_maker.proofs.laws.a_made_header_is_checked_by_its_size.Goals as goal

pub returns : goal.returns
returns c = check-made
