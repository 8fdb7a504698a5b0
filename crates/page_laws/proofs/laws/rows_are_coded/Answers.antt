use Rattle.std.proofs.Common.{inl, refl}
use Rattle.page_laws.proofs.Headline.{page-coded}
use Rattle.page_laws.proofs.laws.rows_are_coded.Goals as goal

pub returns : goal.returns
returns c = record { plain_rows = inl refl; page_rows = page-coded }
