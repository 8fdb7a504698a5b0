use Rattle.pwg_laws.proofs.PageSpelling.{stream-spelling}
use Rattle.pwg_laws.proofs.pages.spelled_stream_is_read.Goals as goal

pub returns : goal.returns
returns c = stream-spelling
