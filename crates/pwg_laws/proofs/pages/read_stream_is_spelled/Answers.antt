use Rattle.pwg_laws.proofs.PageReading.{stream-read}
use Rattle.pwg_laws.proofs.pages.read_stream_is_spelled.Goals as goal

pub returns : goal.returns
returns c = stream-read
