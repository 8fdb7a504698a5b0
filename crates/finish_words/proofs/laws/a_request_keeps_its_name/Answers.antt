use Rattle.finish_words.proofs.Stops.{keeps_name}
use Rattle.finish_words.proofs.laws.a_request_keeps_its_name.Goals as goal

pub returns : goal.returns
returns c = keeps_name
