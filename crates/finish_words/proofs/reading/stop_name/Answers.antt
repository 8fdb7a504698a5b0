use Rattle.std.proofs.Common.{Some, ap, ◌∙◌}
use Rattle.finish_words.proofs.Stops.{no_stop, stop_here, stop_is}
use Rattle.finish_words.proofs.reading.stop_name.Goals as goal

pub returns-then-request-eq0 : goal.returns-then-request-eq0
returns-then-request-eq0 c = no_stop _ _ c.requires c.if-request-eq0.true

pub get-requires : goal.get-requires
get-requires c = (stop_here _ _ c.requires c.if-request-eq0.false).1

pub returns : goal.returns
returns c = ap Some c.value_of.ensures ∙ stop_is _ c.args.request.now _ c.requires c.if-request-eq0.false c.get.ensures
