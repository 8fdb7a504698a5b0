use Rattle.std.proofs.Common.{◌∙◌}
use Rattle.spool_words.proofs.Profiles.{default_profile, profile_here, profile_is}
use Rattle.spool_words.proofs.reading.profile_name.Goals as goal

pub returns-then-request-eq0 : goal.returns-then-request-eq0
returns-then-request-eq0 c = default_profile _ _ c.requires c.if-request-eq0.true

pub get-requires : goal.get-requires
get-requires c = (profile_here _ _ c.requires c.if-request-eq0.false).0

pub returns : goal.returns
returns c = c.value_of.ensures ∙ profile_is _ c.args.request.now _ c.requires c.if-request-eq0.false c.get.ensures
