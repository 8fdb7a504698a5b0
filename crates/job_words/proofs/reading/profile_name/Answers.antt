use Rattle.job_words.proofs.Profiles.{default_profile, profile_here, profile_is}
use Rattle.std.proofs.Common.{◌∙◌}
use Rattle.job_words.proofs.reading.profile_name.Goals as goal

pub returns-then-job-eq0 : goal.returns-then-job-eq0
returns-then-job-eq0 c = default_profile _ _ c.requires c.if-job-eq0.true

pub get-requires : goal.get-requires
get-requires c = (profile_here _ _ c.requires c.if-job-eq0.false).0

pub returns : goal.returns
returns c = c.value_of.ensures ∙ profile_is _ c.args.job.now _ c.requires c.if-job-eq0.false c.get.ensures
