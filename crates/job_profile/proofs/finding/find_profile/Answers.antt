use Rattle.std.proofs.Common.{sym, ◌∙◌}
use Rattle.job_profile.proofs.BuiltIn.{ok_used, refused_used}
use Rattle.job_profile.proofs.finding.find_profile.Goals as goal

pub returns-in-Some-clause-found : goal.returns-in-Some-clause-found
returns-in-Some-clause-found g c = ok_used _ _ _ c.in-Some.profile (sym c.built_in.ensures ∙ c.in-Some.is) c.use_profile.ensures.ok

pub returns-in-Some-clause-refused : goal.returns-in-Some-clause-refused
returns-in-Some-clause-refused g c =
    refused_used _ _ _ c.in-Some.profile (sym c.built_in.ensures ∙ c.in-Some.is) c.use_profile.ensures.refused
