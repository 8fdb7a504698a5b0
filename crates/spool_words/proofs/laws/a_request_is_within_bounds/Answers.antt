use Rattle.spool_words.proofs.Accepted.{profile_is_named, within_bounds}
use Rattle.spool_words.proofs.laws.a_request_is_within_bounds.Goals as goal

pub returns-clause-request : goal.returns-clause-request
returns-clause-request c = within_bounds

pub returns-clause-profile : goal.returns-clause-profile
returns-clause-profile c = profile_is_named
