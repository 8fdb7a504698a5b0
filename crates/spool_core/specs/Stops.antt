-- The answers to a run that does not print.
use Rattle.job_profile.specs.declared.stops.ProfileStop.{ProfileStop}
use Rattle.job_profile.specs.declared.stops.ProfileStop.TheVariants as profile
use Rattle.spool_core.specs.declared.answer.SpoolAnswer.{SpoolAnswer}
use Rattle.spool_core.specs.declared.answer.SpoolAnswer.TheVariants as answer

-- the answer where there is no profile
abbrev pub profile_answer : ProfileStop → SpoolAnswer
profile_answer (profile.Refused line cause) = answer.Profile line cause
profile_answer profile.Failed = answer.Read
profile_answer profile.Memory = answer.Memory
