-- How a job that did not begin is answered.
use Rattle.driver_answer.specs.declared.answer.Answer.{Answer}
use Rattle.driver_answer.specs.declared.answer.Answer.TheVariants as answer
use Rattle.job_profile.specs.declared.stops.ProfileStop.{ProfileStop}
use Rattle.job_profile.specs.declared.stops.ProfileStop.TheVariants as stop

-- the answer where there is no profile
abbrev pub profile_answer : ProfileStop → Answer
profile_answer (stop.Refused line cause) = answer.Profile line cause
profile_answer stop.Failed = answer.Read
profile_answer stop.Memory = answer.Memory
