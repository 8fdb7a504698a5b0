-- What words mean, from what was read of them.
use Rattle.std.proofs.Common.{◌≡◌, ℕ, List, [], ◌∷◌, Some, Ok, Err, slice_get, ap, sym}
use Rattle.job_words.specs.Meaning.{refused}
use Rattle.job_words.specs.declared.usage.UsageFault.{UsageFault}
use Rattle.finish_words.specs.Meaning.{faults_on, finish_meaning, request_of, request_unless}
use Rattle.finish_words.specs.declared.reading.FinishRequest.{FinishRequest}

first_is : (faults : List UsageFault) (fault : UsageFault) (request : FinishRequest)
    → slice_get faults 0 ≡ Some fault → Err fault ≡ request_unless faults request
first_is [] fault request here = cc
first_is (first ∷ faults) fault request here = let same : first ≡ fault = cc in ap Err (sym same)

pub refused_words : (words : List (List ℕ)) (fault : UsageFault)
    → slice_get (refused faults_on words []) 0 ≡ Some fault → Err fault ≡ finish_meaning words
unfolding finish_meaning
refused_words words fault is = first_is (refused faults_on words []) fault (request_of words) is

pub accepted_words : (words : List (List ℕ)) (request : FinishRequest)
    → refused faults_on words [] ≡ [] → request ≡ request_of words → Ok request ≡ finish_meaning words
unfolding finish_meaning
accepted_words words request none same = rw none (ap Ok same)
