-- What words mean, from what was read of them.
use Rattle.std.proofs.Common.{◌≡◌, ℕ, ◌+◌, true, false, eqb, List, [], ◌∷◌, length, take, Some, Ok, Err, slice_get, refl, ap, sym, ◌∙◌, arith}
use Rattle.std.specs.List.{count_by}
use Rattle.std.proofs.lemmas.Bool.Decides.{nat_tests}
use Rattle.std.proofs.lemmas.List.{take_all}
use Rattle.job_words.specs.Meaning.{gives, refused}
use Rattle.spool_words.specs.Keys.{send_key}
use Rattle.spool_words.specs.declared.faults.SpoolCause.TheVariants.{NoSend}
use Rattle.spool_words.specs.declared.faults.SpoolFault.{SpoolFault}
use Rattle.spool_words.specs.declared.reading.SpoolRequest.{SpoolRequest}
use Rattle.spool_words.specs.Meaning.{fault_at, faults_on, request_of, request_unless, sender_count, spool_meaning}

first_is : (faults : List SpoolFault) (words : List (List ℕ)) (fault : SpoolFault)
    → slice_get faults 0 ≡ Some fault → Err fault ≡ request_unless faults words
first_is [] words fault here = cc
first_is (first ∷ faults) words fault here = let same : first ≡ fault = cc in ap Err (sym same)

pub refused_words : (words : List (List ℕ)) (fault : SpoolFault)
    → slice_get (refused faults_on words []) 0 ≡ Some fault → Err fault ≡ spool_meaning words
unfolding spool_meaning
refused_words words fault is = first_is (refused faults_on words []) words fault is

none_is : (n : ℕ) → n ≡ 0 → eqb n 0 ≡ true
none_is n zero = grind (arith, nat_tests)

some_is : (n : ℕ) → (n ≡ 0 → ⊥) → eqb n 0 ≡ false
some_is n some = grind (arith, nat_tests)

-- all words were counted
pub all_senders : (words : List (List ℕ)) (end count : ℕ) → end ≡ length words
    → count ≡ count_by (gives send_key) (take end words) → count ≡ sender_count words
all_senders words end count all is = is ∙ ap (count_by (gives send_key)) (take_all end words (omega arith))

pub no_sender : (words : List (List ℕ)) (count number : ℕ) → refused faults_on words [] ≡ [] → count ≡ sender_count words
    → count ≡ 0 → number ≡ length words + 1 → Err (fault_at number NoSend) ≡ spool_meaning words
unfolding spool_meaning
no_sender words count number none is zero after =
    let no : eqb (sender_count words) 0 ≡ true = none_is (sender_count words) (sym is ∙ zero) in
    rw (none, no, after) refl

pub accepted_words : (words : List (List ℕ)) (count : ℕ) (request : SpoolRequest) → refused faults_on words [] ≡ []
    → count ≡ sender_count words → (count ≡ 0 → ⊥) → request ≡ request_of words → Ok request ≡ spool_meaning words
unfolding spool_meaning
accepted_words words count request none is some same =
    let senders : eqb (sender_count words) 0 ≡ false = some_is (sender_count words) (λ zero. some (is ∙ zero)) in
    rw (none, senders) (ap Ok same)
