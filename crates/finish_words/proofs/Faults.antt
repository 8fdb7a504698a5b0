-- What is known of the faults of words.
use Rattle.std.proofs.Common.{◌≡◌, ℕ, ◌≤◌, ◌+◌, Bool, true, false, if◌then◌else◌, List, [], ◌∷◌, ◌++◌, length}
use Rattle.std.proofs.Common.{Option, Some, None, Err, slice_get, length-append, inl, inr, refl, ap, sym, ◌∙◌, subst, arith}
use Rattle.std.specs.List.{list_any}
use Rattle.key_values.specs.Pairs.{is_key_value, key_of, value_of}
use Rattle.job_words.specs.Meaning.{fault_at, faults_at, gives, key_fault, refused, value_fault, word_fault}
use Rattle.job_words.specs.Table.{KeyRow, key_named}
use Rattle.job_words.specs.declared.usage.UsageCause.{UsageCause}
use Rattle.job_words.specs.declared.usage.UsageCause.TheVariants.{NotKeyValue}
use Rattle.job_words.specs.declared.usage.UsageFault.{UsageFault}
use Rattle.finish_words.specs.Faults.{IsCause, IsFaultOf}
use Rattle.finish_words.specs.Keys.{key_table}
use Rattle.finish_words.specs.Meaning.{faults_on, finish_meaning, request_of, request_unless}
use Rattle.finish_words.proofs.Alone.{never_excluded}

-- ---- the cause

value_cause : (repeated taken : Bool) (cause : UsageCause) → value_fault repeated taken false ≡ Some cause → IsCause cause
value_cause true taken cause h = inr (inl cc)
value_cause false true cause h = absurd cc
value_cause false false cause h = inr (inr cc)

word_cause : (earlier : List (List ℕ)) (word : List ℕ) (cause : UsageCause) → word_fault key_table earlier word ≡ Some cause → IsCause cause
unfolding word_fault
word_cause earlier word cause h = by_test (is_key_value word) h where
  by_key : (o : Option KeyRow) → key_named key_table (key_of word) ≡ o → key_fault earlier word o ≡ Some cause → IsCause cause
  by_key None found h = inl (inr cc)
  by_key (Some key) found h =
      let alone = never_excluded key earlier word (key_of word) refl (sym found) in
      value_cause (list_any (gives key) earlier) (key.takes (value_of word)) cause
      (ap (value_fault (list_any (gives key) earlier) (key.takes (value_of word))) alone ∙ h)

  by_test : (test : Bool) → (if test then key_fault earlier word (key_named key_table (key_of word)) else Some NotKeyValue) ≡ Some cause
      → IsCause cause
  by_test true h = by_key (key_named key_table (key_of word)) refl h
  by_test false h = inl (inl cc)

-- ---- the first fault of words, behind others

pub record IsBehind (before count : ℕ) (fault : UsageFault) : Type 0 where
  pub least : before + 1 ≤ fault.word
  pub most : fault.word ≤ before + count
  pub cause : IsCause fault.cause

fault_on : (words earlier : List (List ℕ)) (fault : UsageFault) → slice_get (refused faults_on words earlier) 0 ≡ Some fault
    → IsBehind (length earlier) (length words) fault
unfolding refused
fault_on [] earlier fault is = absurd cc
fault_on (word ∷ words) earlier fault is =
    by_cause (word_fault key_table earlier word) refl is (fault_on words (earlier ++ word ∷ []) fault) where
      by_cause : (o : Option UsageCause) → word_fault key_table earlier word ≡ o
          → slice_get (faults_at (length earlier + 1) o ++ refused faults_on words (earlier ++ word ∷ [])) 0 ≡ Some fault
          → (slice_get (refused faults_on words (earlier ++ word ∷ [])) 0 ≡ Some fault
          → IsBehind (length (earlier ++ word ∷ [])) (length words) fault)
          → IsBehind (length earlier) (length (word ∷ words)) fault
      by_cause None has is later =
          let all = later is in
          let more = length-append earlier (word ∷ []) in
          record { least = omega (arith, all.least, more); most = omega (arith, all.most, more); cause = all.cause }
      by_cause (Some cause) has is later =
          let same : fault_at (length earlier + 1) cause ≡ fault = cc in
          subst (λ (f : UsageFault). IsBehind (length earlier) (length (word ∷ words)) f) same
          (record { least = omega arith; most = omega arith; cause = word_cause earlier word cause has })

pub fault_of : (words : List (List ℕ)) (fault : UsageFault) → finish_meaning words ≡ Err fault → IsFaultOf words fault
unfolding finish_meaning
fault_of words fault means =
    let at = fault_on words [] fault (by_faults (refused faults_on words []) means) in
    record { some_number = omega (arith, at.least); most_number = omega (arith, at.most); cause = at.cause }
  where
    by_faults : (faults : List UsageFault) → request_unless faults (request_of words) ≡ Err fault → slice_get faults 0 ≡ Some fault
    by_faults [] means = absurd cc
    by_faults (first ∷ faults) means = let same : first ≡ fault = cc in ap Some same
