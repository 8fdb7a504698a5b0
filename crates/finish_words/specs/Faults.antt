-- What a fault keeps to.
use Rattle.std.specs.Prelude.{◌≡◌, ◌⊎◌, ℕ, ◌≤◌, List, length}
use Rattle.job_words.specs.declared.usage.UsageCause.{UsageCause}
use Rattle.job_words.specs.declared.usage.UsageCause.TheVariants.{NotKeyValue, UnknownKey, RepeatedKey, BadValue}
use Rattle.job_words.specs.declared.usage.UsageFault.{UsageFault}

-- the causes for which the finisher refuses a word
abbrev pub IsCause : UsageCause → Type 0
IsCause cause = ((cause ≡ NotKeyValue) ⊎ (cause ≡ UnknownKey)) ⊎ ((cause ≡ RepeatedKey) ⊎ (cause ≡ BadValue))

-- the fault is at one of the words, which are counted from 1
pub record IsFaultOf (words : List (List ℕ)) (fault : UsageFault) : Type 0 where
  pub some_number : 1 ≤ fault.word
  pub most_number : fault.word ≤ length words
  pub cause : IsCause fault.cause
