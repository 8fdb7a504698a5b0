-- The answer of each status.
use Rattle.std.proofs.Common.{◌≡◌, ℕ, ◌⊎◌, inl, inr, refl, arith}
use Rattle.driver_answer.specs.declared.answer.Answer.{Answer}
use Rattle.driver_answer.specs.declared.answer.Answer.TheVariants as answer
use Rattle.driver_answer.specs.Answers.{status_of}
use Rattle.escp2_definitions.specs.declared.stops.JobStop.{JobStop}
use Rattle.job_profile.specs.declared.stops.ProfileCause.{ProfileCause}
use Rattle.job_words.specs.declared.usage.UsageFault.{UsageFault}
use Rattle.pwg_definitions.specs.declared.faults.InputCause.{InputCause}

-- each status is that of one kind of answer

pub is_done : (a : Answer) → status_of a ≡ 0 → a ≡ answer.Done
is_done answer.Done e = refl
is_done other e = absurd (omega arith)

pub is_usage : (a : Answer) → status_of a ≡ 1 → (fault : UsageFault) × (a ≡ answer.Usage fault)
is_usage (answer.Usage fault) e = (fault, refl)
is_usage other e = absurd (omega arith)

pub is_profile : (a : Answer) → status_of a ≡ 2 → (line : ℕ) × (cause : ProfileCause) × (a ≡ answer.Profile line cause)
is_profile (answer.Profile line cause) e = (line, cause, refl)
is_profile other e = absurd (omega arith)

pub is_input : (a : Answer) → status_of a ≡ 3 → (page line : ℕ) × (cause : InputCause) × (a ≡ answer.Input page line cause)
is_input (answer.Input page line cause) e = (page, line, cause, refl)
is_input other e = absurd (omega arith)

pub is_read : (a : Answer) → status_of a ≡ 4 → a ≡ answer.Read
is_read answer.Read e = refl
is_read other e = absurd (omega arith)

pub is_write : (a : Answer) → status_of a ≡ 5 → (page : ℕ) × (a ≡ answer.Write page)
is_write (answer.Write page) e = (page, refl)
is_write other e = absurd (omega arith)

pub is_over_cap : (a : Answer) → status_of a ≡ 6 → (page total dots cap : ℕ) × (a ≡ answer.OverCap page total dots cap)
is_over_cap (answer.OverCap page total dots cap) e = (page, total, dots, cap, refl)
is_over_cap other e = absurd (omega arith)

pub is_memory : (a : Answer) → status_of a ≡ 7 → a ≡ answer.Memory
is_memory answer.Memory e = refl
is_memory other e = absurd (omega arith)

pub is_job : (a : Answer) → status_of a ≡ 8 → (offset : ℕ) × (cause : JobStop) × (a ≡ answer.Job offset cause)
is_job (answer.Job offset cause) e = (offset, cause, refl)
is_job other e = absurd (omega arith)

-- each answer has one of these statuses
pub in_range : (a : Answer) → (status_of a ≡ 0) ⊎ (status_of a ≡ 1) ⊎ (status_of a ≡ 2) ⊎ (status_of a ≡ 3) ⊎ (status_of a ≡ 4) ⊎ (status_of a ≡ 5)
    ⊎ (status_of a ≡ 6) ⊎ (status_of a ≡ 7) ⊎ (status_of a ≡ 8)
in_range answer.Done = inl refl
in_range (answer.Usage fault) = inr (inl refl)
in_range (answer.Profile line cause) = inr (inr (inl refl))
in_range (answer.Input page line cause) = inr (inr (inr (inl refl)))
in_range answer.Read = inr (inr (inr (inr (inl refl))))
in_range (answer.Write page) = inr (inr (inr (inr (inr (inl refl)))))
in_range (answer.OverCap page total dots cap) = inr (inr (inr (inr (inr (inr (inl refl))))))
in_range answer.Memory = inr (inr (inr (inr (inr (inr (inr (inl refl)))))))
in_range (answer.Job offset cause) = inr (inr (inr (inr (inr (inr (inr (inr refl)))))))
