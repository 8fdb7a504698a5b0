-- What it means that jobs are those that were sent.
use Rattle.std.proofs.Common.{◌≡◌, ℕ, zero, suc, ◌+◌, ◌-◌, ◌<◌, ◌≤◌, ⊎_elim, List, [], ◌∷◌, ◌++◌, length, get_or, sym, refl, ap, ◌∙◌, subst, append_assoc, arith, length-append}
use Rattle.std.specs.Prelude.{Bool, true, false, if◌then◌else◌, ◌==◌, Contains, slice_index_or}
use Rattle.std.proofs.lemmas.List.Elements.{Contains-append_left, Contains-append_right, Contains-append_cases}
use Rattle.spool_queue.specs.declared.job.SpoolJob.{SpoolJob}
use Rattle.spool_queue.specs.Jobs.{Stream, job, jobs_of, numbered, AreSent}
use Rattle.spool_queue.proofs.Lists.{jobs_of-append, jobs_of_here, numbered_length, not_empty, next_number, first_or, rest_of}

-- a sender's jobs before and after one of them
split_at : (sent : ℕ → List Stream) (before after : List SpoolJob) (x : SpoolJob) → AreSent sent (before ++ x ∷ after) → jobs_of x.sender before ++ x ∷ jobs_of x.sender after ≡ numbered x.sender 1 (sent x.sender)
split_at sent before after x h =
    ap (λ l. jobs_of x.sender before ++ l) (sym (jobs_of_here x.sender x after refl)) ∙ sym (jobs_of-append x.sender before (x ∷ after)) ∙ h x.sender

number_at : (sent : ℕ → List Stream) (before after : List SpoolJob) (x : SpoolJob) → AreSent sent (before ++ x ∷ after) → x.number ≡ 1 + length (jobs_of x.sender before)
number_at sent before after x h = next_number x.sender 1 (sent x.sender) (jobs_of x.sender before) (jobs_of x.sender after) x (split_at sent before after x h)

-- the stream behind xs
stream_at : (s n : ℕ) (bs : List Stream) (xs ys : List SpoolJob) (x : SpoolJob) → xs ++ x ∷ ys ≡ numbered s n bs → x.stream ≡ get_or bs (length xs) []
stream_at s n [] xs ys x e = absurd (not_empty xs ys x e)
stream_at s n (b ∷ bs) [] ys x e = ap (λ l. (first_or x l).stream) e
stream_at s n (b ∷ bs) (y ∷ xs) ys x e = stream_at s (suc n) bs xs ys x (ap rest_of e)

within : (s n : ℕ) (bs : List Stream) (xs ys : List SpoolJob) (x : SpoolJob) → xs ++ x ∷ ys ≡ numbered s n bs → length xs < length bs
within s n bs xs ys x e =
    let a : length (xs ++ x ∷ ys) ≡ length bs = ap length e ∙ numbered_length s n bs in
    let b = length-append xs (x ∷ ys) in
    let c : length (x ∷ ys) ≡ suc (length ys) = refl in
    omega arith

pub was_sent : (sent : ℕ → List Stream) (before after : List SpoolJob) (x : SpoolJob) → AreSent sent (before ++ x ∷ after)
    → (1 ≤ x.number) × (x.number ≤ length (sent x.sender)) × (x.stream ≡ slice_index_or (sent x.sender) (x.number - 1) [])
was_sent sent before after x h =
    let split = split_at sent before after x h in
    let n = number_at sent before after x h in
    let lt = within x.sender 1 (sent x.sender) (jobs_of x.sender before) (jobs_of x.sender after) x split in
    let k : length (jobs_of x.sender before) ≡ x.number - 1 = omega arith in (
      omega arith,
      omega arith,
      stream_at x.sender 1 (sent x.sender) (jobs_of x.sender before) (jobs_of x.sender after) x split ∙ ap (λ m. get_or (sent x.sender) m []) k,
    )

pub in_order : (sent : ℕ → List Stream) (before between after : List SpoolJob) (x y : SpoolJob) → AreSent sent (before ++ x ∷ (between ++ y ∷ after)) → x.sender ≡ y.sender → x.number < y.number
in_order sent before between after x y h who =
    let nx = number_at sent before (between ++ y ∷ after) x h in
    let ny = number_at sent (before ++ x ∷ between) after y (subst (AreSent sent) (sym (append_assoc before (x ∷ between) (y ∷ after))) h) in
    let s : length (jobs_of y.sender (before ++ x ∷ between)) ≡ length (jobs_of x.sender (before ++ x ∷ between)) = ap (λ s. length (jobs_of s (before ++ x ∷ between))) (sym who) in
    let a : length (jobs_of x.sender (before ++ x ∷ between)) ≡ length (jobs_of x.sender before) + length (x ∷ jobs_of x.sender between) =
    ap length (jobs_of-append x.sender before (x ∷ between) ∙ ap (λ l. jobs_of x.sender before ++ l) (jobs_of_here x.sender x between refl)) ∙ length-append (jobs_of x.sender before) (x ∷ jobs_of x.sender between) in
    let b : length (x ∷ jobs_of x.sender between) ≡ suc (length (jobs_of x.sender between)) = refl in
    omega arith

-- what is among the jobs of a sender is among the jobs
from_some : (b : Bool) (y x : SpoolJob) (r jobs : List SpoolJob) → (Contains r x → Contains jobs x) → Contains (if b then y ∷ r else r) x → Contains (y ∷ jobs) x
from_some true y x r jobs f h = ⊎_elim (λ here. Contains-append_left (y ∷ []) jobs x here) (λ later. Contains-append_right (y ∷ []) jobs x (f later)) (Contains-append_cases (y ∷ []) r x h)
from_some false y x r jobs f h = Contains-append_right (y ∷ []) jobs x (f h)

from_jobs_of : (s : ℕ) (jobs : List SpoolJob) (x : SpoolJob) → Contains (jobs_of s jobs) x → Contains jobs x
from_jobs_of s [] x h = h
from_jobs_of s (y ∷ jobs) x h = from_some (y.sender == s) y x (jobs_of s jobs) jobs (from_jobs_of s jobs x) h

numbered_has : (s n : ℕ) (bs : List Stream) (k m : ℕ) → m ≡ n + k → k < length bs → Contains (numbered s n bs) (job s m (get_or bs k []))
numbered_has s n [] k m e lt = absurd (omega arith)
numbered_has s n (b ∷ bs) zero m e lt = (0, omega arith, ap (λ i. job s i b) (omega arith))
numbered_has s n (b ∷ bs) (suc k) m e lt = Contains-append_right (job s n b ∷ []) (numbered s (suc n) bs) (job s m (get_or bs k [])) (numbered_has s (suc n) bs k m (omega arith) (omega arith))

pub is_there : (sent : ℕ → List Stream) (jobs : List SpoolJob) (s k : ℕ) → AreSent sent jobs → k < length (sent s) → Contains jobs (job s (suc k) (slice_index_or (sent s) k []))
is_there sent jobs s k h lt = from_jobs_of s jobs (job s (suc k) (get_or (sent s) k [])) (subst (λ l. Contains l (job s (suc k) (get_or (sent s) k []))) (sym (h s)) (numbered_has s 1 (sent s) k (suc k) (omega arith) lt))
