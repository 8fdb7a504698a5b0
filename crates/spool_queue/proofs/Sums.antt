-- A number for each stream, summed over jobs: jobs that were sent come to what the streams come to.
use Rattle.std.proofs.Common.{◌≡◌, ℕ, zero, suc, ◌+◌, ◌<◌, ◌≤◌, List, [], ◌∷◌, ◌++◌, length, map, sym, refl, ap, ◌∙◌, arith}
use Rattle.std.specs.List.{flat_map}
use mathlib.Core.Logic.{dite}
use native.Mathlib.Decide.{ℕ_discrete, dec_le}
use Rattle.std.proofs.Math.ListN.{get_or-eq_default}
use Rattle.std.proofs.lemmas.List.Sums.{sum_by-cons}
use Rattle.spool_queue.specs.declared.job.SpoolJob.{SpoolJob}
use Rattle.spool_queue.specs.Jobs.{Stream, jobs_of, numbered, AreSent, sent_by, count_sent}
use Rattle.spool_queue.proofs.Lists.{jobs_of_here, jobs_of_else}

none_above : (lists : List (List Stream)) (s : ℕ) → length lists < s → sent_by lists s ≡ []
none_above lists zero lt = absurd (omega arith)
none_above lists (suc s) lt = get_or-eq_default lists [] (omega arith)

known_sender : (n : ℕ) (x : SpoolJob) (xs : List SpoolJob) → ((s : ℕ) → n ≤ s → jobs_of s (x ∷ xs) ≡ []) → x.sender < n
known_sender n x xs h = dite (dec_le n x.sender)
    (λ le. let l : suc (length (jobs_of x.sender xs)) ≡ 0 = ap length (sym (jobs_of_here x.sender x xs refl) ∙ h x.sender le) in absurd (omega arith))
    (λ no_le. omega arith)

module _ (f : Stream → ℕ) where
  abbrev pub of_jobs : List SpoolJob → ℕ
  of_jobs [] = 0
  of_jobs (x ∷ xs) = f x.stream + of_jobs xs

  abbrev pub of_streams : List Stream → ℕ
  of_streams [] = 0
  of_streams (s ∷ ss) = f s + of_streams ss

  of_streams-append : (xs ys : List Stream) → of_streams (xs ++ ys) ≡ of_streams xs + of_streams ys
  of_streams-append [] ys = omega arith
  of_streams-append (x ∷ xs) ys = let more = of_streams-append xs ys in omega arith

  -- those of the senders below n
  abbrev below : ℕ → List SpoolJob → ℕ
  below zero xs = 0
  below (suc n) xs = of_jobs (jobs_of n xs) + below n xs

  below_empty : (n : ℕ) → below n [] ≡ 0
  below_empty zero = refl
  below_empty (suc n) = let b = below_empty n in omega arith

  below_else : (n : ℕ) (x : SpoolJob) (xs : List SpoolJob) → n ≤ x.sender → below n (x ∷ xs) ≡ below n xs
  below_else zero x xs h = refl
  below_else (suc n) x xs h =
      let a : of_jobs (jobs_of n (x ∷ xs)) ≡ of_jobs (jobs_of n xs) = ap (λ l. of_jobs l) (jobs_of_else n x xs (λ e. omega arith)) in
      let b = below_else n x xs (omega arith) in
      omega arith

  below_here : (n : ℕ) (x : SpoolJob) (xs : List SpoolJob) → x.sender < n → below n (x ∷ xs) ≡ f x.stream + below n xs
  below_here zero x xs h = absurd (omega arith)
  below_here (suc n) x xs h = dite (ℕ_discrete x.sender n)
      (λ e.
      let a : of_jobs (jobs_of n (x ∷ xs)) ≡ f x.stream + of_jobs (jobs_of n xs) = ap (λ l. of_jobs l) (jobs_of_here n x xs e) in
      let b = below_else n x xs (omega arith) in
      omega arith)
      (λ ne.
      let a : of_jobs (jobs_of n (x ∷ xs)) ≡ of_jobs (jobs_of n xs) = ap (λ l. of_jobs l) (jobs_of_else n x xs ne) in
      let b = below_here n x xs (omega arith) in
      omega arith)

  all_below : (n : ℕ) (xs : List SpoolJob) → ((s : ℕ) → n ≤ s → jobs_of s xs ≡ []) → below n xs ≡ of_jobs xs
  all_below n [] h = below_empty n
  all_below n (x ∷ xs) h =
      let lt = known_sender n x xs h in
      let b = below_here n x xs lt in
      let r = all_below n xs (λ s le. sym (jobs_of_else s x xs (λ e. omega arith)) ∙ h s le) in
      omega arith

  numbered_jobs : (s n : ℕ) (bs : List Stream) → of_jobs (numbered s n bs) ≡ of_streams bs
  numbered_jobs s n [] = refl
  numbered_jobs s n (b ∷ bs) = ap (λ m. f b + m) (numbered_jobs s (suc n) bs)

  -- what the senders below n sent
  abbrev sent_below : (ℕ → List Stream) → ℕ → ℕ
  sent_below g zero = 0
  sent_below g (suc n) = of_streams (g n) + sent_below g n

  below_sent : (g : ℕ → List Stream) (n : ℕ) (xs : List SpoolJob) → AreSent g xs → below n xs ≡ sent_below g n
  below_sent g zero xs h = refl
  below_sent g (suc n) xs h =
      let a : of_jobs (jobs_of n xs) ≡ of_streams (g n) = ap (λ l. of_jobs l) (h n) ∙ numbered_jobs n 1 (g n) in
      let b = below_sent g n xs h in
      omega arith

  sent_below-first : (list : List Stream) (lists : List (List Stream)) (n : ℕ)
      → sent_below (sent_by (list ∷ lists)) (suc (suc n)) ≡ of_streams list + sent_below (sent_by lists) (suc n)
  sent_below-first list lists zero = omega arith
  sent_below-first list lists (suc n) = let b = sent_below-first list lists n in omega arith

  sent_below-all : (lists : List (List Stream)) → sent_below (sent_by lists) (suc (length lists)) ≡ of_streams (flat_map (λ list. list) lists)
  sent_below-all [] = refl
  sent_below-all (list ∷ lists) =
      sent_below-first list lists (length lists) ∙ ap (λ n. of_streams list + n) (sent_below-all lists)
      ∙ sym (of_streams-append list (flat_map (λ l. l) lists))

  pub jobs_as_sent : (lists : List (List Stream)) (xs : List SpoolJob) → AreSent (sent_by lists) xs → of_jobs xs ≡ of_streams (flat_map (λ list. list) lists)
  jobs_as_sent lists xs h =
      sym (all_below (suc (length lists)) xs (λ s le. h s ∙ ap (numbered s 1) (none_above lists s (omega arith))))
      ∙ below_sent (sent_by lists) (suc (length lists)) xs h ∙ sent_below-all lists

-- ---- one for each stream
jobs_counted : (xs : List SpoolJob) → of_jobs (λ s. 1) xs ≡ length xs
jobs_counted [] = refl
jobs_counted (x ∷ xs) = let more = jobs_counted xs in omega arith

list_counted : (list : List Stream) → of_streams (λ s. 1) list ≡ length list
list_counted [] = refl
list_counted (s ∷ list) = let more = list_counted list in omega arith

lists_counted : (lists : List (List Stream)) → of_streams (λ s. 1) (flat_map (λ list. list) lists) ≡ count_sent lists
lists_counted [] = refl
lists_counted (list ∷ lists) =
    let both = of_streams-append (λ s. 1) list (flat_map (λ list. list) lists) in
    let here = list_counted list in
    let more = lists_counted lists in
    let count = sum_by-cons (λ n. n) (length list) (map length lists) in
    omega arith

-- jobs of some senders are as many as these have sent
pub length_sent : (lists : List (List Stream)) (xs : List SpoolJob) → AreSent (sent_by lists) xs → length xs ≡ count_sent lists
length_sent lists xs h = sym (jobs_counted xs) ∙ jobs_as_sent (λ s. 1) lists xs h ∙ lists_counted lists
