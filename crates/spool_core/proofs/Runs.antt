-- What a run comes to, by what its parts came to.
use Rattle.std.proofs.Common.{◌≡◌, ◌≢◌, ℕ, suc, ◌<◌, ◌≤◌, ◌^◌, inl, inr, List, [], ◌∷◌, ◌++◌, length, map, sym, refl, ◌∙◌, ap, subst, arith, All, Option, None, Some, Result, Ok, Err, IsErrOf, IsSome, IfErr, OnErr, OnOk}
use Rattle.std.specs.List.{AllByRecursion}
use Rattle.std.proofs.lemmas.List.Elements.{All-cons, All-nil}
use Rattle.std.proofs.KnownBytes.{Keeps-refl}
use Rattle.page_definitions.specs.Dots.{Screening}
use Rattle.page_halftoner.specs.Screenings.{screening_of}
use Rattle.driver_core.specs.Outside.{HasRisen, Meters, Outside}
use Rattle.job_profile.specs.Named.{IsJobProfile}
use Rattle.job_profile.specs.Stops.{OnRefused}
use Rattle.job_profile.specs.declared.stops.ProfileStop.{ProfileStop}
use Rattle.job_profile.specs.declared.stops.ProfileStop.TheVariants as profile
use Rattle.printer_definitions.specs.Printer.{Printer}
use Rattle.printer_profile.specs.Profiles.{built_in}
use Rattle.spool_queue.specs.Jobs.{AreSent, Stream, count_sent, sent_by}
use Rattle.spool_queue.specs.declared.job.SpoolJob.{SpoolJob}
use Rattle.spool_words.specs.Meaning.{names_of, profile_named, spool_meaning}
use Rattle.spool_words.specs.Requests.{AreNames, IsWithinBounds}
use Rattle.spool_words.specs.declared.faults.SpoolFault.{SpoolFault}
use Rattle.spool_words.specs.declared.reading.SpoolRequest.{SpoolRequest}
use Rattle.weave_base.specs.Causes.{Rose}
use Rattle.spool_core.specs.Files.{AreFiles, FilesOutcome}
use Rattle.spool_core.specs.Outcome.{AnswersJobs, HasPlainStatus, PrintingOutcome, PrintsNone, ProfileOutcome, RequestOutcome, SpoolOutcome, SpoolOutside, WriteStopped, at_call, at_return}
use Rattle.spool_core.specs.Prepared.{AreFew}
use Rattle.spool_core.specs.Printed.{AreDone, Between, PrintsJobs}
use Rattle.spool_core.specs.Stops.{profile_answer}
use Rattle.spool_core.specs.declared.answer.SpoolAnswer.{SpoolAnswer}
use Rattle.spool_core.specs.declared.answer.SpoolAnswer.TheVariants as answer
use Rattle.spool_core.specs.declared.report.Ran.{Ran}
use Rattle.spool_core.proofs.Jobs.{as_many, plain_all}

-- nothing was done
pub prints_none : (held : Option (List ℕ)) (faults : ℕ) (meters : Meters) (done : List Ran) → done ≡ [] → meters.now ≡ meters.before
    → PrintsNone (record { before = held; now = held; faults_before = faults; faults_now = faults }) meters done
prints_none held faults meters done none uncounted = record { none = none; unwritten = Keeps-refl held; uncounted = uncounted }

-- all jobs ran
pub all_ran : (p : Printer) (k : Screening) (sent : List (List Stream)) (jobs : List SpoolJob) (out : Outside) (meters : Meters) (done : List Ran)
    (a : SpoolAnswer) → AreSent (sent_by sent) jobs → PrintsJobs p k jobs done (at_call out meters) (at_return out meters)
    → All (λ ran. ran.status ≢ 5) done → AnswersJobs done a → PrintingOutcome p k sent out meters done a
all_ran p k sent jobs out meters done answer.Done are prints fine sums = (record { jobs = jobs; are = are; prints = prints }, sums)
all_ran p k sent jobs out meters done (answer.Failed count) are prints fine sums = (record { jobs = jobs; are = are; prints = prints }, sums)
all_ran p k sent jobs out meters done answer.Memory are prints fine sums = inr (record { jobs = jobs; are = are; prints = prints }, fine, sums)
all_ran p k sent jobs out meters done other are prints fine sums = absurd sums

-- a write failed
pub not_all_ran : (p : Printer) (k : Screening) (sent : List (List Stream)) (jobs rest : List SpoolJob) (out : Outside) (meters : Meters)
    (done : List Ran) (a : SpoolAnswer) → AreSent (sent_by sent) (jobs ++ rest)
    → PrintsJobs p k jobs done (at_call out meters) (at_return out meters) → HasRisen out → WriteStopped done a
    → PrintingOutcome p k sent out meters done a
not_all_ran p k sent jobs rest out meters done (answer.Write sender job page) are prints risen stops =
    (risen, record { jobs = jobs; others = rest; are = are; prints = prints }, stops)
not_all_ran p k sent jobs rest out meters done other are prints risen stops = absurd stops

no_built_in : (p : Option Printer) → (IsSome p → ⊥) → p ≡ None
no_built_in None h = refl
no_built_in (Some p) h = absurd (h refl)

-- there is no profile
pub no_profile : (words : List (List ℕ)) (request : SpoolRequest) (o : SpoolOutside) (done : List Ran) (name : List ℕ) (why : ProfileStop)
    → Ok request ≡ spool_meaning words → name ≡ profile_named words
    → OnRefused {T = Printer} (Err why) (λ refusal. IsJobProfile o.shelf.told name (Err refusal))
    → (IsErrOf {T = Printer} (Err why) profile.Failed → Rose o.shelf.faults_before o.shelf.faults_now)
    → (IsSome (built_in name) → IsErrOf {T = Printer} (Err why) profile.Failed → ⊥)
    → (IsSome (built_in name) → IsErrOf {T = Printer} (Err why) profile.Memory → ⊥)
    → PrintsNone o.out o.meters done → SpoolOutcome words o done (profile_answer why)
no_profile words request o done name why means named refused failed unasked no_memory none =
    subst (λ (m : Result SpoolRequest SpoolFault). RequestOutcome m words o done (profile_answer why)) means
    (inl (subst (λ (n : List ℕ). ProfileOutcome n o.shelf (profile_answer why)) named (by_stop why refused failed unasked no_memory), none))
  where
    by_stop : (w : ProfileStop) → OnRefused {T = Printer} (Err w) (λ refusal. IsJobProfile o.shelf.told name (Err refusal))
        → (IsErrOf {T = Printer} (Err w) profile.Failed → Rose o.shelf.faults_before o.shelf.faults_now)
        → (IsSome (built_in name) → IsErrOf {T = Printer} (Err w) profile.Failed → ⊥)
        → (IsSome (built_in name) → IsErrOf {T = Printer} (Err w) profile.Memory → ⊥) → ProfileOutcome name o.shelf (profile_answer w)
    by_stop (profile.Refused line cause) refusal rose not_asked no_room = refusal
    by_stop profile.Failed refusal rose not_asked no_room = (rose refl, no_built_in (built_in name) (λ some. not_asked some refl))
    by_stop profile.Memory refusal rose not_asked no_room = no_built_in (built_in name) (λ some. no_room some refl)

-- there is a profile, but not all files are read
pub no_files : (words : List (List ℕ)) (request : SpoolRequest) (o : SpoolOutside) (done : List Ran) (p : Printer) (a : SpoolAnswer)
    → Ok request ≡ spool_meaning words → IsJobProfile o.shelf.told (profile_named words) (Ok p)
    → FilesOutcome (names_of words) o.shelf a → PrintsNone o.out o.meters done → SpoolOutcome words o done a
no_files words request o done p a means is stopped none =
    subst (λ (m : Result SpoolRequest SpoolFault). RequestOutcome m words o done a) means
    (inr (inl (record { p = p; profile = is; stopped = stopped; none = none })))

-- each sender has as many streams as names
as_few : (sent names : List (List (List ℕ))) → map length sent ≡ map length names → AllByRecursion AreNames names
    → (length sent ≡ length names) × All (λ list. 1 ≤ length list) sent × All (λ list. length list ≤ 64) sent
as_few [] [] e are = (refl, All-nil (λ list. 1 ≤ length list), All-nil (λ list. length list ≤ 64))
as_few (s ∷ sent) (n ∷ names) e are =
    let here : length s ≡ length n = cc in
    let others : map length sent ≡ map length names = cc in
    let more = as_few sent names others are.1 in
    let some = are.0.some in
    let most = are.0.most in (
      ap suc more.0,
      All-cons (λ list. 1 ≤ length list) s sent (omega arith) more.1,
      All-cons (λ list. length list ≤ 64) s sent (omega arith) more.2,
    )
as_few sent names e are = absurd cc

pub are_few : (words : List (List ℕ)) (sent : List (List (List ℕ))) (request : SpoolRequest) → map length sent ≡ map length (names_of words)
    → IsWithinBounds words request → AreFew sent
are_few words sent request e within =
    let few = as_few sent (names_of words) e within.names in
    let some = within.some_senders in
    let most = within.most_senders in
    let count = within.senders in
    record { some_senders = omega (arith, few.0); most_senders = omega (arith, few.0); some_jobs = few.1; most_jobs = few.2 }

-- what the printer did, and the answer to it
pub came_to : (r : Result (Unit {0}) SpoolAnswer) (p : Printer) (k : Screening) (sent : List (List Stream)) (jobs : List SpoolJob) (out : Outside)
    (meters : Meters) (done : List Ran) (a : SpoolAnswer) (count : ℕ)
    → AreDone p k jobs done (at_call out meters) (at_return out meters)
    → OnOk r (length jobs ≡ count) → count ≡ count_sent sent → OnOk r (All (λ ran. ran.status ≢ 5) done) → OnOk r (AnswersJobs done a)
    → IfErr r (λ stop. a ≡ stop) → IfErr r (WriteStopped done) → OnErr r (HasRisen out)
    → (rest : List SpoolJob) × AreSent (sent_by sent) (jobs ++ rest)
    → (length jobs ≡ count_sent sent → AreSent (sent_by sent) jobs)
    → PrintingOutcome p k sent out meters done a
came_to (Ok u) p k sent jobs out meters done a count are every count_is fine sums stop write risen rest all =
    all_ran p k sent jobs out meters done a (all (every ∙ count_is)) are.are fine sums
came_to (Err stop') p k sent jobs out meters done a count are every count_is fine sums stop write risen rest all =
    not_all_ran p k sent jobs rest.0 out meters done a rest.1 are.are risen (subst (WriteStopped done) (sym stop) write)

-- all jobs that were printed have a plain status, where no write failed
pub plain_jobs : (r : Result (Unit {0}) SpoolAnswer) {p : Printer} {k : Screening} {jobs : List SpoolJob} {done : List Ran} {x y : Between}
    → AreDone p k jobs done x y → OnOk r (All (λ ran. ran.status ≢ 5) done) → OnOk r (All HasPlainStatus done)
plain_jobs (Ok u) {p} {k} {jobs} {done} {x} {y} are fine = plain_all p k jobs done x y are.are fine
plain_jobs (Err stop) are fine = tt

-- no more jobs were printed than sent
pub few_done : {p : Printer} {k : Screening} {jobs : List SpoolJob} {done : List Ran} {x y : Between} (count : ℕ)
    → AreDone p k jobs done x y → length jobs ≤ count → count < 2 ^ 31 → length done < 2 ^ 31
few_done {p} {k} {jobs} {done} {x} {y} count are le lt = let many = as_many p k jobs done x y are.are in omega arith

-- there are a profile and all files
pub with_files : (words : List (List ℕ)) (request : SpoolRequest) (o : SpoolOutside) (done : List Ran) (p : Printer) (k : Screening)
    (sent : List (List Stream)) (a : SpoolAnswer) → spool_meaning words ≡ Ok request
    → k ≡ screening_of request.kernel request.grain
    → IsJobProfile o.shelf.told (profile_named words) (Ok p) → AreFiles o.shelf.told (names_of words) sent
    → PrintingOutcome p k sent o.out o.meters done a → SpoolOutcome words o done a
with_files words request o done p k sent a means same is files printed =
    subst (λ (m : Result SpoolRequest SpoolFault). RequestOutcome m words o done a) (sym means)
    (inr (inr (record {
      p = p;
      profile = is;
      sent = sent;
      files = files;
      printed = subst (λ (s : Screening). PrintingOutcome p s sent o.out o.meters done a) same printed;
    })))
