-- A valid run prints every job.
use Rattle.std.proofs.Common.{◌≡◌, ◌≢◌, ℕ, zero, suc, ◌+◌, ◌-◌, ◌<◌, ◌⊎◌, inl, inr, ⊎_elim, List, [], ◌∷◌, ◌++◌, length, get_or, take, drop, sym, refl, ◌∙◌, ap, subst, arith, All, Bool, false, cond, count_by, append_assoc, length-append, Option, None, Some, Result, Ok, ne_eqb}
use Rattle.std.specs.Prelude.{IfSome, slice_index_or, flat_map, ◌==◌, ◌||◌}
use Rattle.std.proofs.lemmas.List.{get_or-append-add, get_or_append_left, get_or_default}
use Rattle.std.proofs.lemmas.List.Elements.{All-append, All-from_get_or, All-get_or, All-head, All-nil, All-tail}
use Rattle.std.proofs.lemmas.List.Sums.{sum_by-cons}
use Rattle.page_definitions.specs.Dots.{Screening}
use Rattle.page_halftoner.specs.Screenings.{screening_of}
use Rattle.driver_core.specs.Outside.{HasFailed, IsCalm, Outside}
use Rattle.job_profile.specs.Named.{IsJobProfile, Refusal, job_profile}
use Rattle.printer_definitions.specs.Printer.{Printer}
use Rattle.spool_queue.proofs.Sent.{was_sent}
use Rattle.spool_queue.proofs.Sums.{jobs_as_sent, of_jobs}
use Rattle.spool_queue.specs.Jobs.{AreSent, Stream, sent_by}
use Rattle.spool_queue.specs.declared.job.SpoolJob.{SpoolJob}
use Rattle.spool_words.specs.Meaning.{names_of, profile_named}
use Rattle.spool_words.specs.declared.faults.SpoolFault.{SpoolFault}
use Rattle.spool_words.specs.declared.reading.SpoolRequest.{SpoolRequest}
use Rattle.weave_base.specs.Shelf.{NamedText, text_named}
use Rattle.spool_core.specs.Answers.{IsReported, spool_status, spool_text}
use Rattle.spool_core.specs.Files.{AreFiles, FilesOutcome, HasStreams, IsFile, IsRefusedFile, RefusesFile, bytes_in, joined, most_next}
use Rattle.spool_core.specs.Outcome.{PrintingOutcome, ProfileOutcome, RequestOutcome, SpoolOutcome, SpoolOutside, WithFiles, WithoutFiles, at_call, at_return, is_refused}
use Rattle.spool_core.specs.Printed.{Between, PrintsEvery, PrintsJobs}
use Rattle.spool_core.specs.Promises.{HasRoomFor, IsValidSpool, IsValidStream, SpoolPromises, dots_of_streams, stream_dots}
use Rattle.spool_core.specs.declared.answer.SpoolAnswer.{SpoolAnswer}
use Rattle.spool_core.specs.declared.answer.SpoolAnswer.TheVariants as answer
use Rattle.spool_core.specs.declared.files.FileCause.{FileCause}
use Rattle.spool_core.specs.declared.files.FileCause.TheVariants as cause
use Rattle.spool_core.specs.declared.report.Ran.{Ran}
use Rattle.spool_core.proofs.Lists.{cut_at, flat_map-append}
use Rattle.spool_core.proofs.Rooms.{none_over, not_three, streams_as_told}

-- ---- what a shelf says has one meaning

held_is : (told : Option (List NamedText)) (files : List NamedText) (name : List ℕ) (held : Option (List ℕ)) → told ≡ Some files
    → IfSome told (λ fs. held ≡ text_named name fs) → held ≡ text_named name files
held_is told files name held is h = subst (λ (t : Option (List NamedText)). IfSome t (λ fs. held ≡ text_named name fs)) is h

one_profile : (told : Option (List NamedText)) (files : List NamedText) (name : List ℕ) (r s : Result Printer Refusal) → told ≡ Some files
    → IsJobProfile told name r → IsJobProfile told name s → r ≡ s
one_profile told files name r s is x y =
    sym x.is ∙ ap (job_profile name) (held_is told files name x.held is x.told_is ∙ sym (held_is told files name y.held is y.told_is)) ∙ y.is

text_is : (told : Option (List NamedText)) (files : List NamedText) (name stream : List ℕ) → told ≡ Some files
    → IfSome told (λ fs. text_named name fs ≡ Some stream) → text_named name files ≡ Some stream
text_is told files name stream is h = subst (λ (t : Option (List NamedText)). IfSome t (λ fs. text_named name fs ≡ Some stream)) is h

some_same : {A : Type 0} {o : Option A} {x y : A} → o ≡ Some x → o ≡ Some y → x ≡ y
some_same p q = cc

module _ (told : Option (List NamedText)) (files : List NamedText) (is : told ≡ Some files) where
  one_stream : (taken used : ℕ) (name s t : List ℕ) → IsFile told taken name s → IsFile told used name t → s ≡ t
  one_stream taken used name s t f g = some_same (text_is told files name s is f.text) (text_is told files name t is g.text)

  -- the streams of names are the same
  same_streams : (taken used : ℕ) (names ss ts : List (List ℕ)) → HasStreams told taken names ss → HasStreams told used names ts → ss ≡ ts
  same_streams taken used [] [] [] h g = refl
  same_streams taken used [] [] (t ∷ ts) h g = absurd g
  same_streams taken used (n ∷ names) (s ∷ ss) [] h g = absurd g
  same_streams taken used (n ∷ names) (s ∷ ss) (t ∷ ts) h g =
      let one : s ≡ t = one_stream taken used n s t h.0 g.0 in
      let others : ss ≡ ts = same_streams (taken + length s) (used + length t) names ss ts h.1 g.1 in
      ap (λ x. x ∷ ss) one ∙ ap (λ xs. t ∷ xs) others
  same_streams taken used names ss ts h g = absurd h

  -- the file after some that were read
  next_file : (taken : ℕ) (xs ys ss ts : List (List ℕ)) (name : List ℕ) → HasStreams told taken (xs ++ name ∷ ys) ss
      → HasStreams told taken xs ts → (s : List ℕ) × IsFile told (taken + bytes_in ts) name s
  next_file taken [] ys [] ts name h g = absurd h
  next_file taken [] ys (s ∷ ss) [] name h g = (s, subst (λ n. IsFile told n name s) (omega arith) h.0)
  next_file taken [] ys (s ∷ ss) (t ∷ ts) name h g = absurd g
  next_file taken (x ∷ xs) ys [] ts name h g = absurd h
  next_file taken (x ∷ xs) ys (s ∷ ss) [] name h g = absurd g
  next_file taken (x ∷ xs) ys (s ∷ ss) (t ∷ ts) name h g =
      let one : s ≡ t = one_stream taken taken x s t h.0 g.0 in
      let rest = next_file (taken + length t) xs ys ss ts name (subst (λ u. HasStreams told (taken + length u) (xs ++ name ∷ ys) ss) one h.1) g.1 in
      (rest.0, subst (λ n. IsFile told n name rest.0) (omega arith) rest.1)

  not_refused : (taken : ℕ) (name s : List ℕ) (c : FileCause) → IsFile told taken name s → RefusesFile told taken name c → ⊥
  not_refused taken name s cause.Absent f refused =
      let none : text_named name files ≡ None = subst (λ (t : Option (List NamedText)). IfSome t (λ fs. text_named name fs ≡ None)) is refused in
      let some = text_is told files name s is f.text in absurd cc
  not_refused taken name s cause.TooLong f refused =
      let long : (t : List ℕ) × (text_named name files ≡ Some t) × (most_next taken < length t) =
      subst (λ (o : Option (List NamedText)). IfSome o (λ fs. (t : List ℕ) × (text_named name fs ≡ Some t) × (most_next taken < length t))) is refused in
      let same : s ≡ long.0 = some_same (text_is told files name s is f.text) long.1 in
      let len : length s ≡ length long.0 = ap length same in
      let within = f.within in
      omega (arith, long.2)

  -- no file is refused where all were read
  none_refused : (names sent : List (List (List ℕ))) (sender job : ℕ) (c : FileCause) → AreFiles told names sent
      → IsRefusedFile told names sender job c → ⊥
  none_refused names sent sender job c are refused =
      let at = refused.place in
      let front : List (List ℕ) = joined at.before ++ at.first in
      let back : List (List ℕ) = at.later ++ joined at.after in
      let whole : joined names ≡ front ++ at.name ∷ back =
      ap joined at.names_are
      ∙ flat_map-append (λ (l : List (List ℕ)). l) at.before ((at.first ++ at.name ∷ at.later) ∷ at.after)
      ∙ ap (λ l. joined at.before ++ l) (append_assoc at.first (at.name ∷ at.later) (joined at.after))
      ∙ sym (append_assoc (joined at.before) at.first (at.name ∷ back)) in
      let next = next_file 0 front back (joined sent) at.streams at.name
      (subst (λ ns. HasStreams told 0 ns (joined sent)) whole are.streams) at.earlier in
      let there : IsFile told (bytes_in at.streams) at.name next.0 = subst (λ n. IsFile told n at.name next.0) (omega arith) next.1 in
      not_refused (bytes_in at.streams) at.name next.0 c there refused.refused

-- ---- every job's stream is valid

module _ {A : Type 0} (P : A → Type 0) where
  all_joined : (lists : List (List A)) → All (All P) lists → All P (flat_map (λ l. l) lists)
  all_joined [] all = All-nil P
  all_joined (l ∷ lists) all =
      All-append P l (flat_map (λ l. l) lists) (All-head (All P) l lists all) (all_joined lists (All-tail (All P) l lists all))

  -- an element of one of the lists
  in_part : (lists : List (List A)) (i k : ℕ) (d : A) → All P (flat_map (λ l. l) lists) → k < length (get_or lists i []) → P (get_or (get_or lists i []) k d)
  in_part [] i k d all lt = absurd (omega arith)
  in_part (l ∷ lists) zero k d all lt =
      let n = length-append l (flat_map (λ l. l) lists) in
      subst P (get_or_append_left l (flat_map (λ l. l) lists) d k lt) (All-get_or P (l ++ flat_map (λ l. l) lists) k d (omega arith) all)
  in_part (l ∷ lists) (suc i) k d all lt = in_part lists i k d (λ j e below.
      let n = length-append l (flat_map (λ l. l) lists) in
      let at : get_or (l ++ flat_map (λ l. l) lists) (length l + j) e ≡ get_or (flat_map (λ l. l) lists) j e =
      get_or-append-add l (flat_map (λ l. l) lists) j e in
      subst P at (all (length l + j) e (omega arith))) lt

sent_valid : (P : Stream → Type 0) (sent : List (List Stream)) (s k : ℕ) → All P (joined sent) → k < length (sent_by sent s)
    → P (slice_index_or (sent_by sent s) k [])
sent_valid P sent zero k all lt = absurd (omega arith)
sent_valid P sent (suc i) k all lt = in_part P sent i k [] all lt

jobs_valid : (P : Stream → Type 0) (sent : List (List Stream)) (jobs : List SpoolJob) (d : SpoolJob) → AreSent (sent_by sent) jobs → All P (joined sent)
    → All (λ (x : SpoolJob). P x.stream) jobs
jobs_valid P sent jobs d are all = All-from_get_or (λ (x : SpoolJob). P x.stream) jobs d (λ i lt.
    let x : SpoolJob = get_or jobs i d in
    let at : x ≡ get_or jobs i x = get_or_default jobs i d x lt in
    let was = was_sent (sent_by sent) (take i jobs) (drop (i + 1) jobs) x (subst (AreSent (sent_by sent)) (cut_at jobs i x lt at) are) in
    subst P (sym was.2) (sent_valid P sent x.sender (x.number - 1) all (omega (arith, was.0, was.1))))

-- ---- no job is refused

not_counted : (s : ℕ) → s ≢ 3 → s ≢ 6 → ((s == 3) || (s == 6)) ≡ false
not_counted s three six = rw (ne_eqb s 3 three, ne_eqb s 6 six)

none_counted : (p : Printer) (k : Screening) (jobs : List SpoolJob) (done : List Ran) (a b : Between) → PrintsJobs p k jobs done a b
    → All (λ (x : SpoolJob). IsValidStream p x.stream) jobs → All (λ (ran : Ran). ran.status ≢ 6) done → count_by is_refused done ≡ 0
none_counted p k [] [] a b are valid fine = refl
none_counted p k (job ∷ jobs) (ran ∷ done) a b are valid fine =
    let P : SpoolJob → Type 0 = λ x. IsValidStream p x.stream in
    let Q : Ran → Type 0 = λ r. r.status ≢ 6 in
    let one = are.1 in
    let three : ran.status ≢ 3 = λ e. not_three p k job.stream ran.pages one.answer a are.0 (All-head P job jobs valid) one.prints (sym one.status_is ∙ e) in
    let no : is_refused ran ≡ false = not_counted ran.status three (All-head Q ran done fine) in
    let more = none_counted p k jobs done are.0 b are.2 (All-tail P job jobs valid) (All-tail Q ran done fine) in
    sum_by-cons (λ (r : Ran). cond (is_refused r) 1 0) ran done ∙ ap (λ (t : Bool). cond t 1 0 + count_by is_refused done) no ∙ omega arith
none_counted p k jobs done a b are valid fine = absurd are

-- ---- the run

abbrev IsFine : SpoolAnswer → Type 0
IsFine a = (spool_status a ≡ 0) ⊎ (spool_status a ≡ 7)

module _ (words : List (List ℕ)) (o : SpoolOutside) (done : List Ran) (valid : IsValidSpool words o) (files : List NamedText)
    (is : o.shelf.told ≡ Some files) (calm : HasFailed o.shelf → ⊥) (calm_out : IsCalm o.out)
    (fine : (p : Printer) (k : Screening) (sent : List (List Stream)) → p ≡ valid.p → k ≡ screening_of valid.request.kernel valid.request.grain
    → joined sent ≡ joined valid.sent → (every : PrintsEvery p k sent done (at_call o.out o.meters) (at_return o.out o.meters))
    → All (λ (x : SpoolJob). IsValidStream p x.stream) every.jobs → All (λ (ran : Ran). (ran.status ≢ 5) × (ran.status ≢ 7)) done
    → All (λ (ran : Ran). ran.status ≢ 6) done) where
  by_profile : (a : SpoolAnswer) → ProfileOutcome (profile_named words) o.shelf a → IsFine a
  by_profile (answer.Profile line why) h =
      let never = one_profile o.shelf.told files (profile_named words) _ _ is h valid.profile in absurd cc
  by_profile answer.Read h = absurd (calm h.0)
  by_profile answer.Memory h = inr refl
  by_profile other h = absurd h

  by_files : (a : SpoolAnswer) → FilesOutcome (names_of words) o.shelf a → IsFine a
  by_files (answer.File sender job why) h = absurd (none_refused o.shelf.told files is (names_of words) valid.sent sender job why valid.files h)
  by_files (answer.ReadFile sender job) h = absurd (calm h.1)
  by_files answer.Memory h = inr refl
  by_files other h = absurd h

  by_printing : (p : Printer) (k : Screening) (sent : List (List Stream)) (a : SpoolAnswer) → p ≡ valid.p
      → k ≡ screening_of valid.request.kernel valid.request.grain → AreFiles o.shelf.told (names_of words) sent → PrintingOutcome p k sent o.out o.meters done a → IsFine a
  by_printing p k sent answer.Done same kernel are h = inl refl
  by_printing p k sent answer.Memory same kernel are h = inr refl
  by_printing p k sent (answer.Write sender job page) same kernel are h = absurd (calm_out h.0)
  by_printing p k sent (answer.Failed count) same kernel are h =
      let streams : joined valid.sent ≡ joined sent =
      same_streams o.shelf.told files is 0 0 (joined (names_of words)) (joined valid.sent) (joined sent) valid.files.streams are.streams in
      let P : Stream → Type 0 = IsValidStream valid.p in
      let all : All P (joined sent) = subst (All P) streams (all_joined P valid.sent valid.streams) in
      let Q : Stream → Type 0 = IsValidStream p in
      let all' : All Q (joined sent) = subst (λ (q : Printer). All (IsValidStream q) (joined sent)) (sym same) all in
      let jobs = jobs_valid Q sent h.0.jobs (record { sender = 0; number = 0; stream = [] }) h.0.are all' in
      let none = none_counted p k h.0.jobs done _ _ h.0.prints jobs (fine p k sent same kernel (sym streams) h.0 jobs h.1.0) in
      absurd (omega (arith, h.1.1, h.1.2))
  by_printing p k sent other same kernel are h = absurd h

  pub valid_run : (a : SpoolAnswer) → SpoolOutcome words o done a → IsFine a
  valid_run a outcome =
      let by_request : RequestOutcome (Ok valid.request) words o done a =
      subst (λ (m : Result SpoolRequest SpoolFault). RequestOutcome m words o done a) valid.means outcome in
      ⊎_elim (λ h. by_profile a h.0)
      (⊎_elim (λ (h : WithoutFiles words o done a). by_files a h.stopped)
      (λ (h : WithFiles words valid.request o done a).
      let same : Ok h.p ≡ Ok valid.p = one_profile o.shelf.told files (profile_named words) (Ok h.p) (Ok valid.p) is h.profile valid.profile in
      by_printing h.p _ h.sent a (cc) refl h.files h.printed)) by_request

-- where the meters have room for all streams, no job goes past a cap
roomy_jobs : {done : List Ran} (o : SpoolOutside) (q p : Printer) (l k : Screening) (streams : List Stream) (sent : List (List Stream))
    → p ≡ q → k ≡ l → joined sent ≡ streams → (every : PrintsEvery p k sent done (at_call o.out o.meters) (at_return o.out o.meters))
    → All (λ (x : SpoolJob). IsValidStream p x.stream) every.jobs → All (λ (ran : Ran). (ran.status ≢ 5) × (ran.status ≢ 7)) done
    → All (HasRoomFor (dots_of_streams q l streams)) o.meters.before → All (λ (ran : Ran). ran.status ≢ 6) done
roomy_jobs {done} o q p l k streams sent same kernel order every jobs plain room =
    let dots : dots_of_streams q l streams ≡ of_jobs (stream_dots p k) every.jobs =
    ap (λ ss. dots_of_streams q l ss) (sym order) ∙ ap (λ t. dots_of_streams q t (joined sent)) (sym kernel)
    ∙ ap (λ r. dots_of_streams r k (joined sent)) (sym same) ∙ streams_as_told p k (joined sent)
    ∙ sym (jobs_as_sent (stream_dots p k) sent every.jobs every.are) in
    none_over p k every.jobs done (at_call o.out o.meters) (at_return o.out o.meters) every.prints jobs plain
    (subst (λ n. All (HasRoomFor n) o.meters.before) dots room)

-- what a run promises, by its answer
pub promised : {words : List (List ℕ)} {o : SpoolOutside} {err : Outside} {status : ℕ} {done : List Ran} (a : SpoolAnswer) → SpoolOutcome words o done a
    → status ≡ spool_status a → IsReported err (spool_text done a) → SpoolPromises words o err status a done
promised {words} {o} {err} {status} {done} a outcome is told =
    let P : ℕ → Type 0 = λ s. (s ≡ 0) ⊎ (s ≡ 7) in
    record {
      outcome = outcome;
      status_is = is;
      told = told;
      valid = λ valid shelf calm calm_out fine.
          subst P (sym is) (valid_run words o done valid shelf.0 shelf.1 calm calm_out (λ p k sent same kernel order every jobs plain. fine) a outcome);
      roomy = λ valid shelf calm calm_out room.
          subst P (sym is) (valid_run words o done valid shelf.0 shelf.1 calm calm_out (λ p k sent same kernel order every jobs plain.
          roomy_jobs o valid.p p (screening_of valid.request.kernel valid.request.grain) k (joined valid.sent) sent same kernel order every jobs plain room) a outcome);
    }
