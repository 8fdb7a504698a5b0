-- Meters that have room for the pages of all streams: no job goes past a cap.
use Rattle.std.proofs.Common.{◌≡◌, ◌≢◌, ℕ, ◌+◌, List, [], ◌∷◌, map, sym, refl, ◌∙◌, ap, subst, arith, All, Option, Some}
use Rattle.std.proofs.lemmas.List.Elements.{All-cons, All-head, All-map, All-nil, All-tail, All-weaker}
use Rattle.page_definitions.specs.Dots.{Screening}
use Rattle.driver_answer.specs.Answers.{status_of}
use Rattle.driver_answer.specs.declared.answer.Answer.{Answer}
use Rattle.driver_answer.specs.declared.answer.Answer.TheVariants as print
use Rattle.driver_core.specs.Printing.Pages.{IsStream}
use Rattle.driver_core.specs.Trying.Summary.{dots_of_pages}
use Rattle.driver_core.proofs.Printing.ByStream.{never_over}
use Rattle.ink_meter.specs.Accounts.{Account, HasRoom, added, all_inks}
use Rattle.ink_meter.specs.Counts.{Admitted, counted, page_dots}
use Rattle.printer_definitions.specs.Printer.{Printer}
use Rattle.pwg_definitions.specs.Stream.{Page, stream}
use Rattle.pwg_definitions.specs.Stream.{Stream as Pages}
use Rattle.pwg_definitions.specs.Stream.StreamEnd.{Done, Fault}
use Rattle.separation_definitions.specs.Windows.{wanted_by}
use Rattle.spool_queue.proofs.Sums.{of_jobs, of_streams}
use Rattle.spool_queue.specs.Jobs.{Stream}
use Rattle.spool_queue.specs.declared.job.SpoolJob.{SpoolJob}
use Rattle.spool_core.specs.Printed.{Between, PrintsJob, PrintsJobs, PrintsStream}
use Rattle.spool_core.specs.Promises.{HasRoomFor, IsValidStream, dots_of_streams, stream_dots}
use Rattle.spool_core.specs.declared.report.Ran.{Ran}

pub streams_as_told : (p : Printer) (k : Screening) (streams : List Stream) → dots_of_streams p k streams ≡ of_streams (stream_dots p k) streams
streams_as_told p k [] = refl
streams_as_told p k (s ∷ streams) = ap (λ n. stream_dots p k s + n) (streams_as_told p k streams)

-- ---- meters that have room for pages and more admit the pages, and have room for the rest

page_room : (p : Printer) (k : Screening) (pages : List Page) (more : ℕ) (accounts : List Account)
    → All (HasRoomFor (all_inks (dots_of_pages p k pages) + more)) accounts
    → Admitted p k pages accounts × All (HasRoomFor more) (counted p k pages accounts)
page_room p k [] more accounts room =
    (tt, All-weaker (HasRoomFor (all_inks (dots_of_pages p k []) + more)) (HasRoomFor more) (λ a h. omega (arith, h)) accounts room)
page_room p k (page ∷ pages) more accounts room =
    let dots = page_dots page p k in
    let P : Account → Type 0 = HasRoomFor (all_inks (dots_of_pages p k (page ∷ pages)) + more) in
    let Q : Account → Type 0 = HasRoomFor (all_inks (dots_of_pages p k pages) + more) in
    let one : All (HasRoom dots) accounts = All-weaker P (HasRoom dots) (λ a h. omega (arith, h)) accounts room in
    let others = page_room p k pages more (map (added dots) accounts)
    (All-map Q (added dots) accounts (All-weaker P (λ a. Q (added dots a)) (λ a h. omega (arith, h)) accounts room)) in
    ((one, others.0), others.1)

-- ---- the jobs

pub not_three : (p : Printer) (k : Screening) (bytes : Stream) (pages : ℕ) (a : Answer) (x y : Between) → IsValidStream p bytes
    → PrintsStream p k bytes pages a x y → status_of a ≢ 3
not_three p k bytes pages (print.Input page line why) x y valid prints three =
    let ended : IsStream p (Some bytes) prints.printed.0.0.pages (Fault page line why) =
    subst (λ (b : Option (List ℕ)). IsStream p b prints.printed.0.0.pages (Fault page line why)) prints.stream_is prints.printed.0.0.told in
    let never : Done ≡ Fault page line why = ap (λ (s : Pages). s.end) (sym valid.1 ∙ ended) in absurd cc
not_three p k bytes pages other x y valid prints three = absurd (omega arith)

-- a job of a valid stream for which the meters have room is printed, where no write failed and memory sufficed
job_fits : (p : Printer) (k : Screening) (job : SpoolJob) (ran : Ran) (a b : Between) (more : ℕ) → PrintsJob p k job ran a b
    → IsValidStream p job.stream → ran.status ≢ 5 → ran.status ≢ 7 → All (HasRoomFor (stream_dots p k job.stream + more)) a.accounts
    → (ran.status ≡ 0) × All (HasRoomFor more) b.accounts
job_fits p k job ran a b more one valid five seven room =
    by_answer one.answer one.prints one.status_is (page_room p k (stream (wanted_by p) job.stream).pages more a.accounts room)
  where
    by_answer : (x : Answer) → PrintsStream p k job.stream ran.pages x a b → ran.status ≡ status_of x
        → Admitted p k (stream (wanted_by p) job.stream).pages a.accounts
        × All (HasRoomFor more) (counted p k (stream (wanted_by p) job.stream).pages a.accounts)
        → (ran.status ≡ 0) × All (HasRoomFor more) b.accounts
    by_answer print.Done prints is fits =
        let all = prints.printed.0.0 in
        let told : IsStream p (Some job.stream) all.pages Done =
        subst (λ (o : Option (List ℕ)). IsStream p o all.pages Done) prints.stream_is all.told in
        let same : (stream (wanted_by p) job.stream).pages ≡ all.pages = ap (λ (s : Pages). s.pages) told in
        let left : b.accounts ≡ counted p k (stream (wanted_by p) job.stream).pages a.accounts =
        prints.printed.0.1.counts ∙ ap (λ pages. counted p k pages a.accounts) (sym same) in
        (is, subst (All (HasRoomFor more)) (sym left) fits.1)
    by_answer (print.OverCap page total dots cap) prints is fits =
        let admitted : Admitted p k valid.0 a.accounts =
        subst (λ pages. Admitted p k pages a.accounts) (ap (λ (s : Pages). s.pages) valid.1) fits.0 in
        absurd (never_over prints.printed.0 prints.stream_is valid.1 admitted)
    by_answer (print.Input page line why) prints is fits =
        absurd (not_three p k job.stream ran.pages (print.Input page line why) a b valid prints refl)
    by_answer print.Read prints is fits = absurd (prints.calm prints.printed.0.0)
    by_answer (print.Write page) prints is fits = absurd (five is)
    by_answer print.Memory prints is fits = absurd (seven is)
    by_answer other prints is fits = absurd prints.printed.0

pub none_over : (p : Printer) (k : Screening) (jobs : List SpoolJob) (done : List Ran) (a b : Between) → PrintsJobs p k jobs done a b
    → All (λ (x : SpoolJob). IsValidStream p x.stream) jobs → All (λ (ran : Ran). (ran.status ≢ 5) × (ran.status ≢ 7)) done
    → All (HasRoomFor (of_jobs (stream_dots p k) jobs)) a.accounts → All (λ (ran : Ran). ran.status ≢ 6) done
none_over p k [] [] a b are valid plain room = All-nil (λ (ran : Ran). ran.status ≢ 6)
none_over p k (job ∷ jobs) (ran ∷ done) a b are valid plain room =
    let P : SpoolJob → Type 0 = λ x. IsValidStream p x.stream in
    let Q : Ran → Type 0 = λ r. (r.status ≢ 5) × (r.status ≢ 7) in
    let fine = All-head Q ran done plain in
    let one = job_fits p k job ran a are.0 (of_jobs (stream_dots p k) jobs) are.1 (All-head P job jobs valid) fine.0 fine.1 room in
    All-cons (λ (r : Ran). r.status ≢ 6) ran done (λ six. omega (arith, one.0))
    (none_over p k jobs done are.0 b are.2 (All-tail P job jobs valid) (All-tail Q ran done plain) one.1)
none_over p k jobs done a b are valid plain room = absurd are
