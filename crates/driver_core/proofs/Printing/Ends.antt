-- The outcome of printing, at each of its ends.
use Rattle.std.proofs.Common.{◌≡◌, ℕ, ◌+◌, ◌-◌, ◌*◌, inl, inr, ◌≤◌, List, [], ◌∷◌, ◌++◌, length, Option, None, Some, IfSome}
use Rattle.std.proofs.Common.{Err, IsErrOf, IsOk, refl, sym, ◌∙◌, ap, subst, arith, append_assoc, append-nil}
use Rattle.std.specs.List.{AllByRecursion}
use Rattle.std.specs.Io.KnownBytes.{Appends, Consumes, IsAtEnd, Keeps}
use Rattle.std.proofs.KnownBytes.{Consumes-nil, Consumes-trans}
use Rattle.page_definitions.specs.Dots.{Screening}
use Rattle.driver_answer.specs.declared.answer.Answer.{Answer}
use Rattle.driver_answer.specs.declared.answer.Answer.TheVariants as answer
use Rattle.dot_planes.specs.Tables.{DotTable}
use Rattle.ink_meter.specs.Accounts.{Account, IsFirstOver, all_inks}
use Rattle.ink_meter.specs.declared.meters.OverCap.{OverCap}
use Rattle.page_definitions.specs.Dots.{halftone}
use Rattle.page_definitions.specs.Ways.{CanGo, halftone_bytes_by, most_rasters, page_bytes_by}
use Rattle.page_definitions.specs.declared.way.Way.{Way}
use Rattle.page_laws.proofs.WaysKept.{ways-keep, ways-print}
use Rattle.page_writer.specs.AtMost.{AppendsAtMost}
use Rattle.ink_meter.specs.Counts.{page_dots}
use Rattle.printer_definitions.specs.Printer.{Printer, row_units}
use Rattle.printer_profile.proofs.CheckedProfiles.{can_print}
use Rattle.printer_profile.specs.Validity.{check}
use Rattle.separation_definitions.specs.CanPrint.{CanPrint}
use Rattle.separation_definitions.specs.Windows.{wanted_by, window_of}
use Rattle.pwg_definitions.specs.declared.faults.InputCause.{InputCause}
use Rattle.pwg_definitions.specs.declared.pages.PageForm.{PageForm}
use Rattle.pwg_definitions.specs.declared.pages.Wanted.{Wanted}
use Rattle.pwg_definitions.specs.Header.{IsWanted}
use Rattle.pwg_definitions.specs.Stream.{IsPage, Page, Stream, page_at, pages_from, stream, sync_word}
use Rattle.pwg_definitions.specs.Stream.PageRead.{Whole}
use Rattle.pwg_definitions.specs.Stream.StreamEnd.{Done, Fault}
use Rattle.pwg_laws.proofs.PageLaws.{stream-pages}
use Rattle.pwg_stream.specs.declared.reader.PageReader.{PageReader}
use Rattle.pwg_stream.specs.declared.stops.StreamStop.{StreamStop}
use Rattle.pwg_stream.specs.declared.stops.StreamStop.TheVariants as stop
use Rattle.pwg_stream.specs.Reading.{page_of, text_of}
use Rattle.pwg_stream.specs.Stops.{OnInput}
use Rattle.pwg_stream.specs.Taken.{StreamMayGoOn, TakesAllPages, TakesNoPage}
use Rattle.buffered_bytes.specs.Text.{UsesSome, text_behind}
use Rattle.printer_definitions.specs.declared.inks.InkCounts.{InkCounts}
use Rattle.weave_base.specs.Causes.{Rose}
use Rattle.weave_base.specs.Parts.{AppendsPart}
use Rattle.driver_core.specs.Printing.Charging.{RefusesPage}
use Rattle.driver_core.specs.Outside.{Meters, Outside}
use Rattle.driver_core.specs.Printing.Pages.{BeginsStream, IsStream, TakesPages, job_bytes}
use Rattle.driver_core.specs.Printing.Outcome.{CountsPages, PrintedOutcome, WritesJob, stream_answer}
use Rattle.halftone_reader.specs.Reading.{ReadsHalftone}
use Rattle.halftone_reader.specs.SoFar.{EndsSo}
use Rattle.driver_core.proofs.Printing.Counting.{none_counted}
use Rattle.driver_core.proofs.Runs.Nothing.{appends_kept, writes_none}
use Rattle.driver_core.proofs.Printing.StreamSteps.{StreamRead, StreamSoFar, with_pages, pages-first}

-- a printer whose head can go this way
pub record CanPrintBy (way : Way) (p : Printer) : Type 0 where
  pub can : CanPrint p
  pub go : CanGo way p

-- the printer of a profile that passes its checks
pub can_go : {p q : Printer} (way : Way) → q ≡ p → q.nozzles ≤ 255 → IsOk (check p) → CanGo way p → CanPrintBy way p
can_go {p} way same few checked go = record { can = can_print p (subst (λ (r : Printer). r.nozzles ≤ 255) same few) checked; go = go }

-- ---- pages are pages

page-is : (want : Wanted) (bytes : List ℕ) (page : Page)
    → ((rest : List ℕ) → page_at want (bytes ++ rest) ≡ Whole page rest) → IsPage want page
page-is want bytes page is =
    let P : List Page → Type 0 = AllByRecursion (IsPage want) in
    (subst P (ap (λ (s : Stream). s.pages) (pages-first want bytes page is)) (stream-pages want (sync_word ++ (bytes ++ [])))).0

-- a page that was read is one that the printer takes
pub page-wanted : (want : Wanted) (bytes : List ℕ) (page : Page) (form : PageForm)
    → form ≡ page.form → ((rest : List ℕ) → page_at want (bytes ++ rest) ≡ Whole page rest) → IsWanted want form
page-wanted want bytes page form e is = subst (IsWanted want) (sym e) (page-is want bytes page is).wanted

-- ---- what was taken

nil_behind : (xs ys : List ℕ) → xs ++ ys ≡ [] → ys ≡ []
nil_behind [] ys e = e
nil_behind (x ∷ xs) ys e = absurd (let never : x ∷ (xs ++ ys) ≡ [] = e in cc)

left_end : (left : Option (List ℕ)) (unread : List ℕ) → IsAtEnd (text_behind unread left) → IsAtEnd left
left_end None unread end = tt
left_end (Some ys) unread end = nil_behind unread ys end

-- bytes that were used and bytes that are unread were taken
text_taken : (before left : Option (List ℕ)) (unread bytes : List ℕ)
    → Consumes before (text_behind unread left) bytes → Consumes before left (bytes ++ unread)
text_taken None left unread bytes uses = tt
text_taken (Some xs) None unread bytes uses = absurd uses
text_taken (Some xs) (Some ys) unread bytes uses = uses ∙ sym (append_assoc bytes unread ys)

-- the text ended, and another read found no more
text_ended : (before text left : Option (List ℕ)) (unread bytes : List ℕ) → Consumes before text bytes
    → IsAtEnd text → UsesSome text (text_behind unread left) → IsAtEnd (text_behind unread left)
    → Consumes before left bytes
text_ended None text left unread bytes uses end more end' = tt
text_ended (Some xs) None left unread bytes uses end more end' = absurd uses
text_ended (Some xs) (Some t) None unread bytes uses end more end' = absurd more.is
text_ended (Some xs) (Some t) (Some ys) unread bytes uses end more end' =
    uses ∙ ap (λ bs. bytes ++ bs) (end ∙ sym (nil_behind unread ys end'))

-- ---- causes

pub rose_from : (a b d : ℕ) → a ≤ b → Rose b d → Rose a d
rose_from a b d later rose = record { rose = omega (arith, rose.rose) }

-- ---- what pages print, and in which passes

first_pages : (want : Wanted) (pages others : List Page)
    → AllByRecursion (IsPage want) (pages ++ others) → AllByRecursion (IsPage want) pages
first_pages want [] others are = tt
first_pages want (page ∷ pages) others are = (are.0, first_pages want pages others are.1)

-- what a text begins with are pages
read_pages : (want : Wanted) (bytes : List ℕ) (pages : List Page) (most number : ℕ)
    → ((rest : List ℕ) → stream want (bytes ++ rest) ≡ with_pages pages (pages_from want most number rest))
    → AllByRecursion (IsPage want) pages
read_pages want bytes pages most number is =
    let P : List Page → Type 0 = AllByRecursion (IsPage want) in
    first_pages want pages (pages_from want most number []).pages
    (subst P (ap (λ (s : Stream). s.pages) (is [])) (stream-pages want (bytes ++ [])))

-- the job of pages prints them, and keeps to the way of the head
job_of : {way : Way} {p : Printer} {k : Screening} {pages : List Page} {before now : Option (List ℕ)} → CanPrintBy way p
    → AllByRecursion (IsPage (wanted_by p)) pages → Appends before now (job_bytes way p k pages) → WritesJob way p k pages before now
job_of {way} {p} {k} {pages} can are writes = record {
  writes = writes;
  prints = ways-print way p k pages can.can can.go are;
  passes = ways-keep way p k pages can.can can.go are;
}

-- the job of the pages that were read so far
job_so_far : {way : Way} {p : Printer} {k : Screening} {before left held now : Option (List ℕ)} {reader : PageReader} {number : ℕ} {done : List Page}
    → CanPrintBy way p → (so_far : StreamSoFar way p k before left held now reader number done) → WritesJob way p k done held now
job_so_far {p = p} {done = done} can so_far = job_of can (read_pages (wanted_by p) so_far.bytes done _ _ so_far.is) so_far.written

module _ {way : Way} {p : Printer} {k : Screening} {before left held now : Option (List ℕ)} {reader : PageReader} {number : ℕ} {done : List Page} {page : Page}
    (can : CanPrintBy way p) (read : StreamRead way p k before left held now reader number done page) where
  all_read : AllByRecursion (IsPage (wanted_by p)) (done ++ page ∷ [])
  all_read = read_pages (wanted_by p) read.bytes (done ++ page ∷ []) _ _ read.is

  -- the job of the pages before the one that was read
  job_before : WritesJob way p k done held now
  job_before = job_of can (first_pages (wanted_by p) done (page ∷ []) all_read) read.written

-- ---- the ends

-- the first pages of what was taken, where the rest of the text is not known
taken_pages : (p : Printer) (before text left : Option (List ℕ)) (unread bytes : List ℕ) (pages : List Page) (most number : ℕ)
    → Consumes before text bytes → ((rest : List ℕ)
    → stream (wanted_by p) (bytes ++ rest) ≡ with_pages pages (pages_from (wanted_by p) most number rest))
    → UsesSome text (text_behind unread left) → TakesPages p before left pages
taken_pages p before text left unread bytes pages most number uses is more = record {
  bytes = (bytes ++ more.bytes) ++ unread;
  taken = text_taken before left unread
      (bytes ++ more.bytes) (Consumes-trans before text (text_behind unread left) bytes more.bytes uses more.is);
  others = (pages_from (wanted_by p) most number (more.bytes ++ unread)).pages;
  are = ap (λ bs. (stream (wanted_by p) bs).pages) (append_assoc bytes more.bytes unread)
      ∙ ap (λ (s : Stream). s.pages) (is (more.bytes ++ unread));
}

-- a read failed in the next page: what was taken has the pages that were read so far, and no other
all_taken : {way : Way} {p : Printer} {k : Screening} {before left held now : Option (List ℕ)} (left' : Option (List ℕ)) {old : PageReader}
    {number : ℕ} {done : List Page} → (so_far : StreamSoFar way p k before left held now old number done)
    → TakesNoPage (wanted_by p) (page_of old) (text_of old left) left' → TakesAllPages (wanted_by p) before left' done
all_taken {p = p} {before = before} {left} left' {old} {done = done} so_far none =
    let bytes : List ℕ = so_far.bytes ++ none.bytes in
    let behind : Stream = pages_from (wanted_by p) (9999 - page_of old) (page_of old + 1) none.bytes in
    let is : stream (wanted_by p) bytes ≡ with_pages done behind =
    so_far.is none.bytes
    ∙ ap (λ n. with_pages done (pages_from (wanted_by p) (9999 - n) (n + 1) none.bytes)) (sym so_far.many) in
    let P : Stream → Type 0 = λ s. StreamMayGoOn s.end in record {
      bytes = bytes;
      taken = Consumes-trans before (text_of old left) left' so_far.bytes none.bytes so_far.used none.taken;
      are = ap (λ (s : Stream). s.pages) is ∙ ap (λ ps. done ++ ps) none.none ∙ append-nil done;
      end = inl (subst P (sym is) none.end);
    }

-- the stream does not begin as one
pub no_sync : (way : Way) (p : Printer) (k : Screening) (input out : Outside) (accounts : List Account) (why : StreamStop) → Keeps out.before out.now
    → OnInput {T = PageReader} (Err why) (λ page line cause. IfSome input.before (λ bytes. (want : Wanted)
    → stream want bytes ≡ record { pages = []; end = Fault page line cause }))
    → OnInput {T = PageReader} (Err why) (λ page line cause. (page ≡ 0) × (line ≡ 0))
    → (IsErrOf {T = PageReader} (Err why) stop.Read → Rose input.faults_before input.faults_now)
    → (IsErrOf {T = PageReader} (Err why) stop.Read → (want : Wanted) → TakesAllPages want input.before input.now [])
    → UsesSome input.before input.now
    → PrintedOutcome way p k input out (record { before = accounts; now = accounts }) 0 (stream_answer why)
no_sync way p k input out accounts (stop.Input page line cause) kept bad place cause_is taken more = (
  (
    record {
      pages = [];
      told = some input.before bad;
      stand = omega (arith, place.0);
      job = writes_none way p k out.before out.now kept;
    },
    none_counted p k accounts,
  ),
  refl,
)
  where
    some : (o : Option (List ℕ))
        → IfSome o (λ bytes. (want : Wanted) → stream want bytes ≡ record { pages = []; end = Fault page line cause })
        → IsStream p o [] (Fault page line cause)
    some None h = tt
    some (Some bytes) h = h (wanted_by p)
no_sync way p k input out accounts stop.Read kept bad place cause_is taken more = (
  (
    cause_is refl,
    record { pages = []; taken = taken refl (wanted_by p); job = writes_none way p k out.before out.now kept },
    none_counted p k accounts,
  ),
  refl,
)
no_sync way p k input out accounts stop.Memory kept bad place cause_is taken more = (
  (
    record {
      pages = [];
      taken = record { bytes = more.bytes; taken = more.is; others = (stream (wanted_by p) more.bytes).pages; are = refl };
      job = writes_none way p k out.before out.now kept;
    },
    inl (none_counted p k accounts),
  ),
  refl,
)

-- the pages that were read are all, where the text is at its end
pages-none : (want : Wanted) (most number : ℕ) → pages_from want most number [] ≡ record { pages = []; end = Done }
unfolding pages_from
pages-none want most number = refl

bytes_end : {way : Way} {p : Printer} {k : Screening} {before left held now : Option (List ℕ)} {old : PageReader} {number : ℕ} {done : List Page}
    → (so_far : StreamSoFar way p k before left held now old number done)
    → stream (wanted_by p) so_far.bytes ≡ record { pages = done; end = Done }
bytes_end {p = p} {done = done} so_far =
    ap (stream (wanted_by p)) (sym (append-nil so_far.bytes))
    ∙ so_far.is []
    ∙ ap (with_pages done) (pages-none (wanted_by p) (9999 - length done) (length done + 1))
    ∙ ap (λ ps. record { pages = ps; end = Done }) (append-nil done)

pub stream_ends : {way : Way} {p : Printer} {k : Screening} {before left held now : Option (List ℕ)} {old : PageReader} {number : ℕ} {done : List Page}
    → (so_far : StreamSoFar way p k before left held now old number done) → IsAtEnd (text_of old left) → IsStream p before done Done
stream_ends {p = p} {before = before} {left = left} {old = old} {done = done} so_far end = told before (text_of old left) so_far.used end
  where
    told : (a b : Option (List ℕ)) → Consumes a b so_far.bytes → IsAtEnd b → IsStream p a done Done
    told None b uses end = tt
    told (Some xs) None uses end = absurd uses
    told (Some xs) (Some ys) uses end =
        ap (stream (wanted_by p)) (uses ∙ ap (λ bs. so_far.bytes ++ bs) end ∙ append-nil so_far.bytes) ∙ bytes_end so_far

-- or the text goes on with a fault
pub stream_faults : {way : Way} {p : Printer} {k : Screening} {before left held now : Option (List ℕ)} {old : PageReader} {number : ℕ} {done : List Page}
    → (so_far : StreamSoFar way p k before left held now old number done) (page line : ℕ) (cause : InputCause)
    → IfSome (text_of old left) (λ text. pages_from (wanted_by p) (9999 - page_of old) (page_of old + 1) text
    ≡ record { pages = []; end = Fault page line cause }) → IsStream p before done (Fault page line cause)
stream_faults {p = p} {before = before} {left = left} {old = old} {done = done} so_far page line cause bad =
    told before (text_of old left) so_far.used bad
  where
    told : (a b : Option (List ℕ)) → Consumes a b so_far.bytes
        → IfSome b (λ text. pages_from (wanted_by p) (9999 - page_of old) (page_of old + 1) text
        ≡ record { pages = []; end = Fault page line cause }) → IsStream p a done (Fault page line cause)
    told None b uses h = tt
    told (Some xs) None uses h = absurd uses
    told (Some xs) (Some ys) uses h =
        ap (stream (wanted_by p)) uses
        ∙ so_far.is ys
        ∙ ap (λ n. with_pages done (pages_from (wanted_by p) (9999 - n) (n + 1) ys)) (sym so_far.many)
        ∙ ap (with_pages done) h
        ∙ ap (λ ps. record { pages = ps; end = Fault page line cause }) (append-nil done)

-- the stream stops in its next page
pub page_stopped : (T : Type 0) {way : Way} {p : Printer} {k : Screening} (input out : Outside) {meters : Meters} {left : Option (List ℕ)} {old : PageReader}
    (new : PageReader) {number : ℕ} (pages : ℕ) {f1 : ℕ} {done : List Page} (why : StreamStop)
    → CanPrintBy way p → StreamSoFar way p k input.before left out.before out.now old number done → pages + 1 ≡ number
    → CountsPages p k meters done → OnInput {T = T} (Err why) (EndsSo (wanted_by p) old left)
    → OnInput {T = T} (Err why) (λ page line cause. page ≡ page_of old + 1)
    → input.faults_before ≤ f1 → (IsErrOf {T = T} (Err why) stop.Read → Rose f1 input.faults_now)
    → (IsErrOf {T = T} (Err why) stop.Read → TakesNoPage (wanted_by p) (page_of old) (text_of old left) input.now)
    → UsesSome (text_of old left) (text_of new input.now)
    → PrintedOutcome way p k input out meters pages (stream_answer why)
page_stopped T input out new pages {done = done} (stop.Input page line cause) can so_far next counts bad place later cause_is taken more = (
  (
    record {
      pages = done;
      told = stream_faults so_far page line cause bad;
      stand = omega (arith, place, so_far.many);
      job = job_so_far can so_far;
    },
    counts,
  ),
  omega (arith, next, so_far.next),
)
page_stopped T input out new pages {f1} {done} stop.Read can so_far next counts bad place later cause_is taken more = (
  (
    rose_from input.faults_before f1 input.faults_now later (cause_is refl),
    record { pages = done; taken = all_taken input.now so_far (taken refl); job = job_so_far can so_far },
    counts,
  ),
  omega (arith, next, so_far.next),
)
page_stopped T {p = p} input out {left = left} {old} new pages {done = done} stop.Memory can so_far next counts bad place later cause_is taken more = (
  (
    record {
      pages = done;
      taken = taken_pages p input.before (text_of old left) input.now new.unread so_far.bytes done _ _ so_far.used so_far.is more;
      job = job_so_far can so_far;
    },
    inl counts,
  ),
  omega (arith, next, so_far.next),
)

-- the stream ended
pub stream_done : {way : Way} {p : Printer} {k : Screening} (input out : Outside) {meters : Meters} {left : Option (List ℕ)} {old : PageReader}
    (new : PageReader) {number : ℕ} (pages : ℕ) {done : List Page}
    → CanPrintBy way p → StreamSoFar way p k input.before left out.before out.now old number done → pages + 1 ≡ number
    → CountsPages p k meters done
    → IsAtEnd (text_of old left) → IsAtEnd (text_of new input.now) → UsesSome (text_of old left) (text_of new input.now)
    → PrintedOutcome way p k input out meters pages answer.Done
stream_done input out {left = left} {old} new pages {done} can so_far next counts end end' more = (
  (
    record {
      pages = done;
      reads = record {
        bytes = so_far.bytes;
        taken = text_ended input.before (text_of old left) input.now new.unread so_far.bytes so_far.used end more end';
        end = left_end input.now new.unread end';
        is = bytes_end so_far;
      };
      told = stream_ends so_far end;
      job = job_so_far can so_far;
    },
    counts,
  ),
  omega (arith, next, so_far.next),
)

-- ---- the ends after a page was read

-- the input begins with the pages that were read of it
begins : (p : Printer) (before text : Option (List ℕ)) (bytes : List ℕ) (pages : List Page) (most number : ℕ) → Consumes before text bytes
    → ((rest : List ℕ) → stream (wanted_by p) (bytes ++ rest)
    ≡ with_pages pages (pages_from (wanted_by p) most number rest)) → BeginsStream p before pages
begins p None text bytes pages most number uses is = tt
begins p (Some xs) None bytes pages most number uses is = absurd uses
begins p (Some xs) (Some ys) bytes pages most number uses is = (
  (pages_from (wanted_by p) most number ys).pages,
  ap (λ bs. (stream (wanted_by p) bs).pages) uses
      ∙ ap (λ (s : Stream). s.pages) (is ys),
)

module _ {way : Way} {p : Printer} {k : Screening} (input out : Outside) {now : Option (List ℕ)} {reader : PageReader} {number : ℕ} (pages : ℕ)
    {done : List Page} {page : Page} (can : CanPrintBy way p) (read : StreamRead way p k input.before input.now out.before now reader number done page)
    (next : pages + 1 ≡ number) where
  taken_whole : TakesPages p input.before input.now (done ++ page ∷ [])
  taken_whole = taken_pages p input.before (text_of reader input.now) input.now reader.unread read.bytes (done ++ page ∷ [])
      _ _ read.used read.is (record { bytes = []; is = Consumes-nil (text_of reader input.now) })

  -- a part of its job was written
  pub page_not_written : {meters : Meters} {g1 : ℕ} → CountsPages p k meters (done ++ page ∷ []) → AppendsPart now out.now (page_bytes_by way page p k)
      → AppendsAtMost (most_rasters way p (window_of page.form p).height) now out.now → out.faults_before ≤ g1 → Rose g1 out.faults_now
      → PrintedOutcome way p k input out meters pages (answer.Write number)
  page_not_written {g1 = g1} counts part few later rose = (
    (
      rose_from out.faults_before g1 out.faults_now later rose,
      record {
        pages = done;
        page = page;
        taken = taken_whole;
        number_is = read.next;
        between = now;
        job = job_before can read;
        part = part;
        few = few;
        passes = ways-keep way p k (done ++ page ∷ []) can.can can.go (all_read can read);
      },
      counts,
    ),
    omega (arith, next, read.next),
  )

  -- nothing of its job was written
  pub page_without_room : {meters : Meters} → CountsPages p k meters (done ++ page ∷ []) → Keeps now out.now
      → PrintedOutcome way p k input out meters pages answer.Memory
  page_without_room counts kept =
      let before = job_before can read in (
        (
          record {
            pages = done;
            taken = record {
              bytes = taken_whole.bytes;
              taken = taken_whole.taken;
              others = page ∷ taken_whole.others;
              are = taken_whole.are ∙ append_assoc done (page ∷ []) taken_whole.others;
            };
            job = record {
              writes = appends_kept out.before now out.now (job_bytes way p k done) before.writes kept;
              prints = before.prints;
              passes = before.passes;
            };
          },
          inr (record { page = page; later = taken_whole.others; next = refl; pages_counted = counts }),
        ),
        omega (arith, next, read.next),
      )

-- it goes past a cap
pub page_over : {way : Way} {p : Printer} {k : Screening} (input out : Outside) {first last accounts : List Account} {reader : PageReader} {number : ℕ}
    (pages : ℕ) {done : List Page} {page : Page} {n : InkCounts} (a : Answer)
    → CanPrintBy way p → StreamRead way p k input.before input.now out.before out.now reader number done page → pages + 1 ≡ number
    → CountsPages p k (record { before = first; now = last }) done
    → n ≡ page_dots page p k → RefusesPage number n last a → accounts ≡ last
    → PrintedOutcome way p k input out (record { before = first; now = accounts }) pages a
page_over {way} {p} {k} input out {first} {last} {accounts} {reader} pages {done} {page} a can read next counts are refuses kept =
    let S : Answer → Type 0 = λ b. PrintedOutcome way p k input out (record { before = first; now = accounts }) pages b in
    let over : OverCap = record { index = refuses.index; total = refuses.total; cap = refuses.cap } in
    let F : InkCounts → Type 0 = λ m. IsFirstOver last m over in
    let M : List Account → Type 0 = λ accounts. IsFirstOver accounts (page_dots page p k) over in
    subst S (sym refuses.is) (
      (record {
        pages = done;
        page = page;
        taken = taken_whole input out pages can read next;
        told = begins p input.before (text_of reader input.now) read.bytes (done ++ page ∷ []) _ _ read.used read.is;
        number_is = read.next;
        job = job_before can read;
        pages_counted = record { admitted = counts.admitted; counts = kept ∙ counts.counts };
        index = refuses.index;
        first = subst M (sym kept) (subst F are refuses.first);
        dots_are = ap all_inks are;
      }),
      omega (arith, next, read.next),
    )

-- the bytes of a page are those of its halftone
pub page-bytes-is : (way : Way) {p : Printer} {k : Screening} {old new : PageReader} {before now : Option (List ℕ)}
    {form : PageForm} {t : DotTable} (halftoned : ReadsHalftone p k old new before now form t)
    → halftone_bytes_by way p (halftone halftoned.page p k) (form.height * row_units p) ≡ page_bytes_by way halftoned.page p k
unfolding page_bytes_by
page-bytes-is way {p} {k} halftoned =
    ap (λ (f : PageForm). halftone_bytes_by way p (halftone halftoned.page p k) (f.height * row_units p)) halftoned.form_is
