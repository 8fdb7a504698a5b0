-- A stream that is read page by page, and printed.
use Rattle.std.proofs.Common.{◌≡◌, ℕ, suc, ◌+◌, ◌-◌, ◌≤◌, false, List, [], ◌∷◌, ◌++◌, length, Option, refl, sym, ◌∙◌, ap}
use Rattle.std.proofs.Common.{subst, arith, append_assoc, append-nil, length-append, All, map}
use Rattle.std.specs.Io.KnownBytes.{Appends, Consumes}
use Rattle.std.proofs.KnownBytes.{Appends-nil, Appends-trans, Consumes-trans}
use Rattle.page_definitions.specs.Dots.{Screening}
use Rattle.dot_planes.specs.Tables.{DotTable, dot}
use Rattle.page_definitions.specs.Dots.{Halftone, HasDots}
use Rattle.page_definitions.specs.Ways.{page_bytes_by}
use Rattle.page_definitions.specs.declared.way.Way.{Way}
use Rattle.printer_definitions.specs.Printer.{Printer}
use Rattle.printer_definitions.specs.declared.inks.InkCounts.{InkCounts}
use Rattle.separation_definitions.specs.Windows.{wanted_by}
use Rattle.pwg_definitions.specs.declared.faults.InputCause.TheVariants as cause
use Rattle.pwg_definitions.specs.declared.pages.PageForm.{PageForm}
use Rattle.pwg_definitions.specs.declared.pages.Wanted.{Wanted}
use Rattle.pwg_definitions.specs.Stream.{Page, Stream, page_at, pages_from, stream, sync_word, with_page}
use Rattle.pwg_definitions.specs.Stream.PageRead.{Whole, Broken}
use Rattle.pwg_stream.specs.declared.reader.PageReader.{PageReader}
use Rattle.pwg_stream.specs.Reading.{has_ended, page_of, text_of}
use Rattle.ink_meter.specs.Accounts.{Account, HasRoom, added}
use Rattle.ink_meter.specs.Counts.{halftone_dots}
use Rattle.driver_core.specs.Outside.{Meters}
use Rattle.driver_core.specs.Printing.Pages.{job_bytes}
use Rattle.driver_core.specs.Printing.Outcome.{CountsPages}
use Rattle.driver_core.proofs.Printing.Counting.{dots_counted, one_counted}
use Rattle.halftone_reader.specs.Reading.{IsBetween, ReadsHalftone, ReadsPage}
use Rattle.halftone_reader.proofs.PageSteps.{pages-read}

-- the stream with these pages before it
abbrev pub with_pages : List Page → Stream → Stream
with_pages pages s = record { pages = pages ++ s.pages; end = s.end }

with_pages-append : (done : List Page) (page : Page) (s : Stream) → with_pages done (with_page page s) ≡ with_pages (done ++ page ∷ []) s
with_pages-append done page s = ap (λ ps. record { pages = ps; end = s.end }) (sym (append_assoc done (page ∷ []) s.pages))

-- These pages of the input were read and their jobs written; the rest of the text is the rest of the stream.
pub record StreamSoFar (way : Way) (p : Printer) (k : Screening) (before left held now : Option (List ℕ)) (reader : PageReader)
    (number : ℕ) (done : List Page) : Type 0 where
  pub bytes : List ℕ
  pub used : Consumes before (text_of reader left) bytes
  pub is : (rest : List ℕ) → stream (wanted_by p) (bytes ++ rest)
      ≡ with_pages done (pages_from (wanted_by p) (9999 - length done) (length done + 1) rest)
  pub written : Appends held now (job_bytes way p k done)
  pub many : page_of reader ≡ length done
  pub next : number ≡ length done + 1
  pub between : IsBetween reader
  pub unended : has_ended reader ≡ false

stream-synced : (want : Wanted) (rest : List ℕ) → stream want (sync_word ++ rest) ≡ pages_from want 9999 1 rest
unfolding stream
stream-synced want rest = refl

pub stream_begin : {way : Way} {p : Printer} {k : Screening} {before left held : Option (List ℕ)} (reader : PageReader)
    → Consumes before (text_of reader left) sync_word → page_of reader ≡ 0 → IsBetween reader → has_ended reader ≡ false
    → StreamSoFar way p k before left held held reader 1 []
stream_begin {p = p} {held = held} reader sync none between unended = record {
  bytes = sync_word;
  used = sync;
  is = stream-synced (wanted_by p);
  written = Appends-nil held;
  many = none;
  next = refl;
  between = between;
  unended = unended;
}

-- a page that is read has bytes
page-some : (want : Wanted) (bytes : List ℕ) (page : Page)
    → ((rest : List ℕ) → page_at want (bytes ++ rest) ≡ Whole page rest) → 1 ≤ length bytes
page-some want [] page is = absurd (let never : Broken 0 cause.Truncated ≡ Whole page [] = is [] in cc)
page-some want (b ∷ bytes) page is = omega arith

pub job-append : (way : Way) (p : Printer) (k : Screening) (done : List Page) (page : Page)
    → job_bytes way p k (done ++ page ∷ []) ≡ job_bytes way p k done ++ page_bytes_by way page p k
job-append way p k [] page = append-nil (page_bytes_by way page p k)
job-append way p k (first ∷ done) page =
    ap (λ bs. page_bytes_by way first p k ++ bs) (job-append way p k done page)
    ∙ sym (append_assoc (page_bytes_by way first p k) (job_bytes way p k done) (page_bytes_by way page p k))

-- one more page was read
pub record StreamRead (way : Way) (p : Printer) (k : Screening) (before left held now : Option (List ℕ)) (reader : PageReader)
    (number : ℕ) (done : List Page) (page : Page) : Type 0 where
  pub bytes : List ℕ
  pub used : Consumes before (text_of reader left) bytes
  pub is : (rest : List ℕ) → stream (wanted_by p) (bytes ++ rest)
      ≡ with_pages (done ++ page ∷ []) (pages_from (wanted_by p) (9998 - length done) (length done + 2) rest)
  pub written : Appends held now (job_bytes way p k done)
  pub many : page_of reader ≡ length done + 1
  pub next : number ≡ length done + 1
  pub between : IsBetween reader
  pub unended : has_ended reader ≡ false

pub next_read : {way : Way} {p : Printer} {k : Screening} {before left left' held now : Option (List ℕ)} {old new : PageReader} {number : ℕ}
    {done : List Page} {page : Page} → StreamSoFar way p k before left held now old number done
    → ReadsPage (wanted_by p) old new left left' page → IsBetween new → StreamRead way p k before left' held now new number done page
next_read {p = p} {before = before} {left} {left'} {old = old} {new} {done = done} {page} so_far reads between = record {
  bytes = so_far.bytes ++ reads.bytes;
  used = Consumes-trans before (text_of old left) (text_of new left') so_far.bytes reads.bytes so_far.used reads.used;
  is = λ rest.
      let want = wanted_by p in
      let n = length done in
      let fuel : 9999 - n ≡ suc (9998 - n) = omega (arith, reads.number, reads.last, so_far.many) in
      let next : n + 1 + 1 ≡ n + 2 = omega arith in
      ap (stream want) (append_assoc so_far.bytes reads.bytes rest)
      ∙ so_far.is (reads.bytes ++ rest)
      ∙ ap (λ m. with_pages done (pages_from want m (n + 1) (reads.bytes ++ rest))) fuel
      ∙ ap (with_pages done) (pages-read want (9998 - n) (n + 1) (reads.bytes ++ rest) (Whole page rest)
      (omega (arith, page-some want reads.bytes page reads.is, length-append reads.bytes rest)) (reads.is rest))
      ∙ with_pages-append done page (pages_from want (9998 - n) (n + 1 + 1) rest)
      ∙ ap (λ m. with_pages (done ++ page ∷ []) (pages_from want (9998 - n) m rest)) next;
  written = so_far.written;
  many = omega (arith, reads.number, so_far.many);
  next = so_far.next;
  between = between;
  unended = reads.unended ∙ so_far.unended;
}

-- and its job written
pub stream_written : {way : Way} {p : Printer} {k : Screening} {before left held now : Option (List ℕ)} (now' : Option (List ℕ))
    {reader : PageReader} {number : ℕ} {done : List Page} {page : Page} → StreamRead way p k before left held now reader number done page
    → Appends now now' (page_bytes_by way page p k) → StreamSoFar way p k before left held now' reader (number + 1) (done ++ page ∷ [])
stream_written {way} {p} {k} {held = held} {now} now' {done = done} {page} read wrote =
    let long : length (done ++ page ∷ []) ≡ length done + 1 = length-append done (page ∷ []) in
    let P : List ℕ → Type 0 = λ bs. Appends held now' bs in
    record {
      bytes = read.bytes;
      used = read.used;
      is = λ rest.
          let fuel : 9998 - length done ≡ 9999 - length (done ++ page ∷ []) = omega (arith, long) in
          let next : length done + 2 ≡ length (done ++ page ∷ []) + 1 = omega (arith, long) in
          read.is rest
          ∙ ap (λ m. with_pages (done ++ page ∷ []) (pages_from (wanted_by p) m (length done + 2) rest)) fuel
          ∙ ap (λ m. with_pages (done ++ page ∷ []) (pages_from (wanted_by p) (9999 - length (done ++ page ∷ [])) m rest)) next;
      written = subst P (sym (job-append way p k done page))
          (Appends-trans held now now' (job_bytes way p k done) (page_bytes_by way page p k) read.written wrote);
      many = omega (arith, read.many, long);
      next = omega (arith, read.next, long);
      between = read.between;
      unended = read.unended;
    }

-- a stream that begins with this page
pub pages-first : (want : Wanted) (bytes : List ℕ) (page : Page) → ((rest : List ℕ) → page_at want (bytes ++ rest) ≡ Whole page rest)
    → stream want (sync_word ++ (bytes ++ [])) ≡ with_page page (pages_from want 9998 2 [])
pages-first want bytes page is =
    stream-synced want (bytes ++ [])
    ∙ pages-read want 9998 1 (bytes ++ []) (Whole page []) (omega (arith, page-some want bytes page is, length-append bytes [])) (is [])

-- ---- the same, on meters

abbrev pub MeteredSoFar : (way : Way) (p : Printer)
    (k : Screening) (before left held now : Option (List ℕ)) (meters : Meters) (reader : PageReader) (number : ℕ) → Type 0
MeteredSoFar way p k before left held now meters reader number =
    (done : List Page) × StreamSoFar way p k before left held now reader number done × CountsPages p k meters done

-- a page was read, and the dots that are counted of its planes have room
pub page_counted : {way : Way} {p q : Printer} {k : Screening} {before left left' held now : Option (List ℕ)} {first last next : List Account}
    {old new : PageReader} {number : ℕ} {form : PageForm} {t : DotTable} (n : InkCounts)
    → (so_far : MeteredSoFar way p k before left held now (record { before = first; now = last }) old number)
    → (halftoned : ReadsHalftone p k old new left left' form t) → IsBetween new → q ≡ p
    → ((p : Printer) (h : Halftone) → p.inks ≡ q.inks → HasDots p h t.width t.rows t.inks (dot t) → n ≡ halftone_dots p h)
    → All (HasRoom n) last → next ≡ map (added n) last
    → StreamRead way p k before left' held now new number so_far.0 halftoned.page
    × CountsPages p k (record { before = first; now = next }) (so_far.0 ++ halftoned.page ∷ [])
page_counted {p = p} {k = k} {t = t} n so_far halftoned between same counts room is =
    let are = dots_counted k t halftoned.page n same halftoned.dots counts in
    (next_read so_far.1 halftoned.reads between, one_counted p k _ _ _ _ halftoned.page n are so_far.2 room is)
