-- A page that is read, group by group.
use Rattle.std.proofs.Common.{◌≡◌, ℕ, zero, suc, ◌+◌, ◌-◌, ◌<◌, ◌≤◌, nat_lt, false, if◌then◌else◌, List, [], ◌∷◌, ◌++◌}
use Rattle.std.proofs.Common.{length, take, drop, replicate, Option, None, Some, IfSome, Result, Ok, Err, refl, sym, ◌∙◌, ap}
use Rattle.std.proofs.Common.{arith, append_assoc, append-nil, length-append, subst}
use Rattle.std.specs.Io.KnownBytes.{Consumes}
use Rattle.std.proofs.KnownBytes.{Consumes-trans}
use Rattle.std.proofs.lemmas.Bool.{le-ltb}
use Rattle.std.proofs.lemmas.List.{drop_at, take_at}
use Rattle.pwg_definitions.specs.declared.faults.HeaderFault.{HeaderFault}
use Rattle.pwg_definitions.specs.declared.faults.InputCause.{InputCause}
use Rattle.pwg_definitions.specs.declared.faults.InputCause.TheVariants as cause
use Rattle.pwg_definitions.specs.declared.pages.PageForm.{PageForm}
use Rattle.pwg_definitions.specs.declared.pages.Wanted.{Wanted}
use Rattle.pwg_definitions.specs.Header.{check, header_of, line_units, row_of}
use Rattle.pwg_definitions.specs.Groups.{group_at}
use Rattle.pwg_definitions.specs.Groups.GroupRead.{Group, Part}
use Rattle.pwg_definitions.specs.Stream.{Page, PageRead, Stream, page_at, page_behind}
use Rattle.pwg_definitions.specs.Stream.{page_of as page_of_lines, pages_from, with_lines, with_page}
use Rattle.pwg_definitions.specs.Stream.StreamEnd.{Fault}
use Rattle.pwg_definitions.specs.Stream.LinesRead.{Stop}
use Rattle.pwg_definitions.specs.Stream.PageRead.{Whole, Broken}
use Rattle.pwg_stream.specs.declared.reader.PageReader.{PageReader}
use Rattle.pwg_stream.specs.Reading.{BeginsPage, GivesLines, HasLineFault, has_ended, line_of}
use Rattle.pwg_stream.specs.Reading.{lines_left_of, lines_of, page_of, stop_of, text_of}
use Rattle.pwg_stream.specs.Stops.{OnInput}
use Rattle.pwg_stream.specs.Taken.{StreamMayGoOn, TakesNoGroup, TakesNoPage}
use Rattle.buffered_bytes.specs.Text.{UsesSome}
use Rattle.pwg_stream.specs.declared.stops.StreamStop.{StreamStop}
use Rattle.pwg_stream.specs.declared.stops.StreamStop.TheVariants as stop
use Rattle.halftone_reader.specs.Reading.{ReadsPage}
use Rattle.halftone_reader.specs.SoFar.{EndsSo, PageSoFar, rest_of}
use Rattle.pwg_laws.proofs.PageSpelling.{lines_at-read}
use Rattle.halftone_reader.proofs.Lines.{lines_at-enough, lines_at-none, white-unit, with-both, with-none}

page_at-header : (want : Wanted) (header rest : List ℕ) (form : PageForm) → length header ≡ 1796 → check want (header_of header) ≡ Ok form
    → page_at want (header ++ rest) ≡ page_of_lines form (with_lines [] (rest_of form form.height form.height rest))
page_at-header want header rest form long accepted =
    let enough : nat_lt (length (header ++ rest)) 1796 ≡ false = le-ltb _ _ (omega (arith, length-append header rest)) in
    ap (λ b. if b then Broken 0 cause.Truncated else page_behind
    (check want (header_of (take 1796 (header ++ rest)))) (drop 1796 (header ++ rest))) enough
    ∙ ap (λ bs. page_behind (check want (header_of bs)) (drop 1796 (header ++ rest))) (take_at header rest 1796 long)
    ∙ ap (λ bs. page_behind (check want (header_of header)) bs) (drop_at header rest 1796 long)
    ∙ ap (λ (r : Result PageForm HeaderFault). page_behind r rest) accepted
    ∙ ap (page_of_lines form) (sym (with-none (rest_of form form.height form.height rest)))

pub page_begin : (want : Wanted) (old now : PageReader) (before left : Option (List ℕ)) (form : PageForm)
    → BeginsPage want old now before left form → has_ended old ≡ false → stop_of now ≡ None
    → PageSoFar want old now before left (record { form = form; lines = [] })
page_begin want old now before left form begins ended going = record {
  bytes = begins.header.header;
  used = begins.header.used;
  some = omega (arith, begins.header.long);
  most = form.height;
  enough = omega (arith, begins.lines);
  is = λ rest. page_at-header want begins.header.header rest form begins.header.long begins.header.accepted
      ∙ ap (λ k. page_of_lines form (with_lines [] (rest_of form form.height k rest))) (sym begins.lines);
  form_is = begins.form_is;
  number = begins.page;
  last = begins.last;
  unended = begins.unended ∙ sym ended;
  going = going;
}

-- one more group
pub page_step : (want : Wanted) (old now next : PageReader) (before left left' : Option (List ℕ))
    (page : Page) (repeats : ℕ) → PageSoFar want old now before left page → 0 < lines_left_of now
    → GivesLines now next left left' repeats → stop_of next ≡ None
    → PageSoFar want old next before left' (record page { lines = page.lines ++ replicate repeats (line_of next) })
page_step want old now next before left left' page repeats so_far some gives going = record {
  bytes = so_far.bytes ++ gives.bytes;
  used = Consumes-trans (text_of old before) (text_of now left) (text_of next left') so_far.bytes gives.bytes so_far.used gives.used;
  some = omega (arith, length-append so_far.bytes gives.bytes, so_far.some);
  most = so_far.most - 1;
  enough = omega (arith, so_far.enough, gives.some, gives.fall);
  is = λ rest.
      ap (page_at want) (append_assoc so_far.bytes gives.bytes rest)
      ∙ so_far.is (gives.bytes ++ rest)
      ∙ ap (λ r. page_of_lines page.form (with_lines page.lines r)) (by_sizes so_far.most (lines_left_of now) refl refl rest)
      ∙ ap (page_of_lines page.form) (with-both page.lines
      (replicate repeats (line_of next)) (rest_of page.form (so_far.most - 1) (lines_left_of next) rest));
  form_is = gives.form_is ∙ so_far.form_is;
  number = gives.page ∙ so_far.number;
  last = omega (arith, gives.page, so_far.last);
  unended = gives.unended ∙ so_far.unended;
  going = going;
}
  where
    by_sizes : (m l : ℕ) → so_far.most ≡ m → lines_left_of now ≡ l → (rest : List ℕ)
        → rest_of page.form m l (gives.bytes ++ rest) ≡ with_lines
        (replicate repeats (line_of next)) (rest_of page.form (so_far.most - 1) (lines_left_of next) rest)
    by_sizes m zero em el rest = absurd (omega arith)
    by_sizes zero (suc l) em el rest = absurd (omega (arith, so_far.enough))
    by_sizes (suc m) (suc l) em el rest =
        let row = row_of page.form.kind in
        let fuel : m ≡ so_far.most - 1 = omega arith in
        let fewer : suc l - repeats ≡ lines_left_of next = omega (arith, gives.fall) in
        lines_at-read row (line_units row page.form.width) page.form.height m l (gives.bytes ++ rest) (Group repeats (line_of next) rest)
        (ap (λ k. group_at row (line_units row page.form.width) k (gives.bytes ++ rest)) (sym el)
        ∙ gives.group page.form so_far.form_is rest)
        ∙ ap (λ k. with_lines (replicate repeats (line_of next)) (rest_of page.form k (suc l - repeats) rest)) fuel
        ∙ ap (λ k. with_lines (replicate repeats (line_of next)) (rest_of page.form (so_far.most - 1) k rest)) fewer

-- the last line was read
pub page_end : (want : Wanted) (old now : PageReader) (before left : Option (List ℕ)) (page : Page)
    → PageSoFar want old now before left page → lines_left_of now ≤ 0
    → ReadsPage want old now before left page
page_end want old now before left page so_far none = record {
  bytes = so_far.bytes;
  used = so_far.used;
  is = λ rest.
      let row = row_of page.form.kind in
      let empty : lines_left_of now ≡ 0 = omega arith in
      so_far.is rest
      ∙ ap (λ k. page_of_lines page.form (with_lines page.lines (rest_of page.form so_far.most k rest))) empty
      ∙ ap (λ r. page_of_lines page.form (with_lines page.lines r))
      (lines_at-none row (line_units row page.form.width) page.form.height so_far.most rest)
      ∙ ap (λ ls. Whole (record { form = page.form; lines = ls }) rest) (append-nil page.lines);
  number = so_far.number;
  last = so_far.last;
  unended = so_far.unended;
}

-- ---- the next page of a stream

pub pages-read : (want : Wanted) (most page : ℕ) (bytes : List ℕ) (read : PageRead) → 1 ≤ length bytes → page_at want bytes ≡ read
    → pages_from want (suc most) page bytes ≡ elim read [
      | Whole p rest ↦ with_page p (pages_from want most (page + 1) rest)
      | Broken line why ↦ record { pages = []; end = Fault page line why }
    ]
unfolding pages_from
pages-read want most page [] read some e = absurd (omega arith)
pages-read want most page (b ∷ bytes) read some e = ap (λ (r : PageRead). elim r [
  | Whole p rest ↦ with_page p (pages_from want most (page + 1) rest)
  | Broken line why ↦ record { pages = []; end = Fault page line why }
]) e

-- a line of the page has a fault
page_fault : (want : Wanted) (old now : PageReader) (before left : Option (List ℕ))
    (page : Page) (number line : ℕ) (why : InputCause) → PageSoFar want old now before left page
    → HasLineFault now left number line why → EndsSo want old before number line why
page_fault want old now before left page number line why so_far bad =
    told (text_of old before) (text_of now left) so_far.used (bad.fault page.form so_far.form_is)
  where
    told : (a b : Option (List ℕ))
        → Consumes a b so_far.bytes → IfSome b (λ text. lines_of page.form (lines_left_of now) text ≡ Stop line why)
        → IfSome a (λ text. pages_from want (9999 - page_of old) (page_of old + 1) text
        ≡ record { pages = []; end = Fault number line why })
    told None b uses h = tt
    told (Some xs) None uses h = absurd uses
    told (Some xs) (Some ys) uses h =
        let row = row_of page.form.kind in
        let units = line_units row page.form.width in
        let fuel : 9999 - page_of old ≡ suc (9998 - page_of old) = omega (arith, so_far.number, so_far.last) in
        let at : page_of old + 1 ≡ number = omega (arith, so_far.number, bad.page_is) in
        let stops : page_at want (so_far.bytes ++ ys) ≡ Broken line why =
        so_far.is ys
        ∙ ap (λ r. page_of_lines page.form (with_lines page.lines r))
        (lines_at-enough row units page.form.height so_far.most
        (lines_left_of now) (lines_left_of now) ys (white-unit page.form.kind) so_far.enough (omega arith) ∙ h) in
        ap (pages_from want (9999 - page_of old) (page_of old + 1)) uses
        ∙ ap (λ k. pages_from want k (page_of old + 1) (so_far.bytes ++ ys)) fuel
        ∙ pages-read want (9998 - page_of old) (page_of old + 1)
        (so_far.bytes ++ ys) (Broken line why) (omega (arith, so_far.some, length-append so_far.bytes ys)) stops
        ∙ ap (λ k. record { pages = []; end = Fault k line why }) at

-- a read failed inside of the page: what was taken of it is cut
pub page_cut : (want : Wanted) (old now : PageReader) (before left left' : Option (List ℕ)) (page : Page)
    → PageSoFar want old now before left page → 0 < lines_left_of now → TakesNoGroup now left left'
    → TakesNoPage want (page_of old) (text_of old before) left'
page_cut want old now before left left' page so_far some takes =
    let line : ℕ = page.form.height - lines_left_of now + 1 in
    let bytes : List ℕ = so_far.bytes ++ takes.bytes in
    let fuel : 9999 - page_of old ≡ suc (9998 - page_of old) = omega (arith, so_far.number, so_far.last) in
    let cut : page_at want bytes ≡ Broken line cause.Truncated =
    so_far.is takes.bytes
    ∙ ap (λ r. page_of_lines page.form (with_lines page.lines r)) (by_sizes so_far.most (lines_left_of now) refl refl) in
    let is = ap (λ k. pages_from want k (page_of old + 1) bytes) fuel
    ∙ pages-read want (9998 - page_of old) (page_of old + 1) bytes (Broken line cause.Truncated)
    (omega (arith, so_far.some, length-append so_far.bytes takes.bytes)) cut in
    let P : Stream → Type 0 = λ s. StreamMayGoOn s.end in record {
      bytes = bytes;
      taken = Consumes-trans (text_of old before) (text_of now left) left' so_far.bytes takes.bytes so_far.used takes.taken;
      none = ap (λ (s : Stream). s.pages) is;
      end = subst P (sym is) refl;
    }
  where
    by_sizes : (m l : ℕ) → so_far.most ≡ m → lines_left_of now ≡ l
        → rest_of page.form so_far.most (lines_left_of now) takes.bytes
        ≡ Stop (page.form.height - lines_left_of now + 1) cause.Truncated
    by_sizes m zero em el = absurd (omega arith)
    by_sizes zero (suc l) em el = absurd (omega (arith, so_far.enough))
    by_sizes (suc m) (suc l) em el =
        let row = row_of page.form.kind in
        ap (λ k. rest_of page.form k (lines_left_of now) takes.bytes) em
        ∙ ap (λ k. rest_of page.form (suc m) k takes.bytes) el
        ∙ lines_at-read row (line_units row page.form.width) page.form.height m l takes.bytes Part
        (ap (λ k. group_at row (line_units row page.form.width) k takes.bytes) (sym el) ∙ takes.part page.form so_far.form_is)
        ∙ ap (λ k. Stop (page.form.height - k + 1) cause.Truncated) (sym el)

pub fault_in_page : (T U : Type 0) (want : Wanted) (old now : PageReader)
    (before left : Option (List ℕ)) (page : Page) (stop : StreamStop) → PageSoFar want old now before left page
    → OnInput {T = U} (Err stop) (HasLineFault now left) → OnInput {T = T} (Err stop) (EndsSo want old before)
fault_in_page T U want old now before left page (stop.Input number line why) so_far bad =
    page_fault want old now before left page number line why so_far bad
fault_in_page T U want old now before left page stop.Read so_far bad = tt
fault_in_page T U want old now before left page stop.Memory so_far bad = tt

-- it is a fault of the page after those that were begun before
pub place_in_page : (T U : Type 0) (want : Wanted) (old now : PageReader)
    (before left : Option (List ℕ)) (page : Page) (stop : StreamStop) → PageSoFar want old now before left page
    → OnInput {T = U} (Err stop) (HasLineFault now left)
    → OnInput {T = T} (Err stop) (λ number line why. number ≡ page_of old + 1)
place_in_page T U want old now before left page (stop.Input number line why) so_far bad = bad.page_is ∙ so_far.number
place_in_page T U want old now before left page stop.Read so_far bad = tt
place_in_page T U want old now before left page stop.Memory so_far bad = tt

-- the same stop in place of another value
pub same_input : (T U : Type 0) (stop : StreamStop) (P : ℕ → ℕ → InputCause → Type 0) → OnInput {T = U} (Err stop) P → OnInput {T = T} (Err stop) P
same_input T U (stop.Input number line why) P is = is
same_input T U stop.Read P is = tt
same_input T U stop.Memory P is = tt

-- what was used
pub uses_more : (a b c : Option (List ℕ)) (bytes : List ℕ) → Consumes a b bytes → UsesSome b c → UsesSome a c
uses_more a b c bytes first more = record { bytes = bytes ++ more.bytes; is = Consumes-trans a b c bytes more.bytes first more.is }
