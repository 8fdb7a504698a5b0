-- What was taken of a source where a read failed.
use Rattle.std.proofs.Common.{◌≡◌, ℕ, ◌+◌, ◌-◌, ◌<◌, ◌≤◌, Bool, true, false, if◌then◌else◌, List, [], ◌∷◌, length, take, drop}
use Rattle.std.proofs.Common.{Option, None, Some, Result, Err, refl, sym, ◌∙◌, ap, subst, arith, length-append, length-drop, inr}
use Rattle.std.specs.List.{starts_with}
use Rattle.std.specs.Prelude.{nat_eq}
use Rattle.std.specs.Io.KnownBytes.{Consumes, Keeps}
use Rattle.std.proofs.KnownBytes.{Consumes-kept, prepend_known-nil}
use Rattle.std.proofs.lemmas.Bool.{lt-ltb}
use Rattle.std.proofs.lemmas.Bool.Decides.{Decides-eqb}
use Rattle.std.proofs.lemmas.Slice.Eq.{starts_is}
use Rattle.pwg_definitions.specs.declared.faults.InputCause.TheVariants as cause
use Rattle.pwg_definitions.specs.declared.pages.Wanted.{Wanted}
use Rattle.pwg_definitions.specs.Limits.{header_length, most_pages}
use Rattle.pwg_definitions.specs.Header.{check, header_of}
use Rattle.pwg_definitions.specs.Stream.{Stream, page_behind, pages_from, stream, sync_word}
use Rattle.pwg_definitions.specs.Stream.PageRead.{Broken}
use Rattle.pwg_definitions.specs.Stream.StreamEnd.{Done, Fault}
use Rattle.pwg_lines.specs.declared.reader.LineReader.{LineReader}
use Rattle.pwg_lines.specs.Reading as lines
use Rattle.pwg_stream.specs.declared.reader.PageReader.{PageReader}
use Rattle.pwg_stream.specs.declared.groups.GroupStop.{GroupStop}
use Rattle.pwg_stream.specs.declared.groups.GroupStop.TheVariants as fault
use Rattle.pwg_stream.specs.declared.stops.StreamStop.TheVariants as stop
use Rattle.pwg_stream.specs.Groups.{TakesPart}
use Rattle.pwg_stream.specs.Reading.{form_in, group_of, lines_left_in, text_of}
use Rattle.pwg_stream.specs.Stops.{line_stop}
use Rattle.pwg_stream.specs.Taken.{StreamMayGoOn, TakesAllPages, TakesFewer, TakesNoGroup, TakesNoPage}
use Rattle.pwg_stream.proofs.Faults.{same_form}
use Rattle.pwg_stream.proofs.Grouping.{IsFed}
use Rattle.pwg_stream.proofs.Prefixes.{no_page}
use Rattle.buffered_bytes.specs.Text.{text_behind}

-- ---- texts

-- what is not used was taken of the source
kept_taken : (before left : Option (List ℕ)) (unread : List ℕ) → Keeps before (text_behind unread left) → Consumes before left unread
kept_taken None left unread kept = tt
kept_taken (Some xs) None unread kept = absurd kept
kept_taken (Some xs) (Some ys) unread kept = sym kept

-- where all bytes are used, the text is what the source has left
none_unread : (left : Option (List ℕ)) (unread : List ℕ) → unread ≡ [] → text_behind unread left ≡ left
none_unread left unread none = ap (λ bs. text_behind bs left) none ∙ prepend_known-nil left

-- what is not used is all that was taken
pub takes_fewer : (many : ℕ) (before left : Option (List ℕ)) (unread : List ℕ) → Keeps before (text_behind unread left)
    → length unread < many → TakesFewer many before left
takes_fewer many before left unread kept few = record { bytes = unread; taken = kept_taken before left unread kept; short = few }

-- the same of a reader that had no bytes yet
pub takes_fewer_from_left : (many : ℕ) (before left : Option (List ℕ)) (unread : List ℕ) → unread ≡ []
    → TakesFewer many (text_behind unread before) left → TakesFewer many before left
takes_fewer_from_left many before left unread none takes =
    let P : Option (List ℕ) → Type 0 = λ text. TakesFewer many text left in subst P (none_unread before unread none) takes

none_of : (bytes : List ℕ) → length bytes < 1 → bytes ≡ []
none_of [] few = refl
none_of (b ∷ bytes) few = absurd (omega arith)

-- ---- the sync word

few_are_no_stream : (want : Wanted) (bytes : List ℕ) → length bytes < 4
    → stream want bytes ≡ record { pages = []; end = Fault 0 0 cause.BadSync }
unfolding stream
few_are_no_stream want bytes few = by_start (starts_with nat_eq bytes sync_word) refl
  where
    by_start : (b : Bool) → starts_with nat_eq bytes sync_word ≡ b
        → (if b then pages_from want most_pages 1 (drop 4 bytes) else record { pages = []; end = Fault 0 0 cause.BadSync })
        ≡ record { pages = []; end = Fault 0 0 cause.BadSync }
    by_start false e = refl
    by_start true e =
        let split = (starts_is Decides-eqb bytes sync_word true (sym e)).0 refl in
        absurd (omega (arith, ap length split, length-append sync_word (drop 4 bytes)))

-- a part of the sync word was taken, or other bytes in its place
pub takes_no_sync : (before left : Option (List ℕ)) (unread : List ℕ) → Keeps before (text_behind unread left) → length unread < 4
    → (want : Wanted) → TakesAllPages want before left []
takes_no_sync before left unread kept few want =
    record {
      bytes = unread;
      taken = kept_taken before left unread kept;
      are = ap (λ (s : Stream). s.pages) (few_are_no_stream want unread few);
      end = inr few;
    }

-- the same of a reader that had no bytes yet
pub takes_from_left : (before left : Option (List ℕ)) (unread : List ℕ) → unread ≡ []
    → ((want : Wanted) → TakesAllPages want (text_behind unread before) left [])
    → (want : Wanted) → TakesAllPages want before left []
takes_from_left before left unread none takes want =
    let P : Option (List ℕ) → Type 0 = λ text. TakesAllPages want text left [] in
    subst P (none_unread before unread none) (takes want)

-- ---- headers

no_pages : (want : Wanted) (most page : ℕ) → pages_from want most page [] ≡ record { pages = []; end = Done }
unfolding pages_from
no_pages want most page = refl

-- no byte was taken after the last page
pub takes_none : (want : Wanted) (pages : ℕ) (before left : Option (List ℕ)) (unread : List ℕ)
    → Keeps before (text_behind unread left) → length unread < 1 → TakesNoPage want pages before left
takes_none want pages before left unread kept few =
    let is = no_pages want (most_pages - pages) (pages + 1) in
    let P : Stream → Type 0 = λ s. StreamMayGoOn s.end in
    let Q : List ℕ → Type 0 = Consumes before left in record {
      bytes = [];
      taken = subst Q (none_of unread few) (kept_taken before left unread kept);
      none = ap (λ (s : Stream). s.pages) is;
      end = subst P (sym is) tt;
    }

-- a part of a header was taken
pub takes_short_header : (want : Wanted) (pages : ℕ) (before left : Option (List ℕ)) (unread : List ℕ)
    → Keeps before (text_behind unread left) → pages < most_pages → length unread < header_length → TakesNoPage want pages before left
takes_short_header want pages before left [] kept few short = takes_none want pages before left [] kept (omega arith)
takes_short_header want pages before left (b ∷ bytes) kept few short =
    let text : List ℕ = b ∷ bytes in
    let is = no_page want pages text cause.Truncated few (omega arith)
    (ap (λ c. if c then Broken 0 cause.Truncated else page_behind (check want (header_of (take header_length text)))
    (drop header_length text)) (lt-ltb _ _ short)) in
    let P : Stream → Type 0 = λ s. StreamMayGoOn s.end in record {
      bytes = text;
      taken = kept_taken before left text kept;
      none = ap (λ (s : Stream). s.pages) is;
      end = subst P (sym is) refl;
    }

-- ---- groups

pub all_fed : (piece rest unread : List ℕ) (used : ℕ) → length piece ≤ used → rest ≡ drop used piece → unread ≡ rest → unread ≡ []
all_fed piece rest unread used all is same =
    same ∙ is ∙ none_of (drop used piece) (omega (arith, length-drop used piece))

-- all bytes that were taken are fed
pub takes_part : {old next : LineReader} {before text : Option (List ℕ)} (left : Option (List ℕ)) (unread : List ℕ)
    → IsFed old next before text → Keeps text (text_behind unread left) → unread ≡ [] → TakesPart old before left
takes_part {before} {text} left unread fed kept none =
    let P : Option (List ℕ) → Type 0 = λ now. Consumes before now fed.sofar in record {
      bytes = fed.sofar;
      taken = subst P (none_unread left unread none) (Consumes-kept before text (text_behind unread left) fed.sofar fed.used kept);
      part = fed.part;
    }

pub same_error : {T E : Type 0} {a b : E} → (let left : Result T E = Err a in left ≡ Err b) → a ≡ b
same_error is = cc

-- a stop of a page's lines that is a failed read is one of a group
pub is_read : (page line : ℕ) (why : GroupStop) → line_stop page line why ≡ stop.Read → why ≡ fault.Read
is_read page line fault.Read is = refl
is_read page line (fault.Input why) is = absurd (let never : stop.Input page line why ≡ stop.Read = is in cc)

-- a part of a group is one of the current page
pub takes_no_group : (reader : PageReader) (now : LineReader) (before left : Option (List ℕ)) → reader.lines ≡ Some now
    → TakesPart now (text_of reader before) left → TakesNoGroup reader before left
takes_no_group reader now before left is takes = record {
  bytes = takes.bytes;
  taken = takes.taken;
  part = λ form e.
      let same : lines.form_of now ≡ form = same_form now form (sym (ap form_in is) ∙ e) in
      ap (λ k. group_of form k takes.bytes) (ap lines_left_in is)
      ∙ ap (λ f. group_of f (lines.lines_left_of now) takes.bytes) (sym same) ∙ takes.part;
}
