-- A page that is read was spelled, and so was a stream.
use Rattle.std.proofs.Common.{◌≡◌, ℕ, zero, suc, ◌+◌, ◌-◌, ◌≤◌, nat_eq, nat_lt, Bool, true, false, if◌then◌else◌, List, [], ◌∷◌, ◌++◌}
use Rattle.std.proofs.Common.{length, take, drop, replicate, Result, Ok, Err, refl, sym, ◌∙◌, ap, subst, arith, append_assoc}
use Rattle.std.specs.List.{starts_with}
use Rattle.std.proofs.lemmas.Bool.{ltb-false}
use Rattle.std.proofs.lemmas.Bool.Decides.{Decides-eqb}
use Rattle.std.proofs.lemmas.List.{length-take-le, take-append-drop}
use Rattle.std.proofs.lemmas.Slice.Eq.{starts_is}
use Rattle.pwg_definitions.specs.declared.pages.PageForm.{PageForm}
use Rattle.pwg_definitions.specs.declared.pages.Wanted.{Wanted}
use Rattle.pwg_definitions.specs.declared.faults.HeaderFault.{HeaderFault}
use Rattle.pwg_definitions.specs.declared.faults.InputCause.TheVariants as cause
use Rattle.pwg_definitions.specs.Limits.{header_length, most_pages}
use Rattle.pwg_definitions.specs.Header.{KindRow, check, header_of, line_units, row_of}
use Rattle.pwg_definitions.specs.Groups.{GroupRead, IsBytes, SpellsGroup, group_at}
use Rattle.pwg_definitions.specs.Groups.GroupRead.{Group, Part, Wrong}
use Rattle.pwg_definitions.specs.Spelling.{LineGroup, SpellsLines, SpellsPage, SpellsPages, SpellsStream, groups_bytes, groups_lines}
use Rattle.pwg_definitions.specs.Stream.{LinesRead, Page, PageRead, Stream, lines_at, lines_of, page_at, page_behind, page_of, pages_from}
use Rattle.pwg_definitions.specs.Stream.{stream, sync_word, with_lines, with_page}
use Rattle.pwg_definitions.specs.Stream.LinesRead.{Lines, Stop}
use Rattle.pwg_definitions.specs.Stream.PageRead.{Whole, Broken}
use Rattle.pwg_definitions.specs.Stream.StreamEnd.{Done, Fault}
use Rattle.pwg_laws.proofs.GroupLaws.{IsBytes-behind, group_at-read}

-- the bytes after a prefix are bytes
behind_bytes : (bytes front rest : List ℕ) → bytes ≡ front ++ rest → IsBytes bytes → IsBytes rest
behind_bytes bytes front rest split are = IsBytes-behind front rest (let P : List ℕ → Type 0 = IsBytes in subst P split are)

-- ---- lines

-- Lines that were read: the groups of their bytes.
record AreLinesRead (row : KindRow) (units left : ℕ) (bytes : List ℕ) (lines : List (List ℕ)) (rest : List ℕ) : Type 0 where
  groups : List LineGroup
  split : bytes ≡ groups_bytes groups ++ rest
  full : SpellsLines row units left groups
  gives : lines ≡ groups_lines groups

abbrev LinesFacts : KindRow → ℕ → ℕ → List ℕ → LinesRead → Type 0
LinesFacts row units left bytes (Lines lines rest) = AreLinesRead row units left bytes lines rest
LinesFacts row units left bytes (Stop line why) = Unit {0}

LinesFacts-more : (row : KindRow) (units left repeats : ℕ) (line bytes front rest : List ℕ) (r : LinesRead)
    → bytes ≡ front ++ rest → SpellsGroup row units left front repeats line
    → LinesFacts row units (left - repeats) rest r → LinesFacts row units left bytes (with_lines (replicate repeats line) r)
LinesFacts-more row units left repeats line bytes front rest (Stop at why) split spelled after = tt
LinesFacts-more row units left repeats line bytes front rest (Lines lines behind) split spelled after = record {
  groups = record { bytes = front; repeats = repeats; line = line } ∷ after.groups;
  split = split ∙ ap (λ bs. front ++ bs) after.split ∙ sym (append_assoc front (groups_bytes after.groups) behind);
  full = (spelled, after.full);
  gives = ap (λ more. replicate repeats line ++ more) after.gives;
}

lines_at-facts : (row : KindRow) (units height most left : ℕ) (bytes : List ℕ) → IsBytes bytes
    → LinesFacts row units left bytes (lines_at row units height most left bytes)
unfolding lines_at
lines_at-facts row units height most zero bytes are = record { groups = []; split = refl; full = refl; gives = refl }
lines_at-facts row units height zero (suc left) bytes are = tt
lines_at-facts row units height (suc most) (suc left) bytes are =
    by_group (λ next rest. lines_at-facts row units height most next rest) (group_at row units (suc left) bytes) refl
  where
    by_group : ((next : ℕ) (rest : List ℕ) → IsBytes rest → LinesFacts row units next rest (lines_at row units height most next rest))
        → (r : GroupRead) → group_at row units (suc left) bytes ≡ r
        → LinesFacts row units (suc left) bytes (elim r as (λ _. LinesRead) [
          | Group repeats line rest ↦ with_lines (replicate repeats line) (lines_at row units height most (suc left - repeats) rest)
          | Part ↦ Stop (height - suc left + 1) cause.Truncated
          | Wrong place fault ↦ Stop (height - suc left + 1) (cause.Line fault)
        ])
    by_group after (Group repeats line rest) is =
        let read : (front : List ℕ) × (bytes ≡ front ++ rest) × SpellsGroup row units (suc left) front repeats line =
        group_at-read row units (suc left) bytes repeats line rest are is in
        LinesFacts-more row units (suc left) repeats line bytes read.0 rest (lines_at row units height most (suc left - repeats) rest)
        read.1 read.2
        (after (suc left - repeats) rest (behind_bytes bytes read.0 rest read.1 are))
    by_group after Part is = tt
    by_group after (Wrong place fault) is = tt

-- ---- a page

-- a page that was read: the bytes before the rest spell it
abbrev IsPageRead : Wanted → List ℕ → Page → List ℕ → Type 0
IsPageRead want bytes page rest = (front : List ℕ) × (bytes ≡ front ++ rest) × SpellsPage want front page

abbrev PageFacts : Wanted → List ℕ → PageRead → Type 0
PageFacts want bytes (Whole page rest) = IsPageRead want bytes page rest
PageFacts want bytes (Broken line why) = Unit {0}

page_of-facts : (want : Wanted) (header behind : List ℕ) (form : PageForm) (r : LinesRead) → length header ≡ header_length
    → check want (header_of header) ≡ Ok form
    → LinesFacts (row_of form.kind) (line_units (row_of form.kind) form.width) form.height behind r
    → PageFacts want (header ++ behind) (page_of form r)
page_of-facts want header behind form (Stop line why) long accepted facts = tt
page_of-facts want header behind form (Lines lines rest) long accepted facts = (
  header ++ groups_bytes facts.groups,
  ap (λ bs. header ++ bs) facts.split ∙ sym (append_assoc header (groups_bytes facts.groups) rest),
  record {
    header = header;
    long = long;
    accepted = accepted;
    groups = facts.groups;
    spelling = refl;
    full = facts.full;
    gives = facts.gives;
  },
)

page_at-facts : (want : Wanted) (bytes : List ℕ) → IsBytes bytes → PageFacts want bytes (page_at want bytes)
page_at-facts want bytes are = by_length (nat_lt (length bytes) header_length) refl
  where
    header : List ℕ
    header = take header_length bytes

    behind : List ℕ
    behind = drop header_length bytes

    split : header ++ behind ≡ bytes
    split = take-append-drop header_length bytes

    by_check : length header ≡ header_length → (r : Result PageForm HeaderFault) → check want (header_of header) ≡ r
        → PageFacts want (header ++ behind) (page_behind r behind)
    by_check long (Err fault) is = tt
    by_check long (Ok form) is = page_of-facts want header behind form (lines_of form behind) long is
        (lines_at-facts (row_of form.kind) (line_units (row_of form.kind) form.width) form.height form.height form.height behind
        (behind_bytes bytes header behind (sym split) are))

    by_length : (b : Bool) → nat_lt (length bytes) header_length ≡ b
        → PageFacts want bytes (if b then Broken 0 cause.Truncated else page_behind (check want (header_of header)) behind)
    by_length true is = tt
    by_length false is =
        let r : PageRead = page_behind (check want (header_of header)) behind in
        let P : List ℕ → Type 0 = λ bs. PageFacts want bs r in
        subst P split (by_check (length-take-le header_length bytes (ltb-false _ _ is)) (check want (header_of header)) refl)

-- A page that is read was spelled by the bytes before the rest.
pub page_at-read : (want : Wanted) (bytes : List ℕ) (page : Page) (rest : List ℕ) → IsBytes bytes → page_at want bytes ≡ Whole page rest
    → IsPageRead want bytes page rest
page_at-read want bytes page rest are e = let P : PageRead → Type 0 = PageFacts want bytes in subst P e (page_at-facts want bytes are)

-- ---- a stream

-- the pages of a stream that ends without a fault
abbrev StreamFacts : Wanted → ℕ → List ℕ → Stream → Type 0
StreamFacts want most bytes s = s.end ≡ Done → SpellsPages want bytes s.pages × (length s.pages ≤ most)

pages_from-facts : (want : Wanted) (most at : ℕ) (bytes : List ℕ) → IsBytes bytes
    → StreamFacts want most bytes (pages_from want most at bytes)
unfolding pages_from
pages_from-facts want most at [] are = λ done. (refl, omega arith)
pages_from-facts want zero at (b ∷ bytes) are = λ done. absurd (let never : Fault at 0 cause.TooManyPages ≡ Done = done in cc)
pages_from-facts want (suc most) at (b ∷ bytes) are =
    by_page (λ rest. pages_from-facts want most (at + 1) rest) (page_at want (b ∷ bytes)) (page_at-facts want (b ∷ bytes) are)
  where
    by_page : ((rest : List ℕ) → IsBytes rest → StreamFacts want most rest (pages_from want most (at + 1) rest))
        → (r : PageRead) → PageFacts want (b ∷ bytes) r
        → StreamFacts want (suc most) (b ∷ bytes) (elim r as (λ _. Stream) [
          | Whole p rest ↦ with_page p (pages_from want most (at + 1) rest)
          | Broken line why ↦ record { pages = []; end = Fault at line why }
        ])
    by_page after (Broken line why) facts = λ done. absurd (let never : Fault at line why ≡ Done = done in cc)
    by_page after (Whole p rest) facts = λ done.
        let others : SpellsPages want rest (pages_from want most (at + 1) rest).pages
        × (length (pages_from want most (at + 1) rest).pages ≤ most) =
        after rest (behind_bytes (b ∷ bytes) facts.0 rest facts.1 are) done in
        ((facts.0, rest, facts.1, facts.2, others.0), omega (arith, others.1))

stream-facts : (want : Wanted) (bytes : List ℕ) → IsBytes bytes → (stream want bytes).end ≡ Done
    → SpellsStream want bytes (stream want bytes).pages
unfolding stream
stream-facts want bytes are = by_sync (starts_with nat_eq bytes sync_word) refl
  where
    by_sync : (b : Bool) → starts_with nat_eq bytes sync_word ≡ b
        → (if b then pages_from want most_pages 1 (drop 4 bytes) else record { pages = []; end = Fault 0 0 cause.BadSync }).end ≡ Done
        → SpellsStream want bytes
        (if b then pages_from want most_pages 1 (drop 4 bytes) else record { pages = []; end = Fault 0 0 cause.BadSync }).pages
    by_sync false is done = absurd (let never : Fault 0 0 cause.BadSync ≡ Done = done in cc)
    by_sync true is done =
        let split : bytes ≡ sync_word ++ drop 4 bytes = (starts_is Decides-eqb bytes sync_word true (sym is)).0 refl in
        let pages : SpellsPages want (drop 4 bytes) (pages_from want most_pages 1 (drop 4 bytes)).pages
        × (length (pages_from want most_pages 1 (drop 4 bytes)).pages ≤ most_pages) =
        pages_from-facts want most_pages 1 (drop 4 bytes) (behind_bytes bytes sync_word (drop 4 bytes) split are) done in
        record { behind = drop 4 bytes; spelling = split; most = pages.1; spelled = pages.0 }

-- A stream that is read to its end without a fault was spelled.
pub stream-read : (want : Wanted) (bytes : List ℕ) (pages : List Page) → IsBytes bytes
    → stream want bytes ≡ record { pages = pages; end = Done }
    → SpellsStream want bytes pages
stream-read want bytes pages are e =
    let P : List Page → Type 0 = SpellsStream want bytes in
    subst P (ap (λ (s : Stream). s.pages) e) (stream-facts want bytes are (ap (λ (s : Stream). s.end) e))
