-- A page that is spelled is read, and a page that is read was spelled; the same of a stream.
use Rattle.std.proofs.Common.{◌≡◌, ℕ, zero, suc, ◌+◌, ◌-◌, ◌≤◌, nat_lt, false, if◌then◌else◌, List, [], ◌∷◌, ◌++◌, length, take, drop}
use Rattle.std.proofs.Common.{replicate, Ok, refl, sym, ◌∙◌, ap, arith, length-append, append_assoc}
use Rattle.std.proofs.lemmas.Bool.{le-ltb}
use Rattle.std.proofs.lemmas.List.{drop_at, take_at}
use Rattle.pwg_definitions.specs.declared.pages.PageForm.{PageForm}
use Rattle.pwg_definitions.specs.declared.pages.Wanted.{Wanted}
use Rattle.pwg_definitions.specs.declared.faults.InputCause.TheVariants as cause
use Rattle.pwg_definitions.specs.Limits.{header_length, most_pages}
use Rattle.pwg_definitions.specs.Header.{KindRow, check, header_of, line_units, row_of}
use Rattle.pwg_definitions.specs.Groups.{GroupRead, group_at}
use Rattle.pwg_definitions.specs.Groups.GroupRead.{Group, Part, Wrong}
use Rattle.pwg_definitions.specs.Spelling.{LineGroup, SpellsLines, SpellsPage, SpellsPages, SpellsStream, groups_bytes, groups_lines}
use Rattle.pwg_definitions.specs.Stream.{Page, PageRead, Stream, lines_at, lines_of, page_at, page_behind, page_of, pages_from}
use Rattle.pwg_definitions.specs.Stream.{stream, with_lines, with_page}
use Rattle.pwg_definitions.specs.Stream.LinesRead.{Lines, Stop}
use Rattle.pwg_definitions.specs.Stream.PageRead.{Whole, Broken}
use Rattle.pwg_definitions.specs.Stream.StreamEnd.{Done, Fault}
use Rattle.pwg_laws.proofs.GroupLaws.{group_at-spelling}

-- ---- what is spelled is read

-- the lines of a page where its next group is read as this
pub lines_at-read : (row : KindRow) (units height most left : ℕ) (bytes : List ℕ) (read : GroupRead)
    → group_at row units (suc left) bytes ≡ read
    → lines_at row units height (suc most) (suc left) bytes ≡ elim read [
      | Group repeats line rest ↦ with_lines (replicate repeats line) (lines_at row units height most (suc left - repeats) rest)
      | Part ↦ Stop (height - suc left + 1) cause.Truncated
      | Wrong place fault ↦ Stop (height - suc left + 1) (cause.Line fault)
    ]
unfolding lines_at
lines_at-read row units height most left bytes read e = ap (λ (r : GroupRead). elim r [
  | Group repeats line rest ↦ with_lines (replicate repeats line) (lines_at row units height most (suc left - repeats) rest)
  | Part ↦ Stop (height - suc left + 1) cause.Truncated
  | Wrong place fault ↦ Stop (height - suc left + 1) (cause.Line fault)
]) e

lines_at-spelling : (row : KindRow) (units height : ℕ) (groups : List LineGroup) (most left : ℕ) (rest : List ℕ)
    → SpellsLines row units left groups → left ≤ most
    → lines_at row units height most left (groups_bytes groups ++ rest) ≡ Lines (groups_lines groups) rest
unfolding lines_at
lines_at-spelling row units height [] most zero rest full enough = refl
lines_at-spelling row units height [] most (suc left) rest full enough = absurd (omega arith)
lines_at-spelling row units height (g ∷ groups) most zero rest full enough = absurd (omega (arith, full.0.some, full.0.within))
lines_at-spelling row units height (g ∷ groups) zero (suc left) rest full enough = absurd (omega arith)
lines_at-spelling row units height (g ∷ groups) (suc most) (suc left) rest full enough =
    let behind : List ℕ = groups_bytes groups ++ rest in
    ap (lines_at row units height (suc most) (suc left)) (append_assoc g.bytes (groups_bytes groups) rest)
    ∙ lines_at-read row units height most left (g.bytes ++ behind) (Group g.repeats g.line behind)
    (group_at-spelling row units (suc left) g.bytes g.repeats g.line behind full.0)
    ∙ ap (with_lines (replicate g.repeats g.line))
    (lines_at-spelling row units height groups most (suc left - g.repeats) rest full.1 (omega (arith, full.0.some)))

-- a header and the bytes after it
page_at-header : (want : Wanted) (header behind : List ℕ) (form : PageForm) → length header ≡ header_length
    → check want (header_of header) ≡ Ok form → page_at want (header ++ behind) ≡ page_of form (lines_of form behind)
page_at-header want header behind form long accepted =
    let enough : nat_lt (length (header ++ behind)) header_length ≡ false = le-ltb _ _ (omega (arith, length-append header behind)) in
    ap (λ b. if b then Broken 0 cause.Truncated
    else page_behind (check want (header_of (take header_length (header ++ behind)))) (drop header_length (header ++ behind))) enough
    ∙ ap (λ bs. page_behind (check want (header_of bs)) (drop header_length (header ++ behind))) (take_at header behind header_length long)
    ∙ ap (λ bs. page_behind (check want (header_of header)) bs) (drop_at header behind header_length long)
    ∙ ap (λ r. page_behind r behind) accepted

-- A page that is spelled is read, whatever follows.
pub page_at-spelling : (want : Wanted) (bytes : List ℕ) (page : Page) (rest : List ℕ) → SpellsPage want bytes page
    → page_at want (bytes ++ rest) ≡ Whole page rest
page_at-spelling want bytes page rest spelled =
    let form : PageForm = page.form in
    let row : KindRow = row_of form.kind in
    let body : List ℕ = groups_bytes spelled.groups in
    ap (λ bs. page_at want (bs ++ rest)) spelled.spelling
    ∙ ap (page_at want) (append_assoc spelled.header body rest)
    ∙ page_at-header want spelled.header (body ++ rest) form spelled.long spelled.accepted
    ∙ ap (page_of form) (lines_at-spelling row (line_units row form.width) form.height spelled.groups form.height form.height rest
    spelled.full (omega arith))
    ∙ ap (λ lines. Whole (record { form = form; lines = lines }) rest) (sym spelled.gives)

-- a page, and then the pages after it
pages_from-page : (want : Wanted) (most at : ℕ) (bytes : List ℕ) (page : Page) (rest : List ℕ) → 1 ≤ length bytes
    → page_at want bytes ≡ Whole page rest → pages_from want (suc most) at bytes ≡ with_page page (pages_from want most (at + 1) rest)
unfolding pages_from
pages_from-page want most at [] page rest some e = absurd (omega arith)
pages_from-page want most at (b ∷ bytes) page rest some e = ap (λ (r : PageRead). elim r as (λ _. Stream) [
  | Whole p rest ↦ with_page p (pages_from want most (at + 1) rest)
  | Broken line why ↦ record { pages = []; end = Fault at line why }
]) e

-- a page has a header
SpellsPage-long : (want : Wanted) (front rest : List ℕ) (page : Page) → SpellsPage want front page → 1 ≤ length (front ++ rest)
SpellsPage-long want front rest page spelled =
    omega (
      arith,
      length-append front rest,
      ap length spelled.spelling,
      length-append spelled.header (groups_bytes spelled.groups),
      spelled.long,
    )

pages_from-spelling : (want : Wanted) (pages : List Page) (most at : ℕ) (bytes : List ℕ) → SpellsPages want bytes pages
    → length pages ≤ most
    → pages_from want most at bytes ≡ record { pages = pages; end = Done }
unfolding pages_from
pages_from-spelling want [] most at [] none few = refl
pages_from-spelling want [] most at (b ∷ bytes) none few = absurd (let never : b ∷ bytes ≡ [] = none in cc)
pages_from-spelling want (page ∷ pages) zero at bytes spelled few = absurd (omega arith)
pages_from-spelling want (page ∷ pages) (suc most) at bytes (front, rest, split, first, others) few =
    ap (pages_from want (suc most) at) split
    ∙ pages_from-page want most at (front ++ rest) page rest (SpellsPage-long want front rest page first)
    (page_at-spelling want front page rest first)
    ∙ ap (with_page page) (pages_from-spelling want pages most (at + 1) rest others (omega arith))

-- A stream that is spelled is read.
pub stream-spelling : (want : Wanted) (bytes : List ℕ) (pages : List Page) → SpellsStream want bytes pages
    → stream want bytes ≡ record { pages = pages; end = Done }
unfolding stream
stream-spelling want bytes pages spelled =
    ap (stream want) spelled.spelling ∙ pages_from-spelling want pages most_pages 1 spelled.behind spelled.spelled spelled.most
