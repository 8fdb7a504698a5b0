-- A made stream is spelled, and so it is read back; and where its header is refused, its first page is.
use Rattle.std.proofs.Common.{◌≡◌, ℕ, zero, suc, ◌+◌, ◌-◌, ◌<◌, ◌^◌, ◌≤◌, nat_lt, false, if◌then◌else◌, List, [], ◌∷◌, ◌++◌}
use Rattle.std.proofs.Common.{length, take, drop, map, Ok, Err, refl, ◌∙◌, ap, arith, append_assoc, length-append}
use Rattle.std.proofs.lemmas.Bool.{le-ltb}
use Rattle.std.proofs.lemmas.List.{take_at}
use Rattle.pwg_definitions.specs.declared.pages.PageForm.{PageForm}
use Rattle.pwg_definitions.specs.declared.pages.Wanted.{Wanted}
use Rattle.pwg_definitions.specs.declared.faults.HeaderFault.{HeaderFault}
use Rattle.pwg_definitions.specs.declared.faults.InputCause.TheVariants as cause
use Rattle.pwg_definitions.specs.Limits.{header_length, most_pages}
use Rattle.pwg_definitions.specs.Header.{IsWanted, KindRow, check, header_bytes, header_of, line_units, row_of}
use Rattle.pwg_definitions.specs.Spelling.{LineGroup, SpellsLines, SpellsPage, SpellsPages, SpellsStream, groups_bytes}
use Rattle.pwg_definitions.specs.Stream.{PageRead, Stream, page_at, page_behind, pages_from, stream, sync_word}
use Rattle.pwg_definitions.specs.Stream.PageRead.{Whole, Broken}
use Rattle.pwg_definitions.specs.Stream.StreamEnd.{Done, Fault}
use Rattle.pwg_laws.proofs.HeaderLaws.{check-header_bytes}
use Rattle.pwg_laws.proofs.KindRows.{IsKindRow, kind_row}
use Rattle.pwg_laws.proofs.PageSpelling.{stream-spelling}
use Rattle.pwg_lines.proofs.Spelling.{canonical-spells}
use Rattle.page_maker.specs.Made.{MadeGroups, MadeLine, groups_of_pages, last_groups, line_repeats, made_groups, made_line, made_page}
use Rattle.page_maker.specs.Made.{made_pages, made_stream, next_state, pages_bytes}
use Rattle.page_maker.proofs.Making.{IsRepeats, length-made_line, line_repeats-is}

-- ---- a made stream is spelled

made_groups-spells : (row : KindRow) (units most left state : ℕ) → 1 ≤ row.unit → left ≤ most
    → SpellsLines row units left (made_groups row.unit units most left state).groups
unfolding made_groups
made_groups-spells row units most zero state some enough = refl
made_groups-spells row units zero (suc left) state some enough = absurd (omega arith)
made_groups-spells row units (suc most) (suc left) state some enough =
    let repeats : ℕ = line_repeats (suc left) state in
    let is : IsRepeats (suc left) repeats = line_repeats-is (suc left) state (omega arith) in
    let line : MadeLine = made_line row.unit units units (next_state state) in (
      canonical-spells row units (suc left) repeats line.bytes some
          (length-made_line row.unit units units (next_state state) (omega arith)) is.some (omega (arith, is.few)) is.within,
      made_groups-spells row units most (suc left - repeats) line.state some (omega (arith, is.some)),
    )

-- every written header has the length of a header
pub length-header_bytes : (form : PageForm) (hdpi vdpi : ℕ) → length (header_bytes form hdpi vdpi) ≡ header_length
unfolding header_bytes
length-header_bytes form hdpi vdpi = refl

made_page-spells : (want : Wanted) (form : PageForm) (hdpi vdpi state : ℕ)
    → check want (header_of (header_bytes form hdpi vdpi)) ≡ Ok form
    → SpellsPage want (header_bytes form hdpi vdpi ++ groups_bytes (last_groups form form.height state).groups)
    (made_page form (last_groups form form.height state).groups)
made_page-spells want form hdpi vdpi state accepted =
    let row : KindRow = row_of form.kind in
    let is : IsKindRow form.kind row = kind_row form.kind in
    record {
      header = header_bytes form hdpi vdpi;
      long = length-header_bytes form hdpi vdpi;
      accepted = accepted;
      groups = (last_groups form form.height state).groups;
      spelling = refl;
      full = made_groups-spells row (line_units row form.width) form.height form.height state is.some (omega arith);
      gives = refl;
    }

made_pages-spell : (want : Wanted) (form : PageForm) (hdpi vdpi pages state : ℕ)
    → check want (header_of (header_bytes form hdpi vdpi)) ≡ Ok form
    → SpellsPages want (pages_bytes (header_bytes form hdpi vdpi) (groups_of_pages form pages state))
    (map (made_page form) (groups_of_pages form pages state))
unfolding groups_of_pages
made_pages-spell want form hdpi vdpi zero state accepted = refl
made_pages-spell want form hdpi vdpi (suc pages) state accepted =
    let page : MadeGroups = last_groups form form.height state in
    let header : List ℕ = header_bytes form hdpi vdpi in (
      header ++ groups_bytes page.groups,
      pages_bytes header (groups_of_pages form pages page.state),
      refl,
      made_page-spells want form hdpi vdpi state accepted,
      made_pages-spell want form hdpi vdpi pages page.state accepted,
    )

length-groups_of_pages : (form : PageForm) (pages state : ℕ) → length (groups_of_pages form pages state) ≡ pages
unfolding groups_of_pages
length-groups_of_pages form zero state = refl
length-groups_of_pages form (suc pages) state =
    ap (λ n. suc n) (length-groups_of_pages form pages (last_groups form form.height state).state)

length-pages : (form : PageForm) (groups : List (List LineGroup)) → length (map (made_page form) groups) ≡ length groups
length-pages form [] = refl
length-pages form (page ∷ groups) = ap (λ n. suc n) (length-pages form groups)

-- there are as many pages as are asked for
pub length-made_pages : (seed pages : ℕ) (form : PageForm) → length (made_pages seed pages form) ≡ pages
unfolding made_pages
length-made_pages seed pages form =
    length-pages form (groups_of_pages form pages seed) ∙ length-groups_of_pages form pages seed

made_stream-spells : (want : Wanted) (seed pages : ℕ) (form : PageForm) (hdpi vdpi : ℕ) → pages ≤ most_pages
    → check want (header_of (header_bytes form hdpi vdpi)) ≡ Ok form
    → SpellsStream want (made_stream seed pages form hdpi vdpi) (made_pages seed pages form)
unfolding made_stream made_pages
made_stream-spells want seed pages form hdpi vdpi few accepted = record {
  behind = pages_bytes (header_bytes form hdpi vdpi) (groups_of_pages form pages seed);
  spelling = refl;
  most = omega (arith, length-pages form (groups_of_pages form pages seed), length-groups_of_pages form pages seed);
  spelled = made_pages-spell want form hdpi vdpi pages seed accepted;
}

-- A made stream is read back.
pub stream-made : (want : Wanted) (seed pages : ℕ) (form : PageForm) → pages ≤ most_pages → IsWanted want form
    → form.width < 2 ^ 32 → form.height < 2 ^ 32 → form.bytes_per_line < 2 ^ 32 → want.hdpi < 2 ^ 32 → want.vdpi < 2 ^ 32
    → stream want (made_stream seed pages form want.hdpi want.vdpi) ≡ record { pages = made_pages seed pages form; end = Done }
stream-made want seed pages form few wanted width_fits height_fits bytes_fit hdpi_fits vdpi_fits =
    stream-spelling want (made_stream seed pages form want.hdpi want.vdpi) (made_pages seed pages form)
    (made_stream-spells want seed pages form want.hdpi want.vdpi few
    (check-header_bytes want form wanted width_fits height_fits bytes_fit hdpi_fits vdpi_fits))

-- ---- a made header is refused

-- a page whose header is refused
page_at-refused : (want : Wanted) (header behind : List ℕ) (why : HeaderFault) → length header ≡ header_length
    → check want (header_of header) ≡ Err why → page_at want (header ++ behind) ≡ Broken 0 (cause.Header why)
page_at-refused want header behind why long refused =
    let enough : nat_lt (length (header ++ behind)) header_length ≡ false = le-ltb _ _ (omega (arith, length-append header behind)) in
    ap (λ b. if b then Broken 0 cause.Truncated
    else page_behind (check want (header_of (take header_length (header ++ behind)))) (drop header_length (header ++ behind))) enough
    ∙ ap (λ bs. page_behind (check want (header_of bs)) (drop header_length (header ++ behind))) (take_at header behind header_length long)
    ∙ ap (λ r. page_behind r (drop header_length (header ++ behind))) refused

-- the pages from a page that is broken
pages_from-broken : (want : Wanted) (most at : ℕ) (bytes : List ℕ) (why : HeaderFault) → 1 ≤ length bytes
    → page_at want bytes ≡ Broken 0 (cause.Header why)
    → pages_from want (suc most) at bytes ≡ record { pages = []; end = Fault at 0 (cause.Header why) }
unfolding pages_from
pages_from-broken want most at [] why some e = absurd (omega arith)
pages_from-broken want most at (b ∷ bytes) why some e = ap (λ (r : PageRead). elim r as (λ _. Stream) [
  | Whole p rest ↦ record { pages = p ∷ (pages_from want most (at + 1) rest).pages; end = (pages_from want most (at + 1) rest).end }
  | Broken line cause ↦ record { pages = []; end = Fault at line cause }
]) e

-- the bytes of pages that begin with a page
pages_bytes-page : (form : PageForm) (header : List ℕ) (pages state : ℕ) → 1 ≤ pages
    → (behind : List ℕ) × (pages_bytes header (groups_of_pages form pages state) ≡ header ++ behind)
unfolding groups_of_pages
pages_bytes-page form header zero state some = absurd (omega arith)
pages_bytes-page form header (suc pages) state some =
    let page : MadeGroups = last_groups form form.height state in
    let others : List ℕ = pages_bytes header (groups_of_pages form pages page.state) in
    (groups_bytes page.groups ++ others, append_assoc header (groups_bytes page.groups) others)

stream-refused_header : (want : Wanted) (header behind : List ℕ) (why : HeaderFault) → length header ≡ header_length
    → check want (header_of header) ≡ Err why
    → stream want (sync_word ++ header ++ behind) ≡ record { pages = []; end = Fault 1 0 (cause.Header why) }
unfolding stream
stream-refused_header want header behind why long refused =
    pages_from-broken want 9998 1 (header ++ behind) why (omega (arith, length-append header behind))
    (page_at-refused want header behind why long refused)

-- A made stream whose header is refused has the header's fault at its first page.
pub stream-refused : (want : Wanted) (seed pages : ℕ) (form : PageForm) (hdpi vdpi : ℕ) (why : HeaderFault) → 1 ≤ pages
    → check want (header_of (header_bytes form hdpi vdpi)) ≡ Err why
    → stream want (made_stream seed pages form hdpi vdpi) ≡ record { pages = []; end = Fault 1 0 (cause.Header why) }
unfolding made_stream
stream-refused want seed pages form hdpi vdpi why some refused =
    let header : List ℕ = header_bytes form hdpi vdpi in
    let split : (behind : List ℕ) × (pages_bytes header (groups_of_pages form pages seed) ≡ header ++ behind) =
    pages_bytes-page form header pages seed some in
    ap (λ bytes. stream want (sync_word ++ bytes)) split.1
    ∙ stream-refused_header want header split.0 why (length-header_bytes form hdpi vdpi) refused
