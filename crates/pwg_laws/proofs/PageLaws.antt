-- The pages of a stream are of the form that their headers say.
use Rattle.std.proofs.Common.{◌≡◌, ℕ, zero, suc, ◌+◌, ◌-◌, ◌*◌, ◌≤◌, nat_eq, nat_lt, Bool, true, false, if◌then◌else◌, List, [], ◌∷◌, ◌++◌}
use Rattle.std.proofs.Common.{length, take, drop, replicate, Result, Ok, Err, refl, sym, ◌∙◌, ap, subst, arith, length-append}
use Rattle.std.specs.List.{AllByRecursion, starts_with}
use Rattle.std.proofs.lemmas.Bool.{ltb-false}
use Rattle.std.proofs.lemmas.List.{length-replicate}
use Rattle.pwg_definitions.specs.declared.pages.PageForm.{PageForm}
use Rattle.pwg_definitions.specs.declared.pages.Header.{Header}
use Rattle.pwg_definitions.specs.declared.pages.Wanted.{Wanted}
use Rattle.pwg_definitions.specs.declared.faults.HeaderFault.{HeaderFault}
use Rattle.pwg_definitions.specs.declared.faults.InputCause.TheVariants as cause
use Rattle.pwg_definitions.specs.declared.faults.LineFault.TheVariants.{RunPastLine, GroupPastPage}
use Rattle.pwg_definitions.specs.Limits.{header_length, most_pages}
use Rattle.pwg_definitions.specs.Header.{IsWanted, KindRow, check, header_of, line_units, row_of}
use Rattle.pwg_definitions.specs.Groups.{GroupFront, GroupRead, PacketRead, group_at, line_at, packet_at, packet_gives, packet_units}
use Rattle.pwg_definitions.specs.Groups.{with_packet}
use Rattle.pwg_definitions.specs.Groups.GroupRead.{Group, Part, Wrong}
use Rattle.pwg_definitions.specs.Groups.PacketRead.{One, Short, Long}
use Rattle.pwg_definitions.specs.Stream.{IsPage, LinesRead, PageRead, Stream, lines_at, lines_of, page_at, page_behind, page_of, pages_from}
use Rattle.pwg_definitions.specs.Stream.{stream, sync_word, with_lines, with_page}
use Rattle.pwg_definitions.specs.Stream.LinesRead.{Lines, Stop}
use Rattle.pwg_definitions.specs.Stream.PageRead.{Whole, Broken}
use Rattle.pwg_definitions.specs.Stream.StreamEnd.{Fault}
use Rattle.pwg_laws.proofs.Packets.{IsRead, packet_at-one}
use Rattle.pwg_laws.proofs.GroupLaws.{line_at-long, line_at-one, line_at-short}
use Rattle.pwg_laws.proofs.HeaderLaws.{check-wanted}
use Rattle.pwg_laws.proofs.KindRows.{kind_row}

-- ---- a line

-- A line that was read is as long as its units say.
record IsLong (row : KindRow) (left : ℕ) (front : GroupFront) (repeats : ℕ) (line : List ℕ) : Type 0 where
  same : repeats ≡ front.repeats
  long : length line ≡ length front.line + left * row.unit

units_split : (left units unit : ℕ) → units ≤ left → units * unit + (left - units) * unit ≡ left * unit
units_split left units unit fits = grind arith

line_at-long_enough : (row : KindRow) (most left : ℕ) (front : GroupFront) (bytes : List ℕ) (repeats : ℕ) (line rest : List ℕ)
    → length row.white ≡ row.unit → line_at row most left front bytes ≡ Group repeats line rest → IsLong row left front repeats line
unfolding line_at
line_at-long_enough row most zero front bytes repeats line rest white e =
    record { same = cc; long = (let is : line ≡ front.line = cc in ap length is ∙ omega arith) }
line_at-long_enough row zero (suc left) front bytes repeats line rest white e =
    absurd (let never : Part ≡ Group repeats line rest = e in cc)
line_at-long_enough row (suc most) (suc left) front bytes repeats line rest white e =
    by_packet (λ next now behind. line_at-long_enough row most next now behind repeats line rest white)
    (packet_at row (suc left) bytes) refl
  where
    by_packet : ((next : ℕ) (now : GroupFront) (behind : List ℕ) → line_at row most next now behind ≡ Group repeats line rest
        → IsLong row next now repeats line)
        → (r : PacketRead) → packet_at row (suc left) bytes ≡ r → IsLong row (suc left) front repeats line
    by_packet after (One p behind) is =
        let read : IsRead row (suc left) bytes p behind = packet_at-one row (suc left) bytes p behind is in
        let units : ℕ = packet_units (suc left) p in
        let long : IsLong row (suc left - units) (with_packet row (suc left) p front) repeats line =
        after (suc left - units) (with_packet row (suc left) p front) behind
        (sym (line_at-one row most left front bytes p behind is) ∙ e) in
        record {
          same = long.same;
          long = omega (
            arith,
            long.long,
            length-append front.line (packet_gives row (suc left) p),
            read.gives white,
            units_split (suc left) units row.unit read.within,
          );
        }
    by_packet after Short is =
        absurd (let never : Part ≡ Group repeats line rest = sym (line_at-short row most left front bytes is) ∙ e in cc)
    by_packet after Long is =
        absurd (let never : Wrong front.place RunPastLine ≡ Group repeats line rest =
        sym (line_at-long row most left front bytes is) ∙ e in cc)

-- A group that was read is repeated once or more, and no more often than the page has lines left.
pub record IsSizedGroup (row : KindRow) (units left repeats : ℕ) (line : List ℕ) : Type 0 where
  pub some : 1 ≤ repeats
  pub within : repeats ≤ left
  pub long : length line ≡ units * row.unit

pub group_at-sized : (row : KindRow) (units left : ℕ) (bytes : List ℕ) (repeats : ℕ) (line rest : List ℕ)
    → length row.white ≡ row.unit → group_at row units left bytes ≡ Group repeats line rest → IsSizedGroup row units left repeats line
group_at-sized row units left [] repeats line rest white e = absurd (let never : Part ≡ Group repeats line rest = e in cc)
group_at-sized row units left (c ∷ bytes) repeats line rest white e = by_fit (nat_lt left (c + 1)) refl e
  where
    from : GroupFront
    from = record { repeats = c + 1; line = []; place = 1 }

    by_fit : (b : Bool) → nat_lt left (c + 1) ≡ b
        → (if b then Wrong 0 GroupPastPage else line_at row units units from bytes) ≡ Group repeats line rest
        → IsSizedGroup row units left repeats line
    by_fit true is e = absurd (let never : Wrong 0 GroupPastPage ≡ Group repeats line rest = e in cc)
    by_fit false is e =
        let long : IsLong row units from repeats line = line_at-long_enough row units units from bytes repeats line rest white e in
        let count : repeats ≡ c + 1 = long.same in
        let fits : c + 1 ≤ left = ltb-false _ _ is in
        let whole : length line ≡ 0 + units * row.unit = long.long in
        record { some = omega arith; within = omega arith; long = omega arith }

-- ---- the lines of a page

abbrev pub AllLong : ℕ → List (List ℕ) → Type 0
AllLong size lines = AllByRecursion (λ (line : List ℕ). length line ≡ size) lines

AllLong-replicate : (size n : ℕ) (line : List ℕ) → length line ≡ size → AllLong size (replicate n line)
AllLong-replicate size zero line long = tt
AllLong-replicate size (suc n) line long = (long, AllLong-replicate size n line long)

AllLong-append : (size : ℕ) (front lines : List (List ℕ)) → AllLong size front → AllLong size lines → AllLong size (front ++ lines)
AllLong-append size [] lines all more = more
AllLong-append size (line ∷ front) lines all more = (all.0, AllLong-append size front lines all.1 more)

-- Lines that were read are as many and as long as the page's form says.
record AreSized (row : KindRow) (units left : ℕ) (lines : List (List ℕ)) : Type 0 where
  many : length lines ≡ left
  long : AllLong (units * row.unit) lines

abbrev SizedLines : KindRow → ℕ → ℕ → LinesRead → Type 0
SizedLines row units left (Lines lines rest) = AreSized row units left lines
SizedLines row units left (Stop line why) = Unit {0}

SizedLines-more : (row : KindRow) (units left repeats : ℕ) (line : List ℕ) (r : LinesRead) → IsSizedGroup row units left repeats line
    → SizedLines row units (left - repeats) r → SizedLines row units left (with_lines (replicate repeats line) r)
SizedLines-more row units left repeats line (Lines lines rest) group sized = record {
  many = omega (arith, length-append (replicate repeats line) lines, length-replicate repeats line, sized.many, group.within);
  long = AllLong-append (units * row.unit) (replicate repeats line) lines (AllLong-replicate (units * row.unit) repeats line group.long)
      sized.long;
}
SizedLines-more row units left repeats line (Stop at why) group sized = tt

lines_at-sized : (row : KindRow) (units height most left : ℕ) (bytes : List ℕ) → length row.white ≡ row.unit
    → SizedLines row units left (lines_at row units height most left bytes)
unfolding lines_at
lines_at-sized row units height most zero bytes white = record { many = refl; long = tt }
lines_at-sized row units height zero (suc left) bytes white = tt
lines_at-sized row units height (suc most) (suc left) bytes white =
    by_group (λ next rest. lines_at-sized row units height most next rest white) (group_at row units (suc left) bytes) refl
  where
    by_group : ((next : ℕ) (rest : List ℕ) → SizedLines row units next (lines_at row units height most next rest))
        → (r : GroupRead) → group_at row units (suc left) bytes ≡ r
        → SizedLines row units (suc left) (elim r as (λ _. LinesRead) [
          | Group repeats line rest ↦ with_lines (replicate repeats line) (lines_at row units height most (suc left - repeats) rest)
          | Part ↦ Stop (height - suc left + 1) cause.Truncated
          | Wrong place fault ↦ Stop (height - suc left + 1) (cause.Line fault)
        ])
    by_group after (Group repeats line rest) is =
        SizedLines-more row units (suc left) repeats line (lines_at row units height most (suc left - repeats) rest)
        (group_at-sized row units (suc left) bytes repeats line rest white is) (after (suc left - repeats) rest)
    by_group after Part is = tt
    by_group after (Wrong place fault) is = tt

-- ---- a page

abbrev PageFacts : Wanted → PageRead → Type 0
PageFacts want (Whole page rest) = IsPage want page
PageFacts want (Broken line why) = Unit {0}

page_of-facts : (want : Wanted) (h : Header) (form : PageForm) (r : LinesRead) → check want h ≡ Ok form
    → SizedLines (row_of form.kind) (line_units (row_of form.kind) form.width) form.height r → PageFacts want (page_of form r)
page_of-facts want h form (Stop line why) accepted sized = tt
page_of-facts want h form (Lines lines rest) accepted sized =
    let wanted : IsWanted want form = check-wanted want h form accepted in
    let bytes : line_units (row_of form.kind) form.width * (row_of form.kind).unit ≡ form.bytes_per_line =
    (kind_row form.kind).whole form.width ∙ sym wanted.bytes_per_line in
    record {
      header = h;
      accepted = accepted;
      wanted = wanted;
      height = sized.many;
      wide = (let P : ℕ → Type 0 = λ size. AllLong size lines in subst P bytes sized.long);
    }

page_at-facts : (want : Wanted) (bytes : List ℕ) → PageFacts want (page_at want bytes)
page_at-facts want bytes = by_length (nat_lt (length bytes) header_length)
  where
    by_check : (r : Result PageForm HeaderFault) → check want (header_of (take header_length bytes)) ≡ r
        → PageFacts want (page_behind r (drop header_length bytes))
    by_check (Err fault) is = tt
    by_check (Ok form) is = page_of-facts want (header_of (take header_length bytes)) form (lines_of form (drop header_length bytes)) is
        (lines_at-sized (row_of form.kind) (line_units (row_of form.kind) form.width) form.height form.height form.height
        (drop header_length bytes) (kind_row form.kind).white_sized)

    by_length : (b : Bool) → PageFacts want
        (if b then Broken 0 cause.Truncated else page_behind (check want (header_of (take header_length bytes))) (drop header_length bytes))
    by_length true = tt
    by_length false = by_check (check want (header_of (take header_length bytes))) refl

-- ---- the pages of a stream

pages_from-pages : (want : Wanted) (most page : ℕ) (bytes : List ℕ) → AllByRecursion (IsPage want) (pages_from want most page bytes).pages
unfolding pages_from
pages_from-pages want most page [] = tt
pages_from-pages want zero page (b ∷ bytes) = tt
pages_from-pages want (suc most) page (b ∷ bytes) =
    by_page (λ rest. pages_from-pages want most (page + 1) rest) (page_at want (b ∷ bytes)) (page_at-facts want (b ∷ bytes))
  where
    by_page : ((rest : List ℕ) → AllByRecursion (IsPage want) (pages_from want most (page + 1) rest).pages)
        → (r : PageRead) → PageFacts want r
        → AllByRecursion (IsPage want) (elim r as (λ _. Stream) [
          | Whole p rest ↦ with_page p (pages_from want most (page + 1) rest)
          | Broken line why ↦ record { pages = []; end = Fault page line why }
        ]).pages
    by_page after (Whole p rest) facts = (facts, after rest)
    by_page after (Broken line why) facts = tt

-- Each page of a stream is a wanted page with its lines.
pub stream-pages : (want : Wanted) (bytes : List ℕ) → AllByRecursion (IsPage want) (stream want bytes).pages
unfolding stream
stream-pages want bytes = by_sync (starts_with nat_eq bytes sync_word)
  where
    by_sync : (b : Bool) → AllByRecursion (IsPage want)
        (if b then pages_from want most_pages 1 (drop 4 bytes) else record { pages = []; end = Fault 0 0 cause.BadSync }).pages
    by_sync true = pages_from-pages want most_pages 1 (drop 4 bytes)
    by_sync false = tt
