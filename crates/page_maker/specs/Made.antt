-- Made streams: pages of drawn lines (PWG 5102.4), the same for the same seed. A unit is a pixel, or a byte with eight
-- pixels of one bit.
use Rattle.std.specs.Prelude.{ℕ, zero, suc, ◌+◌, ◌-◌, ◌*◌, ◌/◌, ◌%◌, ◌^◌, min, List, [], ◌∷◌, ◌++◌, map}
use Rattle.std.specs.List.{flat_map}
use Rattle.pwg_definitions.specs.declared.pages.Kind.{Kind}
use Rattle.pwg_definitions.specs.declared.pages.PageForm.{PageForm}
use Rattle.pwg_definitions.specs.Header.{header_bytes, line_bytes, line_units, row_of}
use Rattle.pwg_definitions.specs.Groups.{copies}
use Rattle.pwg_definitions.specs.Spelling.{LineGroup, groups_bytes, groups_lines}
use Rattle.pwg_definitions.specs.Stream.{Page, sync_word}
use Rattle.pwg_lines.specs.Canonical.{canonical}

-- ---- draws

-- the state after a draw: a linear congruential generator of 32 bits
unfoldable pub next_state : ℕ → ℕ
next_state state = (1664525 * state + 1013904223) % 2 ^ 32

-- the byte of a draw: the highest of the state after it
unfoldable pub draw : ℕ → ℕ
draw state = next_state state / 2 ^ 24

-- the bytes of n draws
unfoldable pub drawn : ℕ → ℕ → List ℕ
drawn zero state = []
drawn (suc n) state = draw state ∷ drawn n (next_state state)

-- the state after n draws
unfoldable pub state_after : ℕ → ℕ → ℕ
state_after zero state = state
state_after (suc n) state = state_after n (next_state state)

-- ---- lines

-- how often a unit stands where the line has `left` units left: a draw says 1 to 8 times
unfoldable pub run_length : ℕ → ℕ → ℕ
run_length left state = min (1 + draw state % 8) left

-- A line that is made, and the state after it.
pub record MadeLine : Type 0 where
  pub bytes : List ℕ
  pub state : ℕ

-- The last `left` units of a line, in at most `most` runs of one drawn unit each: each has a unit or more.
unfoldable pub made_line : ℕ → ℕ → ℕ → ℕ → MadeLine
made_line unit most zero state = record { bytes = []; state = state }
made_line unit zero (suc left) state = record { bytes = []; state = state }
made_line unit (suc most) (suc left) state =
    let times = run_length (suc left) state in
    let first = next_state state in
    let rest = made_line unit most (suc left - times) (state_after unit first) in
    record { bytes = copies times (drawn unit first) ++ rest.bytes; state = rest.state }

-- ---- pages

-- how often a line stands where the page has `left` lines left: a draw says 1 to 4 times
unfoldable pub line_repeats : ℕ → ℕ → ℕ
line_repeats left state = min (1 + draw state % 4) left

-- Groups that are made, and the state after them.
pub record MadeGroups : Type 0 where
  pub groups : List LineGroup
  pub state : ℕ

-- the group of a line and its repeats, in the canonical spelling
abbrev pub group_of : ℕ → ℕ → List ℕ → LineGroup
group_of unit repeats line = record { bytes = canonical unit repeats line; repeats = repeats; line = line }

-- The last `left` lines of a page, in at most `most` groups: each has a line or more.
unfoldable pub made_groups : ℕ → ℕ → ℕ → ℕ → ℕ → MadeGroups
made_groups unit units most zero state = record { groups = []; state = state }
made_groups unit units zero (suc left) state = record { groups = []; state = state }
made_groups unit units (suc most) (suc left) state =
    let repeats = line_repeats (suc left) state in
    let line = made_line unit units units (next_state state) in
    let rest = made_groups unit units most (suc left - repeats) line.state in
    record { groups = group_of unit repeats line.bytes ∷ rest.groups; state = rest.state }

-- the last `left` lines of a page of this form
abbrev pub last_groups : PageForm → ℕ → ℕ → MadeGroups
last_groups form left state = let row = row_of form.kind in made_groups row.unit (line_units row form.width) left left state

-- the groups of each of some pages; the state goes on from page to page
unfoldable pub groups_of_pages : PageForm → ℕ → ℕ → List (List LineGroup)
groups_of_pages form zero state = []
groups_of_pages form (suc pages) state =
    let page = last_groups form form.height state in page.groups ∷ groups_of_pages form pages page.state

-- ---- streams

-- the form of a page of this size: its lines are as long as its width takes
abbrev pub made_form : ℕ → ℕ → Kind → PageForm
made_form width height kind = record {
  width = width;
  height = height;
  kind = kind;
  bytes_per_line = line_bytes width (row_of kind).bits_per_pixel;
}

-- the page of these groups
abbrev pub made_page : PageForm → List LineGroup → Page
made_page form groups = record { form = form; lines = groups_lines groups }

-- the pages that are made from a seed
unfoldable pub made_pages : ℕ → ℕ → PageForm → List Page
made_pages seed pages form = map (made_page form) (groups_of_pages form pages seed)

-- the bytes of pages with this header
abbrev pub pages_bytes : List ℕ → List (List LineGroup) → List ℕ
pages_bytes header pages = flat_map (λ groups. header ++ groups_bytes groups) pages

-- the stream of these pages, at a resolution in dots an inch
unfoldable pub made_stream : ℕ → ℕ → PageForm → ℕ → ℕ → List ℕ
made_stream seed pages form hdpi vdpi =
    sync_word ++ pages_bytes (header_bytes form hdpi vdpi) (groups_of_pages form pages seed)
