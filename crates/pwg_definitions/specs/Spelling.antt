-- What spells a page and a stream (PWG 5102.4, section 4): an accepted header and groups of equal lines, and the sync
-- word and pages.
use Rattle.std.specs.Prelude.{◌≡◌, ℕ, ◌-◌, ◌≤◌, List, [], ◌∷◌, ◌++◌, length, replicate, Ok}
use Rattle.std.specs.List.{flat_map}
use Rattle.pwg_definitions.specs.declared.pages.Wanted.{Wanted}
use Rattle.pwg_definitions.specs.Limits.{header_length, most_pages}
use Rattle.pwg_definitions.specs.Header.{KindRow, check, header_of, line_units, row_of}
use Rattle.pwg_definitions.specs.Groups.{SpellsGroup}
use Rattle.pwg_definitions.specs.Stream.{Page, sync_word}

-- A group of equal lines: its bytes, its repeats, and its line.
pub record LineGroup : Type 0 where
  pub bytes : List ℕ
  pub repeats : ℕ
  pub line : List ℕ

-- the groups are the last `left` lines of a page whose lines have `units` units
abbrev pub SpellsLines : KindRow → ℕ → ℕ → List LineGroup → Type 0
SpellsLines row units left [] = left ≡ 0
SpellsLines row units left (g ∷ groups) =
    SpellsGroup row units left g.bytes g.repeats g.line × SpellsLines row units (left - g.repeats) groups

-- the bytes of groups one after another
abbrev pub groups_bytes : List LineGroup → List ℕ
groups_bytes groups = flat_map (λ (g : LineGroup). g.bytes) groups

-- the lines of groups one after another
abbrev pub groups_lines : List LineGroup → List (List ℕ)
groups_lines groups = flat_map (λ (g : LineGroup). replicate g.repeats g.line) groups

-- The bytes spell the page: a header that is accepted with the page's form, and groups that are its lines.
pub record SpellsPage (want : Wanted) (bytes : List ℕ) (page : Page) : Type 0 where
  pub header : List ℕ
  pub long : length header ≡ header_length
  pub accepted : check want (header_of header) ≡ Ok page.form
  pub groups : List LineGroup
  pub spelling : bytes ≡ header ++ groups_bytes groups
  pub full : let row = row_of page.form.kind in SpellsLines row (line_units row page.form.width) page.form.height groups
  pub gives : page.lines ≡ groups_lines groups

-- the bytes spell the pages one after another
abbrev pub SpellsPages : Wanted → List ℕ → List Page → Type 0
SpellsPages want bytes [] = bytes ≡ []
SpellsPages want bytes (page ∷ pages) =
    (front : List ℕ) × (rest : List ℕ) × (bytes ≡ front ++ rest) × SpellsPage want front page × SpellsPages want rest pages

-- The bytes spell a stream of these pages.
pub record SpellsStream (want : Wanted) (bytes : List ℕ) (pages : List Page) : Type 0 where
  pub behind : List ℕ
  pub spelling : bytes ≡ sync_word ++ behind
  pub most : length pages ≤ most_pages
  pub spelled : SpellsPages want behind pages
