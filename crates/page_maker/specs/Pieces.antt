-- The bytes of a made stream that are still to come.
use Rattle.std.specs.Prelude.{ℕ, ◌+◌, ◌*◌, max, List, ◌++◌}
use Rattle.pwg_definitions.specs.declared.pages.PageForm.{PageForm}
use Rattle.pwg_definitions.specs.Header.{header_bytes}
use Rattle.pwg_definitions.specs.Limits.{header_length}
use Rattle.pwg_definitions.specs.Spelling.{groups_bytes}
use Rattle.page_maker.specs.Made.{groups_of_pages, last_groups, pages_bytes}
use Rattle.page_maker.specs.declared.pieces.Pieces.{Pieces}

-- the last `lines` lines of a page, and then `pages` pages
unfoldable pub to_come : PageForm → ℕ → ℕ → ℕ → ℕ → ℕ → List ℕ
to_come form hdpi vdpi pages lines state =
    let page = last_groups form lines state in
    groups_bytes page.groups ++ pages_bytes (header_bytes form hdpi vdpi) (groups_of_pages form pages page.state)

-- the form of the pages
abbrev pub pieces_form : Pieces → PageForm
pieces_form pieces = pieces.form

-- the bytes that the pieces to come have
abbrev pub left_of : Pieces → List ℕ
left_of pieces = to_come pieces.form pieces.hdpi pieces.vdpi pieces.pages pieces.lines pieces.draws.state

-- how many pieces may come: a header and at most a group for each line of each page, and the lines of the page in hand
abbrev pub most_left : Pieces → ℕ
most_left pieces = pieces.pages * (pieces.form.height + 1) + pieces.lines

-- the most bytes of a piece: those of a header, or of a group, whose packets take two bytes for each byte at most
abbrev pub most_bytes : PageForm → ℕ
most_bytes form = max header_length (1 + 2 * form.bytes_per_line)
