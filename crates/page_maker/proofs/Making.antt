-- Lines, groups and pages that are made, step by step.
use Rattle.std.proofs.Common.{◌≡◌, ℕ, zero, suc, ◌+◌, ◌-◌, ◌*◌, ◌/◌, ◌%◌, ◌<◌, ◌≤◌, min, List, [], ◌∷◌, ◌++◌, length, refl, sym, ◌∙◌}
use Rattle.std.proofs.Common.{ap, arith, append_assoc, length-append, Result, Ok, Err, OnOk}
use Rattle.pwg_definitions.specs.declared.pages.PageForm.{PageForm}
use Rattle.pwg_definitions.specs.Header.{KindRow, header_bytes, line_bytes, line_units, row_of}
use Rattle.pwg_definitions.specs.Groups.{copies}
use Rattle.pwg_definitions.specs.Spelling.{groups_bytes}
use Rattle.pwg_definitions.specs.Stream.{sync_word}
use Rattle.pwg_laws.proofs.Packets.{length-copies}
use Rattle.pwg_lines.specs.Canonical.{canonical}
use Rattle.page_maker.specs.Made.{MadeGroups, MadeLine, draw, drawn, group_of, groups_of_pages, last_groups, line_repeats, made_groups}
use Rattle.page_maker.specs.Made.{made_line, made_stream, next_state, pages_bytes, run_length, state_after}
use Rattle.page_maker.specs.Pieces.{to_come}
use Rattle.page_maker.proofs.Drawing.{length-drawn}

-- ---- lines

-- A run is one unit or more, and no more than are left.
pub record IsRun (left times : ℕ) : Type 0 where
  pub some : 1 ≤ times
  pub within : times ≤ left

pub run_length-is : (left state : ℕ) → 1 ≤ left → IsRun left (run_length left state)
unfolding run_length
run_length-is left state some = record { some = omega arith; within = omega arith }

-- the line that is made is the same in any number of runs that is enough
made_line-enough : (unit most most' left state : ℕ) → left ≤ most → left ≤ most'
    → made_line unit most left state ≡ made_line unit most' left state
unfolding made_line
made_line-enough unit most most' zero state enough enough' = refl
made_line-enough unit zero most' (suc left) state enough enough' = absurd (omega arith)
made_line-enough unit (suc most) zero (suc left) state enough enough' = absurd (omega arith)
made_line-enough unit (suc most) (suc most') (suc left) state enough enough' =
    let times : ℕ = run_length (suc left) state in
    let is : IsRun (suc left) times = run_length-is (suc left) state (omega arith) in
    let first : ℕ = next_state state in
    ap (λ (rest : MadeLine). let made : MadeLine = record { bytes = copies times (drawn unit first) ++ rest.bytes; state = rest.state } in made)
    (made_line-enough unit most most' (suc left - times) (state_after unit first) (omega (arith, is.some)) (omega (arith, is.some)))

-- the line with a run before it
abbrev pub behind_run : ℕ → ℕ → ℕ → MadeLine → MadeLine
behind_run unit times first rest = record { bytes = copies times (drawn unit first) ++ rest.bytes; state = rest.state }

-- a line is a run and then a line of the units that are left
pub made_line-run : (unit left state : ℕ) → 1 ≤ left → made_line unit left left state
    ≡ behind_run unit (run_length left state) (next_state state)
    (made_line unit (left - run_length left state) (left - run_length left state) (state_after unit (next_state state)))
unfolding made_line
made_line-run unit zero state some = absurd (omega arith)
made_line-run unit (suc left) state some =
    let times : ℕ = run_length (suc left) state in
    let is : IsRun (suc left) times = run_length-is (suc left) state (omega arith) in
    ap (behind_run unit times (next_state state))
    (made_line-enough unit left (suc left - times) (suc left - times) (state_after unit (next_state state)) (omega (arith, is.some))
    (omega arith))

pub made_line-none : (unit state : ℕ) → made_line unit 0 0 state ≡ record { bytes = []; state = state }
unfolding made_line
made_line-none unit state = refl

pub run_and_rest : (times left unit : ℕ) → times ≤ left → times * unit + (left - times) * unit ≡ left * unit
run_and_rest times left unit within = grind arith

pub length-made_line : (unit most left state : ℕ) → left ≤ most → length (made_line unit most left state).bytes ≡ left * unit
unfolding made_line
length-made_line unit most zero state enough = omega arith
length-made_line unit zero (suc left) state enough = absurd (omega arith)
length-made_line unit (suc most) (suc left) state enough =
    let times : ℕ = run_length (suc left) state in
    let is : IsRun (suc left) times = run_length-is (suc left) state (omega arith) in
    let first : ℕ = next_state state in
    let rest : MadeLine = made_line unit most (suc left - times) (state_after unit first) in
    length-append (copies times (drawn unit first)) rest.bytes
    ∙ ap (λ n. n + length rest.bytes) (length-copies times (drawn unit first) ∙ ap (λ n. times * n) (length-drawn unit first))
    ∙ ap (λ n. times * unit + n) (length-made_line unit most (suc left - times) (state_after unit first) (omega (arith, is.some)))
    ∙ run_and_rest times (suc left) unit is.within

-- ---- groups

-- A line stands once or more, four times at most, and no more often than the page has lines left.
pub record IsRepeats (left repeats : ℕ) : Type 0 where
  pub some : 1 ≤ repeats
  pub few : repeats ≤ 4
  pub within : repeats ≤ left

pub line_repeats-is : (left state : ℕ) → 1 ≤ left → IsRepeats left (line_repeats left state)
unfolding line_repeats
line_repeats-is left state some = record { some = omega arith; few = omega arith; within = omega arith }

-- the groups with one before them
abbrev pub behind_group : ℕ → ℕ → List ℕ → MadeGroups → MadeGroups
behind_group unit repeats line rest = record { groups = group_of unit repeats line ∷ rest.groups; state = rest.state }

-- the groups that are made are the same in any number that is enough
made_groups-enough : (unit units most most' left state : ℕ) → left ≤ most → left ≤ most'
    → made_groups unit units most left state ≡ made_groups unit units most' left state
unfolding made_groups
made_groups-enough unit units most most' zero state enough enough' = refl
made_groups-enough unit units zero most' (suc left) state enough enough' = absurd (omega arith)
made_groups-enough unit units (suc most) zero (suc left) state enough enough' = absurd (omega arith)
made_groups-enough unit units (suc most) (suc most') (suc left) state enough enough' =
    let repeats : ℕ = line_repeats (suc left) state in
    let is : IsRepeats (suc left) repeats = line_repeats-is (suc left) state (omega arith) in
    let line : MadeLine = made_line unit units units (next_state state) in
    ap (behind_group unit repeats line.bytes)
    (made_groups-enough unit units most most' (suc left - repeats) line.state (omega (arith, is.some)) (omega (arith, is.some)))

-- the lines of a page are a group and then the lines that are left
made_groups-group : (unit units left state : ℕ) → 1 ≤ left → made_groups unit units left left state
    ≡ behind_group unit (line_repeats left state) (made_line unit units units (next_state state)).bytes
    (made_groups unit units (left - line_repeats left state) (left - line_repeats left state)
    (made_line unit units units (next_state state)).state)
unfolding made_groups
made_groups-group unit units zero state some = absurd (omega arith)
made_groups-group unit units (suc left) state some =
    let repeats : ℕ = line_repeats (suc left) state in
    let is : IsRepeats (suc left) repeats = line_repeats-is (suc left) state (omega arith) in
    let line : MadeLine = made_line unit units units (next_state state) in
    ap (behind_group unit repeats line.bytes)
    (made_groups-enough unit units left (suc left - repeats) (suc left - repeats) line.state (omega (arith, is.some)) (omega arith))

-- ---- what is to come

-- a stream is its sync word and its pages
pub to_come-stream : (seed pages : ℕ) (form : PageForm) (hdpi vdpi : ℕ)
    → made_stream seed pages form hdpi vdpi ≡ sync_word ++ to_come form hdpi vdpi pages 0 seed
unfolding made_stream to_come made_groups
to_come-stream seed pages form hdpi vdpi = refl

pub to_come-nothing : (form : PageForm) (hdpi vdpi state : ℕ) → to_come form hdpi vdpi 0 0 state ≡ []
unfolding to_come made_groups groups_of_pages
to_come-nothing form hdpi vdpi state = refl

-- where no piece is to come, no byte is
pub to_come-done : (form : PageForm) (hdpi vdpi pages lines state : ℕ) → pages * (form.height + 1) + lines ≡ 0
    → to_come form hdpi vdpi pages lines state ≡ []
to_come-done form hdpi vdpi zero zero state none = to_come-nothing form hdpi vdpi state
to_come-done form hdpi vdpi zero (suc lines) state none = absurd (omega arith)
to_come-done form hdpi vdpi (suc pages) lines state none = absurd (omega (arith, none))

-- a page begins with its header
pub to_come-page : (form : PageForm) (hdpi vdpi pages state : ℕ) → 1 ≤ pages
    → to_come form hdpi vdpi pages 0 state ≡ header_bytes form hdpi vdpi ++ to_come form hdpi vdpi (pages - 1) form.height state
unfolding to_come made_groups groups_of_pages
to_come-page form hdpi vdpi zero state some = absurd (omega arith)
to_come-page form hdpi vdpi (suc pages) state some =
    let page : MadeGroups = last_groups form form.height state in
    let header : List ℕ = header_bytes form hdpi vdpi in
    append_assoc header (groups_bytes page.groups) (pages_bytes header (groups_of_pages form pages page.state))
    ∙ ap (λ n. header ++ (groups_bytes page.groups ++ pages_bytes header (groups_of_pages form n page.state)))
    (let same : pages ≡ suc pages - 1 = omega arith in same)

-- the lines of a page begin with a group
pub to_come-group : (form : PageForm) (hdpi vdpi pages lines state : ℕ) → 1 ≤ lines
    → (let row = row_of form.kind in
    let units = line_units row form.width in
    let line = made_line row.unit units units (next_state state) in
    to_come form hdpi vdpi pages lines state
    ≡ canonical row.unit (line_repeats lines state) line.bytes
    ++ to_come form hdpi vdpi pages (lines - line_repeats lines state) line.state)
unfolding to_come
to_come-group form hdpi vdpi pages lines state some =
    let row = row_of form.kind in
    let units : ℕ = line_units row form.width in
    let repeats : ℕ = line_repeats lines state in
    let line : MadeLine = made_line row.unit units units (next_state state) in
    let rest : MadeGroups = made_groups row.unit units (lines - repeats) (lines - repeats) line.state in
    let header : List ℕ = header_bytes form hdpi vdpi in
    ap (λ (page : MadeGroups). groups_bytes page.groups ++ pages_bytes header (groups_of_pages form pages page.state))
    (made_groups-group row.unit units lines state some)
    ∙ append_assoc (canonical row.unit repeats line.bytes) (groups_bytes rest.groups)
    (pages_bytes header (groups_of_pages form pages rest.state))

-- ---- pieces that are put

-- a header that is put behind other bytes
pub header_put : (form : PageForm) (hdpi vdpi pages lines state : ℕ) (old new header : List ℕ) → 0 < pages → lines ≡ 0
    → header ≡ header_bytes form hdpi vdpi → new ≡ old ++ header
    → new ++ to_come form hdpi vdpi (pages - 1) form.height state ≡ old ++ to_come form hdpi vdpi pages lines state
header_put form hdpi vdpi pages lines state old new header some none is put =
    let rest : List ℕ = to_come form hdpi vdpi (pages - 1) form.height state in
    ap (λ bytes. bytes ++ rest) put
    ∙ append_assoc old header rest
    ∙ ap (λ bytes. old ++ (bytes ++ rest)) is
    ∙ ap (λ bytes. old ++ bytes) (sym (to_come-page form hdpi vdpi pages state some))
    ∙ ap (λ n. old ++ to_come form hdpi vdpi pages n state) (sym none)

-- what holds where the call succeeds, where its premise does
pub on_ok : {T E P Q : Type 0} (r : Result T E) → (P → Q) → OnOk r P → OnOk r Q
on_ok (Ok x) f p = f p
on_ok (Err e) f p = tt

-- how often the line stands, as the code counts it
pub repeats_drawn : (lines state byte repeats : ℕ) → byte ≡ draw state → repeats ≡ min (1 + byte % 4) lines
    → repeats ≡ line_repeats lines state
unfolding line_repeats
repeats_drawn lines state byte repeats byte_is repeats_is = repeats_is ∙ ap (λ b. min (1 + b % 4) lines) byte_is

-- The line of a group, as the code makes it.
pub record IsGroupLine (form : PageForm) (unit lines state repeats : ℕ) (line : List ℕ) (after : ℕ) : Type 0 where
  pub unit_is : unit ≡ (row_of form.kind).unit
  pub repeats_is : repeats ≡ line_repeats lines state
  pub line_is : line ≡ (made_line unit (line_units (row_of form.kind) form.width) (line_units (row_of form.kind) form.width)
      (next_state state)).bytes
  pub after_is : after ≡ (made_line unit (line_units (row_of form.kind) form.width) (line_units (row_of form.kind) form.width)
      (next_state state)).state

-- a line that is filled anew, of the form's length
pub group_line : (form : PageForm) (unit lines state byte repeats next after : ℕ) (old line : List ℕ) → unit ≡ (row_of form.kind).unit
    → byte ≡ draw state → repeats ≡ min (1 + byte % 4) lines → next ≡ next_state state → length old ≡ form.bytes_per_line
    → form.bytes_per_line ≡ line_bytes form.width (row_of form.kind).bits_per_pixel
    → line ≡ (made_line unit (length old / unit) (length old / unit) next).bytes
    → after ≡ (made_line unit (length old / unit) (length old / unit) next).state
    → IsGroupLine form unit lines state repeats line after
group_line form unit lines state byte repeats next after old line unit_is byte_is repeats_is next_is sized formed line_is after_is =
    let row : KindRow = row_of form.kind in
    let units : length old / unit ≡ line_units row form.width =
    ap (λ n. length old / n) unit_is ∙ ap (λ n. n / row.unit) (sized ∙ formed) in
    let made : made_line unit (length old / unit) (length old / unit) next
    ≡ made_line unit (line_units row form.width) (line_units row form.width) (next_state state) =
    ap (λ n. made_line unit n n next) units ∙ ap (made_line unit (line_units row form.width) (line_units row form.width)) next_is in
    record {
      unit_is = unit_is;
      repeats_is = repeats_drawn lines state byte repeats byte_is repeats_is;
      line_is = line_is ∙ ap (λ (m : MadeLine). m.bytes) made;
      after_is = after_is ∙ ap (λ (m : MadeLine). m.state) made;
    }

-- a group that is put behind other bytes
pub group_put : (form : PageForm) (hdpi vdpi pages lines state unit repeats after : ℕ) (old new line : List ℕ) → 0 < lines
    → IsGroupLine form unit lines state repeats line after → new ≡ old ++ canonical unit repeats line
    → new ++ to_come form hdpi vdpi pages (lines - repeats) after ≡ old ++ to_come form hdpi vdpi pages lines state
group_put form hdpi vdpi pages lines state unit repeats after old new line some is put =
    let row : KindRow = row_of form.kind in
    let units : ℕ = line_units row form.width in
    let made : ℕ → MadeLine = λ u. made_line u units units (next_state state) in
    let rest : List ℕ = to_come form hdpi vdpi pages (lines - repeats) after in
    ap (λ bytes. bytes ++ rest) put
    ∙ append_assoc old (canonical unit repeats line) rest
    ∙ ap (λ bytes. old ++ (canonical unit repeats bytes ++ rest)) is.line_is
    ∙ ap (λ s. old ++ (canonical unit repeats (made unit).bytes ++ to_come form hdpi vdpi pages (lines - repeats) s)) is.after_is
    ∙ ap (λ u. old ++ (canonical u repeats (made u).bytes ++ to_come form hdpi vdpi pages (lines - repeats) (made u).state)) is.unit_is
    ∙ ap (λ n. old ++ (canonical row.unit n (made row.unit).bytes ++ to_come form hdpi vdpi pages (lines - n) (made row.unit).state))
    is.repeats_is
    ∙ ap (λ bytes. old ++ bytes) (sym (to_come-group form hdpi vdpi pages lines state some))
